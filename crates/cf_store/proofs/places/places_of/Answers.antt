use Rattle.std.proofs.Common.{◌≡◌, ◌∙◌, ◌++◌, ◌∷◌, [], List, length, map, ap, sym, arith, append_assoc, append-nil}
use Rattle.std.proofs.lemmas.List.{nil_from_length}
use Rattle.std.specs.Vec.Iter.{into_iter_items}
use Rattle.cf_table.specs.Values.{PassValue}
use Rattle.cf_store.specs.Homes.{PlaceValue, at_home}
use Rattle.cf_store.proofs.places.places_of.Goals as goal

pub loop-pass-preserved : goal.loop-pass-preserved
loop-pass-preserved c =
    let v = c.loop-pass.invariant in
    let h = c.in-Some.pass in
    let rest : List PassValue = into_iter_items c.next.new.self in
    let split : into_iter_items c.loop-pass.pass-iterator ≡ h ∷ rest = c.in-Some.ensures.steps.0 in
    let long = ap (λ (xs : List PassValue). length xs) split in record {
      made = ap (λ (ps : List PlaceValue). ps ++ map at_home rest) (c.in_ok-push.ensures.items
          ∙ ap (λ (p : PlaceValue). c.loop-pass.places.items ++ p ∷ []) c.of.ensures)
          ∙ (append_assoc c.loop-pass.places.items (at_home h ∷ []) (map at_home rest)
          ∙ (ap (λ (hs : List PassValue). c.loop-pass.places.items ++ map at_home hs) (sym split) ∙ v.made));
      len = (let step = c.in-Some.ensures.steps.1 in let len = v.len in omega (arith, step, len, long));
    }

pub returns : goal.returns
returns c =
    let it : List PassValue = into_iter_items c.loop-pass.pass-iterator in
    let v = c.loop-pass.invariant in
    let len = v.len in
    let none = c.in-None.ensures.steps.0 in
    let empty : it ≡ [] = nil_from_length it (omega (arith, none, len)) in
    sym (append-nil c.loop-pass.places.items) ∙ (ap (λ (hs : List PassValue). c.loop-pass.places.items ++ map at_home hs) (sym empty) ∙ v.made)
