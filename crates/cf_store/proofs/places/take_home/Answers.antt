use Rattle.std.proofs.Common.{◌≡◌, ◌∙◌, ◌∷◌, ◌++◌, [], suc, List, Option, Some, length, map, All, ap, sym, subst, arith, rules, append_assoc, append-nil}
use Rattle.std.proofs.lemmas.List.{length_push, map_push, nil_from_length}
use Rattle.std.specs.Vec.Iter.{into_iter_items}
use Rattle.cf_table.specs.Values.{PassValue}
use Rattle.cf_store.specs.Homes.{IsHome, PlaceValue, home_at, some_pass}
use Rattle.cf_store.proofs.places.take_home.Goals as goal

pub into_pass-requires : goal.into_pass-requires
into_pass-requires c =
    let v = c.loop-place.invariant in
    let rest : List PlaceValue = into_iter_items c.next.new.self in
    let split : into_iter_items c.loop-place.place-iterator ≡ c.in-Some.place ∷ rest = c.in-Some.ensures.steps.0 in
    (subst (All IsHome) split v.home) 0 c.in-Some.place (omega arith)

pub push_reserved-requires : goal.push_reserved-requires
push_reserved-requires c =
    let v = c.loop-place.invariant in
    let rest : List PlaceValue = into_iter_items c.next.new.self in
    let split : into_iter_items c.loop-place.place-iterator ≡ c.in-Some.place ∷ rest = c.in-Some.ensures.steps.0 in
    let long = ap (λ (ps : List PlaceValue). length ps) split in
    let room = v.room in
    let len : c.loop-place.passes.len ≡ length c.loop-place.passes.items = search rules in
    omega (arith, room, long, len)

pub loop-place-preserved : goal.loop-place-preserved
loop-place-preserved c =
    let v = c.loop-place.invariant in
    let p = c.in-Some.place in
    let rest : List PlaceValue = into_iter_items c.next.new.self in
    let split : into_iter_items c.loop-place.place-iterator ≡ p ∷ rest = c.in-Some.ensures.steps.0 in
    let all : All IsHome (p ∷ rest) = subst (All IsHome) split v.home in
    let long = ap (λ (ps : List PlaceValue). length ps) split in
    let pass = c.into_pass.result in
    let one : c.push_reserved.new.self.items ≡ c.loop-place.passes.items ++ pass ∷ [] = c.push_reserved.ensures.items in
    let count = ap (λ (xs : List PassValue). length xs) one in
    let more = length_push c.loop-place.passes.items pass in
    let room = v.room in
    let same = c.push_reserved.ensures.capacity in record {
      home = λ k d lt. all (suc k) d (omega (arith, lt));
      room = omega (arith, room, long, count, more, same);
      len = (let step = c.in-Some.ensures.steps.1 in let len = v.len in omega (arith, step, len, long));
      taken = ap (λ (xs : List PassValue). map some_pass xs ++ map home_at rest) one
          ∙ (ap (λ (os : List (Option PassValue)). os ++ map home_at rest) (map_push some_pass c.loop-place.passes.items pass)
          ∙ (append_assoc (map some_pass c.loop-place.passes.items) (Some pass ∷ []) (map home_at rest)
          ∙ (ap (λ (o : Option PassValue). map some_pass c.loop-place.passes.items ++ o ∷ map home_at rest) (sym c.into_pass.ensures)
          ∙ (ap (λ (ps : List PlaceValue). map some_pass c.loop-place.passes.items ++ map home_at ps) (sym split) ∙ v.taken))));
    }

pub returns : goal.returns
returns c =
    let it : List PlaceValue = into_iter_items c.loop-place.place-iterator in
    let v = c.loop-place.invariant in
    let len = v.len in
    let none = c.in-None.ensures.steps.0 in
    let empty : it ≡ [] = nil_from_length it (omega (arith, none, len)) in
    sym v.taken ∙ (ap (λ (ps : List PlaceValue). map some_pass c.loop-place.passes.items ++ map home_at ps) empty
    ∙ append-nil (map some_pass c.loop-place.passes.items))
