use Rattle.std.proofs.Common.{◌≡◌, ◌∙◌, ◌∷◌, [], ◌++◌, List, All, length, ap₂, rules, subst, sym}
use Rattle.std.proofs.lemmas.List.{map_push}
use Rattle.std.proofs.lemmas.List.Elements.{All-tail}
use Rattle.std.specs.Vec.Iter.{into_iter_items}
use Rattle.cf_plain.specs.declared.finding.Finding.{Finding}
use Rattle.cf_long.specs.ByRow.{IsFoundWithin, by_row}
use Rattle.cf_long.proofs.order.all_by_row.Goals as goal

pub loop-finding-preserved : goal.loop-finding-preserved
loop-finding-preserved c =
    let rest : List Finding = into_iter_items c.next.new.self in
    let split : into_iter_items c.loop-finding.finding-iterator ≡ c.in-Some.finding ∷ rest = c.in-Some.ensures.steps.0 in
    let P : Finding → Type 0 = IsFoundWithin (length c.args.nums.now) in
    let f : Finding → Finding = by_row c.args.first c.args.nums.now in
    let more : c.push.new.self.items ≡ c.loop-finding.told.items ++ c.in_ok-by_row.field-0 ∷ [] = search rules in
    record {
      rest = All-tail P c.in-Some.finding rest (subst (λ (xs : List Finding). All P xs) split c.loop-finding.invariant.rest);
      told = more
          ∙ (ap₂ (λ (xs : List Finding) (x : Finding). xs ++ x ∷ []) c.loop-finding.invariant.told c.in_ok-by_row.ensures
          ∙ sym (map_push f c.loop-finding.yielded c.in-Some.finding));
    }
