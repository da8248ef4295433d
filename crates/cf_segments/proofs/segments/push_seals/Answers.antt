use Rattle.std.proofs.Common.{◌≡◌, suc, ◌∷◌, ◌++◌, [], List, length, map, All, ap, sym, subst, ◌∙◌, arith, append_assoc}
use Rattle.std.proofs.lemmas.List.{length_push}
use Rattle.std.specs.Vec.Iter.{into_iter_items}
use Rattle.cf_table.specs.Moves.{SealValue}
use Rattle.cf_segments.specs.Segments.{IsSegment, sealed}
use Rattle.cf_segments.specs.declared.segments.Segment.{Segment}
use Rattle.cf_segments.proofs.segments.push_seals.Goals as goal

pub loop-segment-preserved : goal.loop-segment-preserved
loop-segment-preserved c =
    let v = c.loop-segment.invariant in
    let g = c.in-Some.segment in
    let rest : List Segment = into_iter_items c.next.new.self in
    let split : into_iter_items c.loop-segment.segment-iterator ≡ g ∷ rest = c.in-Some.ensures.steps.0 in
    let all : All (IsSegment v.each.0) (g ∷ rest) = subst (All (IsSegment v.each.0)) split v.each.1 in
    let long = ap (λ (gs : List Segment). length gs) split in
    let one : c.push_reserved.new.self.items ≡ c.loop-segment.seals.items ++ sealed g ∷ [] = c.push_reserved.ensures.items
    ∙ ap (λ (x : SealValue). c.loop-segment.seals.items ++ x ∷ []) c.seal.ensures in
    let count = ap (λ (xs : List SealValue). length xs) one in
    let more = length_push c.loop-segment.seals.items (sealed g) in
    let room = v.room in
    let same = c.push_reserved.ensures.capacity in record {
      each = (v.each.0, λ k d lt. all (suc k) d (omega (arith, lt)));
      room = omega (arith, room, long, count, more, same);
      capacity = same ∙ v.capacity;
      len = (let step = c.in-Some.ensures.steps.1 in let len = v.len in omega (arith, step, len, long));
      seals = ap (λ (xs : List SealValue). xs ++ map sealed rest) one
          ∙ (append_assoc c.loop-segment.seals.items (sealed g ∷ []) (map sealed rest)
          ∙ (ap (λ (gs : List Segment). c.loop-segment.seals.items ++ map sealed gs) (sym split) ∙ v.seals));
    }
