use Rattle.std.proofs.Common.{arith, [], ◌≡◌, ℕ, ◌<◌, ◌≤◌, List, length, flat_map, take, get_or, ap, ◌∙◌, sym}
use Rattle.std.proofs.lemmas.List.{length-map, get_or-map, take_all}
use Rattle.std.proofs.lemmas.List.Sums.{sum_by_more, sum_by_more_le}
use Rattle.cf_fold.specs.Quads.{QuadValue, quad_of}
use Rattle.cf_scan.proofs.Amounts.{lists_more}
use Rattle.cf_scan.proofs.total.merged.Goals as goal

pub loop-part-preserved : goal.loop-part-preserved
loop-part-preserved c =
    let i = c.loop-part.part-index in
    record {
      is = λ lists e.
          let many : length c.args.parts.now ≡ length lists = ap length e ∙ length-map lists quad_of in
          let lt : i < length lists = omega (arith, many, c.loop-part-test.true) in
          let item : c.part-item.result ≡ quad_of (get_or lists i []) = c.part-item.is ∙ ap (λ (ps : List QuadValue). get_or ps i c.part-item.result) e
          ∙ get_or-map quad_of lists i [] c.part-item.result lt in
          c.merge-total.ensures.merged (flat_map (λ (ns : List ℕ). ns) (take i lists)) (get_or lists i []) (c.loop-part.invariant.is lists e) item
          ∙ ap quad_of (sym (lists_more lists i lt));
      count =
          let more = sum_by_more (λ (part : QuadValue). part.count) c.args.parts.now i c.part-item.result c.loop-part-test.true in
          let item = ap (λ (part : QuadValue). part.count) c.part-item.is in
          omega (arith, more, item, c.merge-total.ensures.count, c.loop-part.invariant.count);
    }

pub returns : goal.returns
returns c = λ lists e.
    let many : length c.args.parts.now ≡ length lists = ap length e ∙ length-map lists quad_of in
    let past : length lists ≤ c.loop-part.part-index = omega (arith, many, c.loop-part-test.false) in
    c.loop-part.invariant.is lists e ∙ ap (λ (ls : List (List ℕ)). quad_of (flat_map (λ (ns : List ℕ). ns) ls)) (take_all c.loop-part.part-index lists past)

pub merge-total-requires : goal.merge-total-requires
merge-total-requires c =
    let count = λ (part : QuadValue). part.count in
    let most = sum_by_more_le count c.args.parts.now c.loop-part.part-index c.part-item.result c.loop-part-test.true in
    let item = ap count c.part-item.is in
    record { few = omega (arith, most, item, c.loop-part.invariant.count, c.requires.few) }
