use Rattle.std.proofs.Common.{◌≡◌, ℕ, List, map, flat_map, take}
use Rattle.std.specs.List.{sum_by}
use Rattle.cf_fold.specs.Quads.{QuadValue, quad_of}
use Rattle.cf_scan.proofs.total.merged.Given as goal

abbrev pub invariant-loop-part : goal.invariant-loop-part
invariant-loop-part l = record {
  is : (lists : List (List ℕ)) → l.parts ≡ map quad_of lists → l.total ≡ quad_of (flat_map (λ (xs : List ℕ). xs) (take l.part-index lists));
  count : (l.total).count ≡ sum_by (λ (part : QuadValue). part.count) (take l.part-index l.parts);
}
