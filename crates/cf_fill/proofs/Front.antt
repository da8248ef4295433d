-- Of all rows the first were taken, one more than there is room for at most.
use Rattle.std.proofs.Common.{◌≡◌, ◌+◌, ◌++◌, ◌∙◌, List, All, length, take, drop, min, inl, inr, ap, subst, arith}
use Rattle.std.proofs.lemmas.List.{length-take, take_all, take-append-drop}
use Rattle.cf_row.specs.Row.{RowValue, Fits}
use Rattle.cf_segments.specs.Segments.{room_of}
use Rattle.cf_load.proofs.Loaders.{lacks_more}
use Rattle.cf_load.specs.Loads.{LacksNodes}
use Rattle.cf_fill.specs.Filling.{AwaitsBatch, FillingValue, IsFilled}

-- then all are counted as far as they are
pub filled_all : (f : FillingValue) (all first : List RowValue) → All (Fits (f.segments.shape).schema) all → first ≡ take (room_of f.segments + 1) all
    → IsFilled f first → IsFilled f all
filled_all f all first fit first_are is =
    let size : length first ≡ min (room_of f.segments + 1) (length all) = ap (λ (rs : List RowValue). length rs) first_are
    ∙ length-take (room_of f.segments + 1) all in
    let counted = is.count_is in
    let whole : first ++ drop (room_of f.segments + 1) all ≡ all = ap (λ (rs : List RowValue). rs ++ drop (room_of f.segments + 1) all) first_are
    ∙ take-append-drop (room_of f.segments + 1) all in
    record {
      allowed = is.allowed;
      count_is = omega (arith, counted, size);
      fit = fit;
      going = λ going few.
          (let same : first ≡ all = first_are ∙ take_all (room_of f.segments + 1) all (omega (arith, few)) in
          subst (λ (rs : List RowValue). AwaitsBatch f.segments rs f.waiting f.loader) same (is.going going (omega (arith, size, few))));
      lacking = λ stopped.
          (let lacks = is.lacking stopped in (
            lacks.0,
            subst (λ (rs : List RowValue). LacksNodes f.segments rs lacks.0) whole
                (lacks_more f.segments first (drop (room_of f.segments + 1) all) lacks.0 lacks.1),
          ));
      idle = λ why. is.idle (elim why [ inl stopped ↦ inl stopped | inr many ↦ inr (omega (arith, many, size)) ]);
    }
