-- Rows come into one segment.
use Rattle.std.proofs.Common.{◌≡◌, ◌∙◌, ℕ, ◌+◌, ◌*◌, ◌<◌, ◌≤◌, Bool, nat_lt, cond, List, [], ◌++◌, length, length-append, All, Option, Some, None, refl, sym, ap, subst, arith, one-mul}
use Rattle.std.proofs.lemmas.Bool.{lt-ltb}
use Rattle.std.proofs.lemmas.List.Elements.{All-append, All-nil}
use Rattle.cf_row.specs.Row.{Fits, RowValue}
use Rattle.cf_shape.specs.Lanes.{ShapeValue}
use Rattle.cf_segments.specs.Segments.{AllowsSegments, room_of}
use Rattle.cf_load.specs.Planned.{IsPlan}
use Rattle.cf_load.specs.declared.plan.LivePlan.{LivePlan}
use Rattle.cf_fill.specs.Filling.{FillingValue}
use Rattle.cf_fill.proofs.Filled.{waits_short}
use Rattle.cf_long.specs.Growing.{GrowingValue, HasTaken, IsFilledAlone, IsFilledIf, IsSmaller, count_in, count_of_log, waiting_in, waiting_of_log}
use Rattle.cf_long.specs.Longs.{HoldsFew}

-- a log of one segment has room for its rows
pub room_alone : (shape : ShapeValue) (plan : LivePlan) (filling : FillingValue) (rows : List RowValue) → IsFilledAlone shape plan filling rows
    → room_of filling.segments ≡ shape.capacity
room_alone shape plan filling rows is =
    ap (λ (n : ℕ). n * filling.segments.shape.capacity) is.one
    ∙ (one-mul filling.segments.shape.capacity ∙ ap (λ (h : ShapeValue). h.capacity) is.shape_is)

-- and counts them
pub count_alone : (shape : ShapeValue) (plan : LivePlan) (filling : FillingValue) (rows : List RowValue) → IsFilledAlone shape plan filling rows
    → length rows ≤ shape.capacity → filling.count ≡ length rows
count_alone shape plan filling rows is low =
    let counted = is.filled.count_is in let room = room_alone shape plan filling rows is in omega (arith, counted, room, low)

log_count : (shape : ShapeValue) (plan : LivePlan) (log : Option FillingValue) (rows : List RowValue) → length rows ≤ shape.capacity
    → IsFilledIf shape plan log rows → count_of_log log ≡ length rows
log_count shape plan None rows low is = ap (λ (rs : List RowValue). length rs) (sym is)
log_count shape plan (Some filling) rows low is = count_alone shape plan filling rows is low

pub taken_count : (plan : LivePlan) (segment : GrowingValue) (rows : List RowValue) → HasTaken plan segment rows → count_in segment ≡ length rows
taken_count plan segment rows is =
    let same : segment.small.capacity ≡ segment.shape.capacity = ap (λ (h : ShapeValue). h.capacity) is.smaller.same in
    let low = is.within in
    log_count segment.small plan segment.filling rows (omega (arith, same, low)) is.filled

-- a segment that is not opened yet has no row
pub none_taken : (plan : LivePlan) (small shape : ShapeValue) → IsSmaller shape small → AllowsSegments shape 1 → IsPlan shape plan
    → HasTaken plan (record { small = small; shape = shape; filling = None; kept = [] }) []
none_taken plan small shape smaller allowed lawful = record {
  smaller = smaller;
  allowed = allowed;
  plan_is = lawful;
  filled = refl;
  kept = λ few. refl;
  within = omega arith;
  fit = All-nil (Fits shape.schema);
}

log_waits : (shape : ShapeValue) (plan : LivePlan) (log : Option FillingValue) (rows : List RowValue) → IsFilledIf shape plan log rows
    → length (waiting_of_log log) < 4096
log_waits shape plan None rows is = omega arith
log_waits shape plan (Some filling) rows is = waits_short filling rows is.filled

-- fewer rows wait than a batch has
pub waits_few : (plan : LivePlan) (segment : GrowingValue) (rows : List RowValue) → HasTaken plan segment rows → length (waiting_in segment) < 4096
waits_few plan segment rows is = log_waits segment.small plan segment.filling rows is.filled

-- so there are few beside its records
pub holds_few : (plan : LivePlan) (segment : GrowingValue) (rows : List RowValue) → HasTaken plan segment rows → HoldsFew segment
holds_few plan segment rows is = record {
  records = (let count = taken_count plan segment rows is in let low = is.within in omega (arith, count, low));
  waiting = waits_few plan segment rows is;
}

-- none at all where it is not opened
pub none_held : (segment : GrowingValue) → segment.filling ≡ None → HoldsFew segment
none_held segment none = record {
  records = subst (λ (log : Option FillingValue). count_of_log log ≤ segment.shape.capacity) (sym none) (omega arith);
  waiting = subst (λ (log : Option FillingValue). length (waiting_of_log log) < 4096) (sym none) (omega arith);
}

-- more rows came, which are kept if the segment has fewer nodes than it may have
pub taken_more : (plan : LivePlan) (old : GrowingValue) (filling : FillingValue) (kept before more : List RowValue) → HasTaken plan old before
    → IsFilledAlone old.small plan filling (before ++ more) → kept ≡ cond (nat_lt old.small.nodes old.shape.nodes) (old.kept ++ more) old.kept
    → count_in old + length more ≤ old.shape.capacity → All (Fits old.shape.schema) more
    → HasTaken plan (record { small = old.small; shape = old.shape; filling = Some filling; kept = kept }) (before ++ more)
taken_more plan old filling kept before more is alone keeps room fit =
    let count = taken_count plan old before is in
    let sum = length-append before more in
    record {
      smaller = is.smaller;
      allowed = is.allowed;
      plan_is = is.plan_is;
      filled = alone;
      kept = λ few. keeps
          ∙ (ap (λ (b : Bool). cond b (old.kept ++ more) old.kept) (lt-ltb old.small.nodes old.shape.nodes few)
          ∙ ap (λ (rs : List RowValue). rs ++ more) (is.kept few));
      within = omega (arith, count, sum, room);
      fit = All-append (Fits old.shape.schema) before more is.fit fit;
    }
