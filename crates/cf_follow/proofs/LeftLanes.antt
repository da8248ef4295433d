-- What is kept of the lanes is the same by what is left of records.
use Rattle.std.proofs.Common.{◌≡◌, ◌∙◌, ℕ, ◌+◌, Bool, ◌&&◌, cond, List, [], ◌∷◌, length, map, Option, refl, ap, ap₂}
use Rattle.std.specs.List.{list_any, range_with_len}
use Rattle.std.specs.Option.{unwrap_or}
use mathlib.Core.Path.{fun_ext}
use Rattle.cf_row.specs.Row.{RowValue}
use Rattle.cf_fold.specs.declared.trigger.Trigger.{Trigger}
use Rattle.cf_shape.specs.Lanes.{IsShape, ShapeValue, has_by, key_of, measure_of, selected_by}
use Rattle.cf_shape.specs.declared.lane.Key.{Key}
use Rattle.cf_shape.specs.declared.lane.Key.TheVariants as keys
use Rattle.cf_shape.specs.declared.lane.Lane.{Lane}
use Rattle.cf_plain.specs.Asks.{is_aggregate}
use Rattle.cf_plain.specs.declared.ask.Ask.TheVariants as asks
use Rattle.cf_watch.specs.Kept.{KeptValue, with_one, with_row}
use Rattle.cf_watch.specs.Marks.{forgets_untold}
use Rattle.cf_watch.specs.Pairs.{KeptApartValue, apart_by, with_one_apart, with_row_apart}
use Rattle.cf_watch.specs.PairMarks.{apart_forgets}
use Rattle.cf_watch.specs.Watched.{nothing_watched, watched_forgets, watched_row}
use Rattle.cf_watch.specs.declared.watched.Watched.{Watched}
use Rattle.cf_watch.specs.declared.watched.Watched.TheVariants.{Whole, Apart}
use Rattle.cf_rounds.specs.Lanes.{forgets, keeps, keeps_from, kept_at, kept_with, none_kept}
use Rattle.cf_project.specs.Named.{KeepsShape}
use Rattle.cf_project.specs.Projected.{key_kept, lane_kept, row_kept, shape_kept}
use Rattle.cf_project.proofs.Found.{suits_same}
use Rattle.cf_project.proofs.Meant.{by_same, key_same, measure_same, selects_same}

has_by_same : (marks : List Bool) (key : Key) → has_by (key_kept marks key) ≡ has_by key
has_by_same marks (keys.Attr attr) = refl
has_by_same marks keys.Bucket = refl
has_by_same marks (keys.BucketBy attr) = refl

nothing_same : (marks : List Bool) (lanes : List Lane)
    → map (λ lane. nothing_watched (has_by lane.key)) (map (lane_kept marks) lanes) ≡ map (λ lane. nothing_watched (has_by lane.key)) lanes
nothing_same marks [] = refl
nothing_same marks (lane ∷ lanes) =
    ap₂ (λ (b : Bool) (ws : List Watched). nothing_watched b ∷ ws) (has_by_same marks lane.key) (nothing_same marks lanes)

pub none_same : (marks : List Bool) (shape : ShapeValue) → none_kept (shape_kept marks shape) ≡ none_kept shape
none_same marks shape = nothing_same marks shape.lanes

module _ (marks : List Bool) (shape : ShapeValue) (keeps_it : KeepsShape marks shape) (lawful : IsShape shape) where
  abbrev less : ShapeValue
  less = shape_kept marks shape

  pub aggregate_same : (lane : ℕ) → is_aggregate less lane ≡ is_aggregate shape lane
  aggregate_same lane = suits_same marks shape keeps_it lawful (asks.Measure lane 0 0) refl

  module _ (row : RowValue) where
    abbrev left : RowValue
    left = row_kept marks row

    selected : (lane : ℕ) → selected_by less lane left ≡ selected_by shape lane row
    selected lane = selects_same marks shape keeps_it lawful lane row

    keyed : (lane : ℕ) → key_of less lane left ≡ key_of shape lane row
    keyed lane = key_same marks shape keeps_it lawful lane row

    measured : (lane : ℕ) → measure_of less lane left ≡ measure_of shape lane row
    measured lane = measure_same marks shape keeps_it lawful lane row

    apart : (lane : ℕ) → apart_by less lane left ≡ apart_by shape lane row
    apart lane = ap (λ (b : Option ℕ). unwrap_or b 0) (by_same marks shape keeps_it lawful lane row)

    whole_row : (lane : ℕ) (kept : KeptValue) → with_row less lane kept left ≡ with_row shape lane kept row
    whole_row lane kept =
        ap₂ (λ (b : Bool) (k : KeptValue). cond b k kept) (selected lane) (ap₂ (λ (k n : ℕ). with_one kept k n) (keyed lane) (measured lane))

    apart_row : (lane : ℕ) (kept : KeptApartValue) → with_row_apart less lane kept left ≡ with_row_apart shape lane kept row
    apart_row lane kept =
        ap₂ (λ (b : Bool) (k : KeptApartValue). cond b k kept) (selected lane)
        (ap₂ (λ (k b : ℕ). with_one_apart kept k b (measure_of less lane left)) (keyed lane) (apart lane)
        ∙ ap (λ (n : ℕ). with_one_apart kept (key_of shape lane row) (apart_by shape lane row) n) (measured lane))

    watched_row_same : (lane : ℕ) (kept : Watched) → watched_row less lane kept left ≡ watched_row shape lane kept row
    watched_row_same lane (Whole kept) = ap (λ (k : KeptValue). Whole k) (whole_row lane kept)
    watched_row_same lane (Apart kept) = ap (λ (k : KeptApartValue). Apart k) (apart_row lane kept)

    kept_with_same : (lane : ℕ) (kept : Watched) → kept_with less left lane kept ≡ kept_with shape row lane kept
    kept_with_same lane kept =
        ap₂ (λ (b : Bool) (w : Watched). cond b w kept) (aggregate_same lane) (watched_row_same lane kept)

    from_same : (lane : ℕ) (kept : List Watched) → keeps_from less left lane kept ≡ keeps_from shape row lane kept
    from_same lane [] = refl
    from_same lane (kept ∷ rest) = ap₂ (λ (w : Watched) (ws : List Watched). w ∷ ws) (kept_with_same lane kept) (from_same (lane + 1) rest)

    pub keeps_same : (kept : List Watched) → keeps less kept left ≡ keeps shape kept row
    keeps_same kept = from_same 0 kept

    module _ (triggers : List Trigger) where
      watched_forgets_same : (lane : ℕ) (kept : Watched) → watched_forgets less lane triggers kept left ≡ watched_forgets shape lane triggers kept row
      watched_forgets_same lane (Whole kept) =
          ap₂ (λ (b : Bool) (k : ℕ). b && forgets_untold lane triggers kept.buckets k) (selected lane) (keyed lane)
      watched_forgets_same lane (Apart kept) =
          ap₂ (λ (b c : Bool). b && c) (selected lane)
          (ap₂ (λ (k b : ℕ). apart_forgets lane triggers kept.buckets k b) (keyed lane) (apart lane))

      pub forgets_same : (kept : List Watched) → forgets less triggers kept left ≡ forgets shape triggers kept row
      forgets_same kept =
          ap (λ (f : ℕ → Bool). list_any f (range_with_len 0 (length kept))) (fun_ext (λ lane. watched_forgets_same lane (kept_at kept lane)))
