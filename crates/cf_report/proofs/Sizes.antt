-- What the questions and triggers of a setup mean doesn't depend on the sizes of the log.
use Rattle.std.proofs.Common.{◌≡◌, ℕ, ◌<◌, ◌&&◌, ◌==◌, List, length, map, filter, refl, ap, ap₂, ◌∙◌}
use Rattle.std.specs.List.{range_with_len}
use Rattle.std.proofs.lemmas.List.Elements.{filter_agree}
use Rattle.cf_row.specs.Row.{RowValue}
use Rattle.cf_fold.specs.Quads.{quad_of}
use Rattle.cf_fold.specs.declared.trigger.Trigger.{Trigger}
use Rattle.cf_plain.specs.History.{AskReply}
use Rattle.cf_plain.specs.Order.{IsOrder, log_of}
use Rattle.cf_shape.specs.Lanes.{ShapeValue, lane_at, key_by, key_of, by_of, both_keys, group_key, selected_by, measure_of}
use Rattle.cf_shape.specs.declared.lane.Key.{Key}
use Rattle.cf_shape.specs.declared.lane.Key.TheVariants as keys
use Rattle.cf_plain.specs.Groups.{keys_in, has_key, group_of, groups, ascending}
use Rattle.cf_plain.specs.Tops.{top}
use Rattle.cf_plain.specs.Asks.{row_at, rows_in, counts_for, is_between, marks_in, marks_over, eval_rows}
use Rattle.cf_plain.specs.declared.ask.Ask.{Ask}
use Rattle.cf_plain.specs.declared.ask.Ask.TheVariants as asks
use Rattle.cf_plain.specs.declared.answer.Body.{Body}
use Rattle.cf_plain.specs.declared.answer.Body.TheVariants as bodies
use Rattle.cf_plain.specs.declared.answer.Fired.{Fired}
use Rattle.cf_plain.proofs.Totals.{map_agree}
use Rattle.cf_setup.specs.Setups.{SetupValue, shaped}
use Rattle.cf_report.specs.Report.{final_part}
use Rattle.cf_report.specs.Meaning.{told_on, final_text}
use Rattle.cf_report.proofs.Same.{one_final}

module _ (setup : SetupValue) (c w n c' w' n' : ℕ) where
  abbrev one : ShapeValue
  one = shaped setup c w n

  abbrev other : ShapeValue
  other = shaped setup c' w' n'

  key_by_same : (key : Key) (row : RowValue) → key_by one key row ≡ key_by other key row
  key_by_same (keys.Attr attr) row = refl
  key_by_same keys.Bucket row = refl
  key_by_same (keys.BucketBy attr) row = refl

  key_same : (lane : ℕ) (row : RowValue) → key_of one lane row ≡ key_of other lane row
  key_same lane row = key_by_same (lane_at one lane).key row

  both_same : (lane : ℕ) (row : RowValue) → group_key one lane row ≡ group_key other lane row
  both_same lane row = ap (λ (k : ℕ). both_keys k (by_of one lane row)) (key_same lane row)

  keyed_same : (lane low high : ℕ) (row : RowValue)
      → (selected_by one lane row && is_between low high (key_of one lane row)) ≡ (selected_by other lane row && is_between low high (key_of other lane row))
  keyed_same lane low high row = ap (λ k. selected_by one lane row && is_between low high k) (key_same lane row)

  counts_same : (ask : Ask) (row : RowValue) → counts_for one ask row ≡ counts_for other ask row
  counts_same (asks.List expr) row = refl
  counts_same (asks.Find lane low high) row = keyed_same lane low high row
  counts_same (asks.Between lane low high) row = keyed_same lane low high row
  counts_same (asks.Measure lane low high) row = keyed_same lane low high row
  counts_same (asks.Fired trigger) row = refl
  counts_same (asks.Top lane part count) row = refl
  counts_same (asks.Groups lane) row = refl
  counts_same (asks.Total attr expr) row = refl

  places_same : (ask : Ask) (rows : List RowValue)
      → filter (λ place. counts_for one ask (row_at rows place)) (range_with_len 0 (length rows)) ≡ filter (λ place. counts_for other ask (row_at rows place))
      (range_with_len 0 (length rows))
  places_same ask rows =
      filter_agree (λ place. counts_for one ask (row_at rows place)) (λ place. counts_for other ask (row_at rows place))
      (λ place. counts_same ask (row_at rows place)) (range_with_len 0 (length rows))

  keys_same : (lane : ℕ) (rows : List RowValue) → keys_in one lane rows ≡ keys_in other lane rows
  keys_same lane rows = ap ascending (map_agree (group_key one lane) (group_key other lane) (both_same lane) (filter (selected_by one lane) rows))

  group_same : (lane : ℕ) (rows : List RowValue) (k : ℕ) → group_of one lane rows k ≡ group_of other lane rows k
  group_same lane rows k =
      ap (λ (picked : List RowValue). (k, quad_of (map (measure_of one lane) picked)))
      (filter_agree (has_key one lane k) (has_key other lane k) (λ row. ap (λ key. selected_by one lane row && (key == k)) (both_same lane row)) rows)

  groups_same : (lane : ℕ) (rows : List RowValue) → groups one lane rows ≡ groups other lane rows
  groups_same lane rows =
      ap (map (group_of one lane rows)) (keys_same lane rows)
      ∙ map_agree (group_of one lane rows) (group_of other lane rows) (group_same lane rows) (keys_in other lane rows)

  marks_same : (trigger : Trigger) (rows : List RowValue) → marks_over one trigger rows ≡ marks_over other trigger rows
  marks_same trigger rows = ap (marks_in trigger) (groups_same trigger.agg rows)

  body_same : (ask : Ask) (rows : List RowValue) → eval_rows one ask rows ≡ eval_rows other ask rows
  body_same (asks.List expr) rows = refl
  body_same (asks.Find lane low high) rows = ap bodies.Places (places_same (asks.Find lane low high) rows)
  body_same (asks.Between lane low high) rows = ap bodies.Places (places_same (asks.Between lane low high) rows)
  body_same (asks.Measure lane low high) rows =
      ap (λ (picked : List RowValue). bodies.Total (quad_of (map (measure_of one lane) picked)))
      (filter_agree (counts_for one (asks.Measure lane low high)) (counts_for other (asks.Measure lane low high))
      (counts_same (asks.Measure lane low high)) rows)
  body_same (asks.Fired trigger) rows = ap bodies.Marks (marks_same trigger rows)
  body_same (asks.Top lane part count) rows = ap (λ gs. bodies.Tops (top part count gs)) (groups_same lane rows)
  body_same (asks.Groups lane) rows = ap (λ gs. bodies.Groups gs) (groups_same lane rows)
  body_same (asks.Total attr expr) rows = refl

  told_same : (rows : List RowValue) (ask : Ask) → told_on one rows ask ≡ told_on other rows ask
  told_same rows ask = ap (λ (body : Body). record { ask = ask; tail = length rows; body = body }) (body_same ask rows)

  final_same : (rows : List RowValue) → final_text one setup rows ≡ final_text other setup rows
  final_same rows = ap₂ (λ (finals : List (AskReply Ask Body)) (alerts : List (List Fired)). final_part setup rows finals alerts)
      (map_agree (told_on one rows) (told_on other rows) (told_same rows) setup.asks)
      (map_agree (λ (trigger : Trigger). marks_over one trigger rows) (λ (trigger : Trigger). marks_over other trigger rows)
      (λ trigger. marks_same trigger rows) setup.triggers)

-- the final part on the log of a valid order, by any sizes, is that on the rows by any others
pub any_sizes : (setup : SetupValue) (c w n c' w' n' : ℕ) (rows : List RowValue) (order : List ℕ) → 0 < w → IsOrder order (length rows) w →
    final_text (shaped setup c w n) setup (rows_in (log_of rows w order)) ≡ final_text (shaped setup c' w' n') setup rows
any_sizes setup c w n c' w' n' rows order some valid = one_final (shaped setup c w n) setup rows w order some valid ∙ final_same setup c w n c' w' n' rows
