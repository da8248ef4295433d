-- Lists with the same rows have the same final part.
use Rattle.std.proofs.Common.{◌≡◌, ℕ, zero, suc, ◌+◌, ◌<◌, Bool, List, [], ◌∷◌, ◌++◌, length, map, filter, get_or, codes, decimal, refl, sym, ap, ap₂, subst, ◌∙◌, inl, inr, arith}
use Rattle.std.specs.List.{range_with_len, flat_map}
use Rattle.std.proofs.lemmas.Bool.{cases_Bool}
use Rattle.cf_row.specs.declared.row.Entry.{Entry}
use Rattle.cf_row.specs.Row.{RowValue}
use Rattle.cf_row.specs.Expr.{holds_of}
use Rattle.cf_row.specs.Times.{number_at}
use Rattle.cf_fold.specs.Sort.{sort}
use Rattle.cf_fold.specs.declared.trigger.Trigger.{Trigger}
use Rattle.cf_fold.proofs.Sorted.{AsOften, sort_is_one, quad_is_one}
use Rattle.cf_plain.specs.Order.{IsOrder, log_of}
use Rattle.cf_plain.proofs.Logs.{same_rows}
use Rattle.cf_plain.proofs.Orders.{log_of_order}
use Rattle.cf_shape.specs.Lanes.{ShapeValue}
use Rattle.cf_plain.specs.Asks.{rows_in, row_at, places, counts_for, marks_in, marks_over, eval_rows}
use Rattle.cf_plain.specs.declared.ask.Ask.{Ask}
use Rattle.cf_plain.specs.declared.ask.Ask.TheVariants as asks
use Rattle.cf_plain.specs.declared.answer.Fired.{Fired}
use Rattle.cf_plain.specs.Tops.{top}
use Rattle.cf_plain.specs.Totals.{amounts}
use Rattle.cf_plain.proofs.Totals.{SameRows, often, map_agree, same_total, same_groups, same_length}
use Rattle.cf_setup.specs.Setups.{SetupValue}
use Rattle.cf_report.specs.Bodies.{line, nums_at, word_of, shown, numbers_text, quad_text, marks_text, groups_text}
use Rattle.cf_report.specs.Report.{ask_name, ask_line, ask_line_at, alert_lines_at, nothing_told}
use Rattle.cf_report.specs.Meaning.{told_on, finals_on, alerts_on, final_text}

-- the numbers of the rows at the places of those that pass
nums_from : (p : RowValue → Bool) (all rows : List RowValue) (k : ℕ) → ((i : ℕ) → row_at all (k + i) ≡ row_at rows i)
    → nums_at all (filter (λ place. p (row_at all place)) (range_with_len k (length rows))) ≡ map (λ row. row.num) (filter p rows)
nums_from p all [] k same = refl
nums_from p all (row ∷ rows) k same =
    let here : row_at all k ≡ row = ap (row_at all) (omega arith) ∙ same 0 in
    let rest : nums_at all (filter (λ place. p (row_at all place)) (range_with_len (k + 1) (length rows))) ≡ map (λ r. r.num) (filter p rows) =
    nums_from p all rows (k + 1) (λ i. ap (row_at all) (omega arith) ∙ same (suc i)) in
    elim (cases_Bool (p row)) [
      | inl passes ↦ rw (here, passes, here) (ap (λ (ns : List ℕ). row.num ∷ ns) rest)
      | inr fails ↦ rw (here, fails) rest
    ]

nums_of_places : (p : RowValue → Bool) (rows : List RowValue) → nums_at rows (places p rows) ≡ map (λ row. row.num) (filter p rows)
nums_of_places p rows = nums_from p rows rows 0 (λ i. ap (row_at rows) (omega arith))

same_places : (p : RowValue → Bool) (rows others : List RowValue) → SameRows rows others
    → sort (nums_at rows (places p rows)) ≡ sort (nums_at others (places p others))
same_places p rows others same =
    sort_is_one (nums_at rows (places p rows)) (nums_at others (places p others))
    (subst (λ (ns : List ℕ). AsOften ns (nums_at others (places p others))) (sym (nums_of_places p rows))
    (subst (λ (ns : List ℕ). AsOften (map (λ row. row.num) (filter p rows)) ns) (sym (nums_of_places p others)) (often (λ row. row.num) p rows others same)))

pub flat_agree : {X : Type 0} (f g : X → List ℕ) → ((x : X) → f x ≡ g x) → (xs : List X) → flat_map f xs ≡ flat_map g xs
flat_agree f g same [] = refl
flat_agree f g same (x ∷ xs) = ap₂ (λ (y ys : List ℕ). y ++ ys) (same x) (flat_agree f g same xs)

module _ (shape : ShapeValue) (rows others : List RowValue) (same : SameRows rows others) where
  same_body : (ask : Ask)
      → shown (λ ps. sort (nums_at rows ps)) (eval_rows shape ask rows) ≡ shown (λ ps. sort (nums_at others ps)) (eval_rows shape ask others)
  same_body (asks.List expr) = ap numbers_text (same_places (counts_for shape (asks.List expr)) rows others same)
  same_body (asks.Find lane low high) = ap numbers_text (same_places (counts_for shape (asks.Find lane low high)) rows others same)
  same_body (asks.Between lane low high) = ap numbers_text (same_places (counts_for shape (asks.Between lane low high)) rows others same)
  same_body (asks.Measure lane low high) = ap quad_text (same_total shape rows others same lane (counts_for shape (asks.Measure lane low high)))
  same_body (asks.Fired trigger) = ap (λ gs. marks_text (marks_in trigger gs)) (same_groups shape rows others same trigger.agg)
  same_body (asks.Top lane part count) = ap (λ gs. marks_text (top part count gs)) (same_groups shape rows others same lane)
  same_body (asks.Groups lane) = ap groups_text (same_groups shape rows others same lane)
  same_body (asks.Total attr expr) =
      ap quad_text (quad_is_one (amounts attr expr rows) (amounts attr expr others) (often (λ row. number_at row attr) (holds_of expr) rows others same))

  same_line : (name : List ℕ) (list : List Ask) (place : ℕ)
      → ask_line name rows (get_or (map (told_on shape rows) list) place nothing_told) ≡ ask_line name others
      (get_or (map (told_on shape others) list) place nothing_told)
  same_line name [] place = refl
  same_line name (ask ∷ list) zero = ap (λ (text : List ℕ). line (codes "ask " ++ name ++ codes " " ++ word_of ask ++ text)) (same_body ask)
  same_line name (ask ∷ list) (suc place) = same_line name list place

  same_alerts : (setup : SetupValue) → alerts_on shape setup rows ≡ alerts_on shape setup others
  same_alerts setup =
      map_agree (λ (trigger : Trigger). marks_over shape trigger rows) (λ (trigger : Trigger). marks_over shape trigger others)
      (λ trigger. ap (marks_in trigger) (same_groups shape rows others same trigger.agg)) setup.triggers

  same_final : (setup : SetupValue) → final_text shape setup rows ≡ final_text shape setup others
  same_final setup =
      let head : line (codes "records " ++ decimal (length rows)) ≡ line (codes "records " ++ decimal (length others)) =
      ap (λ n. line (codes "records " ++ decimal n)) (same_length shape rows others same) in
      let lines = flat_agree (ask_line_at setup rows (finals_on shape setup rows)) (ask_line_at setup others (finals_on shape setup others))
      (λ place. same_line (ask_name setup place) setup.asks place) (range_with_len 0 (length setup.asks)) in
      let alerts = ap (λ (found : List (List Fired)). flat_map (alert_lines_at setup found) (range_with_len 0 (length setup.triggers))) (same_alerts setup) in
      ap₂ (λ (x y : List ℕ). x ++ y) (ap₂ (λ (x y : List ℕ). x ++ y) head lines) alerts

-- the final part on the log of a valid order is that on the rows
pub one_final : (shape : ShapeValue) (setup : SetupValue) (rows : List RowValue) (writers : ℕ) (order : List ℕ) → 0 < writers
    → IsOrder order (length rows) writers → final_text shape setup (rows_in (log_of rows writers order)) ≡ final_text shape setup rows
one_final shape setup rows writers order some valid =
    let log : List Entry = log_of rows writers order in
    same_final shape (rows_in log) rows (λ g. same_rows g rows writers log some (log_of_order rows writers order some valid).0) setup
