-- What was found in a log, told of its rows.
use Rattle.std.proofs.Common.{◌≡◌, ◌∙◌, ℕ, zero, suc, ◌+◌, ◌-◌, ◌<◌, ◌≤◌, inl, inr, Bool, List, [], ◌∷◌, length, map, filter, get_or, refl, sym, ap, ap₂, arith}
use Rattle.std.specs.List.{All, AllByRecursion, range_with_len}
use Rattle.std.proofs.lemmas.Bool.{cases_Bool}
use Rattle.std.proofs.lemmas.List.Elements.{All-from_recursion, All-map}
use Rattle.cf_row.specs.Row.{RowValue}
use Rattle.cf_row.specs.Expr.{holds_of}
use Rattle.cf_row.specs.Times.{number_at}
use Rattle.cf_row.specs.declared.row.Entry.{Entry}
use Rattle.cf_fold.specs.Sort.{sort}
use Rattle.cf_fold.proofs.Sorted.{Climbs, climbing_is_one, climbs_sort, count_sort, quad_is_one, sort_is_one}
use Rattle.cf_shape.specs.Lanes.{ShapeValue}
use Rattle.cf_plain.specs.Asks.{counts_for, places, row_at, rows_in}
use Rattle.cf_plain.specs.Segments.{finding_in}
use Rattle.cf_plain.specs.Totals.{amounts}
use Rattle.cf_plain.specs.declared.ask.Ask.{Ask}
use Rattle.cf_plain.specs.declared.ask.Ask.TheVariants as asks
use Rattle.cf_plain.specs.declared.finding.Finding.{Finding}
use Rattle.cf_plain.specs.declared.finding.Finding.TheVariants as findings
use Rattle.cf_plain.proofs.Totals.{SameRows, map_agree, often, same_groups, same_total}
use Rattle.cf_long.specs.ByRow.{AreNumbered, IsFoundWithin, by_row, places_by_row}
use Rattle.cf_long.specs.Found.{found_in}

weaker : (P Q : ℕ → Type 0) → ((m : ℕ) → P m → Q m) → (ms : List ℕ) → AllByRecursion P ms → AllByRecursion Q ms
weaker P Q so [] all = tt
weaker P Q so (m ∷ ms) all = (so m all.0, weaker P Q so ms all.1)

-- the numbers of a range that pass are in it
pub in_range : (p : ℕ → Bool) (k n : ℕ) → AllByRecursion (λ m. (k ≤ m) × (m < k + n)) (filter p (range_with_len k n))
in_range p k zero = tt
in_range p k (suc n) =
    let rest = weaker (λ m. (k + 1 ≤ m) × (m < k + 1 + n)) (λ m. (k ≤ m) × (m < k + suc n))
    (λ m at. (let low = at.0 in let high = at.1 in (omega (arith, low), omega (arith, high))))
    (filter p (range_with_len (k + 1) n)) (in_range p (k + 1) n) in
    elim (cases_Bool (p k)) [
      | inl passes ↦ rw passes ((omega arith, omega arith), rest)
      | inr fails ↦ rw fails rest
    ]

-- and ascend
pub climbs_range : (p : ℕ → Bool) (k n : ℕ) → Climbs (filter p (range_with_len k n))
climbs_range p k zero = tt
climbs_range p k (suc n) =
    let rest : Climbs (filter p (range_with_len (k + 1) n)) = climbs_range p (k + 1) n in
    let above = weaker (λ m. (k + 1 ≤ m) × (m < k + 1 + n)) (λ m. k ≤ m) (λ m at. (let low = at.0 in omega (arith, low)))
    (filter p (range_with_len (k + 1) n)) (in_range p (k + 1) n) in
    elim (cases_Bool (p k)) [
      | inl passes ↦ rw passes (above, rest)
      | inr fails ↦ rw fails rest
    ]

-- what is told of the rows at the places of those that pass
told_from : (f : RowValue → ℕ) (p : RowValue → Bool) (all rows : List RowValue) (k : ℕ) → ((i : ℕ) → row_at all (k + i) ≡ row_at rows i)
    → map (λ place. f (row_at all place)) (filter (λ place. p (row_at all place)) (range_with_len k (length rows))) ≡ map f (filter p rows)
told_from f p all [] k same = refl
told_from f p all (row ∷ rows) k same =
    let here : row_at all k ≡ row = ap (row_at all) (omega arith) ∙ same 0 in
    let rest : map (λ place. f (row_at all place)) (filter (λ place. p (row_at all place)) (range_with_len (k + 1) (length rows))) ≡ map f (filter p rows) =
    told_from f p all rows (k + 1) (λ i. ap (row_at all) (omega arith) ∙ same (suc i)) in
    elim (cases_Bool (p row)) [
      | inl passes ↦ rw (here, passes, here) (ap (λ (ns : List ℕ). f row ∷ ns) rest)
      | inr fails ↦ rw (here, fails) rest
    ]

told : (f : RowValue → ℕ) (p : RowValue → Bool) (rows : List RowValue) → map (λ place. f (row_at rows place)) (places p rows) ≡ map f (filter p rows)
told f p rows = told_from f p rows rows 0 (λ i. ap (row_at rows) (omega arith))

-- what stays as it is, each of some numbers
pub all_stay : (f : ℕ → ℕ) (P : ℕ → Type 0) → ((m : ℕ) → P m → f m ≡ m) → (ms : List ℕ) → AllByRecursion P ms → map f ms ≡ ms
all_stay f P stays [] all = refl
all_stay f P stays (m ∷ ms) all = ap₂ (λ (n : ℕ) (ns : List ℕ). n ∷ ns) (stays m all.0) (all_stay f P stays ms all.1)

-- the number of an entry
num_at : (entries : List Entry) (place : ℕ) → get_or (map (λ (e : Entry). e.row.num) entries) place 0 ≡ (row_at (rows_in entries) place).num
num_at [] place = refl
num_at (e ∷ es) zero = refl
num_at (e ∷ es) (suc place) = num_at es place

-- numbers that ascend are sorted
pub sorted_stay : (ms : List ℕ) → Climbs ms → sort ms ≡ ms
sorted_stay ms up = climbing_is_one (sort ms) ms (climbs_sort ms) up (λ n. count_sort n ms)

module _ (shape : ShapeValue) (first : ℕ) (entries : List Entry) (rows : List RowValue) (same : SameRows (rows_in entries) rows)
    (numbered : AreNumbered first rows) where
  abbrev nums : List ℕ
  nums = map (λ (e : Entry). e.row.num) entries

  abbrev far : RowValue → ℕ
  far row = row.num - first

  -- the rows that pass, by how far they are behind the first, are those at their places
  far_is_place : (p : RowValue → Bool) → map far (filter p rows) ≡ places p rows
  far_is_place p =
      sym (told far p rows)
      ∙ all_stay (λ place. far (row_at rows place)) (λ m. (0 ≤ m) × (m < 0 + length rows))
      (λ m at. (let low = at.1 in let is = numbered m (omega (arith, low)) in omega (arith, is)))
      (places p rows) (in_range (λ place. p (row_at rows place)) 0 (length rows))

  same_places : (p : RowValue → Bool) → places_by_row first nums (places p (rows_in entries)) ≡ places p rows
  same_places p =
      ap sort (map_agree (λ place. get_or nums place 0 - first) (λ place. far (row_at (rows_in entries) place))
      (λ place. ap (λ n. n - first) (num_at entries place)) (places p (rows_in entries)) ∙ told far p (rows_in entries))
      ∙ (sort_is_one (map far (filter p (rows_in entries))) (map far (filter p rows)) (often far p (rows_in entries) rows same)
      ∙ (ap sort (far_is_place p) ∙ sorted_stay (places p rows) (climbs_range (λ place. p (row_at rows place)) 0 (length rows))))

  -- what a question finds in the log, told of the rows, is what it finds in them
  pub found_by_row : (ask : Ask) → by_row first nums (finding_in shape ask (rows_in entries)) ≡ finding_in shape ask rows
  found_by_row (asks.List expr) = ap (λ (ps : List ℕ). findings.Places ps) (same_places (counts_for shape (asks.List expr)))
  found_by_row (asks.Find lane low high) = ap (λ (ps : List ℕ). findings.Places ps) (same_places (counts_for shape (asks.Find lane low high)))
  found_by_row (asks.Between lane low high) = ap (λ (ps : List ℕ). findings.Places ps) (same_places (counts_for shape (asks.Between lane low high)))
  found_by_row (asks.Measure lane low high) =
      ap (λ q. findings.Total q) (same_total shape (rows_in entries) rows same lane (counts_for shape (asks.Measure lane low high)))
  found_by_row (asks.Fired trigger) = ap (λ gs. findings.Groups gs) (same_groups shape (rows_in entries) rows same trigger.agg)
  found_by_row (asks.Top lane part count) = ap (λ gs. findings.Groups gs) (same_groups shape (rows_in entries) rows same lane)
  found_by_row (asks.Groups lane) = ap (λ gs. findings.Groups gs) (same_groups shape (rows_in entries) rows same lane)
  found_by_row (asks.Total attr expr) =
      ap (λ q. findings.Total q)
      (quad_is_one (amounts attr expr (rows_in entries)) (amounts attr expr rows) (often (λ row. number_at row attr) (holds_of expr) (rows_in entries) rows same))

  -- what all questions find
  pub all_told : (questions : List Ask) → map (by_row first nums) (found_in shape questions (rows_in entries)) ≡ found_in shape questions rows
  all_told [] = refl
  all_told (ask ∷ questions) = ap₂ (λ (f : Finding) (fs : List Finding). f ∷ fs) (found_by_row ask) (all_told questions)

-- places that are found are within
places_within : (p : RowValue → Bool) (rows : List RowValue) → All (λ place. place < length rows) (places p rows)
places_within p rows =
    All-from_recursion (λ place. place < length rows) (places p rows)
    (weaker (λ m. (0 ≤ m) × (m < 0 + length rows)) (λ m. m < length rows) (λ m at. (let low = at.1 in omega (arith, low)))
    (places p rows) (in_range (λ place. p (row_at rows place)) 0 (length rows)))

pub found_within : (shape : ShapeValue) (rows : List RowValue) (ask : Ask) → IsFoundWithin (length rows) (finding_in shape ask rows)
found_within shape rows (asks.List expr) = places_within (counts_for shape (asks.List expr)) rows
found_within shape rows (asks.Find lane low high) = places_within (counts_for shape (asks.Find lane low high)) rows
found_within shape rows (asks.Between lane low high) = places_within (counts_for shape (asks.Between lane low high)) rows
found_within shape rows (asks.Measure lane low high) = tt
found_within shape rows (asks.Fired trigger) = tt
found_within shape rows (asks.Top lane part count) = tt
found_within shape rows (asks.Groups lane) = tt
found_within shape rows (asks.Total attr expr) = tt

-- so are those of each question
pub each_within : (shape : ShapeValue) (rows : List RowValue) (questions : List Ask) → All (IsFoundWithin (length rows)) (found_in shape questions rows)
each_within shape rows questions =
    All-map (IsFoundWithin (length rows)) (λ ask. finding_in shape ask rows) questions
    (λ k d lt. found_within shape rows (get_or questions k d))
