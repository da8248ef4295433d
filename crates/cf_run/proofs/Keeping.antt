-- The first rows of each host are kept, one more at most than there is room for.
use Rattle.std.proofs.Common.{◌≡◌, ◌∙◌, ℕ, zero, suc, ◌+◌, ◌<◌, ◌≤◌, List, [], ◌∷◌, length, map, take, min, slice_index_or, Option, All, Any, refl, sym, ap, ap₂, subst, arith}
use Rattle.std.proofs.lemmas.List.{length-take, take_all}
use Rattle.std.proofs.lemmas.List.Elements.{All-head, All-tail}
use Rattle.std.proofs.lemmas.Simd.{map-map}
use Rattle.cf_outside.specs.Files.{File}
use Rattle.cf_row.specs.Row.{RowValue}
use Rattle.cf_intake.specs.Files.{Grammar}
use Rattle.cf_intake.specs.Parts.{AreFirstOf, captured, captured_each, first_of, rows_each}
use Rattle.cf_intake.specs.Rows.{CaptureValue}
use Rattle.cf_intake.specs.Several.{AreReadAs}
use Rattle.cf_intake.specs.declared.rows.Captured.{Captured}
use Rattle.cf_run.specs.Hosts.{rows_told, ends_told}
use Rattle.cf_run.specs.Parts.{ends_each}

-- what is told of hosts is what was read of them
pub rows_captured : (hosts : List Captured) → rows_told (captured_each hosts) ≡ rows_each hosts
rows_captured hosts = map-map (λ (what : CaptureValue). what.rows) captured hosts

pub ends_captured : (hosts : List Captured) → ends_told (captured_each hosts) ≡ ends_each hosts
ends_captured hosts = map-map (λ (what : CaptureValue). what.cut) captured hosts

-- Where more first rows of some host are kept than there is room for, it has more rows.
full_at : (capacity : ℕ) (whats : List CaptureValue) (k : ℕ) (rows : List RowValue) → k < length (rows_told (map (first_of (capacity + 1)) whats))
    → slice_index_or (rows_told (map (first_of (capacity + 1)) whats)) k rows ≡ rows → capacity < length rows
    → Any (λ these. capacity < length these) (rows_told whats)
full_at capacity [] k rows lt at many = absurd (omega (arith, lt))
full_at capacity (what ∷ whats) zero rows lt at many =
    let size : length rows ≡ min (capacity + 1) (length what.rows)
    = ap (λ (rs : List RowValue). length rs) (sym at) ∙ length-take (capacity + 1) what.rows in
    (zero, what.rows, omega arith, refl, omega (arith, size, many))
full_at capacity (what ∷ whats) (suc k) rows lt at many =
    let later = full_at capacity whats k rows (omega (arith, lt)) at many in
    let within = later.2 in
    (suc later.0, later.1, omega (arith, within), later.3, later.4)

pub full_told : (capacity : ℕ) (hosts : List Captured) (whats : List CaptureValue) → captured_each hosts ≡ map (first_of (capacity + 1)) whats
    → Any (λ rows. capacity < length rows) (rows_each hosts) → Any (λ rows. capacity < length rows) (rows_told whats)
full_told capacity hosts whats kept many =
    let some = subst (λ (lists : List (List RowValue)). Any (λ rows. capacity < length rows) lists) (sym (rows_captured hosts) ∙ ap rows_told kept) many in
    full_at capacity whats some.0 some.1 some.2 some.3 some.4

-- Where no more are kept than there is room for, all are.
whole_kept : (capacity : ℕ) (whats : List CaptureValue) → All (λ rows. length rows ≤ capacity) (rows_told (map (first_of (capacity + 1)) whats))
    → map (first_of (capacity + 1)) whats ≡ whats
whole_kept capacity [] few = refl
whole_kept capacity (what ∷ whats) few =
    let kept : List RowValue = take (capacity + 1) what.rows in
    let others : List (List RowValue) = rows_told (map (first_of (capacity + 1)) whats) in
    let here : length kept ≤ capacity = All-head (λ (rows : List RowValue). length rows ≤ capacity) kept others few in
    let size : length kept ≡ min (capacity + 1) (length what.rows) = length-take (capacity + 1) what.rows in
    ap₂ (λ (rows : List RowValue) (ws : List CaptureValue). record { rows = rows; cut = what.cut } ∷ ws)
    (take_all (capacity + 1) what.rows (omega (arith, here, size)))
    (whole_kept capacity whats (All-tail (λ (rows : List RowValue). length rows ≤ capacity) kept others few))

pub all_kept : (g : Grammar CaptureValue) (told : Option (List File)) (names : List (List ℕ)) (now : Option (List ℕ)) (capacity : ℕ) (hosts : List Captured)
    → AreFirstOf g told names now (capacity + 1) (captured_each hosts) → All (λ rows. length rows ≤ capacity) (rows_each hosts)
    → AreReadAs g told names now (captured_each hosts)
all_kept g told names now capacity hosts first few =
    let small = subst (λ (lists : List (List RowValue)). All (λ rows. length rows ≤ capacity) lists)
    (sym (rows_captured hosts) ∙ ap rows_told first.kept_are) few in
    subst (λ (whats : List CaptureValue). AreReadAs g told names now whats) (sym (first.kept_are ∙ whole_kept capacity first.whats small)) first.read
