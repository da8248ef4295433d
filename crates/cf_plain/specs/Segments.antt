-- What a question finds in rows that stand in several lists, end to end.
use Rattle.std.specs.Prelude.{◌≡◌, ℕ, ◌+◌, ◌<◌, ◌≤◌, ◌^◌, ◌==◌, List, [], ◌++◌, length, map, flat_map, filter, fold, All}
use Rattle.std.specs.List.{sum_by}
use Rattle.cf_row.specs.Row.{RowValue}
use Rattle.cf_fold.specs.Quads.{QuadValue, quad_of, both}
use Rattle.cf_shape.specs.Lanes.{ShapeValue}
use Rattle.cf_plain.specs.Asks.{places, counts_for, total_over, marks_in, eval_rows}
use Rattle.cf_plain.specs.Groups.{ascending, groups}
use Rattle.cf_plain.specs.Tops.{top}
use Rattle.cf_plain.specs.Totals.{total}
use Rattle.cf_plain.specs.declared.ask.Ask.{Ask}
use Rattle.cf_plain.specs.declared.ask.Ask.TheVariants as asks
use Rattle.cf_plain.specs.declared.finding.Finding.{Finding}
use Rattle.cf_plain.specs.declared.finding.Finding.TheVariants as findings
use Rattle.cf_plain.specs.declared.answer.Body.{Body}
use Rattle.cf_plain.specs.declared.answer.Body.TheVariants as bodies

-- the quads of the groups of one key, merged
abbrev pub quad_under : List (ℕ × QuadValue) → ℕ → QuadValue
quad_under gs k = fold both (quad_of []) (map (λ g. g.1) (filter (λ g. g.0 == k) gs))

-- a key with that quad
abbrev pub group_under : List (ℕ × QuadValue) → ℕ → ℕ × QuadValue
group_under gs k = (k, quad_under gs k)

-- for each key of some groups, ascending, the key and the quads of its groups merged
abbrev pub merged : List (ℕ × QuadValue) → List (ℕ × QuadValue)
merged gs = map (group_under gs) (ascending (map (λ g. g.0) gs))

-- how many numbers some groups are of
abbrev pub numbers_in : List (ℕ × QuadValue) → ℕ
numbers_in gs = sum_by (λ g. g.1.count) gs

-- what a question finds in some rows
abbrev pub finding_in : ShapeValue → Ask → List RowValue → Finding
finding_in shape (asks.List expr) rows = findings.Places (places (counts_for shape (asks.List expr)) rows)
finding_in shape (asks.Find lane low high) rows = findings.Places (places (counts_for shape (asks.Find lane low high)) rows)
finding_in shape (asks.Between lane low high) rows = findings.Places (places (counts_for shape (asks.Between lane low high)) rows)
finding_in shape (asks.Measure lane low high) rows = findings.Total (total_over shape lane (counts_for shape (asks.Measure lane low high)) rows)
finding_in shape (asks.Fired trigger) rows = findings.Groups (groups shape trigger.agg rows)
finding_in shape (asks.Top lane part n) rows = findings.Groups (groups shape lane rows)
finding_in shape (asks.Groups lane) rows = findings.Groups (groups shape lane rows)
finding_in shape (asks.Total attr expr) rows = findings.Total (total attr expr rows)

-- What is found in n rows, and what is found in those behind them: places go on behind the n rows, quads and groups are merged.
-- Two findings of different kinds are of no question, and the first one stays.
abbrev pub joined : ℕ → Finding → Finding → Finding
joined n (findings.Places xs) (findings.Places ys) = findings.Places (xs ++ map (λ place. n + place) ys)
joined n (findings.Total p) (findings.Total q) = findings.Total (both p q)
joined n (findings.Groups gs) (findings.Groups hs) = findings.Groups (merged (gs ++ hs))
joined n finding other = finding

-- What is found can be joined in the numbers of the program: each place that is counted on is below 2^32, and the quads are of
-- fewer than 2^32 numbers together.
abbrev pub CanJoin : ℕ → Finding → Finding → Type 0
CanJoin n (findings.Places xs) (findings.Places ys) = All (λ place. n + place < 2 ^ 32) ys
CanJoin n (findings.Total p) (findings.Total q) = p.count + q.count < 2 ^ 32
CanJoin n (findings.Groups gs) (findings.Groups hs) = numbers_in (gs ++ hs) < 2 ^ 32
CanJoin n finding other = Unit {0}

-- the marks or the heaviest of some groups, or all, as the question wants
abbrev pub body_of_groups : Ask → List (ℕ × QuadValue) → Body
body_of_groups (asks.Top lane part n) gs = bodies.Tops (top part n gs)
body_of_groups (asks.Fired trigger) gs = bodies.Marks (marks_in trigger gs)
body_of_groups (asks.Groups lane) gs = bodies.Groups gs
body_of_groups ask gs = bodies.Marks []

-- the answer to a question that found that
abbrev pub body_of : Ask → Finding → Body
body_of ask (findings.Places found) = bodies.Places found
body_of ask (findings.Total quad) = bodies.Total quad
body_of ask (findings.Groups found) = body_of_groups ask found

-- What a question finds tells its answer.
abbrev pub FindingsTell : Type 0
FindingsTell = (shape : ShapeValue) (ask : Ask) (rows : List RowValue) → body_of ask (finding_in shape ask rows) ≡ eval_rows shape ask rows

-- What it finds in rows and in those behind them, joined, is what it finds in all of them.
abbrev pub FindingsJoin : Type 0
FindingsJoin = (shape : ShapeValue) (ask : Ask) (xs ys : List RowValue)
    → joined (length xs) (finding_in shape ask xs) (finding_in shape ask ys) ≡ finding_in shape ask (xs ++ ys)

-- What it finds in rows and in those behind them, fewer than 2^32 in all, can be joined.
abbrev pub FindingsCanJoin : Type 0
FindingsCanJoin = (shape : ShapeValue) (ask : Ask) (xs ys : List RowValue) → length xs + length ys < 2 ^ 32
    → CanJoin (length xs) (finding_in shape ask xs) (finding_in shape ask ys)

-- The groups of several lists of rows, merged, are those of all the rows.
abbrev pub GroupsMerge : Type 0
GroupsMerge = (shape : ShapeValue) (lane : ℕ) (parts : List (List RowValue))
    → merged (flat_map (groups shape lane) parts) ≡ groups shape lane (flat_map (λ rows. rows) parts)

-- They are of no more numbers than there are rows.
abbrev pub GroupsAreFew : Type 0
GroupsAreFew = (shape : ShapeValue) (lane : ℕ) (rows : List RowValue) → numbers_in (groups shape lane rows) ≤ length rows
