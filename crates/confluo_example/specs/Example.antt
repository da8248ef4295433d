-- What the example appends, and what it is answered.
use Rattle.std.specs.Prelude.{◌≡◌, ◌+◌, ◌*◌, ◌<◌, ℕ, List, [], ◌∷◌, length, map, take, Some, slice_get}
use Rattle.std.specs.List.{AllByRecursion}
use Rattle.cf_row.specs.Row.{RowValue}
use Rattle.cf_row.specs.declared.row.Entry.{Entry}
use Rattle.cf_row.specs.declared.row.Value.TheVariants.{Num}
use Rattle.cf_shape.specs.Lanes.{ShapeValue}
use Rattle.cf_plain.specs.Order.{written_by}
use Rattle.cf_plain.specs.Answered.{answer_on}
use Rattle.cf_plain.specs.declared.answer.Body.{Body}
use Rattle.cf_plain.specs.declared.answer.Body.TheVariants as bodies
use Rattle.cf_plain.specs.declared.ask.Ask.{Ask}
use Rattle.cf_plain.specs.declared.answer.Answer.{Answer}
use Rattle.cf_table.specs.Values.{PassValue, IsOf}
use Rattle.cf_table.specs.Moves.{Begins}
use Rattle.cf_log.specs.Writers.{AreWriters, rows_by}
use Rattle.cf_log.specs.declared.passes.Opened.{Opened}
use Rattle.confluo_example.specs.declared.Found.{Found}

-- row k of a source: each is 100 nanoseconds after the one before, and 10 bytes longer
abbrev pub sent : ℕ → ℕ → RowValue
sent source k = record { num = k; values = Num (100 * k) ∷ Num source ∷ Num (60 + 10 * k) ∷ [] }

-- what an answer comes to: a sum, or how many places, buckets, keys or groups were found
abbrev pub figure_of : Body → ℕ
figure_of (bodies.Places places) = length places
figure_of (bodies.Total quad) = quad.sum
figure_of (bodies.Marks marks) = length marks
figure_of (bodies.Tops keys) = length keys
figure_of (bodies.Groups groups) = length groups

-- Pass 0 has appended the first rows and pass 1 the second, all of them, and meanwhile each question was asked of entries that the root
-- has seen.
pub record HasWritten (asks : List Ask) (first second : List RowValue) (opened : Opened) (live : List Answer) : Type 0 where
  pub of : IsOf opened.root opened.log
  pub away : (opened.root.view).books ≡ []
  pub writers : AreWriters opened.log opened.writers.items
  pub first_are : (pass : PassValue) → slice_get opened.writers.items 0 ≡ Some pass → rows_by pass ≡ first
  pub second_are : (pass : PassValue) → slice_get opened.writers.items 1 ≡ Some pass → rows_by pass ≡ second
  pub seen : List Entry
  pub begins : Begins seen (opened.root.view).seen
  pub live_are : live ≡ map (answer_on opened.log.shape seen) asks

-- The log has the first rows from writer 0, the second from writer 1, each in order, and no others.
pub record HasBoth (first second : List RowValue) (log : List Entry) : Type 0 where
  pub first_are : written_by 0 log ≡ first
  pub second_are : written_by 1 log ≡ second
  pub exist : AllByRecursion (λ entry. entry.writer < 2) log

-- The answers are the meaning of each question on a log that has both, and those that were given live on a beginning of this log.
pub record HasFound (shape : ShapeValue) (asks : List Ask) (first second : List RowValue) (found : Found) : Type 0 where
  pub log : List Entry
  pub both : HasBoth first second log
  pub seen : ℕ
  pub live : found.live.items ≡ map (answer_on shape (take seen log)) asks
  pub whole : found.whole.items ≡ map (answer_on shape log) asks
