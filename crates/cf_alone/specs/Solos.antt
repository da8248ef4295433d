-- What contracts see of a log of one writer, and what its calls do.
use Rattle.std.specs.Prelude.{◌≡◌, ℕ, ◌<◌, ◌≤◌, List, [], length, Some, slice_get, IfOk}
use Rattle.std.specs.declared.result.Result.{Result}
use Rattle.std.specs.declared.result.Result.TheVariants.{Err}
use Rattle.cf_row.specs.Row.{RowValue}
use Rattle.cf_row.specs.declared.row.Entry.{Entry}
use Rattle.cf_shape.specs.Lanes.{ShapeValue}
use Rattle.cf_shape.specs.Nodes.{distinct}
use Rattle.cf_law.specs.Words.{Spot}
use Rattle.cf_law.specs.Steps.{Knows}
use Rattle.cf_table.specs.Values.{PassValue, LogValue, book_of}
use Rattle.cf_append.specs.Paths.{Remembers}
use Rattle.cf_append.specs.declared.appends.AppendFault.{AppendFault}
use Rattle.cf_append.specs.declared.appends.AppendFault.TheVariants.{NodesFull}
use Rattle.cf_append.specs.declared.leaves.Leaves.{Leaves}
use Rattle.cf_plain.specs.Asks.{Suits, eval, rows_in}
use Rattle.cf_plain.specs.Segments.{finding_in}
use Rattle.cf_plain.specs.declared.answer.Answer.{Answer}
use Rattle.cf_plain.specs.declared.ask.Ask.{Ask}
use Rattle.cf_plain.specs.declared.finding.Finding.{Finding}
use Rattle.cf_alone.specs.Alone.{IsAlone, HasCovered, HasUsedFor}
use Rattle.cf_alone.specs.Needed.{IsNeeded}

-- the log's shape, the entries that are covered, in order, and the lanes and prefixes for which its nodes are used, in order
pub record SoloValue : Type 0 where
  pub shape : ShapeValue
  pub entries : List Entry
  pub used : List Spot

-- a log that has covered nothing
abbrev pub empty_solo : ShapeValue → SoloValue
empty_solo shape = record { shape = shape; entries = []; used = [] }

abbrev pub solo_of : LogValue → PassValue → SoloValue
solo_of log pass = record { shape = log.shape; entries = (pass.view).seen; used = (book_of pass.view).used }

-- The log has one writer, whose pass has seen all that it has finished and knows the leaves that are kept.
pub record IsSolo (log : LogValue) (pass : PassValue) (leaves : Leaves) : Type 0 where
  pub alone : IsAlone log pass
  pub near : Remembers log.shape pass.view leaves

-- the path of some of these rows goes through each used node
abbrev pub AreNeeded : ShapeValue → List RowValue → List Spot → Type 0
AreNeeded shape rows used = (j : ℕ) (s : Spot) → slice_get used j ≡ Some s → IsNeeded shape rows s

-- where no node is used but for the rows of the entries, these need no more different nodes than there are
abbrev pub AreEnough : ShapeValue → List Entry → List Spot → Type 0
AreEnough shape entries used = AreNeeded shape (rows_in entries) used → distinct shape (rows_in entries) ≤ shape.nodes

-- Some rows that have this one, and that need the used nodes, need more different nodes than there are.
abbrev pub LacksNodes : ShapeValue → RowValue → List Spot → Type 0
LacksNodes shape row used = (rows : List RowValue) (place : ℕ) → slice_get rows place ≡ Some row → AreNeeded shape rows used
    → shape.nodes < distinct shape rows

-- The row was appended and covered as the next entry, or it was not, since all places are covered or a path of it wants a node and
-- all are used.
pub record HasCome (row : RowValue) (before after : SoloValue) (answer : Result ℕ AppendFault) : Type 0 where
  pub shape : after.shape ≡ before.shape
  pub covered : HasCovered before.shape row before.entries after.entries answer
  pub nodes : HasUsedFor before.shape row before.used after.used answer
  pub enough : IfOk answer (λ _. AreEnough before.shape after.entries after.used)
  pub lacks : answer ≡ Err NodesFull → LacksNodes before.shape row before.used

-- the question may be asked by the log's one pass
pub record MayAsk (log : LogValue) (pass : PassValue) (question : Ask) : Type 0 where
  pub alone : IsAlone log pass
  pub suits : Suits log.shape question

-- A question left the log's one pass as it was, but for what it knows, which is no less.
pub record IsStill (log : LogValue) (before after : PassValue) : Type 0 where
  pub alone : IsAlone log after
  pub few : length (before.view).seen ≤ (log.shape).capacity
  pub same : solo_of log after ≡ solo_of log before
  pub knows : (s : Spot) (node : ℕ) → Knows before.view s node → Knows after.view s node

-- the question's meaning on the entries, and how many they are
abbrev pub IsAnswerOn : SoloValue → Ask → Answer → Type 0
IsAnswerOn solo question answer = (answer.tail ≡ length solo.entries) × (answer.body ≡ eval solo.shape question solo.entries)

-- how many entries there are, and what the question finds in their rows
abbrev pub IsFoundIn : SoloValue → Ask → ℕ × Finding → Type 0
IsFoundIn solo question found = (found.0 ≡ length solo.entries) × (found.1 ≡ finding_in solo.shape question (rows_in solo.entries))
