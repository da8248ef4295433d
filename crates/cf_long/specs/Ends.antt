-- Captures are read one after another into a log of any length: which records came, and how they end.
use Rattle.std.specs.Prelude.{◌≡◌, ℕ, suc, ◌*◌, ◌-◌, ◌^◌, ◌<◌, ◌≤◌, Bool, true, false, List, All, take, length, Option, Result, Ok, Err}
use Rattle.cf_outside.specs.Files.{File}
use Rattle.cf_row.specs.Schema6.{attrs_by}
use Rattle.cf_row.specs.Row.{Fits, RowValue}
use Rattle.cf_shape.specs.Lanes.{ShapeValue}
use Rattle.cf_setup.specs.Setups.{SetupValue}
use Rattle.cf_report.specs.Meaning.{final_text}
use Rattle.cf_intake.specs.Reads.{numbered_on}
use Rattle.cf_intake.specs.Series.{IsSeriesAt, SeriesEnd}
use Rattle.cf_intake.specs.Series.SeriesEnd.{whole, refused}
use Rattle.cf_intake.specs.declared.refusal.Halt.{Halt}
use Rattle.cf_intake.specs.declared.refusal.Halt.TheVariants as halts
use Rattle.cf_intake.specs.declared.refusal.Refusal.{Refusal}
use Rattle.cf_intake.specs.declared.refusal.Refusal.TheVariants as refusals
use Rattle.cf_intake.specs.declared.refusal.Stop.TheVariants as stops
use Rattle.cf_intake.specs.declared.series.Series.{Series}
use Rattle.cf_intake.specs.declared.refusal.Stop.{Stop}
use Rattle.cf_fill.specs.Logs.{halt_of}
use Rattle.cf_fill.specs.declared.log.Unmade.{Unmade}
use Rattle.cf_fill.specs.Needs.{NeedsAtMost, NeedsMore}
use Rattle.cf_long.specs.Ahead.{HaveEnded, IsAhead, most_ahead}
use Rattle.cf_long.specs.Kept.{IsKeptLong, KeptLongValue}
use Rattle.cf_long.specs.Longs.{shape_in}
use Rattle.cf_long.specs.declared.ahead.Ahead.{Ahead}
use Rattle.cf_long.specs.declared.reads.End.{End}
use Rattle.cf_long.specs.declared.reads.End.TheVariants.{Whole, Refused, Full}

-- the first of the records: as many as have numbers below 2^32 - 1
unfoldable pub first_rows : List RowValue → List RowValue
first_rows rows = take (2 ^ 32 - 1) rows

-- They are in the log, each with its place among all as its number. Of more than there may be these are the first.
abbrev pub in_log : List RowValue → List RowValue
in_log rows = numbered_on 0 (first_rows rows)

-- these records came first: others may follow, or the captures end so
pub data HaveCome (series : Series) (told : Option (List File)) (now : Option (List ℕ)) (rows : List RowValue) : Type 0 where
  midway : IsSeriesAt series told now rows → HaveCome series told now rows
  ended : (end : SeriesEnd) → HaveEnded series told now rows end → HaveCome series told now rows

-- All records that came are in the log but for those that were read ahead.
pub record IsReadInto (series : Series) (told : Option (List File)) (now : Option (List ℕ)) (long : KeptLongValue) (ahead : Ahead) : Type 0 where
  pub rows : List RowValue
  pub is : IsKeptLong long (numbered_on 0 rows)
  pub behind : IsAhead series told now long.kept rows ahead
  pub kind : long.shape.schema ≡ attrs_by series.schema
  pub fit : All (Fits (shape_in long.long).schema) ahead.rows.items
  pub few : length ahead.rows.items ≤ most_ahead

-- Some block of the records in the log needs more nodes than a writer has in it.
abbrev pub LackNodes : Series → Option (List File) → Option (List ℕ) → ShapeValue → Refusal → Type 0
LackNodes series told now shape why =
    (rows : List RowValue) × HaveCome series told now rows × NeedsMore shape shape.nodes (in_log rows) × (why ≡ refusals.Nodes shape.nodes)

-- The reading ends so, with these records in the log: all captures were read; or the one at hand is refused; or there is a record too many.
abbrev pub HasEnded : Series → Option (List File) → Option (List ℕ) → KeptLongValue → End → Type 0
HasEnded series told now long Whole =
    (rows : List RowValue) × HaveEnded series told now rows (whole series.cuts.items) × IsKeptLong long (numbered_on 0 rows)
HasEnded series told now long (Refused why) =
    (rows : List RowValue) × HaveEnded series told now rows (refused (suc series.place) why) × IsKeptLong long (numbered_on 0 rows)
HasEnded series told now long Full = (rows : List RowValue) × HaveCome series told now rows × (2 ^ 32 ≤ length rows) × IsKeptLong long (in_log rows)

-- what becomes of these records, of which all but the last ones were in the log: the answer is whether there are too many
abbrev pub AreTaken : KeptLongValue → List RowValue → Result Bool Halt → Type 0
AreTaken long rows (Ok true) = (2 ^ 32 ≤ length rows) × IsKeptLong long (in_log rows)
AreTaken long rows (Ok false) = IsKeptLong long (numbered_on 0 rows)
AreTaken long rows (Err (halts.Refused why)) =
    NeedsMore long.shape long.shape.nodes (in_log rows) × (why ≡ refusals.Nodes long.shape.nodes)
AreTaken long rows (Err (halts.Stopped stop)) = stop ≡ stops.Memory

-- why the reading has no end: nodes are lacking, or it stopped
abbrev pub HaltsWith : Series → Option (List File) → Option (List ℕ) → KeptLongValue → Halt → Type 0
HaltsWith series told now long (halts.Refused why) = LackNodes series told now long.shape why
HaltsWith series told now long (halts.Stopped stop) = Unit {0}

-- what one step of the reading comes to: others were read ahead of the log
abbrev pub ReadComesTo : Series → Option (List File) → Option (List ℕ) → KeptLongValue → Result Ahead Halt → Type 0
ReadComesTo series told now long (Ok ahead) = IsReadInto series told now long ahead
ReadComesTo series told now long (Err halt) = HaltsWith series told now long halt

-- A failure of the reading goes before want of nodes or memory in the log.
abbrev pub GivesAhead : ℕ → Result (Unit {0}) Unmade → Result Ahead Stop → Result Ahead Halt → Type 0
GivesAhead nodes taken (Err stop) result = result ≡ Err (halts.Stopped stop)
GivesAhead nodes (Err why) (Ok ahead) result = result ≡ Err (halt_of nodes why)
GivesAhead nodes (Ok done) (Ok ahead) result = result ≡ Ok ahead

-- what the reading comes to
abbrev pub ReadsComeTo : Series → Option (List File) → Option (List ℕ) → KeptLongValue → Result End Halt → Type 0
ReadsComeTo series told now long (Ok end) = HasEnded series told now long end
ReadsComeTo series told now long (Err halt) = HaltsWith series told now long halt

-- All captures were read, and the text is the final part of the setup's report over all their records, numbered from 0. No block of these
-- needs more nodes than all writers have in it.
pub record AreToldOf (series : Series) (told : Option (List File)) (now : Option (List ℕ)) (setup : SetupValue) (shape : ShapeValue)
    (text : List ℕ) : Type 0 where
  pub rows : List RowValue
  pub ended : HaveEnded series told now rows (whole series.cuts.items)
  pub few : length rows < 2 ^ 32
  pub text_is : text ≡ final_text shape setup (numbered_on 0 rows)
  pub nodes : NeedsAtMost shape (shape.writers * shape.nodes) (numbered_on 0 rows)

-- Why nothing is told of the captures: nodes are lacking; or there is a record too many; or the capture at hand is refused. Before the last
-- two no block of the records needs more nodes than all writers have in it.
pub data AreRefused (series : Series) (told : Option (List File)) (now : Option (List ℕ)) (shape : ShapeValue) (why : Refusal) : Type 0 where
  lacks : LackNodes series told now shape why → AreRefused series told now shape why
  over : (rows : List RowValue) → HaveCome series told now rows → 2 ^ 32 ≤ length rows
      → NeedsAtMost shape (shape.writers * shape.nodes) (in_log rows) → why ≡ refusals.Full (2 ^ 32 - 1) → AreRefused series told now shape why
  faulty : (rows : List RowValue) → HaveEnded series told now rows (refused (suc series.place) why) → length rows < 2 ^ 32
      → NeedsAtMost shape (shape.writers * shape.nodes) (numbered_on 0 rows) → AreRefused series told now shape why

-- why there is no text
abbrev pub IsUntold : Series → Option (List File) → Option (List ℕ) → ShapeValue → Halt → Type 0
IsUntold series told now shape (halts.Refused why) = AreRefused series told now shape why
IsUntold series told now shape (halts.Stopped stop) = Unit {0}
