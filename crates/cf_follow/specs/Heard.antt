-- What the parts of following say.
use Rattle.std.specs.Prelude.{◌≡◌, ◌⊎◌, ℕ, ◌≤◌, Bool, true, false, List, [], ◌∷◌, ◌++◌, length, Option, Some, None, Result, Ok, Err}
use Rattle.std.specs.Io.KnownBytes.{Appends, Keeps}
use Rattle.cf_row.specs.Row.{RowValue}
use Rattle.cf_intake.specs.Devices.{WritesFront}
use Rattle.cf_intake.specs.Refusals.{line_of}
use Rattle.cf_intake.specs.declared.refusal.Refusal.{Refusal}
use Rattle.cf_intake.specs.declared.refusal.Stop.TheVariants as stops
use Rattle.cf_rounds.specs.Held.{IsAt, RoundsValue}
use Rattle.cf_rounds.specs.Lines.{end_text}
use Rattle.cf_rounds.specs.Streams.{Stream, after_round, forces, halted_text, round_text, through, view_of, with_round}
use Rattle.cf_follow.specs.Followed.{AreTakenFrom, HasSaidBefore, IsTurnedAway, WritesPast, truncated_line}
use Rattle.cf_follow.specs.declared.ending.Ending.{Ending}
use Rattle.cf_follow.specs.declared.ending.Ending.TheVariants.{Done, Refused, Stopped, Unwritten}

-- the rounds after a round, which may be the last of all
abbrev pub with_made : Bool → RoundsValue → RoundsValue
with_made is_last old = record old { now = after_round old.terms is_last old.now }

-- what a round writes, which may be the last of all, and a line behind it
abbrev pub said_by : Bool → RoundsValue → List ℕ → List ℕ
said_by is_last old line = round_text old.terms is_last old.now ++ line

-- A round was made, and what it says is written, and then a line.
abbrev pub TellsRound : Bool → RoundsValue → List ℕ → RoundsValue → (held kept : Option (List ℕ)) → Result (Unit {0}) Ending → Type 0
TellsRound is_last old line new held kept (Ok done) = (new ≡ with_made is_last old) × Appends held kept (said_by is_last old line)
TellsRound is_last old line new held kept (Err Done) = ⊥
TellsRound is_last old line new held kept (Err (Refused why)) = ⊥
TellsRound is_last old line new held kept (Err (Stopped stops.ReadFault)) = ⊥
TellsRound is_last old line new held kept (Err (Stopped stops.Memory)) = Keeps held kept
TellsRound is_last old line new held kept (Err Unwritten) = WritesFront held kept (said_by is_last old line)

-- The last round was made, which ends with a refusal.
abbrev pub Refuses : RoundsValue → Refusal → (held kept : Option (List ℕ)) → Ending → Type 0
Refuses old why held kept Done = ⊥
Refuses old why held kept (Refused other) = (other ≡ why) × Appends held kept (said_by true old (line_of why))
Refuses old why held kept (Stopped stops.ReadFault) = ⊥
Refuses old why held kept (Stopped stops.Memory) = Keeps held kept
Refuses old why held kept Unwritten = WritesFront held kept (said_by true old (line_of why))

-- The same of no line, where the shelf failed.
abbrev pub StopsAfterRound : RoundsValue → (held kept : Option (List ℕ)) → Ending → Type 0
StopsAfterRound old held kept Done = ⊥
StopsAfterRound old held kept (Refused why) = ⊥
StopsAfterRound old held kept (Stopped stops.ReadFault) = Appends held kept (said_by true old [])
StopsAfterRound old held kept (Stopped stops.Memory) = Keeps held kept
StopsAfterRound old held kept Unwritten = WritesFront held kept (said_by true old [])

-- After these records the stream is there, and what its rounds have said is written, from what the sink held first.
pub record IsHere (rounds : RoundsValue) (come : List RowValue) (stream : Stream) (first held : Option (List ℕ)) : Type 0 where
  pub at : IsAt rounds come stream
  pub written : Appends first held stream.text

-- behind the records that came, these were taken
abbrev pub AreTakenBehind : RoundsValue → List RowValue → Stream → List RowValue → Type 0
AreTakenBehind old come stream rows =
    (length (come ++ rows) ≤ old.limit) × AreTakenFrom (old.terms).shape (old.terms).most (stream.now).segments rows

-- All rows have gone in, wherever the stream was.
abbrev pub HaveAllGone : RoundsValue → List RowValue → (held : Option (List ℕ)) → RoundsValue → (kept : Option (List ℕ)) → Type 0
HaveAllGone old rows held new kept =
    (come : List RowValue) (stream : Stream) (first : Option (List ℕ)) → IsHere old come stream first held
    → IsHere new (come ++ rows) (through old.terms stream rows) first kept × AreTakenBehind old come stream rows

-- Those before one that is turned away have gone in.
pub record HavePartGone (old : RoundsValue) (rows : List RowValue) (held : Option (List ℕ)) (new : RoundsValue) (kept : Option (List ℕ))
    (why : Refusal) : Type 0 where
  pub front : List RowValue
  pub rest : List RowValue
  pub row : RowValue
  pub rows_are : rows ≡ front ++ row ∷ rest
  pub gone : HaveAllGone old front held new kept
  pub turned : (come : List RowValue) (stream : Stream) (first : Option (List ℕ)) → IsHere old come stream first held → IsTurnedAway old (come ++ front) row why

-- How a stream ends among some records: one is turned away, and its line is written; or the sink failed, within that or within what a round
-- said that a record forced; or memory ran out.
pub data EndsAmong (old : RoundsValue) (rows come : List RowValue) (stream : Stream) (first kept : Option (List ℕ)) (ending : Ending) : Type 0 where
  turned : (front rest : List RowValue) (row : RowValue) (why : Refusal) → rows ≡ front ++ row ∷ rest → AreTakenBehind old come stream front
      → IsTurnedAway old (come ++ front) row why → ending ≡ Refused why
      → Appends first kept (halted_text old.terms (through old.terms stream front) (line_of why)) → EndsAmong old rows come stream first kept ending
  turned_cut : (front rest : List RowValue) (row : RowValue) (why : Refusal) → rows ≡ front ++ row ∷ rest → AreTakenBehind old come stream front
      → IsTurnedAway old (come ++ front) row why → ending ≡ Unwritten
      → WritesPast first kept (through old.terms stream front).text (halted_text old.terms (through old.terms stream front) (line_of why))
      → EndsAmong old rows come stream first kept ending
  forced_cut : (front rest : List RowValue) (row : RowValue) → rows ≡ front ++ row ∷ rest → AreTakenBehind old come stream front
      → forces old.terms (through old.terms stream front).now row ≡ true → ending ≡ Unwritten
      → WritesPast first kept (through old.terms stream front).text (with_round old.terms false (through old.terms stream front)).text
      → EndsAmong old rows come stream first kept ending
  lost : (front rest : List RowValue) (said : List ℕ) → rows ≡ front ++ rest → AreTakenBehind old come stream front → ending ≡ Stopped stops.Memory
      → HasSaidBefore old.terms (through old.terms stream front) rest said → Appends first kept said → EndsAmong old rows come stream first kept ending

-- so it does, wherever the stream was
abbrev pub HaveEndedAmong : RoundsValue → List RowValue → (held kept : Option (List ℕ)) → Ending → Type 0
HaveEndedAmong old rows held kept ending =
    (come : List RowValue) (stream : Stream) (first : Option (List ℕ)) → IsHere old come stream first held → EndsAmong old rows come stream first kept ending

-- what came of some rows
abbrev pub HaveGone : RoundsValue → List RowValue → (held : Option (List ℕ)) → RoundsValue → (kept : Option (List ℕ)) → Result (Option Refusal) Ending → Type 0
HaveGone old rows held new kept (Ok None) = HaveAllGone old rows held new kept
HaveGone old rows held new kept (Ok (Some why)) = HavePartGone old rows held new kept why
HaveGone old rows held new kept (Err ending) = HaveEndedAmong old rows held kept ending

-- How it ends at the records of a read: among them, or as the sink failed within what the round said behind them all.
abbrev pub EndsAtRead : RoundsValue → (rows come : List RowValue) → Stream → (first kept : Option (List ℕ)) → Ending → Type 0
EndsAtRead old rows come stream first kept ending =
    EndsAmong old rows come stream first kept ending
    ⊎ (AreTakenBehind old come stream rows × (ending ≡ Unwritten)
    × WritesPast first kept (through old.terms stream rows).text (with_round old.terms false (through old.terms stream rows)).text)

-- what is written of the rows of a read: they go in, and a round comes; or the stream ends among them
abbrev pub Hears : RoundsValue → List RowValue → (held : Option (List ℕ)) → RoundsValue → (kept : Option (List ℕ)) → Result (Unit {0}) Ending → Type 0
Hears old rows held new kept (Ok done) =
    (come : List RowValue) (stream : Stream) (first : Option (List ℕ)) → IsHere old come stream first held
    → IsHere new (come ++ rows) (with_round old.terms false (through old.terms stream rows)) first kept × AreTakenBehind old come stream rows
Hears old rows held new kept (Err ending) =
    (come : List RowValue) (stream : Stream) (first : Option (List ℕ)) → IsHere old come stream first held → EndsAtRead old rows come stream first kept ending

-- what the end says, and the line of a capture that may be truncated
abbrev pub ended_text : RoundsValue → Option ℕ → List ℕ
ended_text old cut =
    (round_text old.terms true old.now ++ end_text (old.terms).shape (old.terms).setup (view_of (after_round old.terms true old.now))) ++ truncated_line cut

-- the end of a capture is written
abbrev pub Concludes : RoundsValue → Option ℕ → (held kept : Option (List ℕ)) → Ending → Type 0
Concludes old cut held kept Done = Appends held kept (ended_text old cut)
Concludes old cut held kept (Refused why) = ⊥
Concludes old cut held kept (Stopped stops.ReadFault) = ⊥
Concludes old cut held kept (Stopped stops.Memory) = Keeps held kept
Concludes old cut held kept Unwritten = WritesFront held kept (ended_text old cut)
