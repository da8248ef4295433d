-- How far readers of logs that stand one behind the other look, and what they find up to there.
use Rattle.std.specs.Prelude.{◌≡◌, ℕ, ◌+◌, ◌*◌, ◌<◌, ◌≤◌, ◌^◌, zero, suc, false, List, [], ◌∷◌, ◌++◌, length, slice_get, Some, None, Result, Ok, Err, Vec}
use Rattle.std.specs.List.{AllZip}
use Rattle.std.specs.Arc.{arc_value}
use Rattle.std.specs.Global.{Global}
use Rattle.std.specs.declared.alloc.AllocError.{AllocError}
use Rattle.cf_row.specs.declared.row.Entry.{Entry}
use Rattle.cf_table.specs.Values.{PassValue}
use Rattle.cf_table.specs.Moves.{IsReading}
use Rattle.cf_query.specs.Walks.{OnlyWalked}
use Rattle.cf_plain.specs.Asks.{eval}
use Rattle.cf_plain.specs.declared.ask.Ask.TheVariants as asks
use Rattle.cf_store.specs.Asks.{AsksTail, IsMeasured, Keeps}
use Rattle.cf_store.specs.Reports.{HasWalked}
use Rattle.cf_store.specs.Seen.{seen_text}
use Rattle.cf_store.specs.Spans.{AllLike, IsAnswerOn, IsLast, passes_of, seen_each, seen_in}
use Rattle.cf_store.specs.declared.held.Shared.{Shared}
use Rattle.cf_store.specs.declared.held.Reader.{Reader}
use Rattle.cf_store.specs.declared.reader.Told.{Told}
use Rattle.cf_store.specs.declared.shown.Head.{Head}
use Rattle.cf_store.specs.declared.refusals.AskRefusal.{AskRefusal}
use Rattle.cf_store.specs.declared.refusals.AskRefusal.TheVariants.{NoQuestion, Memory}
use Rattle.cf_store.specs.declared.refusals.LaneRefusal.{LaneRefusal}
use Rattle.cf_store.specs.declared.refusals.LaneRefusal.TheVariants as lanes

-- what is seen of the first log and of so many behind it
abbrev pub seen_upto : PassValue → List Reader → ℕ → List Entry
seen_upto first others zero = (first.view).seen
seen_upto first [] (suc n) = (first.view).seen
seen_upto first (reader ∷ others) (suc n) = (first.view).seen ++ seen_upto reader.pass others n

-- what the readers see
abbrev pub seen_of : Shared → PassValue → List Reader → List Entry
seen_of shared first others = seen_in shared.log.shape.capacity (seen_each (first ∷ passes_of others))

-- the pass reads the log, and the other readers those behind it, which are like it and take at most 2^20 records together with it
pub record AreBehind (shared : Shared) (first : PassValue) (others : List Reader) : Type 0 where
  pub reading : IsReading shared.log first
  pub like : AllLike shared others
  pub few : (length others + 1) * shared.log.shape.capacity ≤ 2 ^ 20

-- the reader's pass only walked its log
pub record Walks (before after : Reader) : Type 0 where
  pub of : after.of ≡ before.of
  pub walked : OnlyWalked before.pass after.pass

-- the pass and the readers only walked
abbrev pub AllWalked : PassValue → PassValue → List Reader → List Reader → Type 0
AllWalked before after others others_after = OnlyWalked before after × AllZip Walks others others_after

-- a reader and those behind it walked their logs, and it keeps its words
pub record HaveWalkedOn (m n : Reader) (ms ns : List Reader) : Type 0 where
  pub first : HasWalked m n
  pub others : AllZip Walks ms ns

-- So many of the other logs were asked for their tails, up to the last that is looked at then.
pub record AsksOthers (capacity : ℕ) (first : PassValue) (before after : List Reader) (last : ℕ) : Type 0 where
  pub is_last : IsLast capacity (seen_each (first ∷ passes_of after)) last
  pub asked : (k : ℕ) (m n : Reader) → k < last → slice_get before k ≡ Some m → slice_get after k ≡ Some n → AsksTail m n (length (n.pass.view).seen)
  pub others : (k : ℕ) → last ≤ k → slice_get after k ≡ slice_get before k

-- What asking a question of the setup of what the readers see answers.
abbrev pub TellsSeen : Shared → ℕ → PassValue → PassValue → List Reader → List Reader → Result Told AskRefusal → Type 0
TellsSeen shared question m n ms ns (Ok told) =
    AllWalked m n ms ns × IsAnswerOn shared.setup shared.log.shape (seen_of shared m ms) question told
TellsSeen shared question m n ms ns (Err NoQuestion) = (n ≡ m) × (ns ≡ ms) × (slice_get shared.setup.asks question ≡ None)
TellsSeen shared question m n ms ns (Err Memory) = AllWalked m n ms ns

-- The same of a reader and those behind it. It keeps the words of the answer; refused, those that it had.
abbrev pub AsksWith : ℕ → Reader → Reader → List Reader → List Reader → Result Head AskRefusal → Type 0
AsksWith question m n ms ns r = Keeps (λ before after told. TellsSeen (arc_value m.of) question before after ms ns told) m n r

-- What telling the groups of a lane answers, in what the readers see.
abbrev pub TellsGroupsSeen : Shared → ℕ → PassValue → PassValue → List Reader → List Reader → Result Told LaneRefusal → Type 0
TellsGroupsSeen shared lane m n ms ns (Ok told) = AllWalked m n ms ns × IsMeasured shared lane × (told.answer.tail ≡ length (seen_of shared m ms))
    × (told.answer.body ≡ eval shared.log.shape (asks.Groups lane) (seen_of shared m ms)) × (told.keyed ≡ false)
TellsGroupsSeen shared lane m n ms ns (Err lanes.NoLane) = (n ≡ m) × (ns ≡ ms) × (IsMeasured shared lane → ⊥)
TellsGroupsSeen shared lane m n ms ns (Err lanes.Memory) = AllWalked m n ms ns

-- The same of a reader and those behind it. It keeps the words of the groups; refused, those that it had.
abbrev pub GroupsWith : ℕ → Reader → Reader → List Reader → List Reader → Result Head LaneRefusal → Type 0
GroupsWith lane m n ms ns r = Keeps (λ before after told. TellsGroupsSeen (arc_value m.of) lane before after ms ns told) m n r

-- The text of the report of what the readers see; or there was no memory. They keep their words.
abbrev pub ReportsWith : Reader → Reader → List Reader → List Reader → Result (Vec ℕ Global) AllocError → Type 0
ReportsWith m n ms ns (Ok text) = HaveWalkedOn m n ms ns
    × (text.items ≡ seen_text (arc_value m.of).log.shape (arc_value m.of).setup (seen_of (arc_value m.of) m.pass ms))
ReportsWith m n ms ns (Err e) = HaveWalkedOn m n ms ns
