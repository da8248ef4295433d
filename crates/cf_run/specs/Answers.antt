-- What the program's status says of what it wrote, of the seals of its log's segments, and of what it left of the opened file.
use Rattle.std.specs.Prelude.{◌≡◌, ◌⊎◌, ◌≤◌, ℕ, List, [], length, Some, None, Option}
use Rattle.std.specs.Io.KnownBytes.{Appends, Keeps}
use Rattle.cf_command.specs.declared.words.LogSizes.{LogSizes}
use Rattle.cf_command.specs.Call.{Call, WatchCall}
use Rattle.cf_command.specs.Call.Call.{run, synth, dump, snapshot, watch, long}
use Rattle.cf_outside.specs.Files.{File}
use Rattle.cf_table.specs.Moves.{SealValue}
use Rattle.cf_intake.specs.Devices.{WritesFront}
use Rattle.cf_run.specs.Due.{IsDue, StopsAt}
use Rattle.cf_run.specs.Refusals.{stop_status}
use Rattle.cf_run.specs.Watched.{IsWatched}
use Rattle.cf_intake.specs.declared.refusal.Stop.{Stop}
use Rattle.cf_run.specs.declared.status.Status.{Status}
use Rattle.cf_run.specs.declared.status.Status.TheVariants.{Done, Words, Setup, Capture, ReadFault, WriteFault, Full, Nodes, Memory, NoFile}

-- the number of a status, with which the program ends
abbrev pub number_of : Status → ℕ
number_of Done = 0
number_of Words = 1
number_of (Setup line code) = 2
number_of (Capture at code) = 3
number_of ReadFault = 4
number_of WriteFault = 5
number_of Full = 6
number_of Nodes = 7
number_of Memory = 8
number_of NoFile = 9

-- the answers that the words and files don't decide
abbrev pub Yields : Status → Type 0
Yields status = (status ≡ Memory) ⊎ (status ≡ ReadFault) ⊎ (status ≡ WriteFault)

-- What is written, from what the sink held to what it holds, with the seals, and from what was left of the opened file to what is. The
-- text that is due is written whole. Or the sink failed after a front of it: nothing is written before all was read. Or the work was
-- stopped before its end, and nothing is written. Or a capture was followed, and what its rounds say was written read by read.
pub data RunAnswers (told : Option (List File)) (call : Option Call) (status : Status) (seals : List SealValue)
    (held now before after : Option (List ℕ)) : Type 0 where
  wrote : (text : List ℕ) → IsDue told call before after status text seals → Appends held now text → RunAnswers told call status seals held now before after
  cut : (due : Status) (text : List ℕ) (owed : List SealValue) → status ≡ WriteFault → seals ≡ [] → IsDue told call before after due text owed
      → WritesFront held now text → RunAnswers told call status seals held now before after
  stopped : (stop : Stop) → status ≡ stop_status stop → seals ≡ [] → StopsAt told call stop before after → Keeps held now
      → RunAnswers told call status seals held now before after
  watched : (watching : WatchCall) → call ≡ Some (watch watching) → seals ≡ [] → IsWatched told watching status held now after
      → RunAnswers told call status seals held now before after

-- The threads decide between these two where the rows of some segment need more different nodes than one writer has in it, and those of
-- none more than all: then both are called for.
abbrev pub AreBetween : Status → Status → Type 0
AreBetween one other = ((one ≡ Done) × (other ≡ Nodes)) ⊎ ((one ≡ Nodes) × (other ≡ Done))

-- They decide so too about captures of any length, where a lack of nodes shows before the line of a refusal.
abbrev pub MayLackNodes : Option Call → Status → Status → Type 0
MayLackNodes None one other = ⊥
MayLackNodes (Some (run call)) one other = ⊥
MayLackNodes (Some (synth call)) one other = ⊥
MayLackNodes (Some (dump call)) one other = ⊥
MayLackNodes (Some (snapshot call)) one other = ⊥
MayLackNodes (Some (watch call)) one other = ⊥
MayLackNodes (Some (long call)) one other = (one ≡ Nodes) ⊎ (other ≡ Nodes)

-- whatever the call and the files call for comes, unless memory ran out or a device failed
abbrev pub IsDecided : List File → Option Call → Status → Type 0
IsDecided files call status = (before after : Option (List ℕ)) (due : Status) (text : List ℕ) (seals : List SealValue)
    → IsDue (Some files) call before after due text seals → (status ≡ due) ⊎ Yields status ⊎ AreBetween status due ⊎ MayLackNodes call status due

-- a seal for each segment that was opened: one at least, and no more than the log may have
abbrev pub HasSeals : LogSizes → List SealValue → Type 0
HasSeals sizes seals = (1 ≤ length seals) × (length seals ≤ sizes.segments)

-- What the call alone says of a status and of the seals, whatever the files are. Only words that are no command come to that status. A
-- synth opens no capture, and a dump has no setup and no log. A run or a synth that was done has a seal for each segment of its log, and a
-- dump, a snapshot, a watch and a run over captures of any length have none.
abbrev pub IsByCall : Option Call → Status → List SealValue → Type 0
IsByCall None status seals = (status ≡ Words) ⊎ (status ≡ Memory) ⊎ (status ≡ WriteFault)
IsByCall (Some (run call)) status seals = (status ≡ Words → ⊥) × (status ≡ Done → HasSeals call.sizes seals)
IsByCall (Some (synth call)) status seals = (status ≡ Words → ⊥) × ((at code : ℕ) → status ≡ Capture at code → ⊥) × (status ≡ Done → HasSeals call.sizes seals)
IsByCall (Some (dump call)) status seals = (status ≡ Words → ⊥) × ((line code : ℕ) → status ≡ Setup line code → ⊥) × (status ≡ Full → ⊥)
    × (status ≡ Nodes → ⊥) × (seals ≡ [])
IsByCall (Some (snapshot call)) status seals = (status ≡ Words → ⊥) × (seals ≡ [])
IsByCall (Some (watch call)) status seals = (status ≡ Words → ⊥) × (seals ≡ [])
IsByCall (Some (long call)) status seals = (status ≡ Words → ⊥) × (seals ≡ [])
