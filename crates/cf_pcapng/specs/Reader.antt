-- What a reader's state says of the stream that led to it.
use Rattle.std.specs.Prelude.{◌≡◌, ℕ, ◌+◌, ◌<◌, ◌^◌, Bool, true, false, List, [], ◌∷◌, ◌++◌, length, Option, Some, None, Result}
use Rattle.cf_pcap.specs.declared.scope.Scope.{Scope}
use Rattle.cf_pcap.specs.Capture.{FrameValue}
use Rattle.cf_pcap.specs.Limits.{IsShort, IsTotal}
use Rattle.cf_pcap.specs.Streams.{Runs}
use Rattle.cf_pcap.specs.Streams as streams
use Rattle.cf_pcapng.specs.declared.fault.NgFault.{NgFault}
use Rattle.cf_pcapng.specs.declared.fault.NgFault.TheVariants.{TooManyBytes, Memory}
use Rattle.cf_pcapng.specs.declared.fault.Flaw.{Flaw}
use Rattle.cf_pcap.specs.declared.stage.Stage.{Stage}
use Rattle.cf_pcap.specs.declared.stage.Stage.TheVariants.{Running, Stopped}
use Rattle.cf_pcap.specs.Stages.{answer_at}
use Rattle.cf_pcap.specs.Stages as stages
use Rattle.cf_pcapng.specs.declared.passed.Passed.{Passed}
use Rattle.cf_pcapng.specs.declared.interfaces.Interface.{Interface}
use Rattle.cf_pcapng.specs.declared.position.Reached.{Reached}
use Rattle.cf_pcapng.specs.declared.reader.Called.{Called}
use Rattle.cf_pcapng.specs.File.{State, fault_of, pcapng}
use Rattle.cf_pcapng.specs.Position.{listed}
use Rattle.cf_pcapng.specs.Reading.{WasPassed, AreReadOn, KeepsLastField, FitsIn, AreFew}

-- a reader as contracts see it: the scope that it reads, how far it is, how many bytes it has had, and what it has of the block at hand
pub record PcapNgValue : Type 0 where
  pub scope : Scope
  pub stage : Stage NgFault
  pub total : ℕ
  pub state : State
  pub passed : Option Passed
  pub held : List ℕ

-- some blocks were read, and the bytes after them, those that were let go and those that are held, only begin one
pub record IsRunning (reader : PcapNgValue) (stream : List ℕ) : Type 0 where
  pub total_is : IsTotal reader.scope.length reader.total (length stream)
  pub gone : List ℕ
  pub was : WasPassed reader.state.order reader.passed gone
  pub runs : Runs (pcapng reader.scope) reader.state (gone ++ reader.held) stream

-- the reader's state is that after this stream
abbrev pub IsStateOf : PcapNgValue → List ℕ → Type 0
IsStateOf reader stream = stages.IsAt (pcapng reader.scope) stream reader.stage (IsRunning reader stream)

-- what a call that takes one more piece gives and answers
abbrev pub IsFed : List ℕ → List ℕ → List FrameValue → Result (Unit {0}) NgFault → PcapNgValue → Type 0
IsFed stream piece given answer reader = streams.IsFed (pcapng reader.scope) stream piece given answer (IsStateOf reader)

-- a reader that has found a fault answers it, and no want of memory
abbrev pub AnswersFound : PcapNgValue → Result (Unit {0}) NgFault → Type 0
AnswersFound reader answer = stages.AnswersFound (pcapng reader.scope) (IsStateOf reader) answer

-- what the end of the stream answers: the number of a capture's frames, or the fault
abbrev pub IsEnded : Scope → List ℕ → Result ℕ NgFault → Type 0
IsEnded scope stream answer = streams.IsEnded (pcapng scope) stream answer

-- what holds of every reader: its bytes and frames fit, it holds less than a block, and want of memory doesn't stop it
abbrev pub IsSoundAt : Stage NgFault → PcapNgValue → Type 0
IsSoundAt stage reader = stages.IsSoundAt Memory reader.held stage
    (IsShort reader.scope.length reader.total
    × FitsIn reader.scope.length (reader.state.count + length reader.held) reader.total × (length reader.held < 2 ^ 20) × KeepsLastField reader.passed)

-- what holds of every reader, whatever its stage: that, and its section has few interfaces
abbrev pub IsSound : PcapNgValue → Type 0
IsSound reader = IsSoundAt reader.stage reader × AreFew reader.scope.length reader.state.interfaces

-- the state that a piece brings a reader to, which had these interfaces
abbrev pub state_after : List Interface → Reached → State
state_after had reached = record { order = reached.order; interfaces = listed had reached.anew reached.came.items; count = reached.count }

-- the reader that a call comes to
abbrev pub reader_after : PcapNgValue → Called → PcapNgValue
reader_after before called = record {
  scope = before.scope;
  stage = called.stage;
  total = called.total;
  state = state_after before.state.interfaces called.reached;
  passed = called.passed;
  held = called.held.items;
}

-- a call took a piece: what it gave, and the reader after it, whatever stream led to the reader before
abbrev pub IsCalled : PcapNgValue → List ℕ → List FrameValue → PcapNgValue → Type 0
IsCalled before piece given reader =
    IsSound reader × ((stream : List ℕ) → IsRunning before stream → IsFed stream piece given (answer_at reader.stage) reader)

-- a piece within a block that is read was kept, or, where it doesn't lie so, nothing was done
abbrev pub IsKept : Bool → PcapNgValue → List ℕ → PcapNgValue → Type 0
IsKept true before piece after = IsCalled before piece [] after × (after.stage ≡ Running) × (after.scope ≡ before.scope)
IsKept false before piece after = after ≡ before

-- what one more byte shows that comes too late for a frame: a flaw, or that there are too many bytes
abbrev pub ShowsLate : Option Flaw → State → NgFault → Type 0
ShowsLate None t fault = fault ≡ TooManyBytes
ShowsLate (Some flaw) t fault = fault ≡ fault_of t.count flaw

-- the stage where a byte comes that makes the stream 2^32 bytes long
pub record IsStageAtLimit (scope : Scope) (s : State) (passed : Option Passed) (held byte : List ℕ) (stage : Stage NgFault) : Type 0 where
  pub fault : NgFault
  pub stage_is : stage ≡ Stopped fault
  pub flaw : Option Flaw
  pub last : State
  pub shows : ShowsLate flaw last fault
  pub read : (gone : List ℕ) → WasPassed s.order passed gone → (frames : List FrameValue) × (block : Option Passed) × (rest : List ℕ)
      × AreReadOn scope s (gone ++ (held ++ byte)) frames last block rest flaw

-- the stage after the bytes that came early enough, where `late` come late
abbrev pub IsStageAfter : Scope → State → Option Passed → List ℕ → Option Flaw → List ℕ → Stage NgFault → Type 0
IsStageAfter scope s passed held (Some flaw) late stage = stage ≡ Stopped (fault_of s.count flaw)
IsStageAfter scope s passed held None [] stage = stage ≡ Running
IsStageAfter scope s passed held None (byte ∷ late) stage = IsStageAtLimit scope s passed held (byte ∷ []) stage
