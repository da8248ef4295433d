-- What a reader's state says of the stream that led to it, and what it gives and answers, however the stream is cut.
use Rattle.std.specs.Prelude.{ℕ, ◌+◌, ◌*◌, ◌≤◌, List, length, Result}
use Rattle.cf_pcap.specs.declared.limit.Length.{Length}
use Rattle.cf_pcap.specs.declared.limit.Length.TheVariants.{Limited, Any}
use Rattle.cf_pcap.specs.Limits.{IsShort, IsTotal}
use Rattle.cf_pcap.specs.Format as formats
use Rattle.cf_pcap.specs.Streams.{Runs}
use Rattle.cf_pcap.specs.Streams as streams
use Rattle.cf_pcap.specs.declared.scope.Scope.{Scope}
use Rattle.cf_pcap.specs.declared.fault.PcapFault.{PcapFault}
use Rattle.cf_pcap.specs.declared.fault.PcapFault.TheVariants.{Memory}
use Rattle.cf_pcap.specs.declared.stage.Stage.{Stage}
use Rattle.cf_pcap.specs.Stages as stages
use Rattle.cf_pcap.specs.Capture.{FrameValue}
use Rattle.cf_pcap.specs.File.{State, pcap}

-- a fault that the stream shows by its place, before its end is known
abbrev pub IsFound : Scope → List ℕ → PcapFault → Type 0
IsFound scope stream fault = formats.IsFound (pcap scope) stream fault

-- the frames whose last byte lies in the stream and before any fault
abbrev pub AreGiven : Scope → List ℕ → List FrameValue → Type 0
AreGiven scope stream frames = streams.AreGiven (pcap scope) stream frames

-- a reader as contracts see it: the scope that it reads, whether it runs, the count of the bytes it has had, how far these were read, and the bytes of a
-- file header or a record that has only begun
pub record PcapValue : Type 0 where
  pub scope : Scope
  pub stage : Stage PcapFault
  pub total : ℕ
  pub state : State
  pub held : List ℕ

-- the file header and some records were read, and the bytes after them are only the begin of one
pub record IsRunning (reader : PcapValue) (stream : List ℕ) : Type 0 where
  pub total_is : IsTotal reader.scope.length reader.total (length stream)
  pub runs : Runs (pcap reader.scope) reader.state reader.held stream

-- the reader's state is that after this stream
abbrev pub IsStateOf : PcapValue → List ℕ → Type 0
IsStateOf reader stream = stages.IsAt (pcap reader.scope) stream reader.stage (IsRunning reader stream)

-- what a call that takes one more piece gives and answers
abbrev pub IsFed : List ℕ → List ℕ → List FrameValue → Result (Unit {0}) PcapFault → PcapValue → Type 0
IsFed stream piece given answer reader = streams.IsFed (pcap reader.scope) stream piece given answer (IsStateOf reader)

-- a reader that has found a fault answers it, and no want of memory
abbrev pub AnswersFound : PcapValue → Result (Unit {0}) PcapFault → Type 0
AnswersFound reader answer = stages.AnswersFound (pcap reader.scope) (IsStateOf reader) answer

-- what the end of the stream answers: the number of a capture's frames, or the fault
abbrev pub IsEnded : Scope → List ℕ → Result ℕ PcapFault → Type 0
IsEnded scope stream answer = streams.IsEnded (pcap scope) stream answer

-- so many bytes have the records of so many frames, and those that are held. Where any number may come, they are not counted.
abbrev pub IsCounted : Length → ℕ → ℕ → ℕ → Type 0
IsCounted Limited total frames held = 16 * frames + held ≤ total
IsCounted Any total frames held = Unit {0}

-- what holds of every reader: its bytes and frames fit, it holds less than a record, and want of memory doesn't stop it
abbrev pub IsSoundAt : Stage PcapFault → PcapValue → Type 0
IsSoundAt stage reader = stages.IsSoundAt Memory reader.held stage
    (IsShort reader.scope.length reader.total
    × IsCounted reader.scope.length reader.total reader.state.count (length reader.held) × (length reader.held ≤ 262159))

-- what holds of every reader, whatever its stage
abbrev pub IsSound : PcapValue → Type 0
IsSound reader = IsSoundAt reader.stage reader
