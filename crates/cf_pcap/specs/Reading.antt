-- What the parts of a reader do.
use Rattle.std.specs.Prelude.{◌≡◌, ◌⊎◌, ℕ, ◌+◌, ◌-◌, ◌<◌, ◌^◌, ◌==◌, if◌then◌else◌, List, ◌++◌, length, take, drop, Option, Some, None}
use Rattle.cf_pcap.specs.declared.limit.Length.{Length}
use Rattle.cf_pcap.specs.declared.limit.Length.TheVariants.{Limited, Any}
use Rattle.cf_pcap.specs.Limits.{first_of}
use Rattle.cf_pcap.specs.Format.{Bad, Takes, ReadsTo}
use Rattle.cf_pcap.specs.declared.form.FileHeader.{FileHeader}
use Rattle.cf_pcap.specs.declared.scope.Scope.{Scope}
use Rattle.cf_pcap.specs.declared.fault.PcapFault.{PcapFault}
use Rattle.cf_pcap.specs.declared.fault.PcapFault.TheVariants.{TooManyBytes}
use Rattle.cf_pcap.specs.declared.stage.Stage.{Stage}
use Rattle.cf_pcap.specs.declared.stage.Stage.TheVariants.{Running, Stopped}
use Rattle.cf_pcap.specs.Stages.{kept_at}
use Rattle.cf_pcap.specs.declared.taking.Place.{Place}
use Rattle.cf_pcap.specs.declared.taking.Reached.{Reached}
use Rattle.cf_pcap.specs.Capture.{FrameValue, HasRecord, caplen_at}
use Rattle.cf_pcap.specs.File.{State, step, pcap}

-- the state by its parts
abbrev pub state_of : Option FileHeader → ℕ → State
state_of header count = record { header = header; count = count }

-- the bytes are one lawful record of a file whose header was read
abbrev pub IsOneRecord : Option FileHeader → List ℕ → Type 0
IsOneRecord None bytes = ⊥
IsOneRecord (Some header) bytes = HasRecord header bytes × (16 + caplen_at header bytes ≡ length bytes)

-- the header and the records of some bytes were read, as far as they are whole
pub record AreRead (scope : Scope) (s : State) (bytes : List ℕ) (frames : List FrameValue) (t : State) (rest : List ℕ) : Type 0 where
  pub read : ReadsTo (pcap scope) s bytes frames t rest
  pub none : (n : ℕ) (more : List FrameValue) (u : State) → step scope t rest ≡ Takes n more u → ⊥

-- the fault that bytes show, if they show one
abbrev pub IsFaultAt : Scope → State → List ℕ → Option PcapFault → Type 0
IsFaultAt scope t bytes None = (fault : PcapFault) → step scope t bytes ≡ Bad fault → ⊥
IsFaultAt scope t bytes (Some fault) = step scope t bytes ≡ Bad fault

-- the bytes of a piece that are taken, where so many came before: those up to the one that makes a limited stream 2^32 bytes long
abbrev pub front_of : Length → ℕ → List ℕ → List ℕ
front_of length total piece = first_of length (2 ^ 32 - total) piece

-- 1 where the last of so many bytes comes too late for a frame
abbrev pub late_of : Length → ℕ → ℕ
late_of Limited total = if total == 2 ^ 32 then 1 else 0
late_of Any total = 0

-- the stage where this is left, of which `late` bytes come too late for a frame: a fault, or too many bytes
abbrev pub IsStageAfter : Scope → State → ℕ → List ℕ → Stage PcapFault → Type 0
IsStageAfter scope t late rest Running = (late ≡ 0) × IsFaultAt scope t rest None
IsStageAfter scope t late rest (Stopped fault) = IsFaultAt scope t rest (Some fault) ⊎ ((0 < late) × (fault ≡ TooManyBytes) × IsFaultAt scope t rest None)

-- bytes were read, of which the last `late` come too late for a frame; what is held then
pub record AreTaken (scope : Scope) (s : State) (late : ℕ) (bytes : List ℕ) (frames : List FrameValue) (t : State) (stage : Stage PcapFault)
    (held : List ℕ) : Type 0 where
  pub rest : List ℕ
  pub read : AreRead scope s (take (length bytes - late) bytes) frames t rest
  pub stage_is : IsStageAfter scope t late (rest ++ drop (length bytes - late) bytes) stage
  pub held_is : held ≡ kept_at stage rest

-- a reader took bytes at a place, of which the last `late` come too late for a frame: the frames that were given before, and with those of
-- the bytes, where it came to, and what is held then
abbrev pub IsTaken : Place → ℕ → List ℕ → List FrameValue → List FrameValue → Reached → List ℕ → Type 0
IsTaken place late bytes before after reached held = (frames : List FrameValue) × (after ≡ before ++ frames)
    × AreTaken place.scope (state_of place.header place.count) late bytes frames (state_of reached.header reached.count) reached.stage held
