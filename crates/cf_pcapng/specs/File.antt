-- Captures in the pcapng format, as whole files.
use Rattle.std.specs.Prelude.{ℕ, ◌+◌, nat_lt, if◌then◌else◌, is_some, List, [], ◌∷◌, ◌++◌, length, take, slice_range, Option, Some, None, Result, Ok, Err}
use Rattle.cf_pcap.specs.declared.scope.Scope.{Scope}
use Rattle.cf_pcap.specs.declared.form.Order.{Order}
use Rattle.cf_pcap.specs.Capture.{FrameValue}
use Rattle.cf_pcap.specs.declared.limit.Length.{Length}
use Rattle.cf_pcap.specs.Limits.{count_on, num_of}
use Rattle.cf_pcap.specs.Format.{Found, Wants, Bad, Takes, Format, IsWhole, HasFault}
use Rattle.cf_pcapng.specs.declared.fault.Flaw.{Flaw}
use Rattle.cf_pcapng.specs.declared.fault.Flaw.TheVariants.{BadMagic, BadVersion, BadLink, FrameTooLong, BadLength, NoInterface, TooManyInterfaces}
use Rattle.cf_pcapng.specs.declared.fault.NgFault.{NgFault}
use Rattle.cf_pcapng.specs.declared.fault.NgFault.TheVariants as faults
use Rattle.cf_pcapng.specs.declared.head.BlockHead.{BlockHead}
use Rattle.cf_pcapng.specs.declared.head.BlockHead.TheVariants.{Short, Flawed, Stands}
use Rattle.cf_pcapng.specs.declared.interfaces.Interface.{Interface}
use Rattle.cf_pcapng.specs.declared.content.Content.{Content}
use Rattle.cf_pcapng.specs.declared.content.Content.TheVariants.{NewSection, NewInterface, Captures, Nothing}
use Rattle.cf_pcapng.specs.Blocks.{head_of, content_of}

-- how far a file was read: the byte order of its section, if one has begun, the interfaces of that section, and how many
-- frames came
pub record State : Type 0 where
  pub order : Option Order
  pub interfaces : List Interface
  pub count : ℕ

-- a fault after k frames
abbrev pub fault_of : ℕ → Flaw → NgFault
fault_of k BadMagic = faults.BadMagic k
fault_of k BadVersion = faults.BadVersion k
fault_of k BadLink = faults.BadLink k
fault_of k FrameTooLong = faults.FrameTooLong k
fault_of k BadLength = faults.BadLength k
fault_of k NoInterface = faults.NoInterface k
fault_of k TooManyInterfaces = faults.TooManyInterfaces k

-- the frames that a block gives, numbered from k
abbrev pub frames_of : ℕ → Content → List ℕ → List FrameValue
frames_of k (NewSection order) block = []
frames_of k (NewInterface interface) block = []
frames_of k (Captures packet) block = record {
  num = k;
  ts = packet.ts;
  caplen = packet.caplen;
  len = packet.len;
  link = packet.link;
  bytes = slice_range block packet.begin (packet.begin + packet.caplen);
} ∷ []
frames_of k Nothing block = []

-- the state after a block. The interfaces of a section are numbered from 0.
abbrev pub after : Length → State → Content → State
after limit s (NewSection order) = record { order = Some order; interfaces = []; count = s.count }
after limit s (NewInterface interface) = record { order = s.order; interfaces = s.interfaces ++ interface ∷ []; count = s.count }
after limit s (Captures packet) = record { order = s.order; interfaces = s.interfaces; count = count_on limit s.count 1 }
after limit s Nothing = s

-- what a whole block gives, or its fault
abbrev pub block_found : Length → State → List ℕ → Result Content Flaw → Found State FrameValue NgFault
block_found limit s block (Ok content) = Takes (length block) (frames_of (num_of limit s.count) content block) (after limit s content)
block_found limit s block (Err flaw) = Bad (fault_of s.count flaw)

-- what the bytes at the front show, by their head
abbrev pub found_at : Scope → State → List ℕ → BlockHead → Found State FrameValue NgFault
found_at scope s bytes Short = Wants
found_at scope s bytes (Flawed flaw) = Bad (fault_of s.count flaw)
found_at scope s bytes (Stands order kind total) =
    if nat_lt (length bytes) total then Wants
    else block_found scope.length s (take total bytes) (content_of scope s.interfaces order kind (take total bytes))

-- what the bytes at the front show in a state: no whole block yet, a fault, or a block with its frames and the state after it
unfoldable pub step : Scope → State → List ℕ → Found State FrameValue NgFault
step scope s bytes = found_at scope s bytes (head_of s.order bytes)

-- pcapng: blocks end to end, the first of them a section header
abbrev pub pcapng : Scope → Format State FrameValue NgFault
pcapng scope = record {
  length = scope.length;
  start = record { order = None; interfaces = []; count = 0 };
  step = step scope;
  count = λ s. s.count;
  may_end = λ s. is_some s.order;
  cut = λ s. faults.Cut s.count;
  too_many = faults.TooManyBytes;
}

-- a file is a capture of these frames
abbrev pub IsNg : Scope → List ℕ → List FrameValue → Type 0
IsNg scope file frames = IsWhole (pcapng scope) file frames

-- why a file is no capture
abbrev pub HasNgFault : Scope → List ℕ → NgFault → Type 0
HasNgFault scope file fault = HasFault (pcapng scope) file fault
