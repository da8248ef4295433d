-- What the parts of a reader do.
use Rattle.std.specs.Prelude.{◌≡◌, ℕ, ◌+◌, ◌-◌, ◌≤◌, ◌<◌, ◌^◌, nat_lt, if◌then◌else◌, List, [], ◌∷◌, ◌++◌, length, take, drop, Option, Some, None, Result, Ok, Err}
use Rattle.cf_pcap.specs.declared.scope.Scope.{Scope}
use Rattle.cf_pcap.specs.declared.limit.Length.{Length}
use Rattle.cf_pcap.specs.declared.limit.Length.TheVariants.{Limited, Any}
use Rattle.cf_pcap.specs.Limits.{HasRoom, first_of, others_of}
use Rattle.cf_pcap.specs.declared.form.Order.{Order}
use Rattle.cf_pcap.specs.Capture.{FrameValue, number_in}
use Rattle.cf_pcap.specs.Format.{Wants, Bad, ReadsTo}
use Rattle.cf_pcapng.specs.declared.fault.Flaw.{Flaw}
use Rattle.cf_pcapng.specs.declared.head.BlockKind.{BlockKind}
use Rattle.cf_pcapng.specs.declared.head.BlockKind.TheVariants.{SectionHeader, InterfaceDescription, EnhancedPacket, SimplePacket, Other}
use Rattle.cf_pcapng.specs.declared.head.BlockHead.{BlockHead}
use Rattle.cf_pcapng.specs.declared.head.BlockHead.TheVariants.{Short, Flawed, Stands}
use Rattle.cf_pcapng.specs.declared.interfaces.Interface.{Interface}
use Rattle.cf_pcapng.specs.declared.content.Content.{Content}
use Rattle.cf_pcapng.specs.declared.content.Content.TheVariants.{NewSection, NewInterface, Captures, Nothing}
use Rattle.cf_pcapng.specs.declared.blocks.Next.{Next}
use Rattle.cf_pcapng.specs.declared.blocks.Next.TheVariants as next
use Rattle.cf_pcapng.specs.declared.passed.Passed.{Passed}
use Rattle.cf_pcapng.specs.declared.passed.Resumed.{Resumed}
use Rattle.cf_pcapng.specs.declared.passed.Resumed.TheVariants as resumed
use Rattle.cf_pcapng.specs.declared.blocks.BlocksRead.{BlocksRead}
use Rattle.cf_pcapng.specs.declared.passed.StreamRead.{StreamRead}
use Rattle.cf_pcapng.specs.Position.{state_of}
use Rattle.cf_pcapng.specs.Blocks.{head_of, content_of}
use Rattle.cf_pcapng.specs.File.{State, fault_of, pcapng}

-- the bytes of a packet lie in its block
abbrev pub LiesIn : ℕ → Content → Type 0
LiesIn size (NewSection order) = Unit {0}
LiesIn size (NewInterface interface) = Unit {0}
LiesIn size (Captures packet) = packet.begin + packet.caplen ≤ size
LiesIn size Nothing = Unit {0}

-- the block at the front, before anything of it is taken
abbrev pub block_next : ℕ → Result Content Flaw → Next
block_next total (Ok content) = next.Block total content
block_next total (Err flaw) = next.Flawed flaw

-- what stands at the front, by its head, in a section with these interfaces: no whole block yet, a flaw or a block
abbrev pub next_at : Scope → List Interface → List ℕ → BlockHead → Next
next_at scope interfaces bytes Short = next.Wants
next_at scope interfaces bytes (Flawed flaw) = next.Flawed flaw
next_at scope interfaces bytes (Stands order kind total) =
    if nat_lt (length bytes) total then next.Wants else block_next total (content_of scope interfaces order kind (take total bytes))

-- what stands at the front in a state: no whole block yet, a flaw, or a block with its total length and what it states
unfoldable pub next_of : Scope → State → List ℕ → Next
next_of scope s bytes = next_at scope s.interfaces bytes (head_of s.order bytes)

-- a block at the front has so many bytes, and a packet's bytes lie in it
abbrev pub IsNextIn : ℕ → Next → Type 0
IsNextIn size next.Wants = Unit {0}
IsNextIn size (next.Flawed flaw) = Unit {0}
IsNextIn size (next.Block total content) = (12 ≤ total) × (total ≤ size) × LiesIn total content

-- what stands where the whole blocks end
abbrev pub IsEnd : Scope → State → List ℕ → Option Flaw → Type 0
IsEnd scope t rest None = (pcapng scope).step t rest ≡ Wants
IsEnd scope t rest (Some flaw) = (pcapng scope).step t rest ≡ Bad (fault_of t.count flaw)

-- the blocks at the front were read, up to the begin of one or a flaw
pub record AreRead (scope : Scope) (s : State) (bytes : List ℕ) (frames : List FrameValue) (t : State) (rest : List ℕ) (flaw : Option Flaw) : Type 0 where
  pub read : ReadsTo (pcapng scope) s bytes frames t rest
  pub end : IsEnd scope t rest flaw

-- the blocks at the front were read after these frames, to which theirs were added
pub record AreReadAfter (scope : Scope) (s : State) (bytes : List ℕ) (before frames : List FrameValue) (t : State) (rest : List ℕ)
    (flaw : Option Flaw) : Type 0 where
  pub more : List FrameValue
  pub frames_are : frames ≡ before ++ more
  pub read : AreRead scope s bytes more t rest flaw

-- bytes of a block at hand that is only passed over, which were let go
abbrev pub WasPassed : Option Order → Option Passed → List ℕ → Type 0
WasPassed order None gone = gone ≡ []
WasPassed order (Some block) gone =
    (head_of order gone ≡ Stands block.order Other block.total) × (length gone ≡ block.gone) × (block.gone + 4 ≤ block.total)

-- the blocks were read up to the begin of one, whose bytes were let go or are held
pub record Begins (scope : Scope) (s : State) (bytes : List ℕ) (frames : List FrameValue) (t : State) (passed : Option Passed) (held : List ℕ) : Type 0 where
  pub gone : List ℕ
  pub was : WasPassed t.order passed gone
  pub read : ReadsTo (pcapng scope) s bytes frames t (gone ++ held)
  pub part : (pcapng scope).step t (gone ++ held) ≡ Wants
  pub few : length held < 2 ^ 20

-- the blocks were read up to a flaw
pub record Breaks (scope : Scope) (s : State) (bytes : List ℕ) (frames : List FrameValue) (t : State) (flaw : Flaw) : Type 0 where
  pub rest : List ℕ
  pub read : ReadsTo (pcapng scope) s bytes frames t rest
  pub bad : (pcapng scope).step t rest ≡ Bad (fault_of t.count flaw)

-- the blocks were read, where a block that is only passed over is let go up to its last field
abbrev pub AreReadOn : Scope → State → List ℕ → List FrameValue → State → Option Passed → List ℕ → Option Flaw → Type 0
AreReadOn scope s bytes frames t passed held None = Begins scope s bytes frames t passed held
AreReadOn scope s bytes frames t passed held (Some flaw) = Breaks scope s bytes frames t flaw

-- the bytes after those of a block at hand that were let go were read after these frames, to which theirs were added
pub record AreReadOnAfter (scope : Scope) (s : State) (passed : Option Passed) (bytes : List ℕ) (before frames : List FrameValue) (t : State)
    (block : Option Passed) (held : List ℕ) (flaw : Option Flaw) : Type 0 where
  pub more : List FrameValue
  pub frames_are : frames ≡ before ++ more
  pub read : (gone : List ℕ) → WasPassed s.order passed gone → AreReadOn scope s (gone ++ bytes) more t block held flaw

-- so many bytes of a block that is passed over are let go, of `size` that are there
pub record IsLetGo (block : Passed) (size : ℕ) (after : Passed) (some : ℕ) : Type 0 where
  pub order_is : after.order ≡ block.order
  pub total_is : after.total ≡ block.total
  pub gone_is : after.gone ≡ block.gone + some
  pub room : after.gone + 4 ≤ block.total
  pub most : some ≤ size
  pub left : size < some + 4
  pub first : 8 ≤ size → block.gone ≡ 0 → 12 ≤ block.total → 8 ≤ some

-- a block that is only passed over begins here, and isn't whole
abbrev pub IsPassedAt : Option Order → List ℕ → Option Passed → Type 0
IsPassedAt section rest None = (order : Order) (total : ℕ) → length rest < total → head_of section rest ≡ Stands order Other total → ⊥
IsPassedAt section rest (Some block) =
    (head_of section rest ≡ Stands block.order Other block.total) × (block.gone ≡ 0) × (length rest < block.total)

-- what comes of a block that is passed over, when these bytes come
abbrev pub IsResumed : Passed → List ℕ → Resumed → Type 0
IsResumed block bytes (resumed.Within passed some) = (block.gone + length bytes < block.total) × IsLetGo block (length bytes) passed some
IsResumed block bytes resumed.Flawed =
    (block.total ≤ block.gone + length bytes) × (number_in block.order 4 (drop (block.total - block.gone - 4) bytes) ≡ block.total → ⊥)
IsResumed block bytes (resumed.Over left) =
    (block.gone + left ≡ block.total) × (left ≤ length bytes) × (number_in block.order 4 (drop (left - 4) bytes) ≡ block.total)

-- of a block that is passed over the last field isn't let go
abbrev pub KeepsLastField : Option Passed → Type 0
KeepsLastField None = Unit {0}
KeepsLastField (Some block) = block.gone + 4 ≤ block.total

-- what a reader has is no more than so much. Where any number of bytes may come, it is not counted.
abbrev pub FitsIn : Length → ℕ → ℕ → Type 0
FitsIn Limited n most = n ≤ most
FitsIn Any n most = Unit {0}

-- the bytes of a piece that come early enough for a frame, where so many came before
abbrev pub early_bytes : Length → ℕ → List ℕ → List ℕ
early_bytes length total piece = first_of length (2 ^ 32 - 1 - total) piece

-- and the others
abbrev pub late_bytes : Length → ℕ → List ℕ → List ℕ
late_bytes length total piece = others_of length (2 ^ 32 - 1 - total) piece

-- a section has few interfaces: 65,536 at most, where any number of bytes may come
abbrev pub AreFew : Length → List Interface → Type 0
AreFew Limited interfaces = Unit {0}
AreFew Any interfaces = length interfaces ≤ 65536

-- what a reader has after `size` more bytes is no more than it had before and these, and few interfaces
pub record IsSoundOn (l : Length) (s : State) (size : ℕ) (t : State) (passed : Option Passed) (held : List ℕ) : Type 0 where
  pub fits : FitsIn l (t.count + length held) (s.count + size)
  pub room : KeepsLastField passed
  pub few : length held < 2 ^ 20
  pub interfaces : AreFew l t.interfaces

-- after `size` more bytes with no flaw (None) a reader has no more than it had and these; after a flaw it has few interfaces
abbrev pub IsGoneOn : Length → State → ℕ → State → Option Passed → List ℕ → Option Flaw → Type 0
IsGoneOn l s size t passed held None = IsSoundOn l s size t passed held
IsGoneOn l s size t passed held (Some flaw) = AreFew l t.interfaces

-- so many more bytes may be read on, after a reader came so far
abbrev pub MayReadOn : Length → State → Option Passed → List ℕ → Option Flaw → ℕ → Type 0
MayReadOn l t passed held None size =
    KeepsLastField passed × (length held < 2 ^ 20) × HasRoom l (t.count + (length held + size)) × AreFew l t.interfaces
MayReadOn l t passed held (Some flaw) size = Unit {0}

-- how long a block is, as far as its head shows: 12 bytes at least. One that is passed over is let go as soon as its head stands.
abbrev pub size_by : BlockHead → ℕ
size_by Short = 12
size_by (Flawed flaw) = 12
size_by (Stands order SectionHeader total) = total
size_by (Stands order InterfaceDescription total) = total
size_by (Stands order EnhancedPacket total) = total
size_by (Stands order SimplePacket total) = total
size_by (Stands order Other total) = 12

-- how many bytes more the block needs that hung over, as far as its head shows with those that come: where bytes of it were let go,
-- those of its last field
abbrev pub missing_of : Option Order → Option Passed → List ℕ → List ℕ → ℕ
missing_of section passed [] more = 0
missing_of section (Some block) (byte ∷ held) more = 4 - length (byte ∷ held)
missing_of section None (byte ∷ held) more = size_by (head_of section (take 12 ((byte ∷ held) ++ more))) - length (byte ∷ held)

-- a block that is read begins with the held bytes, of which none were let go, and isn't whole with those that come either
pub record StaysWithin (section : Option Order) (passed : Option Passed) (held more : List ℕ) : Type 0 where
  pub none : passed ≡ None
  pub order : Order
  pub kind : BlockKind
  pub total : ℕ
  pub head : head_of section held ≡ Stands order kind total
  pub read : kind ≡ Other → ⊥
  pub short : length held + length more < total

-- one more byte may come
abbrev pub MayGoOn : Length → State → Option Passed → List ℕ → Option Flaw → Type 0
MayGoOn l t passed held None = KeepsLastField passed × HasRoom l (t.count + length held + 1) × AreFew l t.interfaces
MayGoOn l t passed held (Some flaw) = Unit {0}

-- of these bytes, from a state, that was read
abbrev pub Gave : Scope → State → List ℕ → StreamRead → Type 0
Gave scope s bytes given = AreReadOn scope s bytes given.frames.items (state_of given.position) given.passed given.held.items given.flaw

-- of the bytes after those of a block at hand that were let go that was read, after these frames
abbrev pub GaveAfter : Scope → State → Option Passed → List ℕ → List FrameValue → StreamRead → Type 0
GaveAfter scope s passed bytes before given =
    AreReadOnAfter scope s passed bytes before given.frames.items (state_of given.position) given.passed given.held.items given.flaw

-- what a reader has then is no more than it had in a state and `size` bytes
abbrev pub IsFew : Length → State → ℕ → StreamRead → Type 0
IsFew l s size given = IsGoneOn l s size (state_of given.position) given.passed given.held.items given.flaw

-- what was read gives the same frames, where a block that is only passed over is let go up to its last field
abbrev pub LetsGo : BlocksRead → StreamRead → Type 0
LetsGo read given = (given.frames.items ≡ read.frames.items)
    × ((scope : Scope) (s : State) (bytes : List ℕ) (frames : List FrameValue)
    → AreRead scope s bytes frames (state_of read.position) read.rest.now read.flaw
    → AreReadOn scope s bytes frames (state_of given.position) given.passed given.held.items given.flaw)
