-- Captures in pcapng (draft-ietf-opsawg-pcapng) that end within a block: their whole blocks.
use Rattle.std.specs.Prelude.{ℕ, Bool, List, Option}
use Rattle.cf_pcap.specs.declared.scope.Scope.{Scope}
use Rattle.cf_pcap.specs.Capture.{FrameValue}
use Rattle.cf_pcap.specs.Kinds as kinds
use Rattle.cf_pcapng.specs.declared.fault.NgFault.{NgFault}
use Rattle.cf_pcapng.specs.File.{State, pcapng}
use Rattle.cf_pcapng.specs.Rules.{IsBlock, blocks}

-- The file ends within a block, after these frames. Its first section header is whole, and its bytes up to the end of its last whole block
-- are a capture: the longest that it begins with.
abbrev pub IsTruncated : Scope → List ℕ → List FrameValue → Type 0
IsTruncated scope file frames = kinds.IsTruncated (blocks scope) file frames

-- what a file says that may be truncated or not: it is a capture of these frames, or ends within a block after so many
abbrev pub Says : (truncated : Bool) → Scope → List ℕ → List FrameValue → Option ℕ → Type 0
Says truncated scope file frames cut = kinds.Says (blocks scope) truncated file frames cut

-- why a file says nothing then: any other fault, or an end within its first section header where it may be truncated
abbrev pub Breaks : (truncated : Bool) → Scope → List ℕ → NgFault → Type 0
Breaks truncated scope file fault = kinds.Breaks (blocks scope) truncated file fault

-- the first block, which is a section header, is whole
abbrev pub HasBegun : Scope → List ℕ → Type 0
HasBegun scope file = (total : ℕ) × (frames : List FrameValue) × (after : State) × IsBlock scope (pcapng scope).start file total frames after

-- A file that ends within a block is truncated, just where its first section header is whole, after the frames that its bytes give. Read as
-- truncated, each file says one thing, or has one fault.
abbrev pub TruncatedCase : Scope → List ℕ → Type 0
TruncatedCase scope file = kinds.TruncatedCase (blocks scope) (pcapng scope) (HasBegun scope) file
