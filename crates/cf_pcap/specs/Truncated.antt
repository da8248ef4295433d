-- Captures in the libpcap file format 2.4 (pcap-savefile(5)) that end within a record: their whole records.
use Rattle.std.specs.Prelude.{ℕ, ◌≤◌, Bool, List, length, Option}
use Rattle.cf_pcap.specs.declared.scope.Scope.{Scope}
use Rattle.cf_pcap.specs.declared.fault.PcapFault.{PcapFault}
use Rattle.cf_pcap.specs.Capture.{FrameValue}
use Rattle.cf_pcap.specs.File.{pcap}
use Rattle.cf_pcap.specs.Kinds as kinds
use Rattle.cf_pcap.specs.Laws.{records}

-- The file ends within a record, after these frames. Its file header is whole, and its bytes up to the end of its last whole record are a
-- capture: the longest that it begins with.
abbrev pub IsTruncated : Scope → List ℕ → List FrameValue → Type 0
IsTruncated scope file frames = kinds.IsTruncated (records scope) file frames

-- what a file says that may be truncated or not: it is a capture of these frames, or ends within a record after so many
abbrev pub Says : (truncated : Bool) → Scope → List ℕ → List FrameValue → Option ℕ → Type 0
Says truncated scope file frames cut = kinds.Says (records scope) truncated file frames cut

-- why a file says nothing then: any other fault, or an end within the file header where it may be truncated
abbrev pub Breaks : (truncated : Bool) → Scope → List ℕ → PcapFault → Type 0
Breaks truncated scope file fault = kinds.Breaks (records scope) truncated file fault

-- its file header of 24 bytes is whole
abbrev pub HasBegun : List ℕ → Type 0
HasBegun file = 24 ≤ length file

-- A file that ends within a record is truncated, just where its file header of 24 bytes is whole, after the frames that its bytes give.
-- Read as truncated, each file says one thing, or has one fault.
abbrev pub TruncatedCase : Scope → List ℕ → Type 0
TruncatedCase scope file = kinds.TruncatedCase (records scope) (pcap scope) HasBegun file
