-- The faults of captures, as statuses tell them.
use Rattle.std.specs.Prelude.{◌≡◌, ◌==◌, if◌then◌else◌, ℕ, Bool, true, false, List, Option, Some, None}
use Rattle.cf_pcap.specs.Capture.{HasPcapFault}
use Rattle.cf_pcap.specs.declared.scope.Scope.{Scope}
use Rattle.cf_pcap.specs.declared.limit.Length.{Length}
use Rattle.cf_pcap.specs.declared.limit.Length.TheVariants.{Limited, Any}
use Rattle.cf_pcap.specs.declared.fault.PcapFault.TheVariants as pcap
use Rattle.cf_pcap.specs.Format.{IsFound}
use Rattle.cf_pcap.specs.File.{pcap as records_of}
use Rattle.cf_pcapng.specs.File.{pcapng as blocks_of}
use Rattle.cf_pcapng.specs.Rules.{HasFaultOf}
use Rattle.cf_pcapng.specs.declared.fault.NgFault.TheVariants as ng
use Rattle.cf_row.specs.declared.schema.Attr.{Attr}
use Rattle.cf_records.specs.Records.{HasRecordsFault}
use Rattle.cf_records.specs.declared.fault.RecordFault.TheVariants as records
use Rattle.cf_row.specs.Row.{RowValue}
use Rattle.cf_row.specs.declared.packet6.PacketSchema.{PacketSchema}
use Rattle.cf_setup.specs.declared.source.Source.{Source}
use Rattle.cf_setup.specs.declared.source.Source.TheVariants.{Packets, Records}
use Rattle.cf_intake.specs.Formats.{begins_section}
use Rattle.cf_intake.specs.Rows.{ArePacketsTo, IsTruncatedAt, scope_by}
use Rattle.cf_intake.specs.declared.faults.Fault.{Fault}
use Rattle.cf_intake.specs.declared.faults.Fault.TheVariants.{Pcap, PcapNg, Lines}
use Rattle.cf_intake.specs.declared.refusal.Halt.{Halt}
use Rattle.cf_intake.specs.declared.refusal.Halt.TheVariants.{Refused, Stopped}
use Rattle.cf_intake.specs.declared.refusal.Refusal.{Refusal}
use Rattle.cf_intake.specs.declared.refusal.Refusal.TheVariants.{Capture}
use Rattle.cf_intake.specs.declared.refusal.Stop.TheVariants.{Memory}

-- the code of a fault; that of want of memory, which is none of the bytes, is 0
abbrev pub code_of : Fault → ℕ
code_of (Pcap pcap.Memory) = 0
code_of (Pcap pcap.BadMagic) = 1
code_of (Pcap pcap.BadVersion) = 2
code_of (Pcap pcap.BadLink) = 3
code_of (Pcap (pcap.FrameTooLong k)) = 4
code_of (Pcap (pcap.Cut k)) = 5
code_of (Pcap pcap.TooManyBytes) = 6
code_of (Lines records.Memory) = 0
code_of (Lines records.NoHeader) = 11
code_of (Lines records.BadHeader) = 12
code_of (Lines (records.BadCount k)) = 13
code_of (Lines (records.BadValue k column)) = 14
code_of (Lines records.TooManyBytes) = 15
code_of (PcapNg ng.Memory) = 0
code_of (PcapNg (ng.BadMagic k)) = 21
code_of (PcapNg (ng.BadVersion k)) = 22
code_of (PcapNg (ng.BadLink k)) = 23
code_of (PcapNg (ng.FrameTooLong k)) = 24
code_of (PcapNg (ng.Cut k)) = 25
code_of (PcapNg ng.TooManyBytes) = 26
code_of (PcapNg (ng.BadLength k)) = 27
code_of (PcapNg (ng.NoInterface k)) = 28
code_of (PcapNg (ng.TooManyInterfaces k)) = 29

-- the record that it names, which is in pcapng the number of frames before it
abbrev pub record_of : Fault → ℕ
record_of (Pcap pcap.Memory) = 0
record_of (Pcap pcap.BadMagic) = 0
record_of (Pcap pcap.BadVersion) = 0
record_of (Pcap pcap.BadLink) = 0
record_of (Pcap (pcap.FrameTooLong k)) = k
record_of (Pcap (pcap.Cut k)) = k
record_of (Pcap pcap.TooManyBytes) = 0
record_of (Lines records.Memory) = 0
record_of (Lines records.NoHeader) = 0
record_of (Lines records.BadHeader) = 0
record_of (Lines (records.BadCount k)) = k
record_of (Lines (records.BadValue k column)) = k
record_of (Lines records.TooManyBytes) = 0
record_of (PcapNg ng.Memory) = 0
record_of (PcapNg (ng.BadMagic k)) = k
record_of (PcapNg (ng.BadVersion k)) = k
record_of (PcapNg (ng.BadLink k)) = k
record_of (PcapNg (ng.FrameTooLong k)) = k
record_of (PcapNg (ng.Cut k)) = k
record_of (PcapNg ng.TooManyBytes) = 0
record_of (PcapNg (ng.BadLength k)) = k
record_of (PcapNg (ng.NoInterface k)) = k
record_of (PcapNg (ng.TooManyInterfaces k)) = k

-- how a fault of that record and code refuses the bytes, if it is one of theirs
abbrev pub refusal_by : (record_at code : ℕ) → Option Refusal
refusal_by record_at code = if code == 0 then None else Some (Capture record_at code)

abbrev pub refusal_of : Fault → Option Refusal
refusal_of fault = refusal_by (record_of fault) (code_of fault)

-- what it comes to
abbrev pub halt_by : Option Refusal → Halt
halt_by (Some why) = Refused why
halt_by None = Stopped Memory

abbrev pub halt_of : Fault → Halt
halt_of fault = halt_by (refusal_of fault)

-- bytes have a fault of a kind, which is told with that record and that code
pub record IsTold {F : Type 0} (Has : F → Type 0) (of : F → Fault) (record_at code : ℕ) : Type 0 where
  pub fault : F
  pub fault_is : Has fault
  pub record_is : record_at ≡ record_of (of fault)
  pub code_is : code ≡ code_of (of fault)

-- the bytes are no capture in pcap, first at that record, by the rule of that code
abbrev pub HasRecordFault : Scope → List ℕ → ℕ → ℕ → Type 0
HasRecordFault scope bytes record_at code = IsTold (HasPcapFault scope bytes) Pcap record_at code

-- the bytes are no capture in pcapng, first after so many frames, by the rule of that code
abbrev pub HasBlockFault : Scope → List ℕ → ℕ → ℕ → Type 0
HasBlockFault scope bytes record_at code = IsTold (HasFaultOf scope bytes) PcapNg record_at code

-- the bytes are outside the format of captures that they begin as, first at that record, by the rule of that code
abbrev pub HasFaultIn : Scope → Bool → List ℕ → ℕ → ℕ → Type 0
HasFaultIn scope true bytes record_at code = HasBlockFault scope bytes record_at code
HasFaultIn scope false bytes record_at code = HasRecordFault scope bytes record_at code

-- in a capture of that length, by a schema of packets
abbrev pub HasPacketFault : Length → PacketSchema → List ℕ → ℕ → ℕ → Type 0
HasPacketFault longest schema bytes record_at code = HasFaultIn (scope_by longest schema) (begins_section bytes) bytes record_at code

-- the same of one that is not truncated where it may be
abbrev pub HasPacketFaultTo : Length → PacketSchema → (truncated : Bool) → List ℕ → ℕ → ℕ → Type 0
HasPacketFaultTo longest schema truncated bytes record_at code = HasPacketFault longest schema bytes record_at code
    × ((rows : List RowValue) (k : ℕ) → ArePacketsTo longest schema truncated bytes rows (Some k) → ⊥)

-- the bytes are no file of records of these attributes, first at that record, by the rule of that code
abbrev pub HasLineFault : List Attr → List ℕ → ℕ → ℕ → Type 0
HasLineFault attrs bytes record_at code = IsTold (HasRecordsFault attrs bytes) Lines record_at code

-- by what the setup's rows are read from: packets, or other records
abbrev pub HasFaultBy : Source → List Attr → List ℕ → ℕ → ℕ → Type 0
HasFaultBy (Packets schema) attrs bytes record_at code = HasPacketFault Limited schema bytes record_at code
HasFaultBy Records attrs bytes record_at code = HasLineFault attrs bytes record_at code

-- the same where a capture of packets may be truncated: then its end within a record is no fault
abbrev pub HasFaultTo : (source : Source) (truncated : Bool) → List Attr → List ℕ → ℕ → ℕ → Type 0
HasFaultTo source truncated attrs bytes record_at code =
    HasFaultBy source attrs bytes record_at code × ((rows : List RowValue) (k : ℕ) → IsTruncatedAt source truncated bytes rows k → ⊥)

-- Bytes show a fault by its place, before their end is known, which is told with that record and that code: as blocks, or as records.
abbrev pub ShowsFaultIn : Scope → Bool → List ℕ → ℕ → ℕ → Type 0
ShowsFaultIn scope true bytes record_at code = IsTold (IsFound (blocks_of scope) bytes) PcapNg record_at code
ShowsFaultIn scope false bytes record_at code = IsTold (IsFound (records_of scope) bytes) Pcap record_at code

-- in the format that they begin as, of a capture of any length, by a schema of packets
abbrev pub ShowsFault : PacketSchema → List ℕ → ℕ → ℕ → Type 0
ShowsFault schema bytes record_at code = ShowsFaultIn (scope_by Any schema) (begins_section bytes) bytes record_at code

-- they show none
abbrev pub ShowNoFaultIn : Scope → Bool → List ℕ → Type 0
ShowNoFaultIn scope blocks bytes = (record_at code : ℕ) → ShowsFaultIn scope blocks bytes record_at code → ⊥

abbrev pub ShowNoFault : PacketSchema → List ℕ → Type 0
ShowNoFault schema bytes = ShowNoFaultIn (scope_by Any schema) (begins_section bytes) bytes
