-- A fault that was found stays, whatever follows.
use Rattle.std.proofs.Common.{◌≡◌, ◌==◌, if◌then◌else◌, inl, ℕ, Bool, true, false, List, [], ◌++◌, length, Option, Some, None, IfSome, IsNone, refl, sym, subst, ◌∙◌}
use Rattle.cf_row.specs.declared.packet6.PacketSchema.{PacketSchema}
use Rattle.cf_pcap.specs.Capture.{FrameValue, HasPcapFault}
use Rattle.cf_row.specs.Row.{RowValue}
use Rattle.cf_pcap.specs.declared.fault.PcapFault.{PcapFault}
use Rattle.cf_pcap.specs.declared.fault.PcapFault.TheVariants as pcap_faults
use Rattle.cf_pcap.specs.declared.scope.Scope.{Scope}
use Rattle.cf_pcap.specs.declared.stage.Stage.{Stage}
use Rattle.cf_pcap.specs.declared.stage.Stage.TheVariants.{Running, Stopped}
use Rattle.cf_pcap.specs.File as records
use Rattle.cf_pcap.specs.Kinds.{Kind, IsCutAt, Breaks}
use Rattle.cf_pcap.specs.Laws.{records as records_kind}
use Rattle.cf_pcap.specs.Stream as pcap
use Rattle.cf_pcap.proofs.ByKind.{IsJudgedBy}
use Rattle.cf_pcap.proofs.Truncating.{by as by_records}
use Rattle.cf_pcapng.specs.declared.fault.NgFault.{NgFault}
use Rattle.cf_pcapng.specs.declared.fault.NgFault.TheVariants as ng_faults
use Rattle.cf_pcapng.specs.File as blocks
use Rattle.cf_pcapng.specs.Rules.{HasFaultOf, blocks as blocks_kind}
use Rattle.cf_pcapng.specs.Reader as reading
use Rattle.cf_pcapng.proofs.Truncating.{by as by_blocks}
use Rattle.cf_pcap.specs.Format.{Format, IsFound, HasFault}
use Rattle.cf_pcap.specs.Limits.{number_of}
use Rattle.cf_pcap.specs.Stages.{IsAt, found_at}
use Rattle.cf_pcap.proofs.Stages.{at_found}
use Rattle.cf_pcap.specs.declared.limit.Length.TheVariants.{Any}
use Rattle.cf_pcap.proofs.Cases.{found_more, one_fault}
use Rattle.cf_pcap.proofs.FormatFeeding.{runs_none}
use Rattle.cf_intake.specs.Faults.{ShowNoFault, ShowsFaultIn, code_of, record_of, refusal_by, refusal_of}
use Rattle.cf_intake.specs.Formats.{begins_section}
use Rattle.cf_intake.specs.Reading.{IsBrokenFor, IsUnbrokenFor, reads_blocks, reads_scope}
use Rattle.cf_intake.specs.Reads.{IsBroken, IsUnderWay}
use Rattle.cf_intake.specs.Rows.{scope_by}
use Rattle.cf_intake.specs.declared.faults.Fault.TheVariants as faults
use Rattle.cf_intake.specs.declared.reader.Reader.{Reader}
use Rattle.cf_intake.specs.declared.reader.Reader.TheVariants.{Pcap, PcapNg}
use Rattle.cf_intake.specs.declared.refusal.Refusal.{Refusal}
use Rattle.cf_intake.specs.declared.refusal.Refusal.TheVariants.{Capture}
use Rattle.cf_intake.proofs.Capturing.{begins_same}
use Rattle.cf_intake.proofs.Piecewise.{fault_to}
use Rattle.cf_intake.proofs.Streams.{told, records_uncut, blocks_uncut}

found_uncut : {S F : Type 0} (kind : Kind F) (f : Format S FrameValue F) (by : IsJudgedBy kind f) (truncated : Bool) (stream more : List ℕ) (fault : F)
    → IsFound f stream fault → HasFault f (stream ++ more) fault → (frames : List FrameValue) (k : ℕ)
    → IsCutAt kind truncated (stream ++ more) frames k → ⊥
found_uncut kind f by false stream more fault found has frames k is = is
found_uncut {S} {F} kind f by true stream more fault found has frames k is =
    let n = number_of kind.longest (length frames) in
    let same : fault ≡ kind.cut n =
    one_fault f (stream ++ more) fault (kind.cut n) has ((by.alike (stream ++ more)).is_fault (kind.cut n) is.0.fault) in
    by.unfound stream n (subst (λ (x : F). IsFound f stream x) same found)

found_breaks : {S F : Type 0} (kind : Kind F) (f : Format S FrameValue F) (by : IsJudgedBy kind f) (truncated : Bool) (stream more : List ℕ) (fault : F)
    → IsFound f stream fault → Breaks kind truncated (stream ++ more) fault
found_breaks kind f by truncated stream more fault found =
    let has : HasFault f (stream ++ more) fault = inl (found_more f by.stepper stream more fault found) in
    ((by.alike (stream ++ more)).fault fault has, found_uncut kind f by truncated stream more fault found has)

why_or_none : (at code : ℕ) (why : Refusal) (none : Bool) → Some why ≡ (if none then None else Some (Capture at code)) → why ≡ Capture at code
why_or_none at code why true is = absurd (cc is)
why_or_none at code why false is = cc is

why_is : (at code : ℕ) (why : Refusal) → Some why ≡ refusal_by at code → why ≡ Capture at code
why_is at code why = why_or_none at code why (code == 0)

-- a reader's refusal is that of the stream that it is after
pub records_broken : (reader : pcap.PcapValue) (fault : PcapFault) (result : Option Refusal) → found_at reader.stage ≡ Some fault
    → result ≡ refusal_of (faults.Pcap fault) → IfSome result (IsBrokenFor (Pcap reader))
records_broken reader fault None found is = tt
records_broken reader fault (Some why) found is = λ stream frames at. (
  record_of (faults.Pcap fault),
  code_of (faults.Pcap fault),
  why_is (record_of (faults.Pcap fault)) (code_of (faults.Pcap fault)) why is,
  λ truncated more. records_uncut truncated reader.scope (stream ++ more) fault
      (found_breaks (records_kind reader.scope) (records.pcap reader.scope) (by_records reader.scope) truncated stream more fault
      (at_found (records.pcap reader.scope) stream reader.stage (pcap.IsRunning reader stream) fault found at.0)),
  told (IsFound (records.pcap reader.scope) stream) faults.Pcap fault
      (at_found (records.pcap reader.scope) stream reader.stage (pcap.IsRunning reader stream) fault found at.0),
)

pub blocks_broken : (reader : reading.PcapNgValue) (fault : NgFault) (result : Option Refusal) → found_at reader.stage ≡ Some fault
    → result ≡ refusal_of (faults.PcapNg fault) → IfSome result (IsBrokenFor (PcapNg reader))
blocks_broken reader fault None found is = tt
blocks_broken reader fault (Some why) found is = λ stream frames at. (
  record_of (faults.PcapNg fault),
  code_of (faults.PcapNg fault),
  why_is (record_of (faults.PcapNg fault)) (code_of (faults.PcapNg fault)) why is,
  λ truncated more. blocks_uncut truncated reader.scope (stream ++ more) fault
      (found_breaks (blocks_kind reader.scope) (blocks.pcapng reader.scope) (by_blocks reader.scope) truncated stream more fault
      (at_found (blocks.pcapng reader.scope) stream reader.stage (reading.IsRunning reader stream) fault found at.0)),
  told (IsFound (blocks.pcapng reader.scope) stream) faults.PcapNg fault
      (at_found (blocks.pcapng reader.scope) stream reader.stage (reading.IsRunning reader stream) fault found at.0),
)

-- A reader that tells none is after a stream that shows none.

at_none : {S I F : Type 0} (f : Format S I F) (stream : List ℕ) (stage : Stage F) (runs : Type 0) → found_at stage ≡ None → IsAt f stream stage runs → runs
at_none f stream Running runs is at = at
at_none f stream (Stopped fault) runs is at = absurd (cc is)

pub records_unbroken : (reader : pcap.PcapValue) → found_at reader.stage ≡ None → IsUnbrokenFor (Pcap reader)
records_unbroken reader none = λ stream frames at record_at code shows.
    let f = records.pcap reader.scope in
    runs_none f reader.state reader.held stream shows.fault (at_none f stream reader.stage (pcap.IsRunning reader stream) none at.0).runs shows.fault_is

pub blocks_unbroken : (reader : reading.PcapNgValue) → found_at reader.stage ≡ None → IsUnbrokenFor (PcapNg reader)
blocks_unbroken reader none = λ stream frames at record_at code shows.
    let f = blocks.pcapng reader.scope in
    let run = at_none f stream reader.stage (reading.IsRunning reader stream) none at.0 in
    runs_none f reader.state (run.gone ++ reader.held) stream shows.fault run.runs shows.fault_is

-- Want of memory is no fault that a stream shows, and each other one has a code.

records_code : (fault : PcapFault) → None ≡ refusal_of (faults.Pcap fault) → fault ≡ pcap_faults.Memory
records_code pcap_faults.BadMagic is = absurd (cc is)
records_code pcap_faults.BadVersion is = absurd (cc is)
records_code pcap_faults.BadLink is = absurd (cc is)
records_code (pcap_faults.FrameTooLong k) is = absurd (cc is)
records_code (pcap_faults.Cut k) is = absurd (cc is)
records_code pcap_faults.TooManyBytes is = absurd (cc is)
records_code pcap_faults.Memory is = refl

blocks_code : (fault : NgFault) → None ≡ refusal_of (faults.PcapNg fault) → fault ≡ ng_faults.Memory
blocks_code (ng_faults.BadMagic k) is = absurd (cc is)
blocks_code (ng_faults.BadVersion k) is = absurd (cc is)
blocks_code (ng_faults.BadLink k) is = absurd (cc is)
blocks_code (ng_faults.FrameTooLong k) is = absurd (cc is)
blocks_code (ng_faults.Cut k) is = absurd (cc is)
blocks_code ng_faults.TooManyBytes is = absurd (cc is)
blocks_code (ng_faults.BadLength k) is = absurd (cc is)
blocks_code (ng_faults.NoInterface k) is = absurd (cc is)
blocks_code (ng_faults.TooManyInterfaces k) is = absurd (cc is)
blocks_code ng_faults.Memory is = refl

pub records_told : (reader : pcap.PcapValue) (fault : PcapFault) (result : Option Refusal) → found_at reader.stage ≡ Some fault
    → result ≡ refusal_of (faults.Pcap fault) → IsNone result → IsUnbrokenFor (Pcap reader)
records_told reader fault (Some why) found is none = absurd (cc none)
records_told reader fault None found is none = λ stream frames at record_at code shows.
    let f = records.pcap reader.scope in
    let there = at_found f stream reader.stage (pcap.IsRunning reader stream) fault found at.0 in
    let breaks = found_breaks (records_kind reader.scope) f (by_records reader.scope) false stream [] fault there in
    subst (λ (x : PcapFault). HasPcapFault reader.scope (stream ++ []) x) (records_code fault is) breaks.0

pub blocks_told : (reader : reading.PcapNgValue) (fault : NgFault) (result : Option Refusal) → found_at reader.stage ≡ Some fault
    → result ≡ refusal_of (faults.PcapNg fault) → IsNone result → IsUnbrokenFor (PcapNg reader)
blocks_told reader fault (Some why) found is none = absurd (cc none)
blocks_told reader fault None found is none = λ stream frames at record_at code shows.
    let f = blocks.pcapng reader.scope in
    let there = at_found f stream reader.stage (reading.IsRunning reader stream) fault found at.0 in
    let breaks = found_breaks (blocks_kind reader.scope) f (by_blocks reader.scope) false stream [] fault there in
    subst (λ (x : NgFault). HasFaultOf reader.scope (stream ++ []) x) (blocks_code fault is) breaks.0

-- What was read is broken, or it is not.

shows_as : (a b : Scope) (x y : Bool) (bytes : List ℕ) (at code : ℕ) → a ≡ b → x ≡ y → ShowsFaultIn a x bytes at code → ShowsFaultIn b y bytes at code
shows_as a b x y bytes at code scope same shows =
    subst (λ (z : Bool). ShowsFaultIn b z bytes at code) same (subst (λ (s : Scope). ShowsFaultIn s x bytes at code) scope shows)

pub unbroken_way : (schema : PacketSchema) (reader : Reader) (bytes : List ℕ) (rows : List RowValue) → IsUnderWay schema reader bytes rows
    → IsUnbrokenFor reader → ShowNoFault schema bytes
unbroken_way schema reader bytes rows on none = λ at code shows.
    none bytes on.frames on.at at code
    (shows_as (scope_by Any schema) (reads_scope reader) (begins_section bytes) (reads_blocks reader) bytes at code (sym on.scope) (sym on.blocks) shows)

pub breaks_way : (schema : PacketSchema) (reader : Reader) (bytes : List ℕ) (rows : List RowValue) (why : Refusal)
    → IsUnderWay schema reader bytes rows → IsBrokenFor reader why → IsBroken schema bytes why
breaks_way schema reader bytes rows why on broken =
    let bad = broken bytes on.frames on.at in (
      bad.0,
      bad.1,
      bad.2,
      λ truncated more.
          fault_to Any schema truncated (reads_blocks reader) (reads_scope reader) (bytes ++ more) bad.0 bad.1
          (on.blocks ∙ sym (begins_same bytes more on.long)) on.scope (bad.3 truncated more),
      shows_as (reads_scope reader) (scope_by Any schema) (reads_blocks reader) (begins_section bytes) bytes bad.0 bad.1 on.scope on.blocks bad.4,
    )
