-- A file is read in the format that it begins as, and is in just one case of it.
use Rattle.std.proofs.Common.{◌≡◌, ◌⊎◌, inl, inr, ℕ, ◌<◌, ◌≤◌, ◌^◌, Bool, true, false, List, [], ◌++◌, length, Option, Some, None, refl, ap, ap₂, sym, ◌∙◌, subst, arith, append-nil}
use Rattle.std.proofs.lemmas.List.{take-append-le}
use Rattle.cf_row.specs.Row.{RowValue}
use Rattle.cf_row.specs.declared.schema.Attr.{Attr}
use Rattle.cf_pcap.specs.Capture.{FrameValue}
use Rattle.cf_pcap.specs.Links.{limited}
use Rattle.cf_pcap.specs.declared.links.LinkSet.{LinkSet}
use Rattle.cf_pcap.specs.declared.scope.Scope.{Scope}
use Rattle.cf_pcap.specs.Limits.{number_of}
use Rattle.cf_pcap.specs.declared.limit.Length.{Length}
use Rattle.cf_pcap.specs.declared.limit.Length.TheVariants.{Limited}
use Rattle.cf_row.specs.declared.packet6.PacketSchema.{PacketSchema}
use Rattle.cf_setup.specs.declared.source.Source.{Source}
use Rattle.cf_setup.specs.declared.source.Source.TheVariants.{Packets, Records}
use Rattle.cf_pcap.specs.declared.fault.PcapFault.TheVariants as faults
use Rattle.cf_pcap.proofs.Ending.{fault_of_front}
use Rattle.cf_pcap.proofs.Verdict.{one_case as records_one}
use Rattle.cf_pcap.specs.Truncated as records
use Rattle.cf_pcap.proofs.Truncating.{truncated_case as records_case}
use Rattle.cf_pcapng.specs.Truncated as blocks
use Rattle.cf_pcapng.proofs.Truncating.{truncated_case as blocks_case}
use Rattle.cf_pcapng.specs.File.{pcapng}
use Rattle.cf_pcapng.specs.declared.fault.NgFault.TheVariants as ng
use Rattle.cf_pcapng.proofs.Filing.{file_by_rules, one_case_of}
use Rattle.cf_pcapng.proofs.Steps.{stepper}
use Rattle.cf_pcap.proofs.FormatEnding as streams
use Rattle.cf_intake.specs.Faults.{HasFaultIn, HasPacketFault, HasPacketFaultTo, HasFaultTo, code_of, record_of}
use Rattle.cf_intake.specs.Formats.{begins_section}
use Rattle.cf_intake.specs.Laws.{OneCase}
use Rattle.cf_intake.specs.Rows.{CaptureValue, links_by, packet_rows, scope_by, limit_by, AreFramesBy, AreFramesBefore, ArePackets, ArePacketsBefore, ArePacketsTo, IsTruncatedAt, AreRowsTo}
use Rattle.cf_intake.specs.declared.faults.Fault.TheVariants.{Pcap, PcapNg}

-- Below 2^32 bytes.

frames_end : (links : LinkSet) (b : Bool) (bytes : List ℕ) (frames : List FrameValue) → AreFramesBy (limited links) b bytes frames → length bytes < 2 ^ 32
frames_end links true bytes frames is = is.size
frames_end links false bytes frames is = is.size

pub packets_end : (schema : PacketSchema) (bytes : List ℕ) (rows : List RowValue) → ArePackets Limited schema bytes rows → length bytes < 2 ^ 32
packets_end schema bytes rows are = frames_end (links_by schema) (begins_section bytes) bytes are.frames are.frames_are

-- The fault of the first 2^32 bytes is that of the file.

pub begins_same : (bytes rest : List ℕ) → 4 ≤ length bytes → begins_section (bytes ++ rest) ≡ begins_section bytes
unfolding begins_section
begins_same bytes rest size = rw (take-append-le 4 bytes rest size) refl

begins_front : (bytes rest : List ℕ) → (rest ≡ []) ⊎ (length bytes ≡ 2 ^ 32) → begins_section (bytes ++ rest) ≡ begins_section bytes
begins_front bytes rest (inl end) = ap (λ xs. begins_section (bytes ++ xs)) end ∙ ap begins_section (append-nil bytes)
begins_front bytes rest (inr full) = begins_same bytes rest (omega (arith, full))

longer_in : (links : LinkSet) (b : Bool) (bytes rest : List ℕ) (at code : ℕ) → (rest ≡ []) ⊎ (length bytes ≡ 2 ^ 32)
    → HasFaultIn (limited links) b bytes at code → HasFaultIn (limited links) b (bytes ++ rest) at code
longer_in links true bytes rest at code whole has = record {
  fault = has.fault;
  fault_is = (file_by_rules (limited links) (bytes ++ rest)).fault has.fault
      (streams.fault_of_front (pcapng (limited links)) (stepper (limited links)) bytes rest has.fault whole
      ((file_by_rules (limited links) bytes).is_fault has.fault has.fault_is));
  record_is = has.record_is;
  code_is = has.code_is;
}
longer_in links false bytes rest at code whole has = record {
  fault = has.fault;
  fault_is = fault_of_front (limited links) bytes rest has.fault whole has.fault_is;
  record_is = has.record_is;
  code_is = has.code_is;
}

pub packets_longer : (schema : PacketSchema) (bytes rest : List ℕ) (at code : ℕ) → (rest ≡ []) ⊎ (length bytes ≡ 2 ^ 32)
    → HasPacketFault Limited schema bytes at code
    → HasPacketFault Limited schema (bytes ++ rest) at code
packets_longer schema bytes rest at code whole has =
    subst (λ (b : Bool). HasFaultIn (scope_by Limited schema) b (bytes ++ rest) at code) (sym (begins_front bytes rest whole))
    (longer_in (links_by schema) (begins_section bytes) bytes rest at code whole has)

-- One case.

pub faults_same : (scope : Scope) (b : Bool) (bytes : List ℕ) (at code at' code' : ℕ) → HasFaultIn scope b bytes at code → HasFaultIn scope b bytes at' code'
    → (at ≡ at')
    × (code ≡ code')
faults_same scope true bytes at code at' code' p q =
    let one : p.fault ≡ q.fault = (one_case_of scope bytes).one_fault p.fault q.fault p.fault_is q.fault_is in
    (p.record_is ∙ ap (λ f. record_of (PcapNg f)) one ∙ sym q.record_is, p.code_is ∙ ap (λ f. code_of (PcapNg f)) one ∙ sym q.code_is)
faults_same scope false bytes at code at' code' p q =
    let one : p.fault ≡ q.fault = (records_one scope bytes).one_fault p.fault q.fault p.fault_is q.fault_is in
    (p.record_is ∙ ap (λ f. record_of (Pcap f)) one ∙ sym q.record_is, p.code_is ∙ ap (λ f. code_of (Pcap f)) one ∙ sym q.code_is)

pub frames_either : (scope : Scope) (b : Bool) (bytes : List ℕ) (frames : List FrameValue) (at code : ℕ) → AreFramesBy scope b bytes frames
    → HasFaultIn scope b bytes at code → ⊥
frames_either scope true bytes frames at code are has = (one_case_of scope bytes).either frames has.fault are has.fault_is
frames_either scope false bytes frames at code are has = (records_one scope bytes).either frames has.fault are has.fault_is

pub frames_same : (scope : Scope) (b : Bool) (bytes : List ℕ) (p q : List FrameValue) → AreFramesBy scope b bytes p → AreFramesBy scope b bytes q → p ≡ q
frames_same scope true bytes p q are also = (one_case_of scope bytes).one_capture p q are also
frames_same scope false bytes p q are also = (records_one scope bytes).one_capture p q are also

pub packet_faults_same : (schema : PacketSchema) (bytes : List ℕ) (at code at' code' : ℕ) → HasPacketFault Limited schema bytes at code
    → HasPacketFault Limited schema bytes at' code' → (at ≡ at') × (code ≡ code')
packet_faults_same schema bytes at code at' code' p q = faults_same (scope_by Limited schema) (begins_section bytes) bytes at code at' code' p q

pub packets_either : (schema : PacketSchema) (bytes : List ℕ) (rows : List RowValue) (at code : ℕ) → ArePackets Limited schema bytes rows
    → HasPacketFault Limited schema bytes at code → ⊥
packets_either schema bytes rows at code are has = frames_either (scope_by Limited schema) (begins_section bytes) bytes are.frames at code are.frames_are has

pub packets_same : (schema : PacketSchema) (bytes : List ℕ) (a b : List RowValue) → ArePackets Limited schema bytes a → ArePackets Limited schema bytes b
    → a ≡ b
packets_same schema bytes a b p q = p.rows_are
    ∙ ap (packet_rows schema) (frames_same (scope_by Limited schema) (begins_section bytes) bytes p.frames q.frames p.frames_are q.frames_are) ∙ sym q.rows_are

pub record Fault (scope : Scope) (b : Bool) (bytes : List ℕ) : Type 0 where
  pub place : ℕ
  pub code : ℕ
  pub has : HasFaultIn scope b bytes place code

pub some_case : (scope : Scope) (b : Bool) (bytes : List ℕ) → ((frames : List FrameValue) × AreFramesBy scope b bytes frames) ⊎ Fault scope b bytes
some_case scope true bytes = elim (one_case_of scope bytes).some [
  | inl whole ↦ inl (whole.0, whole.1)
  | inr bad ↦ inr
      (record {
        place = record_of (PcapNg bad.0);
        code = code_of (PcapNg bad.0);
        has = record { fault = bad.0; fault_is = bad.1; record_is = refl; code_is = refl };
      })
]
some_case scope false bytes = elim (records_one scope bytes).some [
  | inl whole ↦ inl (whole.0, whole.1)
  | inr bad ↦ inr
      (record {
        place = record_of (Pcap bad.0);
        code = code_of (Pcap bad.0);
        has = record { fault = bad.0; fault_is = bad.1; record_is = refl; code_is = refl };
      })
]

-- Where it may be truncated.

before_end : (links : LinkSet) (b : Bool) (bytes : List ℕ) (frames : List FrameValue) → AreFramesBefore (limited links) b bytes frames → length bytes < 2 ^ 32
before_end links true bytes frames is = is.fault.size
before_end links false bytes frames is = is.fault.size

pub truncated_end : (source : Source) (truncated : Bool) (bytes : List ℕ) (rows : List RowValue) (k : ℕ) → IsTruncatedAt source truncated bytes rows k
    → length bytes < limit_by source
truncated_end Records truncated bytes rows k is = absurd is
truncated_end (Packets schema) false bytes rows k is = absurd is
truncated_end (Packets schema) true bytes rows k is = before_end (links_by schema) (begins_section bytes) bytes is.0.frames is.0.frames_are

pub before_fault : (scope : Scope) (b : Bool) (bytes : List ℕ) (frames : List FrameValue) → AreFramesBefore scope b bytes frames → (at : ℕ) × (code : ℕ)
    × HasFaultIn scope b bytes at code
before_fault scope true bytes frames is =
    let k = number_of scope.length (length frames) in
    (k, 25, record { fault = ng.Cut k; fault_is = is.fault; record_is = refl; code_is = refl })
before_fault scope false bytes frames is =
    let k = number_of scope.length (length frames) in
    (k, 5, record { fault = faults.Cut k; fault_is = is.fault; record_is = refl; code_is = refl })

pub before_same : (scope : Scope) (b : Bool) (bytes : List ℕ) (p q : List FrameValue) → AreFramesBefore scope b bytes p → AreFramesBefore scope b bytes q → p ≡ q
before_same scope true bytes p q is also =
    (blocks_case scope bytes).one_frames p q (Some (number_of scope.length (length p))) (Some (number_of scope.length (length q))) (is, refl) (also, refl)
before_same scope false bytes p q is also =
    (records_case scope bytes).one_frames p q (Some (number_of scope.length (length p))) (Some (number_of scope.length (length q))) (is, refl) (also, refl)

-- a truncated capture is not whole
before_either : (schema : PacketSchema) (bytes : List ℕ) (rows others : List RowValue) → ArePackets Limited schema bytes rows
    → ArePacketsBefore Limited schema bytes others → ⊥
before_either schema bytes rows others are is =
    let fault = before_fault (scope_by Limited schema) (begins_section bytes) bytes is.frames is.frames_are in
    packets_either schema bytes rows fault.0 fault.1 are fault.2

before_rows : (schema : PacketSchema) (bytes : List ℕ) (a b : List RowValue) → ArePacketsBefore Limited schema bytes a
    → ArePacketsBefore Limited schema bytes b → a ≡ b
before_rows schema bytes a b p q =
    p.rows_are ∙ ap (packet_rows schema) (before_same (scope_by Limited schema) (begins_section bytes) bytes p.frames q.frames p.frames_are q.frames_are)
    ∙ sym q.rows_are

same_value : (a b : List RowValue) (cut other : Option ℕ) → a ≡ b → cut ≡ other
    → ◌≡◌ {A = CaptureValue} (record { rows = a; cut = cut }) (record { rows = b; cut = other })
same_value a b cut other p q = ap₂ (λ (r : List RowValue) (c : Option ℕ). record { rows = r; cut = c }) p q

packets_to_same : (schema : PacketSchema) (truncated : Bool) (attrs : List Attr) (bytes : List ℕ) (a b : List RowValue) (cut other : Option ℕ)
    → AreRowsTo (Packets schema) truncated attrs bytes a cut → AreRowsTo (Packets schema) truncated attrs bytes b other
    → ◌≡◌ {A = CaptureValue} (record { rows = a; cut = cut }) (record { rows = b; cut = other })
packets_to_same schema truncated attrs bytes a b None None p q = same_value a b None None (packets_same schema bytes a b p q) refl
packets_to_same schema true attrs bytes a b None (Some j) p q = absurd (before_either schema bytes a b p q.0)
packets_to_same schema true attrs bytes a b (Some k) None p q = absurd (before_either schema bytes b a q p.0)
packets_to_same schema true attrs bytes a b (Some k) (Some j) p q =
    let rows : a ≡ b = before_rows schema bytes a b p.0 q.0 in
    same_value a b (Some k) (Some j) rows (ap (λ (n : ℕ). Some n) (p.1 ∙ ap (λ (rs : List RowValue). length rs) rows ∙ sym q.1))
packets_to_same schema false attrs bytes a b None (Some j) p q = absurd q
packets_to_same schema false attrs bytes a b (Some k) None p q = absurd p
packets_to_same schema false attrs bytes a b (Some k) (Some j) p q = absurd p

packets_to_either : (schema : PacketSchema) (truncated : Bool) (attrs : List Attr) (bytes : List ℕ) (rows : List RowValue) (cut : Option ℕ) (at code : ℕ)
    → AreRowsTo (Packets schema) truncated attrs bytes rows cut → HasFaultTo (Packets schema) truncated attrs bytes at code → ⊥
packets_to_either schema truncated attrs bytes rows None at code are has = packets_either schema bytes rows at code are has.0
packets_to_either schema truncated attrs bytes rows (Some k) at code are has = has.1 rows k are

-- of a capture of any length
pub packets_never : (longest : Length) (schema : PacketSchema) (truncated : Bool) (bytes : List ℕ) (rows : List RowValue) (cut : Option ℕ)
    (at code : ℕ) → ArePacketsTo longest schema truncated bytes rows cut → HasPacketFaultTo longest schema truncated bytes at code → ⊥
packets_never longest schema truncated bytes rows None at code are has =
    frames_either (scope_by longest schema) (begins_section bytes) bytes are.frames at code are.frames_are has.0
packets_never longest schema truncated bytes rows (Some k) at code are has = has.1 rows k are

-- whether it is truncated
pub before_or_not : (scope : Scope) (b : Bool) (bytes : List ℕ) → ((frames : List FrameValue) × AreFramesBefore scope b bytes frames)
    ⊎ ((frames : List FrameValue) → AreFramesBefore scope b bytes frames → ⊥)
before_or_not scope true bytes = elim (blocks_case scope bytes).some [
  | inl says ↦ blocks_said says.0 says.1 says.2
  | inr bad ↦ inr (λ frames is. bad.1.1 frames (number_of scope.length (length frames)) (is, refl))
] where
  blocks_said : (frames : List FrameValue) (cut : Option ℕ) → blocks.Says true scope bytes frames cut
      → ((frames : List FrameValue) × AreFramesBefore scope true bytes frames) ⊎ ((frames : List FrameValue) → AreFramesBefore scope true bytes frames → ⊥)
  blocks_said frames None are = inr (λ others is. (one_case_of scope bytes).either frames (ng.Cut (number_of scope.length (length others))) are is.fault)
  blocks_said frames (Some k) is = inl (frames, is.0)
before_or_not scope false bytes = elim (records_case scope bytes).some [
  | inl says ↦ records_said says.0 says.1 says.2
  | inr bad ↦ inr (λ frames is. bad.1.1 frames (number_of scope.length (length frames)) (is, refl))
] where
  records_said : (frames : List FrameValue) (cut : Option ℕ) → records.Says true scope bytes frames cut
      → ((frames : List FrameValue) × AreFramesBefore scope false bytes frames) ⊎ ((frames : List FrameValue) → AreFramesBefore scope false bytes frames → ⊥)
  records_said frames None are = inr (λ others is. (records_one scope bytes).either frames (faults.Cut (number_of scope.length (length others))) are is.fault)
  records_said frames (Some k) is = inl (frames, is.0)

fault_to : (schema : PacketSchema) (truncated : Bool) (attrs : List Attr) (bytes : List ℕ) → Fault (scope_by Limited schema) (begins_section bytes) bytes
    → ((what : CaptureValue) × AreRowsTo (Packets schema) truncated attrs bytes what.rows what.cut)
    ⊎ ((record_at : ℕ) × (code : ℕ) × HasFaultTo (Packets schema) truncated attrs bytes record_at code)
fault_to schema false attrs bytes fault = inr (fault.place, fault.code, (fault.has, λ rows k is. is))
fault_to schema true attrs bytes fault = elim (before_or_not (scope_by Limited schema) (begins_section bytes) bytes) [
  | inl is ↦
      let rows : List RowValue = packet_rows schema is.0 in
      inl (record { rows = rows; cut = Some (length rows) }, (record { frames = is.0; frames_are = is.1; rows_are = refl }, refl))
  | inr never ↦ inr (fault.place, fault.code, (fault.has, λ rows k is. never is.0.frames is.0.frames_are))
]

pub one_packet_case : (schema : PacketSchema) (truncated : Bool) (attrs : List Attr) (bytes : List ℕ) → OneCase (Packets schema) truncated attrs bytes
one_packet_case schema truncated attrs bytes = record {
  some = elim (some_case (scope_by Limited schema) (begins_section bytes) bytes) [
    | inl frames ↦ inl (record { rows = packet_rows schema frames.0; cut = None }, record { frames = frames.0; frames_are = frames.1; rows_are = refl })
    | inr fault ↦ fault_to schema truncated attrs bytes fault
  ];
  either = λ what at code are has. packets_to_either schema truncated attrs bytes what.rows what.cut at code are has;
  one = λ a b p q. packets_to_same schema truncated attrs bytes a.rows b.rows a.cut b.cut p q;
  one_fault = λ at code other other_code p q. packet_faults_same schema bytes at code other other_code p.0 q.0;
}
