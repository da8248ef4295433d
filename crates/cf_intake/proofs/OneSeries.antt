-- Captures have one list of records, end to end, and end in one way.
use Rattle.std.proofs.Common.{◌≡◌, ◌⊎◌, ℕ, suc, Bool, true, false, List, [], ◌∷◌, ◌++◌, length, Option, Some, None, refl, sym, ap, ap₂, subst, ◌∙◌, inl, inr}
use Rattle.cf_outside.specs.Files.{File, file_named}
use Rattle.cf_row.specs.declared.packet6.PacketSchema.{PacketSchema}
use Rattle.cf_pcap.specs.Capture.{FrameValue}
use Rattle.cf_pcap.specs.File as records
use Rattle.cf_pcap.specs.Limits.{number_of}
use Rattle.cf_pcap.specs.declared.limit.Length.TheVariants.{Any}
use Rattle.cf_pcap.specs.declared.scope.Scope.{Scope}
use Rattle.cf_pcap.proofs.Given.{one_gift}
use Rattle.cf_pcap.proofs.Steps as records_steps
use Rattle.cf_pcapng.specs.File as blocks
use Rattle.cf_pcapng.proofs.Steps as blocks_steps
use Rattle.cf_row.specs.Row.{RowValue}
use Rattle.cf_intake.specs.Faults.{HasPacketFaultTo}
use Rattle.cf_intake.specs.Formats.{begins_section}
use Rattle.cf_intake.specs.Laws.{OneSeries}
use Rattle.cf_intake.specs.Reads.{AreFramesGiven, AreRowsGiven}
use Rattle.cf_intake.specs.Rows.{ArePackets, ArePacketsBefore, ArePacketsTo, CaptureValue, packet_rows, scope_by}
use Rattle.cf_intake.specs.Series.{AreEndToEnd, BreaksPackets, SaysPackets, SeriesEnd, behind}
use Rattle.cf_intake.specs.Series.SeriesEnd.{whole, refused}
use Rattle.cf_intake.specs.declared.refusal.Refusal.TheVariants.{NoFile, Capture}
use Rattle.cf_intake.proofs.Capturing.{before_fault, before_or_not, before_same, faults_same, frames_either, frames_same, packets_never, some_case}
use Rattle.cf_intake.proofs.SingleReads.{one_frames}

-- One capture of any length.

whole_same : (schema : PacketSchema) (bytes : List ℕ) (a b : List RowValue) → ArePackets Any schema bytes a → ArePackets Any schema bytes b → a ≡ b
whole_same schema bytes a b p q = p.rows_are
    ∙ ap (packet_rows schema) (frames_same (scope_by Any schema) (begins_section bytes) bytes p.frames q.frames p.frames_are q.frames_are) ∙ sym q.rows_are

cut_same : (schema : PacketSchema) (bytes : List ℕ) (a b : List RowValue) → ArePacketsBefore Any schema bytes a → ArePacketsBefore Any schema bytes b → a ≡ b
cut_same schema bytes a b p q = p.rows_are
    ∙ ap (packet_rows schema) (before_same (scope_by Any schema) (begins_section bytes) bytes p.frames q.frames p.frames_are q.frames_are) ∙ sym q.rows_are

cut_never : (schema : PacketSchema) (bytes : List ℕ) (a b : List RowValue) → ArePackets Any schema bytes a → ArePacketsBefore Any schema bytes b → ⊥
cut_never schema bytes a b p q =
    let fault = before_fault (scope_by Any schema) (begins_section bytes) bytes q.frames q.frames_are in
    frames_either (scope_by Any schema) (begins_section bytes) bytes p.frames fault.0 fault.1 p.frames_are fault.2

value_same : (schema : PacketSchema) (truncated : Bool) (bytes : List ℕ) (a b : List RowValue) (cut other : Option ℕ)
    → ArePacketsTo Any schema truncated bytes a cut → ArePacketsTo Any schema truncated bytes b other → (a ≡ b) × (cut ≡ other)
value_same schema truncated bytes a b None None p q = (whole_same schema bytes a b p q, refl)
value_same schema true bytes a b None (Some j) p q = absurd (cut_never schema bytes a b p q.0)
value_same schema true bytes a b (Some k) None p q = absurd (cut_never schema bytes b a q p.0)
value_same schema true bytes a b (Some k) (Some j) p q =
    let rows : a ≡ b = cut_same schema bytes a b p.0 q.0 in
    (rows, ap (λ (n : ℕ). Some n) (p.1 ∙ ap (λ (rs : List RowValue). number_of Any (length rs)) rows ∙ sym q.1))
value_same schema false bytes a b None (Some j) p q = absurd q
value_same schema false bytes a b (Some k) None p q = absurd p
value_same schema false bytes a b (Some k) (Some j) p q = absurd p

given_same : (schema : PacketSchema) (bytes : List ℕ) (a b : List RowValue) → AreRowsGiven schema bytes a → AreRowsGiven schema bytes b → a ≡ b
given_same schema bytes a b p q = p.rows_are
    ∙ ap (packet_rows schema) (one_frames (begins_section bytes) (scope_by Any schema) bytes p.frames q.frames p.given q.given) ∙ sym q.rows_are

some_frames : (scope : Scope) (b : Bool) (bytes : List ℕ) → (frames : List FrameValue) × AreFramesGiven scope b bytes frames
some_frames scope true bytes = (one_gift (blocks.pcapng scope) (blocks_steps.stepper scope) bytes).some
some_frames scope false bytes = (one_gift (records.pcap scope) (records_steps.stepper scope) bytes).some

some_rows : (schema : PacketSchema) (bytes : List ℕ) → (rows : List RowValue) × AreRowsGiven schema bytes rows
some_rows schema bytes =
    let found = some_frames (scope_by Any schema) (begins_section bytes) bytes in
    (packet_rows schema found.0, record { frames = found.0; given = found.1; rows_are = refl })

abbrev SomeEnd : PacketSchema → Bool → List ℕ → Type 0
SomeEnd schema truncated bytes =
    ((what : CaptureValue) × ArePacketsTo Any schema truncated bytes what.rows what.cut)
    ⊎ ((at : ℕ) × (code : ℕ) × HasPacketFaultTo Any schema truncated bytes at code)

some_end_of : (schema : PacketSchema) (truncated : Bool) (bytes : List ℕ) → SomeEnd schema truncated bytes
some_end_of schema false bytes = elim (some_case (scope_by Any schema) (begins_section bytes) bytes) [
  | inl frames ↦ inl (record { rows = packet_rows schema frames.0; cut = None }, record { frames = frames.0; frames_are = frames.1; rows_are = refl })
  | inr fault ↦ inr (fault.place, fault.code, (fault.has, λ rows k is. is))
]
some_end_of schema true bytes = elim (some_case (scope_by Any schema) (begins_section bytes) bytes) [
  | inl frames ↦ inl (record { rows = packet_rows schema frames.0; cut = None }, record { frames = frames.0; frames_are = frames.1; rows_are = refl })
  | inr fault ↦ elim (before_or_not (scope_by Any schema) (begins_section bytes) bytes) [
    | inl is ↦
        let rows : List RowValue = packet_rows schema is.0 in
        inl
        (record { rows = rows; cut = Some (number_of Any (length rows)) }, (record { frames = is.0; frames_are = is.1; rows_are = refl }, refl))
    | inr never ↦ inr (fault.place, fault.code, (fault.has, λ rows k is. never is.0.frames is.0.frames_are))
  ]
]

-- Several.
module _ (schema : PacketSchema) (truncated : Bool) (files : List File) where
  both_say : (name : List ℕ) (a b : CaptureValue) → SaysPackets schema truncated (Some files) name a → SaysPackets schema truncated (Some files) name b
      → (a.rows ≡ b.rows) × (a.cut ≡ b.cut)
  both_say name a b p q =
      let bytes : p.bytes ≡ q.bytes = cc (p.file, q.file) in
      value_same schema truncated q.bytes a.rows b.rows a.cut b.cut
      (subst (λ (xs : List ℕ). ArePacketsTo Any schema truncated xs a.rows a.cut) bytes p.says) q.says

  says_or_breaks : (name : List ℕ) (what : CaptureValue) (rows : List RowValue) (at code : ℕ) → SaysPackets schema truncated (Some files) name what
      → BreaksPackets schema truncated (Some files) name rows at code → ⊥
  says_or_breaks name what rows at code p q =
      let bytes : p.bytes ≡ q.bytes = cc (p.file, q.file) in
      packets_never Any schema truncated q.bytes what.rows what.cut at code
      (subst (λ (xs : List ℕ). ArePacketsTo Any schema truncated xs what.rows what.cut) bytes p.says) q.breaks

  both_break : (name : List ℕ) (a b : List RowValue) (at code at' code' : ℕ) → BreaksPackets schema truncated (Some files) name a at code
      → BreaksPackets schema truncated (Some files) name b at' code' → (a ≡ b) × (at ≡ at') × (code ≡ code')
  both_break name a b at code at' code' p q =
      let bytes : p.bytes ≡ q.bytes = cc (p.file, q.file) in
      let fault = faults_same (scope_by Any schema) (begins_section q.bytes) q.bytes at code at' code'
      (subst (λ (xs : List ℕ). HasPacketFaultTo Any schema truncated xs at code) bytes p.breaks).0 q.breaks.0 in
      (given_same schema q.bytes a b (subst (λ (xs : List ℕ). AreRowsGiven schema xs a) bytes p.given) q.given, fault.0, fault.1)

  file_or_none : (name bytes : List ℕ) → file_named files name ≡ None → file_named files name ≡ Some bytes → ⊥
  file_or_none name bytes p q = absurd (cc (p, q))

  one_end : (place : ℕ) (names : List (List ℕ)) (a b : List RowValue) (end other : SeriesEnd)
      → AreEndToEnd schema truncated (Some files) place names a end → AreEndToEnd schema truncated (Some files) place names b other
      → (a ≡ b) × (end ≡ other)
  one_end place [] a b end other p q = (p.0 ∙ sym q.0, p.1 ∙ sym q.1)
  one_end place (name ∷ names) a b end other (inl p) (inl q) = (p.1 ∙ sym q.1, p.2 ∙ sym q.2)
  one_end place (name ∷ names) a b end other (inl p) (inr (inl q)) = absurd (file_or_none name q.2.bytes p.0 q.2.file)
  one_end place (name ∷ names) a b end other (inl p) (inr (inr q)) = absurd (file_or_none name q.3.bytes p.0 q.3.file)
  one_end place (name ∷ names) a b end other (inr (inl p)) (inl q) = absurd (file_or_none name p.2.bytes q.0 p.2.file)
  one_end place (name ∷ names) a b end other (inr (inl p)) (inr (inl q)) =
      let same = both_break name a b p.0 p.1 q.0 q.1 p.2 q.2 in
      (same.0, p.3 ∙ ap₂ (λ (at code : ℕ). refused place (Capture at code)) same.1 same.2 ∙ sym q.3)
  one_end place (name ∷ names) a b end other (inr (inl p)) (inr (inr q)) = absurd (says_or_breaks name q.0 a p.0 p.1 q.3 p.2)
  one_end place (name ∷ names) a b end other (inr (inr p)) (inl q) = absurd (file_or_none name p.3.bytes q.0 p.3.file)
  one_end place (name ∷ names) a b end other (inr (inr p)) (inr (inl q)) = absurd (says_or_breaks name p.0 b q.0 q.1 p.3 q.2)
  one_end place (name ∷ names) a b end other (inr (inr p)) (inr (inr q)) =
      let same = both_say name p.0 q.0 p.3 q.3 in
      let rest = one_end (suc place) names p.1 q.1 p.2 q.2 p.4 q.4 in
      (p.5 ∙ ap₂ (λ (xs ys : List RowValue). xs ++ ys) same.0 rest.0 ∙ sym q.5, p.6 ∙ ap₂ behind same.1 rest.1 ∙ sym q.6)

  abbrev HasEnd : ℕ → List (List ℕ) → Type 0
  HasEnd place names = (rows : List RowValue) × (end : SeriesEnd) × AreEndToEnd schema truncated (Some files) place names rows end

  some_at : (place : ℕ) (name : List ℕ) (names : List (List ℕ)) (file : Option (List ℕ)) → file_named files name ≡ file → HasEnd (suc place) names
      → HasEnd place (name ∷ names)
  some_at place name names None is more = ([], refused place NoFile, inl (is, refl, refl))
  some_at place name names (Some bytes) is more = elim (some_end_of schema truncated bytes) [
    | inl says ↦ (
      says.0.rows ++ more.0,
      behind says.0.cut more.1,
      inr (inr (says.0, more.0, more.1, record { bytes = bytes; file = is; says = says.1 }, more.2, refl, refl)),
    )
    | inr bad ↦
        let rows = some_rows schema bytes in (
          rows.0,
          refused place (Capture bad.0 bad.1),
          inr (inl (bad.0, bad.1, record { bytes = bytes; file = is; given = rows.1; breaks = bad.2 }, refl)),
        )
  ]

  some_end : (place : ℕ) (names : List (List ℕ)) → HasEnd place names
  some_end place [] = ([], whole [], (refl, refl))
  some_end place (name ∷ names) = some_at place name names (file_named files name) refl (some_end (suc place) names)

pub one_series : (schema : PacketSchema) (truncated : Bool) (files : List File) (names : List (List ℕ)) → OneSeries schema truncated files names
one_series schema truncated files names = record {
  some = some_end schema truncated files 1 names;
  one = λ a b end other p q. one_end schema truncated files 1 names a b end other p q;
}
