-- The records that end within the first bytes of a capture are its first.
use Rattle.std.proofs.Common.{◌≡◌, ◌∙◌, ℕ, ◌+◌, ◌-◌, ◌*◌, ◌≤◌, ◌^◌, inl, inr, List, [], ◌∷◌, ◌++◌, length, Bool, true, false, Option, Some, None, refl, sym, ap, subst, arith, append-nil}
use Rattle.std.proofs.lemmas.Bool.{cases_lt}
use Rattle.std.proofs.lemmas.List.{length-map, length-take, map-append}
use Rattle.cf_row.specs.declared.packet6.PacketSchema.{PacketSchema}
use Rattle.cf_row.specs.Row.{RowValue}
use Rattle.cf_pcap.specs.Capture.{FrameValue}
use Rattle.cf_pcap.specs.declared.scope.Scope.{Scope}
use Rattle.cf_pcap.specs.File as records
use Rattle.cf_pcap.proofs.Judging.{judged_alike}
use Rattle.cf_pcap.proofs.Steps as records_steps
use Rattle.cf_pcap.proofs.Truncating as records_cut
use Rattle.cf_pcapng.specs.File as blocks
use Rattle.cf_pcapng.proofs.Filing.{file_by_rules}
use Rattle.cf_pcapng.proofs.Steps as blocks_steps
use Rattle.cf_pcapng.proofs.Truncating as blocks_cut
use Rattle.cf_pcap.specs.Format.{Format, ReadsTo}
use Rattle.cf_pcap.specs.Streams.{IsStepper, AreGiven, early}
use Rattle.cf_pcap.specs.declared.limit.Length.{Length}
use Rattle.cf_pcap.specs.declared.limit.Length.TheVariants.{Limited, Any}
use Rattle.cf_pcap.proofs.FormatEnding.{whole_gives}
use Rattle.cf_pcap.proofs.Given.{found_gives, given_of, one_given}
use Rattle.cf_pcap.proofs.Limits.{long_more, short_or_long}
use Rattle.cf_pcap.proofs.Seen.{early_full, early_more, early_short}
use Rattle.cf_pcap.proofs.FormatUnits.{End, More, Fault, end_of, bad_none, reads_more, reads_on, sizes, wants_none}
use Rattle.cf_intake.specs.Faults.{ShowsFault, ShowsFaultIn}
use Rattle.cf_intake.specs.Formats.{begins_section}
use Rattle.cf_intake.specs.Reads.{AreFramesGiven, AreRowsGiven}
use Rattle.cf_intake.specs.Rows.{AreFramesBefore, AreFramesBy, ArePacketsTo, packet_rows, row_by, scope_by}
use Rattle.cf_intake.proofs.Capturing.{begins_same}
use Rattle.cf_intake.proofs.SingleReads.{shown_in}

early_on : (l : Length) (front more : List ℕ) → (after : List ℕ) × (early l (front ++ more) ≡ early l front ++ after)
early_on l front more = elim (short_or_long l (length front)) [
  | inl low ↦ (
    (early_more l front more low).0,
    (early_more l front more low).1 ∙ ap (λ (xs : List ℕ). xs ++ (early_more l front more low).0) (sym (early_short l front low)),
  )
  | inr high ↦ (
    [],
    early_full l front more (long_more l (length front) (length front + 1) (omega arith) high) ∙ sym (append-nil (early l front)),
  )
]

early_few : (l : Length) (front : List ℕ) → length (early l front) ≤ length front
unfolding early
early_few Limited front = (let size = length-take (2 ^ 32 - 1) front in omega (arith, size))
early_few Any front = omega arith

-- The items that first bytes give are the first of those that more bytes give.
module _ {S I F : Type 0} (f : Format S I F) (is : IsStepper f) (front more : List ℕ) (a b : List I) (p : AreGiven f front a)
    (q : AreGiven f (front ++ more) b) where
  abbrev all : (after : List ℕ) × (early f.length (front ++ more) ≡ early f.length front ++ after)
  all = early_on f.length front more

  on : ReadsTo f f.start (early f.length front ++ all.0) a p.last (p.rest ++ all.0)
  on = reads_more f is f.start (early f.length front) a p.last p.rest all.0 p.read

  by_end : End f p.last (p.rest ++ all.0) → (c : List I) × (b ≡ a ++ c)
  by_end (More items t rest read wants) = (
    items,
    one_given f (front ++ more) b (a ++ items) q
        (given_of f (front ++ more) (early f.length front ++ all.0) (a ++ items) t rest all.1
        (reads_on f f.start (early f.length front ++ all.0) a items p.last (p.rest ++ all.0) t rest on read) (wants_none f t rest wants)),
  )
  by_end (Fault items t rest fault read bad) = (
    items,
    one_given f (front ++ more) b (a ++ items) q
        (given_of f (front ++ more) (early f.length front ++ all.0) (a ++ items) t rest all.1
        (reads_on f f.start (early f.length front ++ all.0) a items p.last (p.rest ++ all.0) t rest on read) (bad_none f t rest fault bad)),
  )

  pub given_front : (c : List I) × (b ≡ a ++ c)
  given_front = by_end (end_of f is p.last (p.rest ++ all.0))

  pub given_few : 16 * length a ≤ length front
  given_few =
      let most : 16 * length (Rattle.cf_pcap.specs.Format.items_of p.read.parts) + length p.rest ≤ length (early f.length front) =
      sizes f is f.start p.read.parts (early f.length front) p.last p.rest p.read.units in
      let same : length a ≡ length (Rattle.cf_pcap.specs.Format.items_of p.read.parts) = ap length p.read.items_are in
      let less = early_few f.length front in
      omega (arith, most, same, less)

frames_front : (scope : Scope) (b : Bool) (front more : List ℕ) (xs ys : List FrameValue) → AreFramesGiven scope b front xs
    → AreFramesGiven scope b (front ++ more) ys
    → (zs : List FrameValue) × (ys ≡ xs ++ zs)
frames_front scope true front more xs ys p q = given_front (blocks.pcapng scope) (blocks_steps.stepper scope) front more xs ys p q
frames_front scope false front more xs ys p q = given_front (records.pcap scope) (records_steps.stepper scope) front more xs ys p q

frames_few : (scope : Scope) (b : Bool) (front : List ℕ) (xs : List FrameValue) → AreFramesGiven scope b front xs → 16 * length xs ≤ length front
frames_few scope true front xs p =
    given_few (blocks.pcapng scope) (blocks_steps.stepper scope) front [] xs xs p
    (subst (λ (bs : List ℕ). AreGiven (blocks.pcapng scope) bs xs) (sym (append-nil front)) p)
frames_few scope false front xs p =
    given_few (records.pcap scope) (records_steps.stepper scope) front [] xs xs p
    (subst (λ (bs : List ℕ). AreGiven (records.pcap scope) bs xs) (sym (append-nil front)) p)

-- The same of rows.
pub rows_front : (schema : PacketSchema) (front more : List ℕ) (xs ys : List RowValue) → AreRowsGiven schema front xs → AreRowsGiven schema (front ++ more) ys
    → (zs : List RowValue) × (ys ≡ xs ++ zs)
rows_front schema front more xs ys p q = elim (cases_lt (length front) 4) [
  | inl short ↦ (
    ys,
    (let few = frames_few (scope_by Any schema) (begins_section front) front p.frames p.given in
        let size : length xs ≡ length p.frames = ap (λ (rs : List RowValue). length rs) p.rows_are ∙ length-map p.frames (row_by schema) in
        ap (λ (rs : List RowValue). rs ++ ys) (sym (nothing xs (omega (arith, few, size, short))))),
  )
  | inr long ↦
      let rest = frames_front (scope_by Any schema) (begins_section front) front more p.frames q.frames p.given
      (subst (λ (b : Bool). AreFramesGiven (scope_by Any schema) b (front ++ more) q.frames) (begins_same front more long) q.given) in (
        packet_rows schema rest.0,
        q.rows_are
            ∙ (ap (packet_rows schema) rest.1
            ∙ (map-append (row_by schema) p.frames rest.0 ∙ ap (λ (rs : List RowValue). rs ++ packet_rows schema rest.0) (sym p.rows_are))),
      )
]
  where
    nothing : (rs : List RowValue) → length rs ≡ 0 → rs ≡ []
    nothing [] none = refl
    nothing (r ∷ rs) none = absurd (omega (arith, none))

-- The rows of a capture are those that its bytes give.

frames_whole : (scope : Scope) (b : Bool) (file : List ℕ) (frames : List FrameValue) → AreFramesBy scope b file frames → AreFramesGiven scope b file frames
frames_whole scope true file frames is =
    whole_gives (blocks.pcapng scope) (blocks_steps.stepper scope) file frames ((file_by_rules scope file).is_capture frames is)
frames_whole scope false file frames is =
    whole_gives (records.pcap scope) (records_steps.stepper scope) file frames ((judged_alike scope file).is_capture frames is)

frames_before : (scope : Scope) (b : Bool) (file : List ℕ) (frames : List FrameValue) → AreFramesBefore scope b file frames → AreFramesGiven scope b file frames
frames_before scope true file frames is = (blocks_cut.truncated_case scope file).given frames is
frames_before scope false file frames is = (records_cut.truncated_case scope file).given frames is

pub rows_whole : (schema : PacketSchema) (truncated : Bool) (file : List ℕ) (rows : List RowValue) (cut : Option ℕ)
    → ArePacketsTo Any schema truncated file rows cut
    → AreRowsGiven schema file rows
rows_whole schema truncated file rows None are =
    record { frames = are.frames; given = frames_whole (scope_by Any schema) (begins_section file) file are.frames are.frames_are; rows_are = are.rows_are }
rows_whole schema true file rows (Some k) are =
    record {
      frames = are.0.frames;
      given = frames_before (scope_by Any schema) (begins_section file) file are.0.frames are.0.frames_are;
      rows_are = are.0.rows_are;
    }
rows_whole schema false file rows (Some k) are = absurd are

-- Behind a fault that bytes show no record is given.

shown_frames : (scope : Scope) (b : Bool) (front more : List ℕ) (at code : ℕ) (xs : List FrameValue) → ShowsFaultIn scope b front at code
    → AreFramesGiven scope b front xs → AreFramesGiven scope b (front ++ more) xs
shown_frames scope true front more at code xs shows given =
    let f = blocks.pcapng scope in
    let gives = found_gives f (blocks_steps.stepper scope) front more shows.fault shows.fault_is in
    subst (λ (zs : List FrameValue). AreGiven f (front ++ more) zs) (one_given f front gives.0 xs gives.1 given) gives.2
shown_frames scope false front more at code xs shows given =
    let f = records.pcap scope in
    let gives = found_gives f (records_steps.stepper scope) front more shows.fault shows.fault_is in
    subst (λ (zs : List FrameValue). AreGiven f (front ++ more) zs) (one_given f front gives.0 xs gives.1 given) gives.2

pub rows_shown : (schema : PacketSchema) (front more : List ℕ) (at code : ℕ) (xs : List RowValue) → ShowsFault schema front at code
    → AreRowsGiven schema front xs → AreRowsGiven schema (front ++ more) xs
rows_shown schema front more at code xs shows p = elim (cases_lt (length front) 4) [
  | inl short ↦ absurd (shown_in (begins_section front) (scope_by Any schema) front short at code shows)
  | inr long ↦ record {
    frames = p.frames;
    given = subst (λ (b : Bool). AreFramesGiven (scope_by Any schema) b (front ++ more) p.frames) (sym (begins_same front more long))
        (shown_frames (scope_by Any schema) (begins_section front) front more at code p.frames shows p.given);
    rows_are = p.rows_are;
  }
]
