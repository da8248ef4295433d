-- A capture is read by single reads.
use Rattle.std.proofs.Common.{◌≡◌, inl, inr, ℕ, ◌+◌, ◌<◌, ◌≤◌, suc, zero, drop, Bool, true, false, List, [], ◌∷◌, ◌++◌, length, Option, Some, None, Result, MatchResult, refl, sym, ap, ap₂, subst, ◌∙◌, arith, length-append}
use Rattle.std.specs.List.{slice_get}
use Rattle.std.proofs.lemmas.List.{map-append}
use Rattle.cf_row.specs.declared.packet6.PacketSchema.{PacketSchema}
use Rattle.cf_row.specs.declared.packet6.PacketSchema.TheVariants.{Packet, Packet6}
use Rattle.cf_row.specs.Row.{RowValue}
use Rattle.cf_pcap.specs.Capture.{FrameValue}
use Rattle.cf_pcap.specs.declared.scope.Scope.{Scope}
use Rattle.cf_pcap.specs.File as records
use Rattle.cf_pcap.proofs.Heading.{head_few}
use Rattle.cf_pcap.proofs.Steps as records_steps
use Rattle.cf_pcap.proofs.Steps.{TakesHeader, TakesRecord}
use Rattle.cf_pcapng.specs.File as blocks
use Rattle.cf_pcapng.proofs.Heads.{head_short}
use Rattle.cf_pcapng.proofs.Numbers.{IsNumbered, numbered}
use Rattle.cf_pcapng.proofs.Steps as blocks_steps
use Rattle.cf_pcap.specs.Format.{Format, Part, Takes, AreUnitsThen, items_of}
use Rattle.cf_pcap.specs.Streams.{IsStepper, AreGiven, early}
use Rattle.cf_pcap.specs.Limits.{IsShort, count_on, number_of, num_of}
use Rattle.cf_pcap.specs.declared.limit.Length.{Length}
use Rattle.cf_pcap.specs.declared.limit.Length.TheVariants.{Limited, Any}
use Rattle.cf_pcap.proofs.Cases.{none_found}
use Rattle.cf_pcap.proofs.Given.{given_of, one_given}
use Rattle.cf_pcap.proofs.Seen.{early_short}
use Rattle.cf_pcap.proofs.FormatUnits.{reads_nothing, wants_none}
use Rattle.cf_intake.specs.Faults.{HasPacketFaultTo, ShowNoFault, ShowNoFaultIn}
use Rattle.cf_intake.specs.Formats.{begins_section}
use Rattle.cf_intake.specs.Parts.{IsBad}
use Rattle.cf_intake.specs.Reading.{Feeds, Finishes, IsReaderAt, reads_blocks, reads_scope}
use Rattle.cf_intake.specs.Reads.{AreFramesGiven, AreNumberedFrom, AreReadBy, AreRowsGiven, HaveRead, IsOpening, IsUnderWay}
use Rattle.cf_intake.specs.Rows.{ArePacketsTo, packet_rows, row_by, scope_by}
use Rattle.cf_intake.specs.declared.reader.Reader.{Reader}
use Rattle.cf_intake.specs.declared.reader.Reader.TheVariants.{Pcap, PcapNg}
use Rattle.cf_intake.specs.declared.reads.Reads.{Reads}
use Rattle.cf_intake.specs.declared.refusal.Halt.{Halt}
use Rattle.cf_intake.proofs.Capturing.{begins_same}
use Rattle.cf_intake.proofs.Piecewise.{said_at_end}

-- Of fewer than four bytes no frame is given, in either format.

few_short : (longest : Length) (n : ℕ) → n < 4 → IsShort longest n
few_short Limited n few = omega (arith, few)
few_short Any n few = tt

records_short : (scope : Scope) (bytes : List ℕ) → length bytes < 4 → AreGiven (records.pcap scope) bytes []
records_short scope bytes short =
    given_of (records.pcap scope) bytes bytes [] (records.pcap scope).start bytes
    (early_short scope.length bytes (few_short scope.length (length bytes) short))
    (reads_nothing (records.pcap scope) (records.pcap scope).start bytes)
    (wants_none (records.pcap scope) (records.pcap scope).start bytes
    (records_steps.step_at scope (records.pcap scope).start bytes ∙ ap (records.head_found 0) (head_few scope.links bytes short)))

blocks_short : (scope : Scope) (bytes : List ℕ) → length bytes < 4 → AreGiven (blocks.pcapng scope) bytes []
blocks_short scope bytes short =
    given_of (blocks.pcapng scope) bytes bytes [] (blocks.pcapng scope).start bytes
    (early_short scope.length bytes (few_short scope.length (length bytes) short))
    (reads_nothing (blocks.pcapng scope) (blocks.pcapng scope).start bytes)
    (wants_none (blocks.pcapng scope) (blocks.pcapng scope).start bytes
    (blocks_steps.step_at scope (blocks.pcapng scope).start bytes _ (head_short None bytes short)))

short_in : (b : Bool) (scope : Scope) (bytes : List ℕ) → length bytes < 4 → AreFramesGiven scope b bytes []
short_in true scope bytes short = blocks_short scope bytes short
short_in false scope bytes short = records_short scope bytes short

-- Nor do they show a fault.

records_shown : (scope : Scope) (bytes : List ℕ) → length bytes < 4 → ShowNoFaultIn scope false bytes
records_shown scope bytes short = λ at code shows.
    none_found (records.pcap scope) bytes [] (records.pcap scope).start bytes (few_short scope.length (length bytes) short)
    (reads_nothing (records.pcap scope) (records.pcap scope).start bytes)
    (records_steps.step_at scope (records.pcap scope).start bytes ∙ ap (records.head_found 0) (head_few scope.links bytes short)) shows.fault shows.fault_is

blocks_shown : (scope : Scope) (bytes : List ℕ) → length bytes < 4 → ShowNoFaultIn scope true bytes
blocks_shown scope bytes short = λ at code shows.
    none_found (blocks.pcapng scope) bytes [] (blocks.pcapng scope).start bytes (few_short scope.length (length bytes) short)
    (reads_nothing (blocks.pcapng scope) (blocks.pcapng scope).start bytes)
    (blocks_steps.step_at scope (blocks.pcapng scope).start bytes _ (head_short None bytes short)) shows.fault shows.fault_is

pub shown_in : (b : Bool) (scope : Scope) (bytes : List ℕ) → length bytes < 4 → ShowNoFaultIn scope b bytes
shown_in true scope bytes short = blocks_shown scope bytes short
shown_in false scope bytes short = records_shown scope bytes short

pub opening_unbroken : (schema : PacketSchema) (held bytes : List ℕ) (rows : List RowValue) → IsOpening held bytes rows → ShowNoFault schema bytes
opening_unbroken schema held bytes rows opening = shown_in (begins_section bytes) (scope_by Any schema) bytes opening.short

pub one_frames : (b : Bool) (scope : Scope) (bytes : List ℕ) (xs ys : List FrameValue) → AreFramesGiven scope b bytes xs → AreFramesGiven scope b bytes ys
    → xs ≡ ys
one_frames true scope bytes xs ys p q = one_given (blocks.pcapng scope) bytes xs ys p q
one_frames false scope bytes xs ys p q = one_given (records.pcap scope) bytes xs ys p q

-- What was read gives these rows.

given_at : (reader : Reader) (bytes : List ℕ) (frames : List FrameValue) → IsReaderAt reader bytes frames
    → AreFramesGiven (reads_scope reader) (reads_blocks reader) bytes frames
given_at (Pcap reader) bytes frames at = at.1
given_at (PcapNg reader) bytes frames at = at.1

given_by : (schema : PacketSchema) (reader : Option Reader) (held bytes : List ℕ) (rows : List RowValue) → AreReadBy schema reader held bytes rows
    → AreRowsGiven schema bytes rows
given_by schema None held bytes rows by =
    record { frames = []; given = short_in (begins_section bytes) (scope_by Any schema) bytes by.short; rows_are = by.none }
given_by schema (Some reader) held bytes rows by = record {
  frames = by.frames;
  given = subst (λ (ls : Scope). AreFramesGiven ls (begins_section bytes) bytes by.frames) by.scope
      (subst (λ (b : Bool). AreFramesGiven (reads_scope reader) b bytes by.frames) by.blocks (given_at reader bytes by.frames by.at));
  rows_are = by.rows_are;
}

pub rows_given : (reads : Reads) (bytes : List ℕ) (rows : List RowValue) → HaveRead reads bytes rows → AreRowsGiven reads.schema bytes rows
rows_given reads bytes rows have = given_by reads.schema reads.reader reads.held.items bytes rows have.by

-- Frames are numbered from 0.

abbrev AreItemsFrom : Length → ℕ → List FrameValue → Type 0
AreItemsFrom longest k [] = Unit {0}
AreItemsFrom longest k (frame ∷ frames) = (frame.num ≡ num_of longest k) × AreItemsFrom longest (k + 1) frames

number_on : (longest : Length) (k n : ℕ) → count_on longest (number_of longest k) n ≡ number_of longest (k + n)
number_on Limited k n = omega arith
number_on Any k n = omega arith

num_told : (longest : Length) (k : ℕ) → num_of longest (number_of longest k) ≡ num_of longest k
num_told Limited k = refl
num_told Any k = omega arith

number_first : (longest : Length) → 0 ≡ number_of longest 0
number_first Limited = refl
number_first Any = omega arith

items_more : (l : Length) (k : ℕ) (xs ys : List FrameValue) → AreItemsFrom l k xs → AreItemsFrom l (k + length xs) ys → AreItemsFrom l k (xs ++ ys)
items_more l k [] ys are more = subst (λ (n : ℕ). AreItemsFrom l n ys) (omega arith) more
items_more l k (x ∷ xs) ys are more = (
  are.0,
  items_more l (k + 1) xs ys are.1 (let same : k + length (x ∷ xs) ≡ k + 1 + length xs = omega arith in subst (λ (n : ℕ). AreItemsFrom l n ys) same more),
)

abbrev AreNumberedBy : {S F : Type 0} → Format S FrameValue F → Type 0
AreNumberedBy {S} f =
    (s : S) (bytes : List ℕ) (n : ℕ) (items : List FrameValue) (t : S) (k : ℕ) → f.step s bytes ≡ Takes n items t → f.count s ≡ number_of f.length k
    → AreItemsFrom f.length k items

units_from : {S F : Type 0} (f : Format S FrameValue F) (is : IsStepper f) → AreNumberedBy f → (s : S) (k : ℕ) (parts : List (Part S FrameValue))
    (bytes : List ℕ) (t : S) (rest : List ℕ) → f.count s ≡ number_of f.length k → AreUnitsThen f s parts bytes t rest
    → AreItemsFrom f.length k (items_of parts)
units_from f is each s k [] bytes t rest at h = tt
units_from f is each s k (part ∷ parts) bytes t rest at h =
    let n = length part.items in
    let next : f.count part.after ≡ number_of f.length (k + n) =
    is.counts s bytes part.size part.items part.after h.0 ∙ ap (λ (c : ℕ). count_on f.length c n) at ∙ number_on f.length k n in
    items_more f.length k part.items (items_of parts) (each s bytes part.size part.items part.after k h.0 at)
    (units_from f is each part.after (k + n) parts (drop part.size bytes) t rest next h.1)

given_from : {S F : Type 0} (f : Format S FrameValue F) (is : IsStepper f) → AreNumberedBy f → (stream : List ℕ) (items : List FrameValue)
    → AreGiven f stream items → AreItemsFrom f.length 0 items
given_from f is each stream items given =
    subst (λ (xs : List FrameValue). AreItemsFrom f.length 0 xs) (sym given.read.items_are)
    (units_from f is each f.start 0 given.read.parts (early f.length stream) given.last given.rest (is.none ∙ number_first f.length) given.read.units)

records_number : (scope : Scope) → AreNumberedBy (records.pcap scope)
records_number scope s bytes n items t k h at = elim (records_steps.taken scope s bytes n items t h) [
  | TakesHeader new none it len given after ↦ subst (λ (xs : List FrameValue). AreItemsFrom scope.length k xs) (sym given) tt
  | TakesRecord old some it len given after ↦ subst (λ (xs : List FrameValue). AreItemsFrom scope.length k xs) (sym given) (ap (num_of scope.length) at ∙ num_told scope.length k, tt)
]

of_numbered : (l : Length) (count k : ℕ) (items : List FrameValue) → IsNumbered (num_of l count) items → count ≡ number_of l k → AreItemsFrom l k items
of_numbered l count k items (inl none) at = subst (λ (xs : List FrameValue). AreItemsFrom l k xs) (sym none) tt
of_numbered l count k items (inr one) at = subst (λ (xs : List FrameValue). AreItemsFrom l k xs) (sym one.1) (one.2 ∙ ap (num_of l) at ∙ num_told l k, tt)

blocks_number : (scope : Scope) → AreNumberedBy (blocks.pcapng scope)
blocks_number scope s bytes n items t k h at = of_numbered scope.length s.count k items (numbered scope s bytes n items t h) at

frames_from : (b : Bool) (scope : Scope) (bytes : List ℕ) (frames : List FrameValue) → AreFramesGiven scope b bytes frames
    → AreItemsFrom scope.length 0 frames
frames_from true scope bytes frames given =
    given_from (blocks.pcapng scope) (blocks_steps.stepper scope) (blocks_number scope) bytes frames given
frames_from false scope bytes frames given =
    given_from (records.pcap scope) (records_steps.stepper scope) (records_number scope) bytes frames given

num_by : (schema : PacketSchema) (frame : FrameValue) → (row_by schema frame).num ≡ frame.num
num_by Packet frame = refl
num_by Packet6 frame = refl

number_at : (schema : PacketSchema) (k : ℕ) (frames : List FrameValue) → AreItemsFrom Any k frames → AreNumberedFrom k (packet_rows schema frames)
number_at schema k [] are place row found = absurd (cc found)
number_at schema k (frame ∷ frames) are zero row found =
    let same : row_by schema frame ≡ row = cc found in
    ap (λ (r : RowValue). r.num) (sym same) ∙ (num_by schema frame ∙ (are.0 ∙ ap (num_of Any) (omega arith)))
number_at schema k (frame ∷ frames) are (suc place) row found = number_at schema (k + 1) frames are.1 place row found ∙ ap (num_of Any) (omega arith)

-- So are the rows that are given.
pub rows_number : (schema : PacketSchema) (bytes : List ℕ) (rows : List RowValue) → AreRowsGiven schema bytes rows → AreNumberedFrom 0 rows
rows_number schema bytes rows given =
    subst (λ (rs : List RowValue). AreNumberedFrom 0 rs) (sym given.rows_are)
    (number_at schema 0 given.frames (frames_from (begins_section bytes) (scope_by Any schema) bytes given.frames given.given))

get_behind : {A : Type 0} (xs ys : List A) (place : ℕ) → slice_get (xs ++ ys) (length xs + place) ≡ slice_get ys place
get_behind [] ys place = ap (λ (n : ℕ). slice_get ys n) (omega arith)
get_behind (x ∷ xs) ys place =
    let same : length (x ∷ xs) + place ≡ suc (length xs + place) = omega arith in
    ap (λ (n : ℕ). slice_get (x ∷ (xs ++ ys)) n) same ∙ get_behind xs ys place

pub rows_behind : (xs ys : List RowValue) → AreNumberedFrom 0 (xs ++ ys) → AreNumberedFrom (length xs) ys
rows_behind xs ys are place row found = are (length xs + place) row (get_behind xs ys place ∙ found) ∙ ap (num_of Any) (omega arith)

-- So are those that a read gives.
pub numbered_behind : (schema : PacketSchema) (reader : Option Reader) (held bytes : List ℕ) (before rows : List RowValue)
    → AreReadBy schema reader held bytes (before ++ rows) → AreNumberedFrom (length before) rows
numbered_behind schema reader held bytes before rows by =
    rows_behind before rows (rows_number schema bytes (before ++ rows) (given_by schema reader held bytes (before ++ rows) by))

-- A piece is read.

pub begun_with : (schema : PacketSchema) (old new : Reader) (held : List ℕ) (rows : List RowValue) (given : List FrameValue) → 4 ≤ length held
    → reads_blocks old ≡ begins_section held
    → reads_scope old ≡ scope_by Any schema → IsReaderAt old [] [] → reads_blocks new ≡ reads_blocks old → reads_scope new ≡ reads_scope old
    → rows ≡ packet_rows schema given → Feeds old new held given → IsUnderWay schema new held rows
begun_with schema old new held rows given long begins basic at same kept are feeds =
    record { frames = given; at = feeds [] [] at; rows_are = are; blocks = same ∙ begins; scope = kept ∙ basic; long = long }

pub fed_more : (schema : PacketSchema) (old new : Reader) (piece : List ℕ) (more : List RowValue) (given : List FrameValue)
    → reads_blocks new ≡ reads_blocks old
    → reads_scope new ≡ reads_scope old → more ≡ packet_rows schema given → Feeds old new piece given
    → (bytes : List ℕ) (rows : List RowValue) → IsUnderWay schema old bytes rows → IsUnderWay schema new (bytes ++ piece) (rows ++ more)
fed_more schema old new piece more given same kept are feeds bytes rows on =
    let sum : length (bytes ++ piece) ≡ length bytes + length piece = length-append bytes piece in
    let long : 4 ≤ length bytes = on.long in record {
      frames = on.frames ++ given;
      at = feeds bytes on.frames on.at;
      rows_are = ap₂ (λ (a b : List RowValue). a ++ b) on.rows_are are ∙ sym (map-append (row_by schema) on.frames given);
      blocks = same ∙ (on.blocks ∙ sym (begins_same bytes piece on.long));
      scope = kept ∙ on.scope;
      long = omega (arith, sum, long);
    }

-- The end is reached.

pub ended_way : (schema : PacketSchema) (truncated : Bool) (reader : Reader) (bytes : List ℕ) (rows : List RowValue) (result : Result (Option ℕ) Halt)
    → IsUnderWay schema reader bytes rows → Finishes truncated reader result
    → MatchResult result (ArePacketsTo Any schema truncated bytes rows) (IsBad (HasPacketFaultTo Any schema truncated bytes))
ended_way schema truncated reader bytes rows result on ends =
    said_at_end Any schema truncated reader bytes on.frames rows result on.at on.rows_are on.blocks on.scope ends

-- With fewer bytes than tell the format, they are read by records.
pub ended_short : (schema : PacketSchema) (truncated : Bool) (old new : Reader) (held bytes : List ℕ) (rows some : List RowValue)
    (given : List FrameValue) (result : Result (Option ℕ) Halt) → IsOpening held bytes rows → reads_blocks old ≡ begins_section held
    → reads_scope old ≡ scope_by Any schema → IsReaderAt old [] [] → reads_blocks new ≡ reads_blocks old → reads_scope new ≡ reads_scope old
    → some ≡ packet_rows schema given → Feeds old new held given → Finishes truncated new result
    → MatchResult result (ArePacketsTo Any schema truncated bytes rows) (IsBad (HasPacketFaultTo Any schema truncated bytes))
ended_short schema truncated old new held bytes rows some given result opening begins basic at same kept are feeds ends =
    let there : IsReaderAt new held given = feeds [] [] at in
    let found = given_at new held given there in
    let scope = scope_by Any schema in
    let right : AreFramesGiven scope (begins_section held) held given =
    subst (λ (ls : Scope). AreFramesGiven ls (begins_section held) held given) (kept ∙ basic)
    (subst (λ (b : Bool). AreFramesGiven (reads_scope new) b held given) (same ∙ begins) found) in
    let short : length held < 4 = subst (λ (xs : List ℕ). length xs < 4) (sym opening.kept) opening.short in
    let none : given ≡ [] = one_frames (begins_section held) scope held given [] right (short_in (begins_section held) scope held short) in
    let rows_are : rows ≡ packet_rows schema given = opening.none ∙ ap (packet_rows schema) (sym none) in
    subst (λ (xs : List ℕ). MatchResult result (ArePacketsTo Any schema truncated xs rows) (IsBad (HasPacketFaultTo Any schema truncated xs))) opening.kept
    (said_at_end Any schema truncated new held given rows result there rows_are (same ∙ begins) (kept ∙ basic) ends)
