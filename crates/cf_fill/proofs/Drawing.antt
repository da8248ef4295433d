-- The packets that a seed draws, read as a capture.
use Rattle.std.proofs.Common.{◌≡◌, ℕ, ◌+◌, ◌<◌, ◌≤◌, ◌^◌, true, false, List, ◌∷◌, ◌++◌, length, Option, Some, None, Result, Ok, Err, refl, sym, ap, subst, ◌∙◌, inl, inr, arith, append-nil, length-append}
use Rattle.std.specs.Str.{bytes_eq}
use Rattle.std.proofs.lemmas.Bool.{false≢true}
use Rattle.std.proofs.lemmas.List.{length-map}
use Rattle.std.proofs.lemmas.Slice.Eq.{bytes_eq-Decides}
use Rattle.cf_outside.specs.Causes.{Rose}
use Rattle.cf_outside.specs.Files.{File, Opens, file_named}
use Rattle.cf_outside.specs.declared.shelf.OpenFault.{OpenFault}
use Rattle.cf_outside.specs.declared.shelf.OpenFault.TheVariants as open_faults
use Rattle.cf_row.specs.Row.{RowValue}
use Rattle.cf_row.specs.declared.packet6.PacketSchema.TheVariants.{Packet, Packet6}
use Rattle.cf_row.specs.Schema6.{attrs_by}
use Rattle.cf_setup.specs.declared.source.Source.{Source}
use Rattle.cf_setup.specs.declared.source.Source.TheVariants.{Packets, Records}
use Rattle.cf_pcap.specs.declared.limit.Length.TheVariants.{Limited}
use Rattle.cf_headers.specs.Packet.{packet_row_of}
use Rattle.cf_make.specs.Generated.{file_header, generated_bytes, generated_frames}
use Rattle.cf_make.proofs.Reading.{made_is_capture, frames_many}
use Rattle.cf_command.specs.Call.{SynthCall}
use Rattle.cf_intake.specs.Devices.{TakesUpTo}
use Rattle.cf_intake.specs.Faults.{HasPacketFault}
use Rattle.cf_intake.specs.Formats.{begins_section}
use Rattle.cf_intake.specs.Causes.{HasHaltCause}
use Rattle.cf_intake.specs.Reading.{TakesPackets}
use Rattle.cf_intake.specs.Rows.{ArePackets, AreRowsTo, CaptureValue, packet_rows}
use Rattle.cf_fill.specs.Work.{draws, drawn_rows}
use Rattle.cf_intake.specs.declared.refusal.Halt.{Halt}
use Rattle.cf_intake.specs.declared.refusal.Halt.TheVariants.{Refused, Stopped}
use Rattle.cf_intake.specs.declared.refusal.Stop.TheVariants as stops
use Rattle.cf_intake.proofs.Capturing.{packets_either, packets_same}

-- rows are drawn of packets by their own schema
pub draws_packets : (source : Source) → draws source ≡ true → source ≡ Packets Packet
draws_packets (Packets Packet) is = refl
draws_packets (Packets Packet6) is = absurd (false≢true is)
draws_packets Records is = absurd (false≢true is)

-- there are as many as were asked for
pub drawn_many : (call : SynthCall) → length (drawn_rows call) ≡ call.count
drawn_many call = length-map (generated_frames call.seed call.count) packet_row_of ∙ frames_many call.seed call.count

-- The file that was put last is opened by its name.

named_last : (files others : List File) (name bytes : List ℕ) → files ≡ record { name = name; bytes = bytes } ∷ others → file_named files name ≡ Some bytes
named_last files others name bytes put =
    let same : bytes_eq name name ≡ true = (bytes_eq-Decides name name).1 refl in
    let found : file_named (record { name = name; bytes = bytes } ∷ others) name ≡ Some bytes = rw same refl in
    ap (λ (fs : List File). file_named fs name) put ∙ found

pub last_opened : (files others : List File) (name bytes found left : List ℕ) → files ≡ record { name = name; bytes = bytes } ∷ others
    → file_named files name ≡ Some found → Some left ≡ Some found → left ≡ bytes
last_opened files others name bytes found left put named is = let same = named_last files others name bytes put in cc (same, named, is)

pub last_never_refused : (files others : List File) (name bytes : List ℕ) (before now : Option (List ℕ)) (fault : OpenFault)
    → files ≡ record { name = name; bytes = bytes } ∷ others → Opens (Some files) name before now (Err fault)
    → (◌≡◌ {A = Result (Unit {0}) OpenFault} (Err fault) (Err open_faults.Failed) → ⊥)
    → (◌≡◌ {A = Result (Unit {0}) OpenFault} (Err fault) (Err open_faults.Memory) → ⊥) → ⊥
last_never_refused files others name bytes before now open_faults.Missing put opens unfailed enough = let same = named_last files others name bytes put in
    let missing = opens.0 in cc (same, missing)
last_never_refused files others name bytes before now open_faults.Failed put opens unfailed enough = unfailed refl
last_never_refused files others name bytes before now open_faults.Memory put opens unfailed enough = enough refl

-- The drawn capture is read in the format that it begins as, in which it is one.

begins_pcap : (seed count : ℕ) → begins_section (generated_bytes seed count) ≡ false
unfolding begins_section file_header generated_bytes
begins_pcap seed count = refl

drawn_are : (seed count : ℕ) → count ≤ 2 ^ 20 → ArePackets Limited Packet (generated_bytes seed count) (packet_rows Packet (generated_frames seed count))
drawn_are seed count few = record {
  frames = generated_frames seed count;
  frames_are = rw (begins_pcap seed count) (made_is_capture seed count few);
  rows_are = refl;
}

-- it is shorter than what is read of a file at most, so all of it is taken
read_whole : (seed count : ℕ) (file left bytes : List ℕ) → count ≤ 2 ^ 20 → file ≡ generated_bytes seed count
    → TakesUpTo (Some file) (Some left) (2 ^ 32) bytes → bytes ≡ generated_bytes seed count
read_whole seed count file left bytes few made takes =
    let parts : file ≡ bytes ++ left = takes.taken in
    let size : length (generated_bytes seed count) < 2 ^ 32 = (made_is_capture seed count few).size in
    let sum : length file ≡ length bytes + length left = ap (λ (xs : List ℕ). length xs) parts ∙ length-append bytes left in
    let same : length file ≡ length (generated_bytes seed count) = ap (λ (xs : List ℕ). length xs) made in
    elim takes.whole [
      | inl end ↦ sym (append-nil bytes) ∙ ap (λ (xs : List ℕ). bytes ++ xs) (sym end) ∙ sym parts ∙ made
      | inr full ↦ absurd (omega (arith, size, sum, same, full))
    ]

-- what is not read as truncated ends well
read_well : (bytes : List ℕ) (rows : List RowValue) (cut : Option ℕ) → AreRowsTo (Packets Packet) false (attrs_by Packet) bytes rows cut
    → ArePackets Limited Packet bytes rows
read_well bytes rows None are = are
read_well bytes rows (Some k) are = absurd are

-- So its rows are those of the packets,
pub drawn_taken : (Took : List RowValue → Type 0) (seed count : ℕ) (file left : List ℕ) (cut : Option ℕ) → count ≤ 2 ^ 20
    → file ≡ generated_bytes seed count
    → TakesPackets Packet false (λ (end : Option ℕ) (what : CaptureValue). (what.cut ≡ end) × Took what.rows) (Some file) (Some left) (Ok cut)
    → Took (packet_rows Packet (generated_frames seed count))
drawn_taken Took seed count file left cut few made (bytes, what, takes, are, took) =
    let all : bytes ≡ generated_bytes seed count = read_whole seed count file left bytes few made takes in
    let drawn = packets_same Packet (generated_bytes seed count) what.rows (packet_rows Packet (generated_frames seed count))
    (subst (λ (xs : List ℕ). ArePackets Limited Packet xs what.rows) all (read_well bytes what.rows what.cut are)) (drawn_are seed count few) in
    subst Took drawn took.1

-- and it is want of memory alone that ends the work before.
pub drawn_memory : (Took : Option ℕ → CaptureValue → Type 0) (seed count : ℕ) (file left : List ℕ) (halt : Halt) → count ≤ 2 ^ 20
    → file ≡ generated_bytes seed count → TakesPackets Packet false Took (Some file) (Some left) (Err halt)
    → HasHaltCause {T = Option ℕ} 0 0 (Err halt) → (halt ≡ Stopped stops.Memory → ⊥) → ⊥
drawn_memory Took seed count file left (Refused why) few made (bytes, takes, bad) cause other =
    let all : bytes ≡ generated_bytes seed count = read_whole seed count file left bytes few made takes in
    packets_either Packet (generated_bytes seed count) (packet_rows Packet (generated_frames seed count)) bad.0 bad.1 (drawn_are seed count few)
    (subst (λ (xs : List ℕ). HasPacketFault Limited Packet xs bad.0 bad.1) all bad.3.0)
drawn_memory Took seed count file left (Stopped stops.ReadFault) few made stopped cause other = let rose : Rose 0 0 = cause.failed refl in omega (arith, rose)
drawn_memory Took seed count file left (Stopped stops.Memory) few made stopped cause other = other refl
