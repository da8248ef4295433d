-- A capture is read piece by piece.
use Rattle.std.proofs.Common.{◌≡◌, inl, inr, ℕ, ◌+◌, ◌-◌, ◌*◌, ◌<◌, ◌≤◌, ◌^◌, min, take, drop, Bool, true, false, List, [], ◌++◌, length, Option, Some, None, Result, Ok, Err, MatchResult, refl, sym, ap, ap₂, subst, ◌∙◌, arith, length-append}
use Rattle.std.proofs.KnownBytes.{Consumes-trans}
use Rattle.std.proofs.Math.Seq.{take-append-add}
use Rattle.std.proofs.lemmas.List.{map-append, length-drop, length-map, length-take, take-append-le}
use borrow.Rule.Slice.PartMut.{mid_of, post_of, put_mid, same_len_mid}
use Rattle.std.specs.Io.KnownBytes.{Consumes}
use Rattle.cf_row.specs.declared.packet6.PacketSchema.{PacketSchema}
use Rattle.cf_row.specs.Schema6.{attrs_by}
use Rattle.cf_pcap.specs.declared.scope.Scope.{Scope}
use Rattle.cf_pcap.specs.Limits.{number_of}
use Rattle.cf_pcap.specs.declared.limit.Length.{Length}
use Rattle.cf_pcap.specs.declared.limit.Length.TheVariants.{Limited}
use Rattle.cf_pcap.specs.Capture.{FrameValue}
use Rattle.cf_row.specs.Row.{RowValue}
use Rattle.cf_intake.specs.Devices.{TakesUpTo, TakesAtMost}
use Rattle.cf_setup.specs.declared.source.Source.TheVariants.{Packets}
use Rattle.cf_intake.specs.Faults.{HasFaultIn, HasPacketFaultTo}
use Rattle.cf_intake.specs.Formats.{begins_section}
use Rattle.cf_intake.specs.Parts.{IsBad}
use Rattle.cf_intake.specs.Reading.{AddsFew, AreFramesTo, Feeds, Finishes, HasFaultUncut, IsCutAt, IsReaderAt, IsReadOn, IsLast, TakesPackets, reads_blocks, reads_scope}
use Rattle.cf_intake.specs.Rows.{CaptureValue, AreFramesBy, AreFramesBefore, ArePacketsTo, AreRowsTo, IsTruncatedAt, packet_rows, row_by, scope_by}
use Rattle.cf_intake.specs.declared.pieces.Pieces.{Pieces}
use Rattle.cf_intake.specs.declared.reader.Reader.{Reader}
use Rattle.cf_intake.specs.declared.refusal.Halt.{Halt}
use Rattle.cf_intake.specs.declared.refusal.Halt.TheVariants.{Refused, Stopped}
use Rattle.cf_intake.specs.declared.refusal.Stop.TheVariants as stops
use Rattle.cf_intake.proofs.Capturing.{begins_same}

pub begun : (old : Reader) (new : Pieces) (before now : Option (List ℕ)) (piece : List ℕ) (rows : List RowValue) (given : List FrameValue)
    → IsReaderAt old [] [] → reads_blocks old ≡ begins_section piece → reads_blocks new.reader ≡ reads_blocks old
    → reads_scope old ≡ scope_by Limited new.schema
    → reads_scope new.reader ≡ reads_scope old
    → length new.buf.items ≡ 65536 → new.number ≡ 1 → TakesUpTo before now 65536 piece → length piece ≡ new.count → Feeds old new.reader piece given
    → rows ≡ packet_rows new.schema given → IsReadOn new before now rows
begun old new before now piece rows given at begins same basic kept buf one takes size feeds are = record {
  stream = piece;
  frames = given;
  taken = takes.taken;
  at = feeds [] [] at;
  rows_are = are;
  blocks = same ∙ begins;
  scope = kept ∙ basic;
  size = buf;
  long = omega (arith, size, one);
  some = omega (arith, one);
  short = (let most : length piece ≤ 65536 = takes.most in omega (arith, size, most));
  few = omega (arith, one);
  whole = elim takes.whole [ inl end ↦ inl end | inr full ↦ inr (sym size ∙ full) ];
}

pub gone_on : (old new : Pieces) (before mid now : Option (List ℕ)) (piece : List ℕ) (rows more : List RowValue) (given : List FrameValue)
    → IsReadOn old before mid rows → new.schema ≡ old.schema → old.count ≡ 65536 → old.number < 65536 → reads_blocks new.reader ≡ reads_blocks old.reader
    → reads_scope new.reader ≡ reads_scope old.reader
    → length new.buf.items ≡ 65536 → new.number ≡ old.number + 1 → TakesUpTo mid now 65536 piece → length piece ≡ new.count
    → Feeds old.reader new.reader piece given → more ≡ packet_rows old.schema given → IsReadOn new before now (rows ++ more)
gone_on old new before mid now piece rows more given on kind full left same kept buf next takes size feeds are =
    let long : length on.stream + 65536 ≡ 65536 * old.number + old.count = on.long in
    let some : 1 ≤ old.number = on.some in
    let most : length piece ≤ 65536 = takes.most in
    let sum : length (on.stream ++ piece) ≡ length on.stream + length piece = length-append on.stream piece in
    record {
      stream = on.stream ++ piece;
      frames = on.frames ++ given;
      taken = Consumes-trans before mid now on.stream piece on.taken takes.taken;
      at = feeds on.stream on.frames on.at;
      rows_are = ap₂ (λ (a b : List RowValue). a ++ b) on.rows_are are ∙ sym (map-append (row_by old.schema) on.frames given)
          ∙ ap (λ (s : PacketSchema). packet_rows s (on.frames ++ given)) (sym kind);
      scope = kept ∙ on.scope ∙ ap (scope_by Limited) (sym kind);
      blocks = same ∙ on.blocks ∙ sym (begins_same on.stream piece (omega (arith, long, some, full)));
      size = buf;
      long = omega (arith, long, sum, size, full, next);
      some = omega (arith, next);
      short = omega (arith, size, most);
      few = omega (arith, left, next);
      whole = elim takes.whole [ inl end ↦ inl end | inr whole ↦ inr (sym size ∙ whole) ];
    }

stream_small : (pieces : Pieces) (before now : Option (List ℕ)) (rows : List RowValue) → (on : IsReadOn pieces before now rows) → length on.stream ≤ 2 ^ 32
stream_small pieces before now rows on =
    let long : length on.stream + 65536 ≡ 65536 * pieces.number + pieces.count = on.long in
    let short : pieces.count ≤ 65536 = on.short in
    let few : pieces.number ≤ 65536 = on.few in
    omega (arith, long, short, few)

pub stopped_on : (pieces : Pieces) (before now : Option (List ℕ)) (rows : List RowValue) → IsReadOn pieces before now rows → TakesAtMost before now (2 ^ 32)
stopped_on pieces before now rows on = record { bytes = on.stream; taken = on.taken; most = stream_small pieces before now rows on }

stopped_more : (pieces : Pieces) (before mid now : Option (List ℕ)) (rows : List RowValue) → IsReadOn pieces before mid rows → pieces.number < 65536
    → TakesAtMost mid now 65536 → TakesAtMost before now (2 ^ 32)
stopped_more pieces before mid now rows on left takes =
    let long : length on.stream + 65536 ≡ 65536 * pieces.number + pieces.count = on.long in
    let short : pieces.count ≤ 65536 = on.short in
    let most : length takes.bytes ≤ 65536 = takes.most in
    let sum : length (on.stream ++ takes.bytes) ≡ length on.stream + length takes.bytes = length-append on.stream takes.bytes in
    record {
      bytes = on.stream ++ takes.bytes;
      taken = Consumes-trans before mid now on.stream takes.bytes on.taken takes.taken;
      most = omega (arith, long, short, most, sum, left);
    }

taken_whole : (pieces : Pieces) (before now : Option (List ℕ)) (rows : List RowValue) → (on : IsReadOn pieces before now rows) → IsLast pieces
    → TakesUpTo before now (2 ^ 32) on.stream
taken_whole pieces before now rows on last =
    let long : length on.stream + 65536 ≡ 65536 * pieces.number + pieces.count = on.long in
    let few : pieces.number ≤ 65536 = on.few in
    record {
      taken = on.taken;
      most = stream_small pieces before now rows on;
      whole = elim on.whole [
        | inl end ↦ inl end
        | inr full ↦ let all : 65536 ≤ pieces.number = last full in inr (omega (arith, long, few, full, all))
      ];
    }

-- the rows are those of the frames
packets_to : (longest : Length) (schema : PacketSchema) (truncated blocks : Bool) (scope : Scope) (stream : List ℕ) (frames : List FrameValue)
    (cut : Option ℕ) → blocks ≡ begins_section stream → scope ≡ scope_by longest schema → AreFramesTo truncated scope blocks stream frames cut
    → ArePacketsTo longest schema truncated stream (packet_rows schema frames) cut
packets_to longest schema truncated blocks scope stream frames None begins same are = record {
  frames = frames;
  frames_are = subst (λ (b : Bool). AreFramesBy (scope_by longest schema) b stream frames) begins
      (subst (λ (s : Scope). AreFramesBy s blocks stream frames) same are);
  rows_are = refl;
}
packets_to longest schema true blocks scope stream frames (Some k) begins same is = (
  record {
    frames = frames;
    frames_are = subst (λ (b : Bool). AreFramesBefore (scope_by longest schema) b stream frames) begins
        (subst (λ (s : Scope). AreFramesBefore s blocks stream frames) same is.0);
    rows_are = refl;
  },
  is.1 ∙ ap (λ (s : Scope). number_of s.length (length frames)) same ∙ ap (number_of longest) (sym (length-map frames (row_by schema))),
)
packets_to longest schema false blocks scope stream frames (Some k) begins same is = absurd is

uncut_rows : (longest : Length) (schema : PacketSchema) (truncated blocks : Bool) (scope : Scope) (stream : List ℕ) → blocks ≡ begins_section stream
    → scope ≡ scope_by longest schema → ((frames : List FrameValue) (k : ℕ) → IsCutAt truncated scope blocks stream frames k → ⊥)
    → (rows : List RowValue) (k : ℕ) → ArePacketsTo longest schema truncated stream rows (Some k) → ⊥
uncut_rows longest schema true blocks scope stream begins same never rows k is =
    never is.0.frames (number_of scope.length (length is.0.frames)) (
      subst (λ (s : Scope). AreFramesBefore s blocks stream is.0.frames) (sym same)
          (subst (λ (b : Bool). AreFramesBefore (scope_by longest schema) b stream is.0.frames) (sym begins) is.0.frames_are),
      refl,
    )
uncut_rows longest schema false blocks scope stream begins same never rows k is = is

pub fault_to : (longest : Length) (schema : PacketSchema) (truncated blocks : Bool) (scope : Scope) (stream : List ℕ) (at code : ℕ)
    → blocks ≡ begins_section stream → scope ≡ scope_by longest schema → HasFaultUncut truncated scope blocks stream at code
    → HasPacketFaultTo longest schema truncated stream at code
fault_to longest schema truncated blocks scope stream at code begins same bad = (
  subst (λ (b : Bool). HasFaultIn (scope_by longest schema) b stream at code) begins
      (subst (λ (s : Scope). HasFaultIn s blocks stream at code) same bad.0),
  uncut_rows longest schema truncated blocks scope stream begins same bad.1,
)

-- What a reader says at the end of what was read.
pub said_at_end : (longest : Length) (schema : PacketSchema) (truncated : Bool) (reader : Reader) (stream : List ℕ) (frames : List FrameValue)
    (rows : List RowValue) (result : Result (Option ℕ) Halt) → IsReaderAt reader stream frames → rows ≡ packet_rows schema frames
    → reads_blocks reader ≡ begins_section stream → reads_scope reader ≡ scope_by longest schema → Finishes truncated reader result
    → MatchResult result (ArePacketsTo longest schema truncated stream rows) (IsBad (HasPacketFaultTo longest schema truncated stream))
said_at_end longest schema truncated reader stream frames rows (Ok cut) at are blocks same ends =
    subst (λ (rs : List RowValue). ArePacketsTo longest schema truncated stream rs cut) (sym are)
    (packets_to longest schema truncated (reads_blocks reader) (reads_scope reader) stream frames cut blocks same (ends stream frames at))
said_at_end longest schema truncated reader stream frames rows (Err (Refused why)) at are blocks same ends =
    let bad = ends stream frames at in
    (bad.0, bad.1, bad.2, fault_to longest schema truncated (reads_blocks reader) (reads_scope reader) stream bad.0 bad.1 blocks same bad.3)
said_at_end longest schema truncated reader stream frames rows (Err (Stopped stops.ReadFault)) at are blocks same ends = ends stream frames at
said_at_end longest schema truncated reader stream frames rows (Err (Stopped stops.Memory)) at are blocks same ends = tt

-- below 2^32 bytes
limited_rows : (schema : PacketSchema) (truncated : Bool) (stream : List ℕ) (rows : List RowValue) (cut : Option ℕ)
    → ArePacketsTo Limited schema truncated stream rows cut → AreRowsTo (Packets schema) truncated (attrs_by schema) stream rows cut
limited_rows schema truncated stream rows None are = are
limited_rows schema true stream rows (Some k) are = are
limited_rows schema false stream rows (Some k) are = absurd are

limited_cut : (schema : PacketSchema) (truncated : Bool) (stream : List ℕ) (rows : List RowValue) (k : ℕ)
    → IsTruncatedAt (Packets schema) truncated stream rows k → ArePacketsTo Limited schema truncated stream rows (Some k)
limited_cut schema true stream rows k is = is
limited_cut schema false stream rows k is = absurd is

pub ended_on : (truncated : Bool) (pieces : Pieces) (before now : Option (List ℕ)) (rows : List RowValue) (result : Result (Option ℕ) Halt)
    → IsReadOn pieces before now rows → IsLast pieces → Finishes truncated pieces.reader result
    → TakesPackets pieces.schema truncated (λ cut what. what ≡ record { rows = rows; cut = cut }) before now result
ended_on truncated pieces before now rows (Ok cut) on last ends = (
  on.stream,
  record { rows = rows; cut = cut },
  taken_whole pieces before now rows on last,
  limited_rows pieces.schema truncated on.stream rows cut
      (said_at_end Limited pieces.schema truncated pieces.reader on.stream on.frames rows (Ok cut) on.at on.rows_are on.blocks on.scope ends),
  refl,
)
ended_on truncated pieces before now rows (Err (Refused why)) on last ends =
    let bad = said_at_end Limited pieces.schema truncated pieces.reader on.stream on.frames rows (Err (Refused why)) on.at on.rows_are on.blocks on.scope ends
    in (
      on.stream,
      taken_whole pieces before now rows on last,
      (bad.0, bad.1, bad.2, (bad.3.0, λ rs k is. bad.3.1 rs k (limited_cut pieces.schema truncated on.stream rs k is))),
    )
ended_on truncated pieces before now rows (Err (Stopped stop)) on last ends = stopped_on pieces before now rows on

-- the rows that came are taken
pub taken_so : {A : Type 0} (schema : PacketSchema) (truncated : Bool) (Took : A → CaptureValue → Type 0) (what : Option ℕ → CaptureValue)
    (before now : Option (List ℕ))
    (cut : Option ℕ) (taken : A)
    → TakesPackets schema truncated (λ (c : Option ℕ) this. this ≡ what c) before now (Ok cut) → Took taken (what cut)
    → TakesPackets schema truncated Took before now (Ok taken)
taken_so {A} schema truncated Took what before now cut taken takes took =
    (takes.0, takes.1, takes.2, takes.3, subst (λ (this : CaptureValue). Took taken this) (sym takes.4) took)

-- or are not
pub untaken_so : {A B : Type 0} (schema : PacketSchema) (truncated : Bool) (Took : A → CaptureValue → Type 0) (Had : B → CaptureValue → Type 0)
    (before now : Option (List ℕ))
    (halt : Halt) → TakesPackets schema truncated Had before now (Err halt) → TakesPackets schema truncated Took before now (Err halt)
untaken_so {A} schema truncated Took Had before now (Refused why) takes = takes
untaken_so {A} schema truncated Took Had before now (Stopped stop) takes = takes

-- or the end says that they do not
pub finished_so : (schema : PacketSchema) (truncated : Bool) (Took : List RowValue → Type 0) (before now : Option (List ℕ)) (rows : List RowValue)
    (result : Result (Option ℕ) Halt)
    → TakesPackets schema truncated (λ (cut : Option ℕ) what. what ≡ record { rows = rows; cut = cut }) before now result → Took rows
    → TakesPackets schema truncated (λ (cut : Option ℕ) what. (what.cut ≡ cut) × Took what.rows) before now result
finished_so schema truncated Took before now rows (Ok cut) takes took = (
  takes.0,
  takes.1,
  takes.2,
  takes.3,
  (ap (λ (w : CaptureValue). w.cut) takes.4, subst (λ (these : List RowValue). Took these) (sym (ap (λ (w : CaptureValue). w.rows) takes.4)) took),
)
finished_so schema truncated Took before now rows (Err (Refused why)) takes took = takes
finished_so schema truncated Took before now rows (Err (Stopped stop)) takes took = takes

-- Few rows come.

pub rows_few : (schema : PacketSchema) (piece : List ℕ) (none frames these : List FrameValue) (rows : List RowValue) → none ≡ [] → these ≡ frames
    → rows ≡ packet_rows schema these
    → AddsFew piece none frames → AddsFew piece [] rows
rows_few schema piece none frames these rows empty same are few =
    let zero : length none ≡ 0 = ap (λ (fs : List FrameValue). length fs) empty in
    let size : length rows ≡ length frames = ap (λ (rs : List RowValue). length rs) are ∙ length-map these (row_by schema)
    ∙ ap (λ (fs : List FrameValue). length fs) same in
    omega (arith, zero, size, few)

pub piece_few : (piece : List ℕ) (rows : List RowValue) → length piece ≤ 65536 → AddsFew piece [] rows → length rows ≤ 4096
piece_few piece rows short few = omega (arith, short, few)

pub few_more : (given more all : List RowValue) (wanted : ℕ) → all ≡ given ++ more → length given < wanted → length more ≤ 4096 → length all < wanted + 4096
few_more given more all wanted grown short few =
    let size : length all ≡ length given + length more = ap (λ (rs : List RowValue). length rs) grown ∙ length-append given more in
    omega (arith, size, short, few)

-- A buffer is filled.

filled : (a : ℕ) (xs ys : List ℕ) → a ≤ length xs → length ys ≡ length (mid_of a (length xs - a) xs) → length ys ≡ length xs - a
filled a xs ys fits same =
    let part : length (take (length xs - a) (drop a xs)) ≡ min (length xs - a) (length (drop a xs)) = length-take (length xs - a) (drop a xs) in
    let rest : length (drop a xs) ≡ length xs - a = length-drop a xs in
    omega (arith, part, rest, same)

pub filled_size : (a : ℕ) (xs ys : List ℕ) → length ys ≡ length (mid_of a (length xs - a) xs) → length (put_mid a (length xs - a) xs ys) ≡ length xs
filled_size a xs ys same = same_len_mid a (length xs - a) xs ys same

pub filled_within : (a n : ℕ) (xs ys : List ℕ) → a ≤ length xs → length ys ≡ length (mid_of a (length xs - a) xs) → n ≤ length ys → a + n ≤ length xs
filled_within a n xs ys fits same most = let size = filled a xs ys fits same in omega (arith, fits, size, most)

pub filled_more : (a n : ℕ) (xs ys : List ℕ) → a ≤ length xs → n ≤ length ys → take (a + n) (put_mid a (length xs - a) xs ys) ≡ take a xs ++ take n ys
filled_more a n xs ys fits most =
    let front : length (take a xs) ≡ a = length-take a xs ∙ omega (arith, fits) in
    ap (λ (k : ℕ). take (k + n) (put_mid a (length xs - a) xs ys)) (sym front)
    ∙ take-append-add (take a xs) (ys ++ post_of a (length xs - a) xs) n
    ∙ ap (λ (zs : List ℕ). take a xs ++ zs) (take-append-le n ys (post_of a (length xs - a) xs) most)

pub filled_taken : (before mid now : Option (List ℕ)) (a n : ℕ) (xs ys : List ℕ) → a ≤ length xs → n ≤ length ys → Consumes before mid (take a xs)
    → Consumes mid now (take n ys) → Consumes before now (take (a + n) (put_mid a (length xs - a) xs ys))
filled_taken before mid now a n xs ys fits most old new =
    subst (λ (zs : List ℕ). Consumes before now zs) (sym (filled_more a n xs ys fits most)) (Consumes-trans before mid now (take a xs) (take n ys) old new)

-- A stop before the second piece.

pub stopped_next : (pieces : Pieces) (before mid now : Option (List ℕ)) (rows : List RowValue) (bytes : List ℕ) → IsReadOn pieces before mid rows
    → pieces.number < 65536 → TakesUpTo mid now (length pieces.buf.items) bytes → TakesAtMost before now (2 ^ 32)
stopped_next pieces before mid now rows bytes on left takes =
    let most : length bytes ≤ length pieces.buf.items = takes.most in
    let size : length pieces.buf.items ≡ 65536 = on.size in
    stopped_more pieces before mid now rows on left (record { bytes = bytes; taken = takes.taken; most = omega (arith, size, most) })

pub stopped_then : (pieces : Pieces) (before mid now : Option (List ℕ)) (rows : List RowValue) → IsReadOn pieces before mid rows → pieces.number < 65536
    → TakesAtMost mid now (length pieces.buf.items) → TakesAtMost before now (2 ^ 32)
stopped_then pieces before mid now rows on left takes =
    let most : length takes.bytes ≤ length pieces.buf.items = takes.most in
    let size : length pieces.buf.items ≡ 65536 = on.size in
    stopped_more pieces before mid now rows on left (record { bytes = takes.bytes; taken = takes.taken; most = omega (arith, size, most) })

pub piece_long : (count n : ℕ) (buf : List ℕ) → length buf ≡ n → count ≤ n → length (take count buf) ≡ count
piece_long count n buf size within = length-take count buf ∙ omega (arith, size, within)
