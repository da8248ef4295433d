-- The following of a capture goes on, or ends.
use Rattle.std.proofs.Common.{◌≡◌, ◌∙◌, inl, inr, ℕ, ◌+◌, ◌<◌, ◌≤◌, List, [], ◌∷◌, ◌++◌, length, suc, zero, Bool, true, false, Option, Some, None, IsNone, Ok, Err, refl, sym, ap, ap₂, subst, arith, append-nil, append_assoc}
use Rattle.std.specs.Prelude.{◌==◌}
use Rattle.std.specs.Io.KnownBytes.{Appends, Keeps}
use Rattle.std.proofs.KnownBytes.{Appends-nil, Appends-trans, Keeps-refl}
use Rattle.std.proofs.lemmas.List.{map-append}
use Rattle.cf_outside.specs.Files.{ShelfView}
use Rattle.cf_row.specs.Row.{RowValue}
use Rattle.cf_project.specs.Projected.{row_kept}
use Rattle.cf_row.specs.declared.packet6.PacketSchema.{PacketSchema}
use Rattle.cf_pcap.specs.declared.limit.Length.TheVariants.{Any}
use Rattle.cf_intake.specs.Devices.{WritesFront}
use Rattle.cf_intake.specs.Faults.{HasPacketFaultTo, ShowNoFault}
use Rattle.cf_intake.specs.Parts.{IsBad}
use Rattle.cf_intake.specs.Reads.{AreRowsGiven, FailsToRead, FindsEnd, HasNext, HaveRead, MovesOn, MovesPiece, most_moved}
use Rattle.cf_follow.specs.LeftStreams.{rows_left, stream_left, terms_left}
use Rattle.cf_follow.proofs.LeftStreams.{last_says, round_stream}
use Rattle.cf_intake.specs.Refusals.{line_of}
use Rattle.cf_intake.specs.Rows.{ArePacketsTo}
use Rattle.cf_intake.specs.declared.reads.Reads.{Reads}
use Rattle.cf_intake.specs.declared.refusal.Halt.TheVariants as halts
use Rattle.cf_intake.specs.declared.refusal.Refusal.{Refusal}
use Rattle.cf_intake.specs.declared.refusal.Refusal.TheVariants as refusals
use Rattle.cf_intake.specs.declared.refusal.Stop.{Stop}
use Rattle.cf_intake.specs.declared.refusal.Stop.TheVariants as stops
use Rattle.cf_intake.proofs.SingleReads.{rows_given}
use Rattle.cf_rounds.specs.Held.{IsAt, IsSetAs, RoundsValue}
use Rattle.cf_rounds.specs.Lines.{end_text}
use Rattle.cf_rounds.specs.Streams.{Standing, Stream, Terms, after_reads, after_round, round_text, through, view_of, with_round}
use Rattle.cf_rounds.proofs.Onward.{course_all, round_says}
use Rattle.cf_window.specs.Windows.{rows_in_all}
use Rattle.cf_window.proofs.Rows.{rows_one}
use Rattle.cf_follow.specs.Followed.{AreRead, AreTaken, AreTakenFrom, HasBrokenOff, IsAhead, IsAtLast, IsDueOfStream, IsFollowed, IsGoingOn, IsReady, IsTurnedAway, WritesPast, behind, halted, spoken, truncated_line, whole}
use Rattle.cf_follow.specs.Followed.IsAhead.{uncalled, ended, failed}
use Rattle.cf_follow.specs.Followed.IsDueOfStream.{done, broken, refused, unread}
use Rattle.cf_follow.specs.Followed.IsFollowed.{wrote, cut, cut_round, cut_forced, out, out_within}
use Rattle.cf_follow.specs.Heard.{AreTakenBehind, Concludes, EndsAmong, EndsAtRead, Hears, IsHere, Refuses, StopsAfterRound, ended_text, said_by}
use Rattle.cf_follow.specs.Heard.EndsAmong.{turned as turned_away, turned_cut, forced_cut, lost}
use Rattle.cf_follow.specs.declared.ending.Ending.{Ending}
use Rattle.cf_follow.specs.declared.left.Left.{Left}
use Rattle.cf_follow.specs.declared.ending.Ending.TheVariants.{Done, Refused, Stopped, Unwritten}
use Rattle.cf_follow.proofs.Hearing.{appends_kept, took_append}
use Rattle.cf_follow.proofs.Leaving.{made_stream, read_whole, set_then, taken_whole}
use Rattle.cf_follow.proofs.MoreReads.{length_one, read_more, read_none, read_nothing, read_some, reads_one}

same_three : {A B C D : Type 0} (f : A → B → C → D) (a x : A) (b y : B) (c z : C) → a ≡ x → b ≡ y → c ≡ z → f a b c ≡ f x y z
same_three {A} {B} {C} {D} f a x b y c z p q r = ap₂ (λ (u : A) (v : B). f u v c) p q ∙ ap (λ (w : C). f x y w) r

-- Nothing was read.
pub begins : (begun m : RoundsValue) (left : Left) (reading : Reads) (now : ShelfView) (held : Option (List ℕ)) → IsReady begun m left reading
    → (on : IsGoingOn reading.schema begun left.kept.items m reading now now held held) × (length on.reads ≡ 0)
begins begun m left reading now held ready = (
  record {
    bytes = [];
    reads = [];
    read = read_nothing reading.schema now (rows_given reading [] [] ready.have);
    have = ready.have;
    size = ready.size;
    kind = refl;
    keeps = ready.keeps;
    set = ready.set;
    at = ready.at;
    took = record { few = omega arith; each = tt };
    unspent = ready.unspent;
    within = (let count : (m.now).count ≡ 0 = ap (λ (now : Standing). now.count) ready.at.stands in omega (arith, count));
    written = Appends-nil held;
  },
  refl,
)

-- A read comes while it goes on.
module _ (schema : PacketSchema) (begun : RoundsValue) (marks : List Bool) (m : RoundsValue) (old new : Reads) (before mid now : ShelfView)
    (held told : Option (List ℕ)) (given : List RowValue) (on : IsGoingOn schema begun marks m old before mid held told)
    (sound : ShowNoFault schema on.bytes) (few : length given ≤ 4096)
    (moves : MovesOn old new mid now given) where
  abbrev rows : List RowValue
  rows = rows_in_all on.reads

  abbrev stream : Stream
  stream = after_reads begun.terms on.reads

  abbrev bytes : List ℕ
  bytes = on.bytes ++ moves.piece

  abbrev reads : List (List RowValue)
  reads = on.reads ++ given ∷ []

  have_more : HaveRead new bytes (rows ++ given)
  have_more = moves.read on.bytes rows on.have

  kind_now : new.schema ≡ schema
  kind_now = moves.kind ∙ on.kind

  moved_piece : MovesPiece 65536 mid now moves.piece
  moved_piece = subst (λ (most : ℕ). MovesPiece most mid now moves.piece) on.size (moves.moved on.have.size)

  size_now : most_moved new ≡ 65536
  size_now = moves.size ∙ on.size

  are_read : AreRead schema before now bytes reads
  are_read =
      read_more schema before mid now on.bytes moves.piece on.reads given on.read sound moved_piece few
      (subst (λ (s : PacketSchema). AreRowsGiven s bytes (rows ++ given)) kind_now (rows_given new bytes (rows ++ given) have_more))

  here : IsHere m (rows_left marks rows) (stream_left marks stream) held told
  here = record { at = on.at; written = on.written }

  -- Those that were taken were taken behind these.
  took_more : (xs : List RowValue) → AreTakenBehind begun rows stream xs → AreTaken begun (rows ++ xs)
  took_more xs taken = record {
    few = taken.0;
    each = took_append (begun.terms).shape (begun.terms).most [] rows xs on.took.each
        (subst (λ (ss : List (List RowValue)). AreTakenFrom (begun.terms).shape (begun.terms).most ss xs)
        (course_all begun.terms on.reads).segments taken.1);
  }

  have_now : HaveRead new bytes (rows_in_all reads)
  have_now = subst (λ (rs : List RowValue). HaveRead new bytes rs) (sym (rows_one on.reads given)) have_more

  -- It ended no record.
  pub more_none : length given ≡ 0
      → (more : IsGoingOn schema begun marks m new before now held told) × (length more.reads ≡ length on.reads + 1)
  more_none none =
      let empty : rows ++ given ≡ rows = nothing given none in
      let rows_same : rows_in_all reads ≡ rows = rows_one on.reads given ∙ empty in
      let stream_same : after_reads begun.terms reads ≡ stream = reads_one begun.terms on.reads given ∙ read_none begun.terms stream given none in (
        record {
          bytes = bytes;
          reads = reads;
          read = are_read;
          have = have_now;
          size = size_now;
          kind = kind_now;
          keeps = on.keeps;
          set = on.set;
          at = subst (λ (rs : List RowValue). IsAt m (rows_left marks rs) (stream_left marks (after_reads begun.terms reads))) (sym rows_same)
              (subst (λ (s : Stream). IsAt m (rows_left marks rows) (stream_left marks s)) (sym stream_same) on.at);
          took = subst (λ (rs : List RowValue). AreTaken begun rs) (sym rows_same) on.took;
          unspent = on.unspent;
          within = on.within;
          written = subst (λ (s : Stream). Appends held told s.text) (sym stream_same) on.written;
        },
        length_one on.reads given,
      )
    where
      nothing : (xs : List RowValue) → length xs ≡ 0 → rows ++ xs ≡ rows
      nothing [] none = append-nil rows
      nothing (x ∷ xs) none = absurd (omega (arith, none))

  -- after all of them
  stream_all : 0 < length given → after_reads begun.terms reads ≡ with_round begun.terms false (behind begun on.reads given)
  stream_all some = reads_one begun.terms on.reads given ∙ read_some begun.terms stream given some

  -- They were heard.
  pub more_some : (next : RoundsValue) (kept : Option (List ℕ)) (made : Unit {0}) → IsSetAs m next → 0 < length given
      → Hears m (rows_left marks given) told next kept (Ok made) → next.is_spent ≡ false → (next.now).count ≤ next.limit
      → (more : IsGoingOn schema begun marks next new before now held kept) × (length more.reads ≡ length on.reads + 1)
  more_some next kept made set some hears unspent within =
      let all = hears (rows_left marks rows) (stream_left marks stream) held here in
      let same : with_round m.terms false (through m.terms (stream_left marks stream) (rows_left marks given))
      ≡ stream_left marks (after_reads begun.terms reads) =
      made_stream marks begun m on.keeps on.set rows stream given ∙ ap (stream_left marks) (sym (stream_all some)) in
      let rows_same : rows_left marks rows ++ rows_left marks given ≡ rows_left marks (rows_in_all reads) =
      sym (map-append (row_kept marks) rows given) ∙ ap (rows_left marks) (sym (rows_one on.reads given)) in (
        record {
          bytes = bytes;
          reads = reads;
          read = are_read;
          have = have_now;
          size = size_now;
          kind = kind_now;
          keeps = on.keeps;
          set = set_then marks begun m next on.set set;
          at = subst (λ (rs : List RowValue). IsAt next rs (stream_left marks (after_reads begun.terms reads))) rows_same
              (subst (λ (s : Stream). IsAt next (rows_left marks rows ++ rows_left marks given) s) same (all.0).at);
          took = subst (λ (rs : List RowValue). AreTaken begun rs) (sym (rows_one on.reads given))
              (took_more given (taken_whole marks begun m on.keeps on.set rows stream given all.1));
          unspent = unspent;
          within = within;
          written = subst (λ (s : Stream). Appends held kept s.text) same (all.0).written;
        },
        length_one on.reads given,
      )

  module _ (truncated : Bool) (kept : Option (List ℕ)) (front rest : List RowValue) where
    read_so : (others : List RowValue) → given ≡ front ++ others → AreRead schema before now bytes (on.reads ++ (front ++ others) ∷ [])
    read_so others are = subst (λ (rs : List RowValue). AreRead schema before now bytes (on.reads ++ rs ∷ [])) are are_read

    due_so : (row : RowValue) (why : Refusal) → given ≡ front ++ row ∷ rest → AreTakenBehind begun rows stream front
        → IsTurnedAway begun (rows ++ front) row why
        → IsDueOfStream schema begun truncated before now (Refused why) (behind begun on.reads front).text
        (halted begun (behind begun on.reads front) (line_of why))
    due_so row why are taken away =
        refused bytes on.reads front rest row why (read_so (row ∷ rest) are) (took_more front taken) away refl refl refl

  -- The stream ended at them.
  by_end : (truncated : Bool) (kept : Option (List ℕ)) (ending : Ending) → EndsAmong begun given rows stream held kept ending
      → IsFollowed schema begun truncated before now held kept ending
  by_end truncated kept ending (turned_away front rest row why are taken away is appends) =
      subst (λ (e : Ending). IsFollowed schema begun truncated before now held kept e) (sym is)
      (wrote (behind begun on.reads front).text (halted begun (behind begun on.reads front) (line_of why))
      (due_so truncated kept front rest row why are taken away) appends)
  by_end truncated kept ending (turned_cut front rest row why are taken away is past) =
      cut (Refused why) (behind begun on.reads front).text (halted begun (behind begun on.reads front) (line_of why)) is
      (due_so truncated kept front rest row why are taken away) past
  by_end truncated kept ending (forced_cut front rest row are taken forced is past) =
      cut_forced bytes on.reads front rest row is (read_so truncated kept front rest (row ∷ rest) are) (took_more front taken) forced past
  by_end truncated kept ending (lost front rest said are taken is before_it appends) =
      out_within bytes on.reads front rest said is (read_so truncated kept front rest rest are) (took_more front taken) before_it appends

  by_round : (truncated : Bool) (kept : Option (List ℕ)) (ending : Ending) → 0 < length given → AreTakenBehind begun rows stream given → ending ≡ Unwritten
      → WritesPast held kept (behind begun on.reads given).text (with_round begun.terms false (behind begun on.reads given)).text
      → IsFollowed schema begun truncated before now held kept ending
  by_round truncated kept ending some taken is past =
      cut_round bytes on.reads given is are_read (took_more given taken)
      (subst (λ (s : Stream). WritesPast held kept (behind begun on.reads given).text s.text) (sym (stream_all some)) past)

  pub heard : (next : RoundsValue) (kept : Option (List ℕ)) (truncated : Bool) (ending : Ending) → 0 < length given
      → Hears m (rows_left marks given) told next kept (Err ending) → IsFollowed schema begun truncated before now held kept ending
  heard next kept truncated ending some hears =
      elim (read_whole marks begun m on.keeps on.set rows stream given held kept ending (hears (rows_left marks rows) (stream_left marks stream) held here)) [
        | inl among ↦ by_end truncated kept ending among
        | inr round ↦ by_round truncated kept ending some round.0 round.1 round.2
      ]

-- The end of the capture is found.
pub at_end : (schema : PacketSchema) (begun : RoundsValue) (marks : List Bool) (m : RoundsValue) (old new : Reads) (before mid now : ShelfView)
    (held told : Option (List ℕ)) → (on : IsGoingOn schema begun marks m old before mid held told) → ShowNoFault schema on.bytes
    → HasNext old new mid now None → IsAtLast schema begun marks m new before now held told
at_end schema begun marks m old new before mid now held told on sound next =
    let after = next.0 on.bytes (rows_in_all on.reads) on.have in record {
      mid = mid;
      on = record {
        bytes = on.bytes;
        reads = on.reads;
        read = on.read;
        have = after.0;
        size = next.2 ∙ on.size;
        kind = next.1 ∙ on.kind;
        keeps = on.keeps;
        set = on.set;
        at = on.at;
        took = on.took;
        unspent = on.unspent;
        within = on.within;
        written = on.written;
      };
      end = after.1;
      sound = sound;
    }

-- It ends between two reads.
module _ (schema : PacketSchema) (begun : RoundsValue) (marks : List Bool) (m : RoundsValue) (reading : Reads) (before mid : ShelfView)
    (held told : Option (List ℕ)) (on : IsGoingOn schema begun marks m reading before mid held told) where
  abbrev now_rows : List RowValue
  now_rows = rows_in_all on.reads

  abbrev now_stream : Stream
  now_stream = after_reads begun.terms on.reads

  -- what is left of it
  abbrev now_left : Stream
  now_left = stream_left marks now_stream

  abbrev lean : Terms
  lean = terms_left marks begun.terms

  -- Memory ran out.
  pub out_now : (truncated : Bool) (now : ShelfView) (kept : Option (List ℕ)) → IsAhead schema on.bytes mid now → Keeps told kept
      → IsFollowed schema begun truncated before now held kept (Stopped stops.Memory)
  out_now truncated now kept ahead keeps =
      out mid on.bytes on.reads refl on.read ahead on.took (appends_kept held told kept (spoken begun on.reads) on.written keeps)

  -- what is written past what rounds have said
  past : (kept : Option (List ℕ)) (more : List ℕ) → WritesFront told kept more → WritesPast held kept (spoken begun on.reads) (spoken begun on.reads ++ more)
  past kept more front = record { told = told; more = more; text_is = refl; before = on.written; front = front }

  of_kind : (truncated : Bool) (now : ShelfView) (at code : ℕ) → HasBrokenOff reading.schema truncated mid now on.bytes at code
      → HasBrokenOff schema truncated mid now on.bytes at code
  of_kind truncated now at code bad = subst (λ (s : PacketSchema). HasBrokenOff s truncated mid now on.bytes at code) on.kind bad

  ahead_of : (truncated : Bool) (now : ShelfView) (at code : ℕ) → HasBrokenOff schema truncated mid now on.bytes at code → IsAhead schema on.bytes mid now
  ahead_of truncated now at code (inl bad) = ended bad.1 bad.0
  ahead_of truncated now at code (inr bad) = uncalled bad.0

  -- The last round was made.
  pub halted_now : (line : List ℕ) → spoken begun on.reads ++ said_by true m line ≡ halted begun now_stream line
  halted_now line =
      sym (append_assoc (spoken begun on.reads) (round_text m.terms true m.now) line)
      ∙ ap (λ (t : List ℕ). t ++ line)
      (sym (round_says m (rows_left marks now_rows) now_left on.at true)
      ∙ (ap (λ (t : Terms). (with_round t true now_left).text) (on.set).terms
      ∙ ap (λ (s : Stream). s.text) (round_stream marks begun.terms on.keeps true now_stream)))

  -- The shelf failed.
  pub unread_now : (truncated : Bool) (now : ShelfView) (kept : Option (List ℕ)) (ending : Ending)
      → ShowNoFault schema on.bytes → FailsToRead mid now
      → StopsAfterRound m told kept ending → IsFollowed schema begun truncated before now held kept ending
  unread_now truncated now kept Done sound fails gave = absurd gave
  unread_now truncated now kept (Refused why) sound fails gave = absurd gave
  unread_now truncated now kept (Stopped stops.ReadFault) sound fails gave =
      wrote (spoken begun on.reads) (spoken begun on.reads ++ said_by true m [])
      (unread mid on.bytes on.reads on.read fails sound on.took refl refl (halted_now []))
      (Appends-trans held told kept (spoken begun on.reads) (said_by true m []) on.written gave)
  unread_now truncated now kept (Stopped stops.Memory) sound fails gave = out_now truncated now kept (failed sound fails) gave
  unread_now truncated now kept Unwritten sound fails gave =
      cut (Stopped stops.ReadFault) (spoken begun on.reads) (spoken begun on.reads ++ said_by true m []) refl
      (unread mid on.bytes on.reads on.read fails sound on.took refl refl (halted_now [])) (past kept (said_by true m []) gave)

  -- The capture has a fault.
  pub broken_now : (truncated : Bool) (now : ShelfView) (kept : Option (List ℕ)) (why : Refusal) (ending : Ending) (at code : ℕ)
      → why ≡ refusals.Capture at code → HasBrokenOff reading.schema truncated mid now on.bytes at code
      → Refuses m why told kept ending → IsFollowed schema begun truncated before now held kept ending
  broken_now truncated now kept why Done at code is bad refuses = absurd refuses
  broken_now truncated now kept why (Refused other) at code is bad refuses =
      let same : other ≡ refusals.Capture at code = refuses.0 ∙ is in
      wrote (spoken begun on.reads) (spoken begun on.reads ++ said_by true m (line_of why))
      (broken mid on.bytes on.reads at code on.read (of_kind truncated now at code bad) on.took (ap Refused same) refl
      (halted_now (line_of why) ∙ ap (λ (w : Refusal). halted begun now_stream (line_of w)) is))
      (Appends-trans held told kept (spoken begun on.reads) (said_by true m (line_of why)) on.written refuses.1)
  broken_now truncated now kept why (Stopped stops.ReadFault) at code is bad refuses = absurd refuses
  broken_now truncated now kept why (Stopped stops.Memory) at code is bad refuses =
      out_now truncated now kept (ahead_of truncated now at code (of_kind truncated now at code bad)) refuses
  broken_now truncated now kept why Unwritten at code is bad refuses =
      cut (Refused (refusals.Capture at code)) (spoken begun on.reads) (spoken begun on.reads ++ said_by true m (line_of why)) refl
      (broken mid on.bytes on.reads at code on.read (of_kind truncated now at code bad) on.took refl refl
      (halted_now (line_of why) ∙ ap (λ (w : Refusal). halted begun now_stream (line_of w)) is))
      (past kept (said_by true m (line_of why)) refuses)

  -- It is whole.
  whole_now : (cut_at : Option ℕ) → spoken begun on.reads ++ ended_text m cut_at ≡ whole begun on.reads ++ truncated_line cut_at
  whole_now cut_at =
      let round : List ℕ = round_text m.terms true m.now in
      let ends : Terms → Standing → List ℕ = λ t now. end_text t.shape t.setup (view_of (after_round t true now)) in
      sym (append_assoc (spoken begun on.reads) (round ++ ends m.terms m.now) (truncated_line cut_at))
      ∙ ap (λ (t : List ℕ). t ++ truncated_line cut_at)
      (sym (append_assoc (spoken begun on.reads) round (ends m.terms m.now))
      ∙ (ap₂ (λ (t : List ℕ) (now : Standing). t ++ ends m.terms now) (sym (round_says m (rows_left marks now_rows) now_left on.at true)) on.at.stands
      ∙ (ap (λ (t : Terms). (with_round t true now_left).text ++ ends t now_left.now) (on.set).terms
      ∙ (ap (λ (s : Stream). s.text ++ end_text lean.shape lean.setup (view_of s.now)) (round_stream marks begun.terms on.keeps true now_stream)
      ∙ last_says marks begun.terms on.keeps (with_round begun.terms true now_stream)))))

  pub ended_now : (truncated : Bool) (now : ShelfView) (kept : Option (List ℕ)) (cut_at : Option ℕ) (ending : Ending) → FindsEnd mid now
      → ShowNoFault schema on.bytes → ArePacketsTo Any reading.schema truncated on.bytes (rows_in_all on.reads) cut_at
      → Concludes m cut_at told kept ending → IsFollowed schema begun truncated before now held kept ending
  ended_now truncated now kept cut_at Done end sound are concludes =
      wrote (spoken begun on.reads) (spoken begun on.reads ++ ended_text m cut_at)
      (done mid on.bytes on.reads cut_at on.read end on.took
      (subst (λ (s : PacketSchema). ArePacketsTo Any s truncated on.bytes now_rows cut_at) on.kind are) refl refl
      (whole_now cut_at))
      (Appends-trans held told kept (spoken begun on.reads) (ended_text m cut_at) on.written concludes)
  ended_now truncated now kept cut_at (Refused why) end sound are concludes = absurd concludes
  ended_now truncated now kept cut_at (Stopped stops.ReadFault) end sound are concludes = absurd concludes
  ended_now truncated now kept cut_at (Stopped stops.Memory) end sound are concludes = out_now truncated now kept (ended sound end) concludes
  ended_now truncated now kept cut_at Unwritten end sound are concludes =
      cut Done (spoken begun on.reads) (spoken begun on.reads ++ ended_text m cut_at) refl
      (done mid on.bytes on.reads cut_at on.read end on.took
      (subst (λ (s : PacketSchema). ArePacketsTo Any s truncated on.bytes now_rows cut_at) on.kind are) refl refl
      (whole_now cut_at)) (past kept (ended_text m cut_at) concludes)

some_of : (n : ℕ) → (n == 0) ≡ false → 0 < n
some_of zero is = absurd (cc is)
some_of (suc n) is = omega arith

memory_is_no_fault : ◌≡◌ {A = Ending} (Stopped stops.Memory) (Stopped stops.ReadFault) → ⊥
memory_is_no_fault is = cc

-- The reader of the capture is no device.
pub stopped_now : (schema : PacketSchema) (begun : RoundsValue) (marks : List Bool) (m : RoundsValue) (reading : Reads) (before now : ShelfView)
    (held told : Option (List ℕ)) → (last : IsAtLast schema begun marks m reading before now held told)
    → (truncated : Bool) (stop : Stop) → IsBad (HasPacketFaultTo Any reading.schema truncated last.on.bytes) (halts.Stopped stop)
    → IsFollowed schema begun truncated before now held told (Stopped stop) × (Stopped stop ≡ Stopped stops.ReadFault → ⊥)
stopped_now schema begun marks m reading before now held told last truncated stops.ReadFault bad = absurd bad
stopped_now schema begun marks m reading before now held told last truncated stops.Memory bad = (
  out_now schema begun marks m reading before last.mid held told last.on truncated now told (ended last.sound last.end) (Keeps-refl told),
  memory_is_no_fault,
)

-- an answer that is none by what it is not
pub none_of : (result : Option Refusal) → ((why : Refusal) → result ≡ Some why → ⊥) → IsNone result
none_of None never = refl
none_of (Some why) never = absurd (never why refl)

-- the schema of a reading is the one that it was begun with
pub kind_sound : (schema kind : PacketSchema) (bytes : List ℕ) → kind ≡ schema → ShowNoFault schema bytes → ShowNoFault kind bytes
kind_sound schema kind bytes is sound = subst (λ (s : PacketSchema). ShowNoFault s bytes) (sym is) sound

pub sound_kind : (schema kind : PacketSchema) (bytes : List ℕ) → kind ≡ schema → ShowNoFault kind bytes → ShowNoFault schema bytes
sound_kind schema kind bytes is sound = subst (λ (s : PacketSchema). ShowNoFault s bytes) is sound

-- a list that is not empty
pub not_empty : (rows : List RowValue) → (length rows == 0) ≡ false → 0 < length rows
not_empty rows is = some_of (length rows) is

pub concludes_never : (m : RoundsValue) (cut_at : Option ℕ) (held kept : Option (List ℕ)) (ending : Ending) → Concludes m cut_at held kept ending
    → ending ≡ Stopped stops.ReadFault → ⊥
concludes_never m cut_at held kept ending concludes is = subst (λ (e : Ending). Concludes m cut_at held kept e) is concludes

pub refuses_never : (m : RoundsValue) (why : Refusal) (held kept : Option (List ℕ)) (ending : Ending) → Refuses m why held kept ending
    → ending ≡ Stopped stops.ReadFault → ⊥
refuses_never m why held kept ending refuses is = subst (λ (e : Ending). Refuses m why held kept e) is refuses

-- It goes on with rounds and marks that are the same.
pub going_still : (schema : PacketSchema) (begun : RoundsValue) (first left : Left) (m n : RoundsValue) (reading : Reads) (before now : ShelfView)
    (held kept : Option (List ℕ)) (made : ℕ) → left ≡ first → n ≡ m
    → (on : IsGoingOn schema begun first.kept.items m reading before now held kept) × (length on.reads ≡ made)
    → (on : IsGoingOn schema begun left.kept.items n reading before now held kept) × (length on.reads ≡ made)
going_still schema begun first left m n reading before now held kept made same is on =
    subst (λ (l : Left). (at : IsGoingOn schema begun l.kept.items n reading before now held kept) × (length at.reads ≡ made)) (sym same)
    (subst (λ (r : RoundsValue). (at : IsGoingOn schema begun first.kept.items r reading before now held kept) × (length at.reads ≡ made)) (sym is) on)

pub going_back : (schema : PacketSchema) (begun : RoundsValue) (first left : Left) (m : RoundsValue) (reading : Reads) (before now : ShelfView)
    (held kept : Option (List ℕ)) (made : ℕ) → left ≡ first
    → (on : IsGoingOn schema begun left.kept.items m reading before now held kept) × (length on.reads ≡ made)
    → (on : IsGoingOn schema begun first.kept.items m reading before now held kept) × (length on.reads ≡ made)
going_back schema begun first left m reading before now held kept made same on =
    subst (λ (l : Left). (at : IsGoingOn schema begun l.kept.items m reading before now held kept) × (length at.reads ≡ made)) same on

pub last_back : (schema : PacketSchema) (begun : RoundsValue) (first left : Left) (m : RoundsValue) (reading : Reads) (before now : ShelfView)
    (held kept : Option (List ℕ)) → left ≡ first → IsAtLast schema begun left.kept.items m reading before now held kept
    → IsAtLast schema begun first.kept.items m reading before now held kept
last_back schema begun first left m reading before now held kept same last =
    subst (λ (l : Left). IsAtLast schema begun l.kept.items m reading before now held kept) same last

-- So it is at the end.
pub last_still : (schema : PacketSchema) (begun : RoundsValue) (marks : List Bool) (m n : RoundsValue) (reading : Reads) (before now : ShelfView)
    (held kept : Option (List ℕ)) → n ≡ m → IsAtLast schema begun marks m reading before now held kept
    → IsAtLast schema begun marks n reading before now held kept
last_still schema begun marks m n reading before now held kept is last =
    subst (λ (r : RoundsValue). IsAtLast schema begun marks r reading before now held kept) (sym is) last

-- As many reads were made as are counted.
pub ended_out : (schema : PacketSchema) (begun : RoundsValue) (marks : List Bool) (m : RoundsValue) (reading : Reads) (before now : ShelfView)
    (held told : Option (List ℕ)) (truncated : Bool) → IsGoingOn schema begun marks m reading before now held told
    → IsFollowed schema begun truncated before now held told (Stopped stops.Memory)
ended_out schema begun marks m reading before now held told truncated on =
    out_now schema begun marks m reading before now held told on truncated now told (uncalled refl) (Keeps-refl told)

-- The records of a read end nothing as the shelf's failure does.
among_never : (m : RoundsValue) (rows come : List RowValue) (stream : Stream) (first kept : Option (List ℕ)) (ending : Ending)
    → EndsAmong m rows come stream first kept ending → ending ≡ Stopped stops.ReadFault → ⊥
among_never m rows come stream first kept ending (turned_away front rest row why are taken away is appends) read = cc (sym is ∙ read)
among_never m rows come stream first kept ending (turned_cut front rest row why are taken away is past) read = cc (sym is ∙ read)
among_never m rows come stream first kept ending (forced_cut front rest row are taken forced is past) read = cc (sym is ∙ read)
among_never m rows come stream first kept ending (lost front rest said are taken is before appends) read = cc (sym is ∙ read)

pub hears_never : (m : RoundsValue) (rows come : List RowValue) (stream : Stream) (first kept : Option (List ℕ)) (ending : Ending)
    → EndsAtRead m rows come stream first kept ending → ending ≡ Stopped stops.ReadFault → ⊥
hears_never m rows come stream first kept ending (inl among) read = among_never m rows come stream first kept ending among read
hears_never m rows come stream first kept ending (inr round) read = cc (sym round.1 ∙ read)
