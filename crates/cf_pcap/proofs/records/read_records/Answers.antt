use Rattle.std.proofs.Common.{arith, ◌≡◌, ℕ, List, ◌≤◌, ◌+◌, ◌-◌, ◌*◌, ◌∙◌, Some, ap, sym, subst, [], ◌∷◌, ◌++◌, length, drop, length-drop}
use Rattle.cf_pcap.specs.Limits.{HasRoom, count_on, num_of}
use Rattle.cf_pcap.specs.Format.{ReadsTo}
use Rattle.cf_pcap.specs.Capture.{FrameValue, HasRecord, frame_at, caplen_at}
use Rattle.cf_pcap.specs.File.{pcap}
use Rattle.cf_pcap.specs.Reading.{state_of, AreRead}
use Rattle.cf_pcap.proofs.Following.{left_of}
use Rattle.cf_pcap.proofs.Units.{one_more, no_record, room_next}
use Rattle.cf_pcap.proofs.records.read_records.Goals as goal

pub number_after-count-requires : goal.number_after-count-requires
number_after-count-requires c =
    let header = c.args.header in
    let rest = c.loop-alloc.rest.now in
    let has : HasRecord header rest = c.has_record.ensures.yes c.loop-alloc-test.true in
    (room_next c.args.scope.length c.loop-alloc.count (length rest) (16 + caplen_at header rest) (omega arith) has.whole c.loop-alloc.invariant.room).0

pub loop-alloc-preserved : goal.loop-alloc-preserved
loop-alloc-preserved c =
    let scope = c.args.scope in
    let header = c.args.header in
    let rest = c.loop-alloc.rest.now in
    let frame = c.in_ok-frame.frame in
    let frames = c.loop-alloc.frames.items in
    let count = c.loop-alloc.count in
    let is : frame ≡ frame_at header (num_of scope.length count) rest = c.in_ok-frame.ensures ∙ ap (λ n. frame_at header n rest) c.frame_number.ensures in
    let has : HasRecord header rest = c.has_record.ensures.yes c.loop-alloc-test.true in
    let fits : 16 + caplen_at header rest ≤ length rest = has.whole in
    let end : c.record_len-end.result ≡ 16 + caplen_at header rest = c.record_len-end.ensures ∙ ap (λ (f : FrameValue). 16 + f.caplen) is in
    let back : c.split_at.result.1.now ≡ drop (16 + caplen_at header rest) rest = c.split_at.ensures.back ∙ ap (λ n. drop n rest) end in
    let all : c.push.new.self.items ≡ frames ++ frame ∷ [] = c.in_ok-push.ensures.items in
    let left : length (drop (16 + caplen_at header rest) rest) ≡ length rest - (16 + caplen_at header rest) = length-drop (16 + caplen_at header rest) rest in
    let few : length rest ≤ length c.args.bytes.now = c.loop-alloc.invariant.few in
    let next = left_of c.args.bytes.now rest (16 + caplen_at header rest) c.loop-alloc.invariant.back (omega (arith, fits)) (omega (arith, few)) in
    let now : c.number_after-count.result ≡ count_on scope.length count 1 = c.number_after-count.ensures in
    let room : HasRoom scope.length (16 * count_on scope.length count 1 + length (drop (16 + caplen_at header rest) rest)) =
    subst (λ n. HasRoom scope.length (16 * count_on scope.length count 1 + n)) (sym left)
    (room_next scope.length count (length rest) (16 + caplen_at header rest) (omega arith) fits c.loop-alloc.invariant.room).1 in
    let more : ReadsTo (pcap scope) (state_of (Some header) c.args.num) c.args.bytes.now (frames ++ frame ∷ [])
    (state_of (Some header) (count_on scope.length count 1)) (drop (16 + caplen_at header rest) rest) =
    one_more scope header c.args.num count c.args.bytes.now frames rest frame c.loop-alloc.invariant.read has is in record {
      read = rw (all, now, back) more;
      room = rw (now, back) room;
      few = rw (back, left) (omega (arith, fits, few));
      back = rw back next;
    }

pub returns : goal.returns
returns c =
    let scope = c.args.scope in
    let header = c.args.header in
    let bytes = c.args.bytes.now in
    let frames = c.loop-alloc.frames.items in
    let t = state_of (Some header) c.loop-alloc.count in
    let few : length c.loop-alloc.rest.now ≤ length bytes = c.loop-alloc.invariant.few in
    let read : AreRead scope (state_of (Some header) c.args.num) bytes frames t c.loop-alloc.rest.now =
    record {
      read = c.loop-alloc.invariant.read;
      none = no_record scope header c.loop-alloc.count c.loop-alloc.rest.now (c.has_record.ensures.no c.loop-alloc-test.false);
    } in record {
      read = subst (λ (xs : List ℕ). AreRead scope (state_of (Some header) c.args.num) bytes frames t xs) c.loop-alloc.invariant.back read;
      used = omega arith;
    }
