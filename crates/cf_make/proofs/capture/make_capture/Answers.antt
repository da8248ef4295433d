use Rattle.cf_make.proofs.Growing.{first, none, stepped, grown}
use Rattle.cf_make.proofs.capture.make_capture.Goals as goal

pub loop-num-init : goal.loop-num-init
loop-num-init c = record {
  state = first c.args.seed;
  bytes = none c.args.seed c.put_file_header.new.bytes.items (cc (c.in_ok-put_file_header.ensures, c.new-bytes.ensures.items));
}

pub loop-num-preserved : goal.loop-num-preserved
loop-num-preserved c =
    let step = stepped c.args.seed c.loop-num.num c.loop-num.state c.next-state.result c.loop-num.invariant.state c.next-state.ensures in record {
      state = step;
      bytes = grown c.args.seed c.loop-num.num c.next-state.result c.of.result.bits c.loop-num.bytes.items c.put_record.new.bytes.items
          c.loop-num.invariant.bytes step c.of.ensures c.in_ok-put_record.ensures;
    }
