use Rattle.std.proofs.Common.{◌∙◌, ◌<◌, length, sym, arith}
use Rattle.cf_store.proofs.Ended.{all_more, log_next, long_at}
use Rattle.cf_store.proofs.ends.last_seen.Goals as goal

pub loop-k-preserved : goal.loop-k-preserved
loop-k-preserved c =
    let rest = c.args.rest.now in
    let first = c.args.first.now in
    let test = c.loop-k-test.true in
    let low : c.loop-k.k < length rest = omega (arith, test) in
    record {
      tail = c.covered-tail-in-loop-k.ensures ∙ sym (log_next first rest c.loop-k.k c.index-rest-k.result low);
      full = all_more (long_at first rest) c.args.capacity c.loop-k.k c.loop-k.invariant.full (sym c.loop-k.invariant.tail ∙ c.if-tail-capacity.false);
    }
