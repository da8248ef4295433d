use Rattle.std.proofs.Common.{◌≡◌, ◌∙◌, ◌<◌, ◌≤◌, length, set, sym, arith, length-set}
use Rattle.cf_store.proofs.Ended.{all_more, asked_more, last_of_all, log_kept, log_new, long_at, others_more}
use Rattle.cf_store.proofs.ends.look_on.Goals as goal

pub loop-k-preserved : goal.loop-k-preserved
loop-k-preserved c =
    let rest = c.loop-k.rest in
    let first = c.args.first.now in
    let k = c.loop-k.k in
    let n = c.tail-tail.new.self in
    let v = c.loop-k.invariant in
    let test = c.loop-k-test.true in
    let long = v.long in
    let low : k < length rest = omega (arith, test, long) in
    record {
      long = length-set rest k n ∙ v.long;
      tail = c.tail-tail.ensures.tail_is ∙ sym (log_new first rest k n low);
      full = all_more (long_at first (set rest k n)) c.args.capacity k (λ j below. log_kept first rest k n j low (omega (arith, below)) ∙ v.full j below)
          (log_kept first rest k n k low (omega arith) ∙ (sym v.tail ∙ c.if-tail-capacity.false));
      asked = asked_more c.args.rest.now rest k c.index-rest-k.result n low c.tail-tail.result v.asked v.others c.tail-tail.ensures;
      others = others_more c.args.rest.now rest k c.index-rest-k.result n low c.tail-tail.result v.asked v.others c.tail-tail.ensures;
    }

pub returns : goal.returns
returns c =
    let v = c.loop-k.invariant in
    let rest = c.loop-k.rest in
    let test = c.loop-k-test.false in
    let long = v.long in
    let all : length rest ≤ c.loop-k.k = omega (arith, test, long) in
    let end = c.loop-k.auto.k-end in
    let same : c.loop-k.k ≡ length rest = omega (arith, test, long, end) in
    record {
      is_last = last_of_all c.args.capacity c.args.first.now rest (λ j low. v.full j (omega (arith, low, all)));
      asked = λ j m n below. v.asked j m n (omega (arith, below, same));
      others = λ j above. v.others j (omega (arith, above, same));
    }
