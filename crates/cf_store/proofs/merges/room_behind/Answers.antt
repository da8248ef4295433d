use Rattle.std.proofs.Common.{length, arith, ◌/◌}
use Rattle.cf_store.specs.Merges.{group_at}
use Rattle.cf_store.proofs.Merged.{numbers_more, numbers_to}
use Rattle.cf_store.proofs.merges.room_behind.Goals as goal

pub returns-in_default : goal.returns-in_default
returns-in_default c =
    let words = c.args.words.now in
    let now = c.loop-k.invariant in
    let past = c.in_default.ensures in
    let more = numbers_to (group_at words) (length words / 5) c.loop-k.k c.loop-k-test.true in
    omega (arith, now, past, more)

pub loop-k-preserved : goal.loop-k-preserved
loop-k-preserved c =
    let now = c.loop-k.invariant in
    let left = c.in-Some.ensures in
    let more = numbers_more (group_at c.args.words.now) c.loop-k.k in
    omega (arith, now, left, more)
