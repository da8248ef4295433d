use Rattle.std.proofs.Common.{arith}
use Rattle.cf_core.proofs.Tables.{tail_within, tail_readable}
use Rattle.cf_core.proofs.world.World.read_tail.Goals as goal

pub returns-clause-within : goal.returns-clause-within
returns-clause-within c = rw c.words.ensures.words (tail_within c.args.self.now c.words.ensures.lawful)

pub returns-clause-readable : goal.returns-clause-readable
returns-clause-readable c = rw c.words.ensures.words (tail_readable c.args.self.now c.words.ensures.lawful)

pub returns-clause-few : goal.returns-clause-few
returns-clause-few c =
    rw c.words.ensures.words
    (let w = tail_within c.args.self.now c.words.ensures.lawful in let is = c.words.ensures.lawful in let low = is.shape.capacity.1 in omega (arith, w, low))
