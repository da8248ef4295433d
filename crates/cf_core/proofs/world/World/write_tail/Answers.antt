use Rattle.cf_core.proofs.Tickets.{write_tail_there, write_tail_few}
use Rattle.cf_core.proofs.world.World.write_tail.Goals as goal

pub returns-clause-there : goal.returns-clause-there
returns-clause-there c = write_tail_there c.args.self.now c.words.ensures.lawful

pub returns-clause-few : goal.returns-clause-few
returns-clause-few c = rw c.words.ensures.words (write_tail_few c.args.self.now c.words.ensures.lawful)
