use Rattle.cf_alone.proofs.Alone.{solo_still}
use Rattle.cf_alone.proofs.solo.Solo.ask.Goals as goal

pub invariant_of-self : goal.invariant_of-self
invariant_of-self c =
    solo_still c.self.inside.log c.self.inside.pass c.ask_counted.new.pass c.self.inside.leaves c.self.invariant c.ask_counted.ensures.still
