use Rattle.cf_intake.proofs.Piecewise.{ended_on}
use Rattle.cf_intake.proofs.pieces.Pieces.finish.Goals as goal

pub returns-clause-taken : goal.returns-clause-taken
returns-clause-taken c = λ before now rows on. ended_on c.args.truncated c.args.self before now rows c.finish.result on c.requires.last c.finish.ensures
