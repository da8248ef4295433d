use Rattle.cf_load.proofs.Findings.{found_tells}
use Rattle.cf_load.proofs.finals.Found.answer.Goals as goal

pub returns : goal.returns
returns c shape entries found = found_tells shape c.args.self.ask entries c.args.self.tail c.args.self.finding found c.in_ok-body.body c.in_ok-body.ensures
