use Rattle.std.proofs.Common.{rules}
use Rattle.cf_run.proofs.Answering.{steady}
use Rattle.cf_run.proofs.top.run_steadily.Goals as goal

pub returns-clause-complete : goal.returns-clause-complete
returns-clause-complete g c = λ lawful. steady c.run.result.status (c.run.ensures.complete lawful) (search rules) (search rules)

pub returns-clause-words : goal.returns-clause-words
returns-clause-words g c = λ is. (c.run.ensures.words is).0
