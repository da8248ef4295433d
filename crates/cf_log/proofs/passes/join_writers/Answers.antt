use Rattle.cf_log.proofs.Writers.{all_writers, joined}
use Rattle.cf_log.proofs.passes.join_writers.Goals as goal

pub gather-requires-clause-all : goal.gather-requires-clause-all
gather-requires-clause-all c = all_writers c.args.log.now c.args.writers.items c.requires.writers

pub returns : goal.returns
returns c = joined c.args.log.now c.args.root.now c.gather.new.root c.args.writers.items c.requires.of c.requires.writers c.gather.ensures
