use Rattle.cf_store.proofs.Aware.{walked_aware}
use Rattle.cf_store.proofs.reader.ask_seen_of.Goals as goal

pub returns-in-Ok-clause-aware : goal.returns-in-Ok-clause-aware
returns-in-Ok-clause-aware c = walked_aware c.args.shared.now.log c.args.pass.now c.ask_seen.new.pass c.requires c.ask_seen.ensures.walked

pub returns-in-Err-clause-aware : goal.returns-in-Err-clause-aware
returns-in-Err-clause-aware c = walked_aware c.args.shared.now.log c.args.pass.now c.ask_seen.new.pass c.requires c.ask_seen.ensures.walked
