use Rattle.cf_table.proofs.Reading.{looked_home}
use Rattle.cf_table.proofs.log.MultiLog.close.Goals as goal

pub seal-requires-clause-home : goal.seal-requires-clause-home
seal-requires-clause-home c = looked_home c.args.self.shape c.args.root c.entries.new.root c.entries.ensures.looked c.requires.home
