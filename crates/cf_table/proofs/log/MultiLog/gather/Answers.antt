use Rattle.cf_table.proofs.Homing.{gathered}
use Rattle.cf_table.proofs.log.MultiLog.gather.Goals as goal

pub returns : goal.returns
returns c =
    gathered c.args.self.now c.args.root.now c.take_all.new.root c.settle_counted.new.root c.args.passes.items c.requires.all c.requires.away
    c.take_all.ensures.count c.take_all.ensures.gathers c.settle_counted.ensures
