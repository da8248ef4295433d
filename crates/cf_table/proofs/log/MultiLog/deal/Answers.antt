use Rattle.std.proofs.Common.{subst}
use Rattle.cf_table.specs.Values.{PassValue}
use Rattle.cf_table.specs.Moves.{AreDealt}
use Rattle.cf_table.proofs.Homing.{dealt_all}
use Rattle.cf_table.proofs.log.MultiLog.deal.Goals as goal

pub returns-clause-all : goal.returns-clause-all
returns-clause-all c settled =
    let log = c.args.self.now in
    let dealt = subst (λ (h : PassValue). AreDealt log h c.deal_all.new.passes.items c.deal_all.new.token) c.root.view_is c.deal_all.ensures in
    dealt_all log c.args.root.now c.deal_all.new.token c.deal_all.new.passes.items settled dealt
