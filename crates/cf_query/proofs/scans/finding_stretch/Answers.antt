use Rattle.std.proofs.Common.{sym, subst}
use Rattle.cf_table.specs.Moves.{IsReading}
use Rattle.cf_table.specs.Values.{LogValue}
use Rattle.cf_query.proofs.scans.finding_stretch.Goals as goal

pub scan-requires-clause-reads : goal.scan-requires-clause-reads
scan-requires-clause-reads g c =
    subst (λ (log : LogValue). IsReading log (g.P.Pass.held c.args.pass.now)) (sym c.new-selection.ensures.log) c.requires.reads

pub total_of-requires-clause-reads : goal.total_of-requires-clause-reads
total_of-requires-clause-reads g c =
    subst (λ (log : LogValue). IsReading log (g.P.Pass.held c.args.pass.now)) (sym c.new-selection-in-Total.ensures.log) c.requires.reads
