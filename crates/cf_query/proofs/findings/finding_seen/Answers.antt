use Rattle.std.proofs.Common.{◌∙◌, ap, sym}
use Rattle.cf_fold.specs.Quads.{QuadValue}
use Rattle.cf_plain.specs.Asks.{rows_in}
use Rattle.cf_plain.specs.Segments.{finding_in}
use Rattle.cf_plain.specs.declared.ask.Ask.{Ask}
use Rattle.cf_plain.specs.declared.finding.Finding.TheVariants as findings
use Rattle.cf_query.proofs.findings.finding_seen.Goals as goal

pub returns-in-Measure-clause-found : goal.returns-in-Measure-clause-found
returns-in-Measure-clause-found g c =
    let rows = rows_in ((g.P.Pass.held c.args.pass.now).view).seen in
    ap (λ (q : QuadValue). findings.Total q) c.measure_range-quad.ensures.quad ∙ ap (λ (a : Ask). finding_in c.args.log.now.shape a rows) (sym c.in-Measure.is)
