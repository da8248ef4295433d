use Rattle.std.proofs.Common.{◌∙◌, ℕ, List, map, ap}
use Rattle.cf_fold.specs.Quads.{QuadValue}
use Rattle.cf_plain.specs.Asks.{rows_in}
use Rattle.cf_plain.specs.Groups.{groups, pair_of}
use Rattle.cf_plain.specs.declared.finding.Finding.TheVariants as findings
use Rattle.cf_plain.proofs.Ranks.{pairs_back}
use Rattle.cf_query.proofs.findings.groups_of.Goals as goal

pub returns-clause-found : goal.returns-clause-found
returns-clause-found g c =
    let rows = rows_in ((g.P.Pass.held c.args.pass.now).view).seen in
    ap (λ (gs : List (ℕ × QuadValue)). findings.Groups gs)
    (c.new.ensures ∙ ap (map pair_of) c.in_ok-groups.ensures.found ∙ pairs_back (groups c.args.log.now.shape c.args.lane rows))
