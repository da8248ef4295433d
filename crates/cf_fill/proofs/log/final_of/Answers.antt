use Rattle.cf_fill.specs.Logs.{NodesSuffice, IsUnmade}
use Rattle.cf_fill.specs.Seals.{IsSealedFinal}
use Rattle.cf_fill.specs.Work.{shape_for}
use Rattle.cf_fill.proofs.Logs.{final_so}
use Rattle.cf_fill.proofs.log.final_of.Goals as goal

pub returns : goal.returns
returns g c = λ sizes rows lawful is.
    final_so c.report_in.result (λ made. IsSealedFinal c.args.setup.now sizes.capacity sizes.writers sizes.nodes rows made.text.items made.seals.items)
    (NodesSuffice c.args.setup.now sizes rows) (IsUnmade (shape_for c.args.setup.now sizes) rows)
    (c.report_in.ensures sizes 0 rows lawful is)
