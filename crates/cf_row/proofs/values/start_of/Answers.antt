use Rattle.std.proofs.Common.{arith, sym, ◌∙◌}
use Rattle.cf_row.proofs.Kept.{flat_start}
use Rattle.cf_row.proofs.values.start_of.Goals as goal

pub returns-then-count-lens : goal.returns-then-count-lens
returns-then-count-lens c = sym (flat_start c.args.lens.now c.args.place (omega (arith, c.requires.place)) (sym c.requires.count ∙ c.if-count-lens.true))
