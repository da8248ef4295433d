use Rattle.std.proofs.Common.{◌∙◌, sym}
use Rattle.cf_watch.proofs.Placing.{forgets_no_pair, forgets_other}
use Rattle.cf_watch.proofs.kept_apart.other.Goals as goal

pub returns-then-has : goal.returns-then-has
returns-then-has c = forgets_no_pair c.args.buckets.now c.args.number c.args.key (sym c.has.ensures ∙ c.if-has.true)

pub returns-else-has : goal.returns-else-has
returns-else-has c =
    c.place_of_other.ensures ∙ forgets_other c.args.buckets.now c.args.number c.args.key (sym c.has.ensures ∙ c.if-has.false) c.requires.full
