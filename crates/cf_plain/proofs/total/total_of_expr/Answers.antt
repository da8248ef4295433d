use Rattle.std.proofs.Common.{ap, arith, take}
use Rattle.std.proofs.lemmas.List.{length-take}
use Rattle.cf_fold.specs.Quads.{QuadValue}
use Rattle.cf_plain.proofs.Amounts.{amounts_few}
use Rattle.cf_plain.proofs.total.total_of_expr.Goals as goal

pub add-total-requires : goal.add-total-requires
add-total-requires c =
    let seen = take c.loop-entry.entry-index c.args.entries.now in
    let few = amounts_few c.args.attr c.args.expr.now seen in
    let same = ap (λ (t : QuadValue). t.count) c.loop-entry.invariant in
    omega (arith, few, same, length-take c.loop-entry.entry-index c.args.entries.now)
