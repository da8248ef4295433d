use Rattle.std.proofs.Common.{refl, subst}
use Rattle.cf_long.specs.Kept.{KeepsKept, KeptLongValue, TakesLeft}
use Rattle.cf_long.proofs.KeptRows.{takes_left}
use Rattle.cf_long.proofs.kept.KeptLong.take_left.Goals as goal

pub returns-clause-takes : goal.returns-clause-takes
returns-clause-takes g c =
    let i = c.self.inside in
    let old : KeptLongValue = record { kept = i.kept.items; shape = i.shape; long = i.long } in
    let new : KeptLongValue = record { kept = i.kept.items; shape = i.shape; long = c.take_rows.new.self } in
    let same = c.take_rows.ensures.keeps in
    let keeps : KeepsKept old new = record { kept = refl; shape = refl; plan = same.plan } in
    subst (λ (log : KeptLongValue). TakesLeft log new c.args.left.now.items c.take_rows.result) c.self.view_is
    (takes_left old new c.args.left.now.items c.take_rows.result keeps same.shape c.take_rows.ensures.long c.take_rows.ensures.unmade)
