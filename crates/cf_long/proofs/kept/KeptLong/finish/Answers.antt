use Rattle.std.proofs.Common.{map, subst, sym}
use Rattle.cf_project.specs.Projected.{row_kept}
use Rattle.cf_long.specs.Kept.{IsLongFor, KeptLongValue}
use Rattle.cf_long.proofs.Setups.{for_setup}
use Rattle.cf_long.proofs.kept.KeptLong.finish.Goals as goal

pub returns : goal.returns
returns g c = λ setup capacity writers nodes rows for.
    let i = c.self.inside in
    let v : KeptLongValue = record { kept = i.kept.items; shape = i.shape; long = i.long } in
    let at : IsLongFor setup capacity writers nodes v rows =
    subst (λ (l : KeptLongValue). IsLongFor setup capacity writers nodes l rows) (sym c.self.view_is) for in
    for_setup setup capacity writers nodes v rows at c.finish.result (c.finish.ensures (map (row_kept v.kept) rows) at.is.is)
