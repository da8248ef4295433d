use Rattle.std.proofs.Common.{ap, sym, subst, suc}
use Rattle.cf_table.specs.Rule.{StepGiven, AsksOnWord}
use Rattle.cf_table.proofs.Calls.{calls_take}
use Rattle.cf_table.proofs.writes.take_as.Goals as goal

pub add_token-requires-clause-lawful : goal.add_token-requires-clause-lawful
add_token-requires-clause-lawful g c =
    let s = c.args.log.now.shape in let p = c.args.token.now.view in let r = c.args._row.now in (
      subst (λ (v : StepGiven). AsksOnWord s v p 0 (λ n. suc n)) (sym c.requires.given) (calls_take s p r c.requires.lawful),
      ap (λ (v : StepGiven). v.effect.slot) c.requires.given,
    )
