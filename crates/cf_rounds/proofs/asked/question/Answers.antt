use Rattle.std.proofs.Common.{◌≡◌, get_or, sym, subst}
use Rattle.cf_plain.specs.Asks.{Suits}
use Rattle.cf_plain.specs.declared.ask.Ask.{Ask}
use Rattle.cf_setup.specs.Setups.{shaped}
use Rattle.cf_rounds.proofs.Suited.{asks_suit}
use Rattle.cf_rounds.proofs.asked.question.Goals as goal

pub returns-clause-suits : goal.returns-clause-suits
returns-clause-suits c capacity nodes =
    let setup = c.args.setup.now in
    let ask = c.index-asks-place.result in
    let is : ask ≡ get_or setup.asks c.args.place ask = rw c.asks-asks.ensures.asks at c.index-asks-place.is in
    subst (λ (a : Ask). Suits (shaped setup capacity 1 nodes) a) (sym is) (asks_suit setup c.asks-asks.ensures.lawful capacity nodes c.args.place ask c.requires)
