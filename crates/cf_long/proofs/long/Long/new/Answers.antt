use Rattle.std.proofs.Common.{◌∙◌, [], List, None, ap, sym, subst}
use Rattle.cf_plain.specs.declared.ask.Ask.{Ask}
use Rattle.cf_long.specs.Found.{found_in}
use Rattle.cf_long.specs.Growing.{GrowingValue}
use Rattle.cf_long.specs.Longs.{IsLong}
use Rattle.cf_long.proofs.Longs.{none_long}
use Rattle.cf_long.proofs.Takes.{none_taken}
use Rattle.cf_long.proofs.long.Long.new.Goals as goal

pub returns-clause-none : goal.returns-clause-none
returns-clause-none c =
    let h = c.args.shape.now in
    let found = c.in_ok-found.found.items in
    subst (λ (s : GrowingValue). IsLong (record { plan = c.args.plan; small = c.args.small; segment = s; found = found; gone = 0 }) []) (sym c.in_ok-segment.ensures)
    (none_long c.args.plan c.args.small (record { small = c.args.small; shape = h; filling = None; kept = [] }) found c.requires.smaller
    (none_taken c.args.plan c.args.small h c.requires.smaller c.requires.allowed c.requires.plan)
    (c.in_ok-found.ensures h ∙ ap (λ (qs : List Ask). found_in h qs []) (c.deref.ensures.value ∙ c.in_ok-asks.ensures)))
