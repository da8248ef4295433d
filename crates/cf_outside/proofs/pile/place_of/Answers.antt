use Rattle.std.proofs.Common.{◌∙◌, sym, ap}
use Rattle.std.specs.Str.{bytes_eq}
use Rattle.cf_outside.proofs.Named.{named_here}
use Rattle.cf_outside.proofs.pile.place_of.Goals as goal

pub returns-then-eq-clause-found : goal.returns-then-eq-clause-found
returns-then-eq-clause-found c =
    c.loop-place.invariant
    ∙ named_here _ _ _ c.index-files-place.result c.loop-place-test.true c.index-files-place.is
    (ap (λ name. bytes_eq name c.args.name.now) (sym c.name.ensures) ∙ sym c.eq.ensures ∙ c.if-eq.true)
