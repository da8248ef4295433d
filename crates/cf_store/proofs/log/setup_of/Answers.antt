use Rattle.std.proofs.Common.{◌≡◌, refl}
use Rattle.cf_store.proofs.Opened.{faulty, lawful}
use Rattle.cf_store.proofs.Options.{not_both}
use Rattle.cf_store.proofs.log.setup_of.Goals as goal

pub returns-in-Err : goal.returns-in-Err
returns-in-Err c =
    faulty (λ setup found. found ≡ setup) c.args.text.now c.args.sizes c.parse_setup.result c.in-Err.fault c.refusal_of.result c.parse_setup.ensures.found
    c.in-Err.is c.refusal_of.ensures

pub returns-then-not-are_sizes : goal.returns-then-not-are_sizes
returns-then-not-are_sizes c = (
  (c.in-Ok.setup, lawful c.args.text.now c.in-Ok.setup c.parse_setup.result c.parse_setup.ensures.found c.in-Ok.is),
  λ are. not_both c.are_sizes.result c.if-not-are_sizes.true (c.are_sizes.ensures.1 are),
)

pub returns : goal.returns
returns c = (
  c.in-Ok.setup,
  lawful c.args.text.now c.in-Ok.setup c.parse_setup.result c.parse_setup.ensures.found c.in-Ok.is,
  c.are_sizes.ensures.0 c.if-not-are_sizes.false,
  refl,
)
