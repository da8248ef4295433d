use Rattle.std.proofs.Common.{◌≡◌, ℕ, zero, suc, false, List, refl, sym, ◌∙◌}
use Rattle.cf_pcap.specs.declared.form.Order.{Order}
use Rattle.cf_pcapng.specs.Blocks.{has_option, resolution_in}
use Rattle.cf_pcapng.proofs.options.resolution_of.Goals as goal

no_more : (order : Order) (steps found : ℕ) (options : List ℕ) → has_option order options ≡ false → resolution_in order steps found options ≡ found
no_more order zero found options h = refl
no_more order (suc steps) found options h = rw h refl

pub returns : goal.returns
returns c = sym
    (c.loop-rest.invariant.same
    ∙ no_more c.args.order c.loop-rest.invariant.steps c.loop-rest.found c.loop-rest.rest.now (sym c.has_option.ensures.value ∙ c.loop-rest-test.false))
