use Rattle.std.proofs.Common.{◌≡◌, ◌<◌, [], ℕ, length, get_or, ap, ◌∙◌, rules}
use Rattle.cf_plain.specs.Answered.{no_ask}
use Rattle.cf_plain.specs.Asks.{rows_in}
use Rattle.cf_plain.specs.Segments.{finding_in}
use Rattle.cf_plain.specs.declared.ask.Ask.{Ask}
use Rattle.cf_load.proofs.Findings.{made_more}
use Rattle.cf_load.proofs.Reading.{ask_found}
use Rattle.cf_load.proofs.prior.nothings.Goals as goal

pub loop-place-preserved : goal.loop-place-preserved
loop-place-preserved c =
    let shape = c.args._shape.now in
    let plan = c.args.plan.now in
    let i = c.loop-place.place-index in
    let there : i < length plan.lives.items = search rules in
    let asked : c.index-question.result.now ≡ get_or plan.asks.items (get_or plan.lives.items i 0) no_ask =
    ask_found plan.asks.items c.deref-place-items.result.now plan.lives.items i c.index-question.result.now c.requires.plan.lives
    c.deref-place-items.ensures.value there c.index-question.ensures in
    record {
      found = made_more
          (λ (k : ℕ). finding_in shape (get_or plan.asks.items k no_ask)
          (rows_in [])) plan.lives.items c.loop-place.findings.items c.push.new.self.items i 0 c.nothing.result c.loop-place.invariant.found there
          (c.nothing.ensures shape ∙ ap (λ (a : Ask). finding_in shape a (rows_in [])) asked) c.in_ok-push.ensures.items;
    }
