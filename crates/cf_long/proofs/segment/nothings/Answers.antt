use Rattle.std.proofs.Common.{◌∙◌, ◌<◌, [], length, ap, rules}
use Rattle.cf_plain.specs.Segments.{finding_in}
use Rattle.cf_plain.specs.declared.ask.Ask.{Ask}
use Rattle.cf_load.proofs.Findings.{made_more}
use Rattle.cf_long.proofs.segment.nothings.Goals as goal

pub loop-ask-preserved : goal.loop-ask-preserved
loop-ask-preserved c =
    let i = c.loop-ask.ask-index in
    let there : i < length c.args.asks.now = search rules in
    record {
      found = λ shape. made_more (λ (a : Ask). finding_in shape a []) c.args.asks.now c.loop-ask.found.items c.push.new.self.items i c.ask-item.result
          c.nothing.result (c.loop-ask.invariant.found shape) there
          (c.nothing.ensures shape ∙ ap (λ (a : Ask). finding_in shape a []) c.ask-item.is) c.in_ok-push.ensures.items;
    }
