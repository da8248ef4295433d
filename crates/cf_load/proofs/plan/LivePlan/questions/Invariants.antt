use Rattle.std.proofs.Common.{◌≡◌, ◌++◌, map, take}
use Rattle.cf_plain.specs.declared.ask.Ask.TheVariants.{Fired}
use Rattle.cf_load.proofs.plan.LivePlan.questions.Given as goal

abbrev pub invariant-loop-trigger : goal.invariant-loop-trigger
invariant-loop-trigger l = record {
  asks : l.asks.items ≡ (l.self).asks.items ++ map (λ trigger. Fired trigger) (take l.trigger-index (l.self).triggers.items);
}
