use Rattle.std.proofs.Common.{◌≡◌, take}
use Rattle.cf_plain.proofs.ask.copy_asks.Given as goal

abbrev pub invariant-loop-ask : goal.invariant-loop-ask
invariant-loop-ask l = l.copied.items ≡ take l.ask-index l.asks
