use Rattle.std.proofs.Common.{◌≡◌, map, take}
use Rattle.cf_project.specs.Projected.{ask_kept}
use Rattle.cf_project.proofs.keep.kept_asks.Given as goal

abbrev pub invariant-loop-ask : goal.invariant-loop-ask
invariant-loop-ask l = l.left.items ≡ map (ask_kept l.kept) (take l.ask-index l.asks)
