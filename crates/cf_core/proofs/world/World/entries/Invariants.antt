use Rattle.std.proofs.Common.{◌≡◌}
use Rattle.cf_law.specs.Events.{entries_spelled}
use Rattle.cf_law.specs.Shapes.{layout}
use Rattle.cf_core.proofs.world.World.entries.Given as goal

abbrev pub invariant-loop-offset : goal.invariant-loop-offset
invariant-loop-offset l = l.entries.items ≡ entries_spelled (layout l.fn.self.shape) l.fn.self.words l.offset
