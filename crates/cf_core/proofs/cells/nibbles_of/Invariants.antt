use Rattle.std.proofs.Common.{◌≡◌, ◌++◌, ◌-◌}
use Rattle.cf_law.specs.Nibbles.{nibbles}
use Rattle.cf_core.proofs.cells.nibbles_of.Given as goal

abbrev pub invariant-loop-level : goal.invariant-loop-level
invariant-loop-level l = l.path.items ++ nibbles (l.count - l.level) l.left ≡ nibbles l.count l.key
