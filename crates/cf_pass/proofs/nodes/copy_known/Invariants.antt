use Rattle.std.proofs.Common.{◌≡◌, take}
use Rattle.cf_pass.proofs.nodes.copy_known.Given as goal

abbrev pub invariant-loop-node : goal.invariant-loop-node
invariant-loop-node l = l.copied.items ≡ take l.node-index l.known
