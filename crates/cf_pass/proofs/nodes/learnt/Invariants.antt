use Rattle.std.proofs.Common.{◌≡◌, ◌∷◌, take}
use Rattle.cf_pass.proofs.nodes.learnt.Given as goal

abbrev pub invariant-loop-node : goal.invariant-loop-node
invariant-loop-node l = l.left.items ≡ (l.fn.spot, l.fn.node) ∷ take l.node-index l.known
