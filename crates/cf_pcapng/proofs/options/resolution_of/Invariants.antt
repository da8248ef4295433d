use Rattle.std.proofs.Common.{◌≡◌, ℕ, ◌≤◌, length}
use Rattle.cf_pcapng.specs.Blocks.{resolution_in, resolution_of}
use Rattle.cf_pcapng.proofs.options.resolution_of.Given as goal

abbrev pub invariant-loop-rest : goal.invariant-loop-rest
invariant-loop-rest l = record {
  steps : ℕ;
  enough : length l.rest ≤ steps;
  same : resolution_of l.order l.options ≡ resolution_in l.order steps l.found l.rest;
}

abbrev pub decreases-loop-rest : goal.decreases-loop-rest
decreases-loop-rest l = length l.rest
