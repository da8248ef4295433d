use Rattle.std.proofs.Common.{◌≡◌, map, Ok}
use Rattle.cf_load.proofs.finals.all_found.Given as goal

abbrev pub invariant-loop-finding : goal.invariant-loop-finding
invariant-loop-finding l = record { found : l.yielded ≡ map (λ finding. Ok finding) l.found.items }
