use Rattle.std.proofs.Common.{◌≡◌, map, Ok}
use Rattle.cf_load.proofs.finals.all_given.Given as goal

abbrev pub invariant-loop-answer : goal.invariant-loop-answer
invariant-loop-answer l = record { given : l.yielded ≡ map (λ answer. Ok answer) l.given.items }
