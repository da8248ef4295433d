use Rattle.std.proofs.Common.{◌≡◌, take, map}
use Rattle.cf_command.proofs.table.copied.Given as goal

abbrev pub invariant-loop-text : goal.invariant-loop-text
invariant-loop-text l = map (λ s. s.now) l.copied.items ≡ map (λ s. s.now) (take l.text-index l.texts)
