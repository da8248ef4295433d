use Rattle.std.proofs.Common.{◌≡◌, ◌+◌}
use Rattle.cf_append.specs.Appends.{flying}
use Rattle.cf_append.proofs.appends.store_words.Given as goal

abbrev pub invariant-loop-i : goal.invariant-loop-i
invariant-loop-i g l = record { pass : l.pass ≡ flying l.offset l.row l.i l.initial.pass; steps : l.steps ≡ l.initial.steps + l.i }
