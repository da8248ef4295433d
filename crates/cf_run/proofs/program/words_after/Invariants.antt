use Rattle.std.proofs.Common.{◌≡◌, drop, ◌++◌}
use Rattle.std.specs.Vec.Iter.{into_iter_items}
use Rattle.cf_run.proofs.program.words_after.Given as goal

-- the words so far, and those still to come, are all behind the first
abbrev pub invariant-loop-word : goal.invariant-loop-word
invariant-loop-word l = record {
  all : l.words.items ++ into_iter_items l.word-iterator ≡ drop 1 (into_iter_items l.fn.args);
}
