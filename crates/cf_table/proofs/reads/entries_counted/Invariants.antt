use Rattle.std.proofs.Common.{◌≡◌, take}
use Rattle.cf_table.specs.Moves.{OnlyLooked}
use Rattle.cf_table.proofs.reads.entries_counted.Given as goal

abbrev pub invariant-loop-offset : goal.invariant-loop-offset
invariant-loop-offset g l = record { read : l.entries.items ≡ take l.offset (l.fn.root.view).seen; looked : OnlyLooked l.fn.root l.root }
