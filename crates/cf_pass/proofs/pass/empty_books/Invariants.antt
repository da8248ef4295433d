use Rattle.std.proofs.Common.{◌≡◌}
use Rattle.cf_law.specs.Events.{tabulated, no_book}
use Rattle.cf_pass.proofs.pass.empty_books.Given as goal

abbrev pub invariant-loop-writer : goal.invariant-loop-writer
invariant-loop-writer l = l.books.items ≡ tabulated no_book l.writer
