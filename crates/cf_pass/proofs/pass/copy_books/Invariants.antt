use Rattle.std.proofs.Common.{◌≡◌, take}
use Rattle.cf_pass.proofs.pass.copy_books.Given as goal

abbrev pub invariant-loop-book : goal.invariant-loop-book
invariant-loop-book l = l.copied.items ≡ take l.book-index l.books
