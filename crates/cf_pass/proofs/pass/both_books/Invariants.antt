use Rattle.std.proofs.Common.{◌≡◌, ◌++◌, take}
use Rattle.cf_pass.proofs.pass.both_books.Given as goal

abbrev pub invariant-loop-book : goal.invariant-loop-book
invariant-loop-book l = l.books.items ≡ l.one ++ take l.book-index l.other
