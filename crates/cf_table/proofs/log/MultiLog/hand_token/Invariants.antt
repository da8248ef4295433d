use Rattle.std.proofs.Common.{[], ◌∷◌}
use Rattle.cf_law.specs.Steps.{new_pass, without}
use Rattle.cf_table.specs.Values.{book_of}
use Rattle.cf_table.proofs.log.MultiLog.hand_token.Given as goal

abbrev pub ghosts-split_as : goal.ghosts-split_as
ghosts-split_as a = let v = a.token.now.view in record { stays = record v { books = without 0 v.books }; goes = new_pass (book_of v ∷ []) v.seen }
