use Rattle.cf_law.specs.Steps.Splits.{hands}
use Rattle.cf_table.specs.Values.{book_of}
use Rattle.cf_table.proofs.log.MultiLog.hand_token.Goals as goal

pub split_as-requires-clause-lawful : goal.split_as-requires-clause-lawful
split_as-requires-clause-lawful c = (_, hands 0 (book_of c.args.token.now.view) c.requires.held)
