use Rattle.cf_law.specs.Steps.Splits.{bare}
use Rattle.cf_table.proofs.log.MultiLog.note_token.Goals as goal

pub split_as-requires-clause-lawful : goal.split_as-requires-clause-lawful
split_as-requires-clause-lawful c = (_, bare)
