use Rattle.cf_records.proofs.OneOutcome.{one_records}
use Rattle.cf_records.proofs.SomeOutcome.{some_records}
use Rattle.cf_records.proofs.laws.each_text_is_one_thing.Goals as goal

pub returns : goal.returns
returns c = record { some = some_records; one = λ attrs text a b p q. one_records attrs text a b p q }
