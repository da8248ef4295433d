use Rattle.cf_intake.proofs.Streams.{blocks_begin, records_begin}
use Rattle.cf_intake.proofs.reader.Reader.of.Goals as goal

pub returns-in_ok-for_scope-clause-begins : goal.returns-in_ok-for_scope-clause-begins
returns-in_ok-for_scope-clause-begins c = blocks_begin c.in_ok-for_scope.field-0 c.in_ok-for_scope.ensures.state

pub returns-in_ok-for_scope-2-clause-begins : goal.returns-in_ok-for_scope-2-clause-begins
returns-in_ok-for_scope-2-clause-begins c = records_begin c.in_ok-for_scope-2.field-0 c.in_ok-for_scope-2.ensures.state
