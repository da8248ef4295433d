use Rattle.cf_row.proofs.Lawful.{packet6_is}
use Rattle.cf_row.proofs.packet6.the_packet6_schema_is_lawful.Goals as goal

pub returns : goal.returns
returns c = packet6_is
