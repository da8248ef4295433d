use Rattle.csv.specs.Records.{fields_of}
use Rattle.cf_records.proofs.Nexts.{reads_on}
use Rattle.cf_records.proofs.read.read_next.Goals as goal

pub returns : goal.returns
returns c = λ text records has. reads_on c.args.reader.now c.read_byte_record.new.self (fields_of c.read_byte_record.new.row) c.in-Ok.found text records has
    (c.in-Ok.ensures.ready has.trim_is) (c.in-Ok.ensures.reads has.trim_is has.ready)
