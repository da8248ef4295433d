use Rattle.std.proofs.Common.{◌≡◌, ◌∙◌, sym, []}
use Rattle.csv.specs.Records.{fields_of}
use Rattle.cf_records.proofs.Values.{field_got, there}
use Rattle.cf_records.proofs.row.field_at.Goals as goal

pub unreachable-requires : goal.unreachable-requires
unreachable-requires c =
    there (fields_of c.args.line.now) c.args.column [] c.requires
    (sym (field_got (fields_of c.args.line.now) c.args.column) ∙ sym (rw c.in-None.is at c.get.ensures.value))

pub returns : goal.returns
returns c = sym (field_got (fields_of c.args.line.now) c.args.column) ∙ sym (rw c.in-Some.is at c.get.ensures.value)
