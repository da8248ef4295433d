use Rattle.std.proofs.Common.{length, take, arith, ap}
use Rattle.std.proofs.lemmas.List.{length-take-le}
use Rattle.cf_row.specs.declared.row.Value.{Value}
use Rattle.cf_row.specs.Kept.{words_in}
use Rattle.cf_row.proofs.Kept.{long_kept}
use Rattle.cf_row.proofs.values.Spelling.len.Goals as goal

pub returns : goal.returns
returns c = omega (
  arith,
  c.from.ensures,
  ap (length {A = Value}) c.self.view_is,
  long_kept (take c.self.inside.count c.self.inside.lens) (words_in c.self.inside.words),
  length-take-le c.self.inside.count c.self.inside.lens c.self.invariant.1,
)
