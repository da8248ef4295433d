use Rattle.std.proofs.Common.{◌<◌, length, arith, refl}
use Rattle.std.specs.Arc.{arc_value}
use Rattle.cf_store.proofs.Aware.{looked_aware, row_fits}
use Rattle.cf_store.proofs.held.Reader.row.Goals as goal

pub invariant_of-self-2 : goal.invariant_of-self-2
invariant_of-self-2 c = record {
  aware = looked_aware (arc_value c.args.self.now.of).log c.args.self.now.pass c.row.new.pass c.args.self.now.aware c.row.ensures.looked;
}

pub returns-in-Ok : goal.returns-in-Ok
returns-in-Ok c =
    let low = c.if-offset-covered.false in
    let covered = c.covered.ensures in
    let lt : c.args.offset < length (c.args.self.now.pass.view).seen = omega (arith, low, covered) in (
      refl,
      refl,
      c.row.ensures.looked,
      lt,
      c.in-Ok.ensures.row,
      row_fits (arc_value c.args.self.now.of).log.shape c.args.self.now.pass.view c.args.offset c.in-Ok.found c.args.self.now.aware.fit lt c.in-Ok.ensures.row,
    )
