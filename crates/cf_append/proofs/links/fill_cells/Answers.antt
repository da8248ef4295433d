use Rattle.std.proofs.Common.{◌≡◌, sym, arith, rules}
use Rattle.cf_row.specs.Words.{word_count}
use Rattle.cf_append.specs.Linking.{cell_from}
use Rattle.cf_append.proofs.Walking.{strides_none}
use Rattle.cf_append.proofs.Cells.{cell_first, filled_at, filled_book}
use Rattle.cf_append.proofs.links.fill_cells.Goals as goal

pub loop-lane-init : goal.loop-lane-init
loop-lane-init g c =
    let s = c.args.log.now.shape in
    let m = c.args.pass.now in
    let count : c.word_count.result ≡ word_count s.schema = search rules in record {
      of = c.requires.of;
      strides = strides_none m;
      at = omega (arith, count, cell_first s);
      filled = filled_at s c.args.offset c.args.row.now _ _ m m (sym (cell_first s)) c.requires.filled;
      steps = omega arith;
      loads = omega arith;
    }

pub store_version-from-requires-clause-book : goal.store_version-from-requires-clause-book
store_version-from-requires-clause-book g c =
    filled_book c.args.log.now.shape c.args.offset c.args.row.now
    (cell_from c.args.log.now.shape c.loop-lane.lane) c.args.pass.now c.loop-lane.pass c.loop-lane.invariant.filled c.requires.book
