use Rattle.std.proofs.Common.{◌%◌, arith, rules}
use Rattle.cf_table.proofs.Mays.{may_walk}
use Rattle.cf_append.proofs.Cells.{walk_own}
use Rattle.cf_append.proofs.links.own_head.Goals as goal

pub load_head-requires : goal.load_head-requires
load_head-requires g c κs within =
    let r = c.requires.1 in
    let leaf = r.1.1.1.0 in
    let own = c.writer-writer.ensures.writer in
    let low = r.1.1.0 in (
      search rules,
      (
        within,
        (
          r.0,
          (
            (leaf.low, omega arith, omega (arith, own, low)),
            may_walk c.args.log.now.shape c.args.pass.now.view g.at.lane g.at.path c.args.leaf (c.args.key % 16) c.writer-writer.result leaf.knows r.1.1.1.1
                (omega arith) (omega (arith, own, low)),
          ),
        ),
      ),
    )

pub returns-clause-head : goal.returns-clause-head
returns-clause-head g c =
    let r = c.requires.1 in
    walk_own c.args.log.now.shape c.args.pass.now c.load_head.new.pass g.at c.args.leaf
    (c.args.key % 16) c.writer-writer.result c.load_head.result c.load_head.ensures.made r.1.0 c.writer-writer.ensures.writer r.1.1.1.0.knows r.1.1.1.1
    (omega arith)
