use Rattle.std.proofs.Common.{◌-◌, ◌/◌, ◌%◌}
use Rattle.cf_shape.specs.Nodes.{levels_of}
use Rattle.cf_law.specs.Nibbles.{nibbles}
use Rattle.cf_shape.proofs.KeyLevels.{levels_two}
use Rattle.cf_append.proofs.Pathing.{filed_some, filed_none, filed_path}
use Rattle.cf_append.proofs.Cells.{may_top, linked_more, linked_skip}
use Rattle.cf_append.proofs.links.link_in.Goals as goal

pub returns-in_default-clause-linked : goal.returns-in_default-clause-linked
returns-in_default-clause-linked g c =
    let s = c.args.log.now.shape in
    let m = c.args.pass.now in
    linked_skip s m m c.args.offset c.args.filed.lane c.args._row.now c.requires.linked
    (filed_none s c.args._row.now m.view c.args.filed.lane c.args.filed.filing c.in_default.is c.requires.filing)

pub store_top-requires : goal.store_top-requires
store_top-requires g c κs within =
    let s = c.args.log.now.shape in
    let l = c.args.filed.lane in
    let row = c.args._row.now in
    let p = c.args.pass.now.view in
    let at = c.in-Some.at in
    let filed = filed_some s row p l c.args.filed.filing at c.in-Some.is c.requires.filing in
    let leads = filed_path s row l p at (levels_two s l c.shape-lawful.ensures.lawful c.requires.lane) filed in (
      within,
      (
        c.requires.of,
        (
          (filed.node.low, c.requires.writer),
          may_top s c.args.pass.now c.args.offset l at.leaf (at.key % 16) row
              (nibbles (levels_of s l - 1) (at.key / 16)) c.requires.linked leads filed.node.knows,
        ),
      ),
    )

pub returns-clause-linked : goal.returns-clause-linked
returns-clause-linked g c =
    let s = c.args.log.now.shape in
    let row = c.args._row.now in
    let at = c.in-Some.at in
    let filed = filed_some s row c.args.pass.now.view c.args.filed.lane c.args.filed.filing at c.in-Some.is c.requires.filing in
    linked_more s c.args.pass.now c.store_top.new.pass c.args.offset c.args.filed.lane at.leaf
    (at.key % 16) row c.requires.linked filed.selects c.store_top.ensures.made
