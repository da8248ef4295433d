use Rattle.std.proofs.Common.{◌++◌, Option, subst}
use Rattle.cf_long.specs.Ahead.{ComesNext}
use Rattle.cf_long.specs.declared.reads.End.{End}
use Rattle.cf_intake.specs.Reads.{numbered_on}
use Rattle.cf_long.proofs.Ends.{may_ahead, stepped}
use Rattle.cf_long.proofs.reads.step.Goals as goal

pub take_beside-taken-requires-clause-may : goal.take_beside-taken-requires-clause-may
take_beside-taken-requires-clause-may g c κs within =
    let read = c.requires.read in record {
      some = (numbered_on 0 read.rows, read.is);
      fit = read.fit;
      follow = may_ahead c.args.long.now read.rows read.behind.more c.args.ahead.rows.items read.is read.behind.left c.requires.room;
    }

pub take_beside-taken-requires-clause-begun : goal.take_beside-taken-requires-clause-begun
take_beside-taken-requires-clause-begun g c κs within =
    let read = c.requires.read in (
      read.rows ++ read.behind.more,
      subst (λ (e : Option End). ComesNext c.args.series.now (g.F.Shelf.files c.args.shelf.now) (g.F.Shelf.rest c.args.shelf.now) (read.rows ++ read.behind.more) e)
          c.requires.more read.behind.next,
    )

pub returns-clause-comes : goal.returns-clause-comes
returns-clause-comes g c =
    let read = c.requires.read in
    let told = g.F.Shelf.files c.args.shelf.now in
    let before = g.F.Shelf.rest c.args.shelf.now in
    let at = subst (λ (e : Option End). ComesNext c.args.series.now told before (read.rows ++ read.behind.more) e) c.requires.more read.behind.next in
    stepped c.args.long.now read.rows read.behind.more c.args.ahead.rows.items read.is read.behind.left c.requires.room c.args.series.now
    c.take_beside-taken.new.series told before (g.F.Shelf.rest c.take_beside-taken.new.shelf) c.take_beside-taken.new.self c.nodes-nodes.result c.take_beside-taken.result.0
    c.take_beside-taken.result.1 c.both.result at c.take_beside-taken.ensures.takes c.take_beside-taken.ensures.keeps c.take_beside-taken.ensures.ahead c.both.ensures
    c.nodes-nodes.ensures read.kind c.take_beside-taken.ensures.series.schema
