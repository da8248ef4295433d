use Rattle.std.proofs.Common.{List, All, Option, Ok, Vec, Global, sym, subst}
use Rattle.cf_row.specs.declared.schema.Attr.{Attr}
use Rattle.cf_row.specs.Row.{Fits, RowValue}
use Rattle.cf_intake.specs.Series.{SeriesComesTo, result_rows}
use Rattle.cf_long.proofs.ReadMore.{fits_more, read_more}
use Rattle.cf_long.proofs.ahead.Ahead.read.Goals as goal

pub returns-in_ok-put_behind-in-Ok-Some-clause-ahead : goal.returns-in_ok-put_behind-in-Ok-Some-clause-ahead
returns-in_ok-put_behind-in-Ok-Some-clause-ahead g c = λ rows is.
    let told = g.F.Shelf.files c.args.shelf.now in
    let now = g.F.Shelf.rest c.next.new.shelf in
    let marks = c.args.marks.now in
    let given = c.in-Ok-Some.rows.items in
    read_more c.args.series.now c.next.new.self told (g.F.Shelf.rest c.args.shelf.now) now marks rows c.args.self.now
    (record { rows = c.put_behind.new.rows; end = c.args.self.now.end }) given c.in_ok-left-in-Ok-Some.left.items is c.requires.more
    (λ these at. subst (λ (o : Option (Vec RowValue Global)). SeriesComesTo c.next.new.self told now these (result_rows (Ok o))) c.in-Ok-Some.field-0-is
    (c.in-Ok-Some.ensures.read these at))
    c.in_ok-left-in-Ok-Some.ensures c.in_ok-put_behind-in-Ok-Some.ensures c.requires.more

pub returns-in_ok-put_behind-in-Ok-Some-clause-fit : goal.returns-in_ok-put_behind-in-Ok-Some-clause-fit
returns-in_ok-put_behind-in-Ok-Some-clause-fit g c = λ fit.
    let given = c.in-Ok-Some.rows.items in
    let found = rw c.in-Ok-Some.field-0-is at c.in-Ok-Some.ensures.fit in
    let whole : All (Fits c.args.schema.now) given = subst (λ (attrs : List Attr). All (Fits attrs) given) (sym c.requires.kind) found in
    fits_more c.args.marks.now c.args.schema.now c.args.self.now.rows.items c.put_behind.new.rows.items given c.in_ok-left-in-Ok-Some.left.items fit whole
    c.in_ok-left-in-Ok-Some.ensures c.in_ok-put_behind-in-Ok-Some.ensures
