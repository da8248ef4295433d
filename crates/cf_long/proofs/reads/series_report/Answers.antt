use Rattle.std.proofs.Common.{◌≡◌, ◌∙◌, Err, ap, rules, subst}
use Rattle.cf_setup.specs.Setups.{shaped}
use Rattle.cf_shape.specs.Lanes.{ShapeValue}
use Rattle.cf_long.proofs.Ends.{AtEnd, ended_long, halted_so, lacks_at_end, long_on, some_on, told_at_end}
use Rattle.cf_long.proofs.reads.series_report.Goals as goal

pub long_report-requires-clause-long : goal.long_report-requires-clause-long
long_report-requires-clause-long g c κs within =
    some_on c.args.setup.now c.args.long c.read_all.new.long c.requires.long c.read_all.ensures.keeps
    (ended_long c.read_all.new.series (g.F.Shelf.files c.args.shelf.now) (g.F.Shelf.rest c.read_all.new.shelf) c.read_all.new.long c.in_ok-end.end
    c.in_ok-end.ensures.come)

pub returns-in_err-end-clause-told : goal.returns-in_err-end-clause-told
returns-in_err-end-clause-told g c = λ capacity writers nodes for.
    let shape = shaped c.args.setup.now capacity writers nodes in
    let why = c.in_err-end.field-0.0 in
    let same : c.from_residual.result ≡ Err why = search rules in
    rw same (halted_so c.read_all.new.series (g.F.Shelf.files c.args.shelf.now) (g.F.Shelf.rest c.read_all.new.shelf) shape c.args.long.shape why for.shape
    c.read_all.new.long c.in_err-end.ensures.keeps.shape c.in_err-end.ensures.come)

pub returns-in-Err-clause-told : goal.returns-in-Err-clause-told
returns-in-Err-clause-told g c = λ capacity writers nodes for.
    let setup = c.args.setup.now in
    let shape = shaped c.args.setup.now capacity writers nodes in
    let series = c.read_all.new.series in
    let told = g.F.Shelf.files c.args.shelf.now in
    let now = g.F.Shelf.rest c.read_all.new.shelf in
    let long = c.read_all.new.long in
    let end = c.in_ok-end.end in
    let is = c.in_ok-end.ensures.come in
    let some = ended_long series told now long end is in
    let on = long_on setup capacity writers nodes c.args.long long some.0 for c.read_all.ensures.keeps some.1 in
    rw c.halt.ensures
    (lacks_at_end series told now shape c.nodes-nodes.result
    (c.nodes-nodes.ensures ∙ ap (λ (h : ShapeValue). h.nodes) for.shape) long end c.in-Err.why is
    (c.in-Err.ensures capacity writers nodes some.0 on))

pub returns-in-Whole-clause-told : goal.returns-in-Whole-clause-told
returns-in-Whole-clause-told g c = λ capacity writers nodes for.
    let setup = c.args.setup.now in
    let shape = shaped c.args.setup.now capacity writers nodes in
    let series = c.read_all.new.series in
    let told = g.F.Shelf.files c.args.shelf.now in
    let now = g.F.Shelf.rest c.read_all.new.shelf in
    let long = c.read_all.new.long in
    let end = c.in_ok-end.end in
    let is = c.in_ok-end.ensures.come in
    let some = ended_long series told now long end is in
    let on = long_on setup capacity writers nodes c.args.long long some.0 for c.read_all.ensures.keeps some.1 in
    let text = c.in-Ok.text.items in
    subst (AtEnd series told now setup shape text) c.in-Whole.is
    (told_at_end series told now setup shape text long end is (c.in-Ok.ensures capacity writers nodes some.0 on))

pub returns-in-Refused-clause-told : goal.returns-in-Refused-clause-told
returns-in-Refused-clause-told g c = λ capacity writers nodes for.
    let setup = c.args.setup.now in
    let shape = shaped c.args.setup.now capacity writers nodes in
    let series = c.read_all.new.series in
    let told = g.F.Shelf.files c.args.shelf.now in
    let now = g.F.Shelf.rest c.read_all.new.shelf in
    let long = c.read_all.new.long in
    let end = c.in_ok-end.end in
    let is = c.in_ok-end.ensures.come in
    let some = ended_long series told now long end is in
    let on = long_on setup capacity writers nodes c.args.long long some.0 for c.read_all.ensures.keeps some.1 in
    let text = c.in-Ok.text.items in
    subst (AtEnd series told now setup shape text) c.in-Refused.is
    (told_at_end series told now setup shape text long end is (c.in-Ok.ensures capacity writers nodes some.0 on))

pub returns-in-Full-clause-told : goal.returns-in-Full-clause-told
returns-in-Full-clause-told g c = λ capacity writers nodes for.
    let setup = c.args.setup.now in
    let shape = shaped c.args.setup.now capacity writers nodes in
    let series = c.read_all.new.series in
    let told = g.F.Shelf.files c.args.shelf.now in
    let now = g.F.Shelf.rest c.read_all.new.shelf in
    let long = c.read_all.new.long in
    let end = c.in_ok-end.end in
    let is = c.in_ok-end.ensures.come in
    let some = ended_long series told now long end is in
    let on = long_on setup capacity writers nodes c.args.long long some.0 for c.read_all.ensures.keeps some.1 in
    let text = c.in-Ok.text.items in
    rw c.from-most.ensures
    (subst (AtEnd series told now setup shape text) c.in-Full.is
    (told_at_end series told now setup shape text long end is (c.in-Ok.ensures capacity writers nodes some.0 on)))
