use Rattle.cf_handles.specs.Spanned.{ReportsSpanTo}
use Rattle.cf_handles.proofs.Called.{if_lent, if_not_lent, nothing_told, told}
use Rattle.cf_handles.proofs.span_report.confluo_span_report.Goals as goal

pub returns-in_default-clause-told : goal.returns-in_default-clause-told
returns-in_default-clause-told c = nothing_told (ReportsSpanTo c.args.text.now c.args.text.now) c.args.span.now.seat.held _ c.args.count.now c.number.result c.in_default.ensures.value (if_not_lent c.get_mut.result c.in_default.is c.get_mut.follows.holds-at-none) c.number.ensures

pub returns-clause-told : goal.returns-clause-told
returns-clause-told c =
    let made = c.report.result in
    let shown = c.show_text.ensures in
    told (ReportsSpanTo c.args.text.now c.show_text.new.text) c.args.span.now.seat.held _ c.in-Some.span.now c.report.new.self shown.0 c.args.count.now
    c.show_text.new.count c.show_text.result c.in-Some.ensures.value
    (if_lent c.get_mut.result c.in-Some.span c.in-Some.is (c.get_mut.follows.holds c.report.new.self)) (made, c.report.ensures, shown.1) shown.2 shown.3
