use Rattle.std.proofs.Common.{◌≡◌, ◌∙◌, Err, List, ap, length, rules, subst, sym}
use Rattle.std.proofs.lemmas.List.{length-map}
use Rattle.cf_plain.specs.Segments.{finding_in}
use Rattle.cf_plain.specs.declared.ask.Ask.{Ask}
use Rattle.cf_plain.specs.declared.finding.Finding.{Finding}
use Rattle.cf_load.specs.Planned.{asks_of}
use Rattle.cf_fill.specs.Logs.{IsUnmade}
use Rattle.cf_long.specs.Answered.{AreAnswers}
use Rattle.cf_long.specs.Longs.{HaveNodes, IsLong, LongValue, shape_in}
use Rattle.cf_long.proofs.Longs.{can_join, counted, found_all, here_numbered, nodes_all, unmade_all}
use Rattle.cf_long.proofs.long.Long.finish.Goals as goal

pub returns-in_err-more : goal.returns-in_err-more
returns-in_err-more g c = λ rows is.
    let i = c.self.inside in
    let v : LongValue = record { plan = i.plan; small = i.small; segment = i.segment; found = i.found.items; gone = i.gone } in
    let at : IsLong v rows = subst (λ (l : LongValue). IsLong l rows) (sym c.self.view_is) is in
    let why = c.in_err-more.field-0.0 in
    let same : c.from_residual.result ≡ Err why = search rules in
    rw same (subst (λ (l : LongValue). IsUnmade (shape_in l) rows why) c.self.view_is
    (unmade_all v rows at why (c.in_err-more.ensures at.here at.taken (here_numbered v rows at))))

pub join_each-requires : goal.join_each-requires
join_each-requires g c =
    let i = c.self.inside in
    let v : LongValue = record { plan = i.plan; small = i.small; segment = i.segment; found = i.found.items; gone = i.gone } in
    let rows = c.requires.long.0 in
    let at : IsLong v rows = subst (λ (l : LongValue). IsLong l rows) (sym c.self.view_is) c.requires.long.1 in
    record { can = can_join v rows at c.in_ok-more.more.items (c.in_ok-more.ensures at.here at.taken (here_numbered v rows at)) }

pub answers_of-requires : goal.answers_of-requires
answers_of-requires g c =
    let i = c.self.inside in
    let v : LongValue = record { plan = i.plan; small = i.small; segment = i.segment; found = i.found.items; gone = i.gone } in
    let rows = c.requires.long.0 in
    let at : IsLong v rows = subst (λ (l : LongValue). IsLong l rows) (sym c.self.view_is) c.requires.long.1 in
    let all = found_all v rows at c.in_ok-more.more.items c.in_ok-all.all.items
    (c.in_ok-more.ensures at.here at.taken (here_numbered v rows at)) c.in_ok-all.ensures in
    record { each = ap (λ (fs : List Finding). length fs) all ∙ length-map (asks_of v.plan) (λ (a : Ask). finding_in (shape_in v) a rows) }

pub returns : goal.returns
returns g c = λ rows is.
    let i = c.self.inside in
    let v : LongValue = record { plan = i.plan; small = i.small; segment = i.segment; found = i.found.items; gone = i.gone } in
    let at : IsLong v rows = subst (λ (l : LongValue). IsLong l rows) (sym c.self.view_is) is in
    let let_go = c.in_ok-more.ensures at.here at.taken (here_numbered v rows at) in
    let all = found_all v rows at c.in_ok-more.more.items c.in_ok-all.all.items let_go c.in_ok-all.ensures in
    let answers = c.in_ok-answers_of.field-0 in
    let are : AreAnswers (shape_in v) v.plan.asks.items v.plan.triggers.items rows answers =
    c.in_ok-answers_of.ensures (shape_in v) rows (c.count-count.ensures ∙ counted c.args.self rows is) all in
    subst (λ (l : LongValue). AreAnswers (shape_in l) l.plan.asks.items l.plan.triggers.items rows answers × HaveNodes (shape_in l) rows) c.self.view_is
    (are, nodes_all v rows at c.in_ok-more.more.items let_go)
