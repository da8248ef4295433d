use Rattle.std.proofs.Common.{◌≡◌, ◌∙◌, ◌+◌, ◌≤◌, [], None, Err, List, true, ap, arith, rules, subst, sym}
use Rattle.std.specs.List.{AllZip}
use Rattle.cf_plain.specs.Segments.{CanJoin}
use Rattle.cf_plain.specs.declared.finding.Finding.{Finding}
use Rattle.cf_shape.specs.Lanes.{ShapeValue}
use Rattle.cf_fill.specs.Logs.{IsUnmade}
use Rattle.cf_long.specs.Found.{joined_each}
use Rattle.cf_long.specs.Growing.{GrowingValue, HasTaken, IsSmaller, count_in}
use Rattle.cf_long.specs.Longs.{IsLetGo, IsLong, LongValue, shape_in}
use Rattle.cf_long.proofs.Longs.{can_join, here_numbered, turned, unmade_all}
use Rattle.cf_long.proofs.Takes.{none_taken}
use Rattle.cf_long.proofs.long.Long.make_room.Goals as goal

pub returns-in_err-more-clause-unmade : goal.returns-in_err-more-clause-unmade
returns-in_err-more-clause-unmade g c =
    let i = c.self.inside in
    let v : LongValue = record { plan = i.plan; small = i.small; segment = i.segment; found = i.found.items; gone = i.gone } in
    let full = c.replace-full.result in
    let full_is : full ≡ i.segment = c.replace-full.ensures.value in
    let why = c.in_err-more.field-0.0 in
    let same : c.from_residual-in_err-more.result ≡ Err why = search rules in
    rw same (λ rows is.
    let at : IsLong v rows = subst (λ (l : LongValue). IsLong l rows) (sym c.self.view_is) is in
    subst (λ (l : LongValue). IsUnmade (shape_in l) rows why) c.self.view_is
    (unmade_all v rows at why
    (subst (λ (s : GrowingValue). IsUnmade s.shape at.here why) full_is
    (c.in_err-more.ensures at.here (subst (λ (s : GrowingValue). HasTaken i.plan s at.here) (sym full_is) at.taken) (here_numbered v rows at)))))

pub join_each-requires : goal.join_each-requires
join_each-requires g c =
    let i = c.self.inside in
    let v : LongValue = record { plan = i.plan; small = i.small; segment = i.segment; found = i.found.items; gone = i.gone } in
    let full = c.replace-full.result in
    let full_is : full ≡ i.segment = c.replace-full.ensures.value in
    let rows = c.requires.long.0 in
    let more = c.in_ok-more.more.items in
    let at : IsLong v rows = subst (λ (l : LongValue). IsLong l rows) (sym c.self.view_is) c.requires.long.1 in
    let let_go : IsLetGo (shape_in v) v.plan at.here more =
    subst (λ (s : GrowingValue). IsLetGo s.shape i.plan at.here more) full_is
    (c.in_ok-more.ensures at.here (subst (λ (s : GrowingValue). HasTaken i.plan s at.here) (sym full_is) at.taken) (here_numbered v rows at)) in
    let found_is : c.replace-found.result.items ≡ i.found.items = search rules in
    record { can = subst (λ (fs : List Finding). AllZip (CanJoin i.gone) fs more) (sym found_is) (can_join v rows at more let_go) }

pub returns-clause-long : goal.returns-clause-long
returns-clause-long g c = λ rows is.
    let i = c.self.inside in
    let v : LongValue = record { plan = i.plan; small = i.small; segment = i.segment; found = i.found.items; gone = i.gone } in
    let full = c.replace-full.result in
    let full_is : full ≡ i.segment = c.replace-full.ensures.value in
    let next = c.replace-full.new.dest in
    let next_is : next ≡ c.in_ok-next.next = c.replace-full.ensures.after in
    let more = c.in_ok-more.more.items in
    let all = c.in_ok-self-inside-2.field-0.items in
    let at : IsLong v rows = subst (λ (l : LongValue). IsLong l rows) (sym c.self.view_is) is in
    let let_go : IsLetGo (shape_in v) v.plan at.here more =
    subst (λ (s : GrowingValue). IsLetGo s.shape i.plan at.here more) full_is
    (c.in_ok-more.ensures at.here (subst (λ (s : GrowingValue). HasTaken i.plan s at.here) (sym full_is) at.taken) (here_numbered v rows at)) in
    let found_is : c.replace-found.result.items ≡ i.found.items = search rules in
    let whole : c.is_full.result ≡ true = search rules in
    let size = c.is_full.ensures.full whole in
    let fills : (shape_in v).capacity ≤ count_in v.segment =
    subst (λ (l : LongValue). (shape_in l).capacity ≤ count_in l.segment) (sym c.self.view_is) (omega (arith, size)) in
    let made : next ≡ record { small = i.small; shape = i.segment.shape; filling = None; kept = [] } = next_is ∙ (c.in_ok-next.ensures ∙ ap (λ (h : ShapeValue). record { small = i.small; shape = h; filling = None; kept = [] }) c.shape.ensures.shape) in
    let taken : HasTaken v.plan next [] =
    subst (λ (s : GrowingValue). HasTaken v.plan s []) (sym made)
    (none_taken v.plan i.small i.segment.shape at.smaller at.taken.allowed at.taken.plan_is) in
    turned v rows at next c.in_ok-self-inside.field-0 more all (i.gone + c.count-count.result) fills (ap (λ (s : GrowingValue). s.shape) made)
    (subst (λ (h : ShapeValue). IsSmaller h c.in_ok-self-inside.field-0) (c.shape-2.ensures.shape ∙ ap (λ (s : GrowingValue). s.shape) made)
    c.in_ok-self-inside.ensures)
    taken let_go
    (c.in_ok-self-inside-2.ensures ∙ ap (λ (fs : List Finding). joined_each i.gone fs more) found_is)
    (ap (λ n. i.gone + n) (c.count-count.ensures ∙ ap (λ (s : GrowingValue). count_in s) full_is))
