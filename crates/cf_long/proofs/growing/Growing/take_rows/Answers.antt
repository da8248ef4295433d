use Rattle.std.proofs.Common.{◌≡◌, ◌∙◌, ◌+◌, ◌≤◌, ◌++◌, Bool, nat_lt, cond, List, All, Option, ap, length, subst, sym}
use Rattle.cf_row.specs.Row.{Fits, RowValue}
use Rattle.cf_load.specs.Planned.{IsSamePlan}
use Rattle.cf_load.specs.declared.plan.LivePlan.{LivePlan}
use Rattle.cf_fill.specs.Filling.{FillingValue, IsFilled}
use Rattle.cf_long.specs.Growing.{GrowingValue, HasTaken, IsFilledAlone, IsFilledIf, count_in}
use Rattle.cf_long.specs.Longs.{HoldsFew}
use Rattle.cf_long.proofs.Takes.{holds_few, none_held, taken_more}
use Rattle.cf_long.proofs.growing.Growing.take_rows.Goals as goal

pub take_rows-requires-clause-filled : goal.take_rows-requires-clause-filled
take_rows-requires-clause-filled g c κs within =
    let i = c.self.inside in
    let v : GrowingValue = record { small = i.small; shape = i.shape; filling = i.filling; kept = i.kept.rows } in
    let plan = c.args.plan.now in
    let rows = c.requires.taken.0 in
    let at : HasTaken plan v rows = subst (λ (s : GrowingValue). HasTaken plan s rows) (sym c.self.view_is) c.requires.taken.1 in
    let alone = c.in_ok-filling.ensures rows
    (subst (λ (log : Option FillingValue). IsFilledIf i.small plan log rows) (sym c.take.ensures.value) at.filled) in
    (rows, alone.filled)

pub returns-clause-taken : goal.returns-clause-taken
returns-clause-taken g c = λ before is.
    let i = c.self.inside in
    let v : GrowingValue = record { small = i.small; shape = i.shape; filling = i.filling; kept = i.kept.rows } in
    let plan = c.args.plan.now in
    let more = c.args.rows.now.items in
    let at : HasTaken plan v before = subst (λ (s : GrowingValue). HasTaken plan s before) (sym c.self.view_is) is in
    let alone = c.in_ok-filling.ensures before
    (subst (λ (log : Option FillingValue). IsFilledIf i.small plan log before) (sym c.take.ensures.value) at.filled) in
    let f = c.take_rows.new.self in
    let keeps = c.take_rows.ensures.keeps in
    let filled : IsFilled f (before ++ more) = c.in_ok-take_rows.ensures.filled before alone.filled in
    let then : IsFilledAlone i.small plan f (before ++ more) = record {
      shape_is = keeps.shape ∙ alone.shape_is;
      one = keeps.most ∙ alone.one;
      plan_is = subst (λ (p : LivePlan). IsSamePlan plan p) (sym keeps.plan) alone.plan_is;
      filled = filled;
    } in
    let small : c.is_small-is_small.result ≡ nat_lt i.small.nodes i.shape.nodes =
    c.is_small-is_small.ensures ∙ ap (λ (s : GrowingValue). nat_lt s.small.nodes s.shape.nodes) (sym c.self.view_is) in
    let kept : c.keep.new.kept.rows ≡ cond (nat_lt i.small.nodes i.shape.nodes) (i.kept.rows ++ more) i.kept.rows =
    c.in_ok-keep.ensures.rows
    ∙ (ap (λ (rs : List RowValue). cond c.is_small-is_small.result (i.kept.rows ++ rs) i.kept.rows) c.deref.ensures.value
    ∙ ap (λ (b : Bool). cond b (i.kept.rows ++ more) i.kept.rows) small) in
    taken_more plan v f c.keep.new.kept.rows before more at then kept
    (subst (λ (s : GrowingValue). count_in s + length more ≤ s.shape.capacity) (sym c.self.view_is) c.requires.room)
    (subst (λ (s : GrowingValue). All (Fits s.shape.schema) more) (sym c.self.view_is) c.requires.fit)

pub returns-clause-few : goal.returns-clause-few
returns-clause-few g c = holds_few c.args.plan.now _ _ (returns-clause-taken g c c.requires.taken.0 c.requires.taken.1)

pub returns-in_err-keep-clause-few : goal.returns-in_err-keep-clause-few
returns-in_err-keep-clause-few g c =
    let i = c.self.inside in
    let v : GrowingValue = record { small = i.small; shape = i.shape; filling = i.filling; kept = i.kept.rows } in
    let held : HoldsFew v =
    subst HoldsFew (sym c.self.view_is) (holds_few c.args.plan.now c.args.self.now c.requires.taken.0 c.requires.taken.1) in
    record { records = held.records; waiting = held.waiting }

pub returns-in_err-filling-clause-few : goal.returns-in_err-filling-clause-few
returns-in_err-filling-clause-few g c = none_held _ c.take.ensures.after

pub returns-in_err-take_rows-clause-few : goal.returns-in_err-take_rows-clause-few
returns-in_err-take_rows-clause-few g c = none_held _ c.take.ensures.after
