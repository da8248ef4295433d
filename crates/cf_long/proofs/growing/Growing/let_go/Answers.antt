use Rattle.std.proofs.Common.{◌≡◌, ◌<◌, ◌≤◌, nat_lt, true, false, Err, List, All, arith, rules, subst, sym}
use Rattle.std.proofs.lemmas.Bool.{ltb-true, ltb-false}
use Rattle.cf_row.specs.Row.{Fits, RowValue}
use Rattle.cf_shape.specs.Lanes.{ShapeValue}
use Rattle.cf_fill.specs.Logs.{IsUnmade}
use Rattle.cf_fill.specs.declared.log.Unmade.{Unmade}
use Rattle.cf_fill.specs.declared.log.Unmade.TheVariants as unmade
use Rattle.cf_long.specs.ByRow.{AreNumbered}
use Rattle.cf_long.specs.Growing.{GrowingValue, HasTaken}
use Rattle.cf_long.specs.Longs.{IsLetGo}
use Rattle.cf_long.proofs.Smaller.{all_nodes_same, let_go_more, plan_smaller}
use Rattle.cf_long.proofs.growing.Growing.let_go.Goals as goal

pub opened-requires-clause-plan : goal.opened-requires-clause-plan
opened-requires-clause-plan g c =
    let i = c.self.inside in
    let v : GrowingValue = record { small = i.small; shape = i.shape; filling = i.filling; kept = i.kept.rows } in
    let rows = c.requires.taken.0 in
    let at : HasTaken c.args.plan.now v rows = subst (λ (s : GrowingValue). HasTaken c.args.plan.now s rows) (sym c.self.view_is) c.requires.taken.1 in
    plan_smaller v.shape v.small c.args.plan.now at.smaller at.plan_is

pub let_go-requires-clause-filled : goal.let_go-requires-clause-filled
let_go-requires-clause-filled g c κs within =
    let i = c.self.inside in
    let v : GrowingValue = record { small = i.small; shape = i.shape; filling = i.filling; kept = i.kept.rows } in
    let rows = c.requires.taken.0 in
    let at : HasTaken c.args.plan.now v rows = subst (λ (s : GrowingValue). HasTaken c.args.plan.now s rows) (sym c.self.view_is) c.requires.taken.1 in
    let alone = c.in_ok-filling.ensures rows at.filled in (rows, alone.filled)

pub returns-in-Ok : goal.returns-in-Ok
returns-in-Ok g c = λ rows is numbered.
    let i = c.self.inside in
    let v : GrowingValue = record { small = i.small; shape = i.shape; filling = i.filling; kept = i.kept.rows } in
    let plan = c.args.plan.now in
    let f = c.in_ok-filling.filling in
    let found = c.in-Ok.found.items in
    let at : HasTaken plan v rows = subst (λ (s : GrowingValue). HasTaken plan s rows) (sym c.self.view_is) is in
    let alone = c.in_ok-filling.ensures rows at.filled in
    subst (λ (s : GrowingValue). IsLetGo s.shape plan rows found) c.self.view_is
    (let_go_more v.shape v.small plan f.loader.plan rows found at.smaller alone.plan_is
    (subst (λ (h : ShapeValue). IsLetGo h f.loader.plan rows found) alone.shape_is (c.in-Ok.ensures rows alone.filled numbered)))

pub returns-then-not-is_small : goal.returns-then-not-is_small
returns-then-not-is_small g c = λ rows is numbered.
    let i = c.self.inside in
    let v : GrowingValue = record { small = i.small; shape = i.shape; filling = i.filling; kept = i.kept.rows } in
    let plan = c.args.plan.now in
    let at : HasTaken plan v rows = subst (λ (s : GrowingValue). HasTaken plan s rows) (sym c.self.view_is) is in
    let alone = c.in_ok-filling.ensures rows at.filled in
    let large : nat_lt c.args.self.small.nodes c.args.self.shape.nodes ≡ false = search rules in
    let fewer = ltb-false c.args.self.small.nodes c.args.self.shape.nodes large in
    let none : c.args.self.shape.nodes ≤ c.args.self.small.nodes = omega (arith, fewer) in
    let here : v.shape.nodes ≤ v.small.nodes = subst (λ (s : GrowingValue). s.shape.nodes ≤ s.small.nodes) (sym c.self.view_is) none in
    let whole : v.small ≡ v.shape = all_nodes_same v.shape v.small at.smaller (λ low. omega (arith, low, here)) in
    subst (λ (s : GrowingValue). IsUnmade s.shape rows unmade.Nodes) c.self.view_is
    (subst (λ (h : ShapeValue). IsUnmade h rows unmade.Nodes) whole
    (subst (λ (h : ShapeValue). IsUnmade h rows unmade.Nodes) alone.shape_is
    (subst (λ (why : Unmade). IsUnmade c.in_ok-filling.filling.segments.shape rows why) c.in-Err-Nodes.field-0-is
    (c.in-Err-Nodes.ensures rows alone.filled numbered))))

pub load_again-requires-clause-fit : goal.load_again-requires-clause-fit
load_again-requires-clause-fit g c κs within =
    let i = c.self.inside in
    let v : GrowingValue = record { small = i.small; shape = i.shape; filling = i.filling; kept = i.kept.rows } in
    let plan = c.args.plan.now in
    let rows = c.requires.taken.0 in
    let at : HasTaken plan v rows = subst (λ (s : GrowingValue). HasTaken plan s rows) (sym c.self.view_is) c.requires.taken.1 in
    let few : nat_lt c.args.self.small.nodes c.args.self.shape.nodes ≡ true = search rules in
    let low = subst (λ (s : GrowingValue). s.small.nodes < s.shape.nodes) (sym c.self.view_is)
    (ltb-true c.args.self.small.nodes c.args.self.shape.nodes few) in
    subst (λ (rs : List RowValue). All (Fits v.shape.schema) rs) (sym (at.kept low)) at.fit

pub returns-in_err-found-in-Err-Nodes : goal.returns-in_err-found-in-Err-Nodes
returns-in_err-found-in-Err-Nodes g c = λ rows is numbered.
    let i = c.self.inside in
    let v : GrowingValue = record { small = i.small; shape = i.shape; filling = i.filling; kept = i.kept.rows } in
    let plan = c.args.plan.now in
    let at : HasTaken plan v rows = subst (λ (s : GrowingValue). HasTaken plan s rows) (sym c.self.view_is) is in
    let few : nat_lt c.args.self.small.nodes c.args.self.shape.nodes ≡ true = search rules in
    let low = subst (λ (s : GrowingValue). s.small.nodes < s.shape.nodes) (sym c.self.view_is)
    (ltb-true c.args.self.small.nodes c.args.self.shape.nodes few) in
    let why = c.in_err-found-in-Err-Nodes.field-0.0 in
    let same : c.from_residual-in_err-found-in-Err-Nodes.result ≡ Err why = search rules in
    let kept = at.kept low in
    rw same
    (subst (λ (s : GrowingValue). IsUnmade s.shape rows why) c.self.view_is
    (subst (λ (rs : List RowValue). IsUnmade v.shape rs why) kept
    (c.in_err-found-in-Err-Nodes.ensures (subst (λ (rs : List RowValue). AreNumbered c.args.first rs) (sym kept) numbered))))

pub returns : goal.returns
returns g c = λ rows is numbered.
    let i = c.self.inside in
    let v : GrowingValue = record { small = i.small; shape = i.shape; filling = i.filling; kept = i.kept.rows } in
    let plan = c.args.plan.now in
    let at : HasTaken plan v rows = subst (λ (s : GrowingValue). HasTaken plan s rows) (sym c.self.view_is) is in
    let few : nat_lt c.args.self.small.nodes c.args.self.shape.nodes ≡ true = search rules in
    let low = subst (λ (s : GrowingValue). s.small.nodes < s.shape.nodes) (sym c.self.view_is)
    (ltb-true c.args.self.small.nodes c.args.self.shape.nodes few) in
    let kept = at.kept low in
    let found = c.in_ok-found-in-Err-Nodes.found.items in
    subst (λ (s : GrowingValue). IsLetGo s.shape plan rows found) c.self.view_is
    (subst (λ (rs : List RowValue). IsLetGo v.shape plan rs found) kept
    (c.in_ok-found-in-Err-Nodes.ensures (subst (λ (rs : List RowValue). AreNumbered c.args.first rs) (sym kept) numbered)))
