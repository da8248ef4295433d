use Rattle.std.proofs.Common.{◌≡◌, Some, None, sym, ◌∙◌}
use Rattle.cf_law.specs.Shapes.{path_in}
use Rattle.cf_core.proofs.Paths.{path_same, path_other}
use Rattle.cf_core.proofs.cells.has_path.Goals as goal

pub returns-in-Some : goal.returns-in-Some
returns-in-Some c =
    let leads : path_in c.args.shape.now c.args.row.now c.args.lane ≡ Some c.in-Some.own.items = rw c.in-Some.is at c.in_ok-own.ensures in
    path_same (path_in c.args.shape.now c.args.row.now c.args.lane) c.in-Some.own.items c.args.path.now c.is_same.result leads
    (λ h. sym c.deref.ensures.value ∙ (c.is_same.ensures).0 h) (λ e. (c.is_same.ensures).1 (c.deref.ensures.value ∙ e))

pub returns-in-None : goal.returns-in-None
returns-in-None c =
    let none : path_in c.args.shape.now c.args.row.now c.args.lane ≡ None = rw c.in-None.is at c.in_ok-own.ensures in
    path_other (path_in c.args.shape.now c.args.row.now c.args.lane) c.args.path.now none
