use Rattle.std.proofs.Common.{rules, ◌≡◌, ◌∙◌, false, true, sym, ap, subst}
use Rattle.std.proofs.lemmas.Result.{err_from_is_err_and}
use Rattle.cf_shape.specs.Lanes.{ShapeValue}
use Rattle.cf_fill.specs.Filling.{AreLoaded, FillingValue}
use Rattle.cf_fill.specs.Needs.{NeedsMore}
use Rattle.cf_fill.proofs.Filled.{lack_of, loaded_of}
use Rattle.cf_fill.proofs.filling.Filling.loaded.Goals as goal

pub returns-then-stopped : goal.returns-then-stopped
returns-then-stopped g c rows is =
    let i = c.self.inside in
    let stopped : i.loader.stopped ≡ true = search rules in
    let loaded : AreLoaded i.segments rows i.loader =
    subst (λ (v : FillingValue). AreLoaded v.segments rows v.loader) (sym c.self.view_is) (c.in_ok-load_last.ensures.loaded rows is) in
    subst (λ (h : ShapeValue). NeedsMore h h.nodes rows) (ap (λ (v : FillingValue). v.segments.shape) c.self.view_is ∙ c.load_last.ensures.keeps.shape)
    (lack_of i.segments rows i.loader loaded stopped)

pub returns : goal.returns
returns g c rows is =
    let i = c.self.inside in
    let going : i.loader.stopped ≡ false = search rules in
    let loaded : AreLoaded i.segments rows i.loader =
    subst (λ (v : FillingValue). AreLoaded v.segments rows v.loader) (sym c.self.view_is) (c.in_ok-load_last.ensures.loaded rows is) in
    record {
      shape_is = ap (λ (v : FillingValue). v.segments.shape) c.self.view_is ∙ c.load_last.ensures.keeps.shape;
      plan_is = ap (λ (v : FillingValue). v.loader.plan) c.self.view_is ∙ c.load_last.ensures.keeps.plan;
      so = loaded_of i.segments rows i.loader loaded going;
    }

pub returns-in_err-load_last : goal.returns-in_err-load_last
returns-in_err-load_last g c rows is =
    let p = err_from_is_err_and c.from_residual.result c.from_residual.ensures.1 in
    rw (p.1, p.2) tt
