use Rattle.std.proofs.Common.{MatchResult, sym, subst}
use Rattle.cf_segments.specs.Segments.{HoldsRows, KeepsAll}
use Rattle.cf_load.specs.Loaders.{LoaderValue, IsLoading, IsFoundIn}
use Rattle.cf_load.proofs.Loaders.{finds_if}
use Rattle.cf_load.proofs.loader.Loader.find.Goals as goal

pub returns : goal.returns
returns g c rows is =
    let inside = c.self.inside in
    let s = c.args.segments.now in
    let t = c.findings_on_all.new.segments in
    let loader : LoaderValue =
    record { plan = inside.plan; count = inside.count; lives = inside.lives.items; stopped = inside.stopped; found = inside.found } in
    let made = c.findings_on_all.ensures in
    subst (λ (l : LoaderValue). MatchResult c.findings_on_all.result (λ found. IsFoundIn rows l s t found.items) (λ x. KeepsAll s t × HoldsRows t rows)) c.self.view_is
    (finds_if rows loader s t c.findings_on_all.result (λ found. found.items) c.shape-lawful.ensures.lawful
    (subst (λ (l : LoaderValue). IsLoading s rows l) (sym c.self.view_is) is) made.keeps made.found)
