use Rattle.std.proofs.Common.{MatchResult, sym, subst}
use Rattle.cf_segments.specs.Segments.{HoldsRows, KeepsAll}
use Rattle.cf_load.specs.Loaders.{LoaderValue, IsLoading, IsFinished}
use Rattle.cf_load.proofs.Loaders.{finishes_if}
use Rattle.cf_load.proofs.loader.Loader.finish.Goals as goal

pub returns : goal.returns
returns g c rows is =
    let inside = c.self.inside in
    let s = c.args.segments.now in
    let t = c.answers_on_all.new.segments in
    let loader : LoaderValue =
    record { plan = inside.plan; count = inside.count; lives = inside.lives.items; stopped = inside.stopped; found = inside.found } in
    let made = c.answers_on_all.ensures in
    subst (λ (l : LoaderValue). MatchResult c.answers_on_all.result (IsFinished rows l s t) (λ x. KeepsAll s t × HoldsRows t rows)) c.self.view_is
    (finishes_if rows loader s t c.answers_on_all.result c.shape-lawful.ensures.lawful
    (subst (λ (l : LoaderValue). IsLoading s rows l) (sym c.self.view_is) is) made.keeps made.finals made.alerts made.lives)
