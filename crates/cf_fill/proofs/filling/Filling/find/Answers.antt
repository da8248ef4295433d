use Rattle.std.proofs.Common.{rules, ◌≡◌, Err}
use Rattle.std.proofs.lemmas.Result.{err_from_is_err_and}
use Rattle.cf_fill.proofs.Filled.{found_at}
use Rattle.cf_fill.proofs.filling.Filling.find.Goals as goal

pub find-requires : goal.find-requires
find-requires g c =
    let rows = c.requires.filled.0 in
    (search rules, (rows, (c.in_ok-segments.ensures rows c.requires.filled.1).so.loading))

pub returns-in-Ok : goal.returns-in-Ok
returns-in-Ok g c rows is =
    let before = c.args.self in
    let loaded = c.in_ok-segments.ensures rows is in
    let sealing = c.in-Ok.sealing in
    found_at before.segments.shape before.loader.plan c.in_ok-segments.segments c.find.new.segments rows c.in_ok-segments.loader sealing
    c.in_ok-found.found.items loaded (λ all at. c.in_ok-found.ensures all at) c.in-Ok.ensures.0 c.in-Ok.ensures.1

pub returns-in_err-segments : goal.returns-in_err-segments
returns-in_err-segments g c rows is =
    let same : c.from_residual.result ≡ Err c.in_err-segments.field-0.0 = search rules in
    rw same (c.in_err-segments.ensures rows is)

pub returns-in_err-found : goal.returns-in_err-found
returns-in_err-found g c rows is =
    let p = err_from_is_err_and c.from_residual-in_err-found.result c.from_residual-in_err-found.ensures.1 in
    rw (p.1, p.2) tt
