use Rattle.std.proofs.Common.{rules, ◌≡◌, Err, refl}
use Rattle.std.proofs.lemmas.Result.{err_from_is_err_and}
use Rattle.cf_segments.specs.Segments.{entries_of}
use Rattle.cf_fill.proofs.Filled.{closed_at}
use Rattle.cf_fill.proofs.filling.Filling.finish.Goals as goal

pub finish-requires : goal.finish-requires
finish-requires g c =
    let rows = c.requires.filled.0 in
    (search rules, (rows, (c.in_ok-segments.ensures rows c.requires.filled.1).so.loading))

pub returns-in-Ok : goal.returns-in-Ok
returns-in-Ok g c rows is =
    let before = c.args.self in
    let loaded = c.in_ok-segments.ensures rows is in
    let sealing = c.in-Ok.sealing in
    let entries = entries_of c.finish.new.segments in
    record {
      entries = entries;
      nums = c.in-Ok.ensures.0;
      writers = c.in-Ok.ensures.1;
      closed = closed_at before.segments.shape before.loader.plan c.in_ok-segments.segments c.finish.new.segments rows c.in_ok-segments.loader
          c.in_ok-answers.answers entries sealing.seals.items loaded (λ all at. c.in_ok-answers.ensures all at) refl c.in-Ok.ensures.2;
    }

pub returns-in_err-segments : goal.returns-in_err-segments
returns-in_err-segments g c rows is =
    let same : c.from_residual.result ≡ Err c.in_err-segments.field-0.0 = search rules in
    rw same (c.in_err-segments.ensures rows is)

pub returns-in_err-answers : goal.returns-in_err-answers
returns-in_err-answers g c rows is =
    let p = err_from_is_err_and c.from_residual-in_err-answers.result c.from_residual-in_err-answers.ensures.1 in
    rw (p.1, p.2) tt
