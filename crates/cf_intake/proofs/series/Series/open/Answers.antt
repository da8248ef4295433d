use Rattle.std.proofs.Common.{ℕ, List, [], get_or}
use Rattle.std.proofs.lemmas.Result.{err_from_is_err_and}
use Rattle.std.specs.Borrow.{Bor}
use Rattle.cf_intake.proofs.Serial.{begun_so, name_at, unbegun_so}
use Rattle.cf_intake.proofs.series.Series.open.Goals as goal

abbrev no_name : Bor (List ℕ)
no_name = record { ref_ptr = (0, 0); now = [] }

pub returns-in_err-open_capture-clause-read : goal.returns-in_err-open_capture-clause-read
returns-in_err-open_capture-clause-read g c = λ rows at.
    let p = err_from_is_err_and c.from_residual.result c.from_residual.ensures.1 in
    let old = c.args.self.now in
    rw (p.1, p.2) (unbegun_so old (g.F.Shelf.files c.args.shelf.now) (g.F.Shelf.rest c.args.shelf.now) rows c.requires.none at
    (get_or old.names.now old.place no_name).now (g.F.Shelf.rest c.open_capture.new.shelf) c.in_err-open_capture.field-0.0
    (name_at old.names.now old.place no_name c.requires.more) c.in_err-open_capture.ensures.opened)

pub returns-clause-read : goal.returns-clause-read
returns-clause-read g c = λ rows at.
    let old = c.args.self.now in
    begun_so old (g.F.Shelf.files c.args.shelf.now) (g.F.Shelf.rest c.args.shelf.now) rows c.requires.none at
    (get_or old.names.now old.place no_name).now c.in_ok-begin.field-0 (g.F.Shelf.rest c.open_capture.new.shelf) c.new.result.items
    (name_at old.names.now old.place no_name c.requires.more) c.in_ok-open_capture.ensures.opened c.in_ok-begin.ensures.begun c.in_ok-begin.ensures.schema
    c.in_ok-begin.ensures.size c.new.ensures.items
