use Rattle.std.proofs.Common.{◌≡◌, ◌+◌, ◌*◌, ◌∙◌, ℕ, List, [], All, take, sym, ap, ap₂, subst, arith, false, None}
use Rattle.std.proofs.lemmas.Result.{err_from_is_err_and}
use Rattle.cf_setup.specs.declared.source.Source.TheVariants.{Records}
use Rattle.cf_intake.specs.Files.{captures}
use Rattle.cf_row.specs.Row.{Fits}
use Rattle.cf_row.specs.declared.schema.Attr.{Attr}
use Rattle.cf_shape.specs.Lanes.{ShapeValue}
use Rattle.cf_segments.specs.Segments.{room_of}
use Rattle.cf_fill.specs.Filling.{IsFilled}
use Rattle.cf_fill.proofs.Front.{filled_all}
use Rattle.cf_fill.proofs.Whole.{whole_taken}
use Rattle.cf_intake.proofs.Loading.{packets_read}
use Rattle.cf_fill.proofs.fill.fill_rows.Goals as goal

pub returns-in_err-take_rows-in-Records-clause-read : goal.returns-in_err-take_rows-in-Records-clause-read
returns-in_err-take_rows-in-Records-clause-read g c =
    let p = err_from_is_err_and c.from_residual-in_err-take_rows-in-Records.result c.from_residual-in_err-take_rows-in-Records.ensures.1 in
    let first = c.in_ok-rows-in-Records.ensures.read in
    rw (c.in-Records.is, p.1, p.2)
    (whole_taken (captures Records false c.in-Records.schema.now) (g.F.Shelf.files c.args.shelf.now) c.args.name.now (g.F.Shelf.rest c.args.shelf.now)
    (g.F.Shelf.rest c.first_lines.new.shelf) (record { rows = first.rows; cut = None }) first.read)

pub returns-in_ok-open_packets-in-Packets-clause-read : goal.returns-in_ok-open_packets-in-Packets-clause-read
returns-in_ok-open_packets-in-Packets-clause-read g c =
    rw c.in-Packets.is
    (packets_read c.in-Packets.schema c.args.manner.truncated (IsFilled c.fill_packets.new.filling) (g.F.Shelf.files c.args.shelf.now) c.args.name.now
    (g.F.Shelf.rest c.args.shelf.now)
    (g.F.Shelf.rest c.open_packets.new.shelf)
    (g.F.Shelf.rest c.fill_packets.new.shelf) c.fill_packets.result c.in_ok-open_packets-in-Packets.ensures.opened c.fill_packets.ensures.taken)

pub returns-in_err-open_packets-in-Packets-clause-read : goal.returns-in_err-open_packets-in-Packets-clause-read
returns-in_err-open_packets-in-Packets-clause-read g c =
    let p = err_from_is_err_and c.from_residual.result c.from_residual.ensures.1 in
    rw (p.1, p.2, c.in-Packets.is) (c.in_err-open_packets-in-Packets.ensures.opened c.in-Packets.schema c.args.manner.truncated)

pub returns-in_err-rows-in-Records-clause-read : goal.returns-in_err-rows-in-Records-clause-read
returns-in_err-rows-in-Records-clause-read g c =
    let p = err_from_is_err_and c.from_residual-in_err-rows-in-Records.result c.from_residual-in_err-rows-in-Records.ensures.1 in
    rw (p.1, p.2, c.in-Records.is) c.in_err-rows-in-Records.ensures.read

pub returns-in_ok-take_rows-in-Records-clause-read : goal.returns-in_ok-take_rows-in-Records-clause-read
returns-in_ok-take_rows-in-Records-clause-read g c =
    let first = c.in_ok-rows-in-Records.ensures.read in
    let old = c.args.filling.now in
    let new = c.take_rows.new.self in
    let keeps = c.take_rows.ensures.keeps in
    let room : room_of new.segments ≡ room_of old.segments = ap₂ (λ (n : ℕ) (h : ShapeValue). n * h.capacity) keeps.most keeps.shape in
    let attrs = rw c.in-Records.is at c.requires.attrs in
    let fit : All (Fits (new.segments.shape).schema) first.rows =
    subst (λ (as_now : List Attr). All (Fits as_now) first.rows) (sym (ap (λ (h : ShapeValue). h.schema) keeps.shape ∙ attrs)) first.fit in
    let wide = c.room.ensures in
    let same : c.room.result + 1 ≡ room_of new.segments + 1 = omega (arith, wide, room) in
    rw c.in-Records.is (
      first.rows,
      first.read,
      filled_all new first.rows c.in_ok-rows-in-Records.rows.items fit (first.first_are ∙ ap (λ (n : ℕ). take n first.rows) same)
          (c.in_ok-take_rows-in-Records.ensures.filled [] c.requires.none),
    )
