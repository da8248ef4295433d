use Rattle.std.proofs.Common.{rules, ◌≡◌, arith, ℕ, List, [], ◌++◌, length, Option, Err, All, sym, ap, subst, ◌∙◌}
use Rattle.std.proofs.lemmas.Result.{err_from_is_err_and, IfOk-at_ok}
use Rattle.cf_row.specs.Row.{RowValue, Fits}
use Rattle.cf_row.specs.declared.schema.Attr.{Attr}
use Rattle.cf_row.specs.declared.packet6.PacketSchema.{PacketSchema}
use Rattle.cf_row.specs.Schema6.{attrs_by}
use Rattle.cf_shape.specs.Lanes.{ShapeValue}
use Rattle.cf_fill.specs.Filling.{IsFilled}
use Rattle.cf_fill.specs.Taking.{GivesBoth}
use Rattle.cf_intake.specs.declared.refusal.Halt.{Halt}
use Rattle.cf_intake.specs.declared.refusal.Halt.TheVariants.{Stopped}
use Rattle.cf_intake.specs.declared.refusal.Stop.TheVariants as stops
use Rattle.cf_fill.proofs.Both.{given_ok, given_failed, stops_both, taken_ok, took_read, took_stopped}
use Rattle.cf_fill.proofs.Filled.{keeps_all, keeps_then, next_few, waits_few, waits_short}
use Rattle.cf_intake.specs.Reading.{TakesPackets}
use Rattle.cf_intake.specs.Rows.{CaptureValue}
use Rattle.cf_intake.proofs.Piecewise.{stopped_on, finished_so}
use Rattle.cf_fill.proofs.fill.fill_packets.Goals as goal

-- rows of packets fit the schema of a log of packets
fit_now : (attrs : List Attr) (now shape : ShapeValue) (rows : List RowValue) → now ≡ shape → shape.schema ≡ attrs → All (Fits attrs) rows
    → All (Fits now.schema) rows
fit_now attrs now shape rows same are fit =
    subst (λ (attributes : List Attr). All (Fits attributes) rows) (sym (ap (λ (h : ShapeValue). h.schema) same ∙ are)) fit

pub loop-shelf-init : goal.loop-shelf-init
loop-shelf-init g c = record {
  files = c.in_ok-pieces.ensures.files;
  later = c.in_ok-pieces.ensures.cause.later;
  schema = c.in_ok-pieces.ensures.schema;
  fit = c.in_ok-pieces.ensures.fit;
  few = (
      let begun = c.in_ok-pieces.ensures.few in
      let short = waits_short c.args.filling.now [] c.requires.none in
      omega (arith, begun, short)
      );
  keeps = keeps_all c.args.filling.now;
  taken = ([], c.in_ok-pieces.ensures.read, c.requires.none);
}

pub take_beside-taken-requires-clause-fit : goal.take_beside-taken-requires-clause-fit
take_beside-taken-requires-clause-fit g c = λ κs within.
    let v = c.loop-shelf.invariant in
    fit_now (attrs_by c.args.schema) c.loop-shelf.filling.segments.shape c.args.filling.now.segments.shape c.loop-shelf.rows.items v.keeps.shape
    c.requires.attrs v.fit

pub loop-shelf-preserved : goal.loop-shelf-preserved
loop-shelf-preserved g c =
    let v = c.loop-shelf.invariant in
    let beside = c.take_beside-taken.ensures in
    let before : Option (List ℕ) = g.F.Shelf.rest c.args.shelf.now in
    let rows : List RowValue = v.taken.0 in
    let more : List RowValue = rows ++ c.loop-shelf.rows.items in
    let first = v.later in
    let then = beside.cause.later in
    let old = c.loop-shelf.filling in
    let new = c.take_beside-taken.new.filling in
    let both = c.in_ok-rows.ensures in
    let was = given_ok c.take_beside-taken.result.0 c.take_beside-taken.result.1 c.in_ok-rows.rows both in
    let done = taken_ok c.take_beside-taken.result.0 c.take_beside-taken.result.1 c.in_ok-rows.rows both in
    let filled : IsFilled new more = IfOk-at_ok _ done.1 beside.filled rows v.taken.2 in
    record {
      files = beside.files ∙ v.files;
      later = omega (arith, first, then);
      schema = beside.schema ∙ v.schema;
      fit = subst (λ (s : PacketSchema). All (Fits (attrs_by s)) c.in_ok-rows.rows.items) v.schema (IfOk-at_ok _ was beside.fit);
      few = (
          let wait = waits_few old new rows c.loop-shelf.rows.items v.taken.2 filled beside.keeps beside.stops in
          let ahead = IfOk-at_ok _ was beside.few before more v.taken.1 in
          next_few old new more c.loop-shelf.rows.items (length c.in_ok-rows.rows.items) filled beside.keeps wait ahead
          );
      keeps = keeps_then c.args.filling.now old new v.keeps beside.keeps;
      taken = (more, IfOk-at_ok _ was beside.read before more v.taken.1, filled);
    }

pub returns-in_err-rows-clause-taken : goal.returns-in_err-rows-clause-taken
returns-in_err-rows-clause-taken g c =
    let same : c.from_residual-in_err-rows.result ≡ Err c.in_err-rows.field-0.0 = search rules in
    let before : Option (List ℕ) = g.F.Shelf.rest c.args.shelf.now in
    let now : Option (List ℕ) = g.F.Shelf.rest c.take_beside-taken.new.shelf in
    let v = c.loop-shelf.invariant.taken in
    let more : List RowValue = v.0 ++ c.loop-shelf.rows.items in
    let mid : Option (List ℕ) = g.F.Shelf.rest c.loop-shelf.shelf in
    let old = c.loop-shelf.pieces in
    let new = c.take_beside-taken.new.pieces in
    let taken = c.take_beside-taken.result.0 in
    let given = c.take_beside-taken.result.1 in
    rw same
    (stops_both c.args.schema c.args.truncated
    (λ (cut : Option ℕ) (what : CaptureValue). (what.cut ≡ cut) × IsFilled c.take_beside-taken.new.filling what.rows) before now taken given
    c.in_err-rows.field-0.0 c.in_err-rows.ensures
    (took_stopped old new before mid now more v.1 given c.take_beside-taken.ensures.stopped)
    (took_read old new before mid now more v.1 given c.take_beside-taken.ensures.read))

pub returns-in_err-rows-clause-cause : goal.returns-in_err-rows-clause-cause
returns-in_err-rows-clause-cause g c =
    let same : c.from_residual-in_err-rows.result ≡ Err c.in_err-rows.field-0.0 = search rules in
    let first = c.loop-shelf.invariant.later in
    let then = c.take_beside-taken.ensures.cause.later in
    record {
      later = omega (arith, first, then);
      failed = λ e.
          (let clash = sym same ∙ e in
          let stop : c.in_err-rows.field-0.0 ≡ Stopped stops.ReadFault = cc clash in
          let taken = c.take_beside-taken.result.0 in
          let given = c.take_beside-taken.result.1 in
          let both = subst (λ (h : Halt). GivesBoth taken given (Err h)) stop c.in_err-rows.ensures in
          let rose = c.take_beside-taken.ensures.cause.failed (given_failed taken given both) in
          omega (arith, first, rose));
    }

pub returns-in_err-take_rows-clause-taken : goal.returns-in_err-take_rows-clause-taken
returns-in_err-take_rows-clause-taken g c =
    let p = err_from_is_err_and c.from_residual-in_err-take_rows.result c.from_residual-in_err-take_rows.ensures.1 in
    let v = c.loop-shelf.invariant.taken in
    rw (p.1, p.2) (stopped_on c.loop-shelf.pieces (g.F.Shelf.rest c.args.shelf.now) (g.F.Shelf.rest c.loop-shelf.shelf) (v.0 ++ c.loop-shelf.rows.items) v.1)

pub take_rows-requires-clause-fit : goal.take_rows-requires-clause-fit
take_rows-requires-clause-fit g c = λ κs within.
    let v = c.loop-shelf.invariant in
    fit_now (attrs_by c.args.schema) c.loop-shelf.filling.segments.shape c.args.filling.now.segments.shape c.loop-shelf.rows.items v.keeps.shape
    c.requires.attrs v.fit

pub returns-clause-taken : goal.returns-clause-taken
returns-clause-taken g c =
    let before : Option (List ℕ) = g.F.Shelf.rest c.args.shelf.now in
    let now : Option (List ℕ) = g.F.Shelf.rest c.loop-shelf.shelf in
    let v = c.loop-shelf.invariant.taken in
    let all : List RowValue = v.0 ++ c.loop-shelf.rows.items in
    let filled : IsFilled c.take_rows.new.self all = c.in_ok-take_rows.ensures.filled v.0 v.2 in
    finished_so c.args.schema c.args.truncated (IsFilled c.take_rows.new.self) before now all c.finish.result
    (subst (λ (s : PacketSchema). TakesPackets s c.args.truncated (λ (cut : Option ℕ) what. what ≡ record { rows = all; cut = cut }) before now c.finish.result)
    c.loop-shelf.invariant.schema (c.finish.ensures.taken before now all v.1)) filled

pub returns-clause-cause : goal.returns-clause-cause
returns-clause-cause g c =
    let v = c.loop-shelf.invariant.taken in
    record {
      later = c.loop-shelf.invariant.later;
      failed = λ e. absurd
          (c.finish.ensures.unfailed (g.F.Shelf.rest c.loop-shelf.shelf) (g.F.Shelf.rest c.args.shelf.now) (v.0 ++ c.loop-shelf.rows.items) v.1 e);
    }
