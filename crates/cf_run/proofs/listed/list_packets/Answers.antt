use Rattle.std.proofs.Common.{◌≡◌, ◌++◌, arith, ℕ, List, [], Option, All, subst, ◌∙◌}
use Rattle.std.proofs.lemmas.Result.{err_from_is_err_and}
use Rattle.cf_row.specs.Row.{RowValue, Fits}
use Rattle.cf_row.specs.declared.packet6.PacketSchema.{PacketSchema}
use Rattle.cf_row.specs.Schema6.{attrs_by}
use Rattle.cf_intake.specs.Reading.{TakesPackets}
use Rattle.cf_intake.proofs.Piecewise.{stopped_on, finished_so}
use Rattle.cf_report.specs.Dump.{IsListing}
use Rattle.cf_run.proofs.listed.list_packets.Goals as goal

pub push-requires-clause-fit : goal.push-requires-clause-fit
push-requires-clause-fit g c = rw (c.requires.schema, c.deref.ensures.value) c.in_ok-pieces.ensures.fit

pub push-requires-clause-few : goal.push-requires-clause-few
push-requires-clause-few g c =
    let few = c.in_ok-pieces.ensures.few in
    let none = c.requires.none.count in
    rw c.deref.ensures.value (omega (arith, few, none))

pub returns-in_err-push-clause-taken : goal.returns-in_err-push-clause-taken
returns-in_err-push-clause-taken g c =
    let p = err_from_is_err_and c.from_residual-in_err-push.result c.from_residual-in_err-push.ensures.1 in
    rw (p.1, p.2) (stopped_on _ (g.F.Shelf.rest c.args.shelf.now) (g.F.Shelf.rest c.begin.new.shelf) _ c.in_ok-pieces.ensures.read)

pub loop-alloc-init : goal.loop-alloc-init
loop-alloc-init g c = record {
  files = c.in_ok-pieces.ensures.files;
  later = c.in_ok-pieces.ensures.cause.later;
  schema = c.in_ok-pieces.ensures.schema;
  few = (
      let few = c.in_ok-pieces.ensures.few in
      let some = c.in_ok-pieces.ensures.read.some in
      let none = c.requires.none.count in
      let now = rw c.deref.ensures.value at c.in_ok-push.ensures.count in
      omega (arith, few, some, none, now)
      );
  taken = (_, c.in_ok-pieces.ensures.read, (rw (c.requires.schema, c.deref.ensures.value) at c.in_ok-push.ensures.listed) [] c.requires.none);
}

pub returns-in_err-given-clause-taken : goal.returns-in_err-given-clause-taken
returns-in_err-given-clause-taken g c =
    let p = err_from_is_err_and c.from_residual-in_err-given.result c.from_residual-in_err-given.ensures.1 in
    let v = c.loop-alloc.invariant.taken in
    rw (p.1, p.2) (c.in_err-given.ensures.stopped (g.F.Shelf.rest c.args.shelf.now) v.0 v.1)

pub push-requires-in-loop-alloc-clause-fit : goal.push-requires-in-loop-alloc-clause-fit
push-requires-in-loop-alloc-clause-fit g c =
    rw (c.requires.schema, c.deref-in-loop-alloc.ensures.value)
    (subst (λ (s : PacketSchema). All (Fits (attrs_by s)) c.in_ok-given.given.items) c.loop-alloc.invariant.schema c.in_ok-given.ensures.fit)

pub push-requires-in-loop-alloc-clause-few : goal.push-requires-in-loop-alloc-clause-few
push-requires-in-loop-alloc-clause-few g c =
    let v = c.loop-alloc.invariant.taken in
    let most = c.loop-alloc.invariant.few in
    let given = c.in_ok-given.ensures.few (g.F.Shelf.rest c.args.shelf.now) v.0 v.1 in
    rw c.deref-in-loop-alloc.ensures.value (omega (arith, most, given))

pub returns-in_err-push-2-clause-taken : goal.returns-in_err-push-2-clause-taken
returns-in_err-push-2-clause-taken g c =
    let p = err_from_is_err_and c.from_residual-in_err-push-2.result c.from_residual-in_err-push-2.ensures.1 in
    let v = c.loop-alloc.invariant.taken in
    let before : Option (List ℕ) = g.F.Shelf.rest c.args.shelf.now in
    rw (p.1, p.2)
    (stopped_on c.next_rows.new.self before (g.F.Shelf.rest c.next_rows.new.shelf) (v.0 ++ c.in_ok-given.given.items)
    (c.in_ok-given.ensures.read before v.0 v.1))

pub loop-alloc-preserved : goal.loop-alloc-preserved
loop-alloc-preserved g c =
    let v = c.loop-alloc.invariant in
    let before : Option (List ℕ) = g.F.Shelf.rest c.args.shelf.now in
    let given : List RowValue = c.in_ok-given.given.items in
    let first = v.later in
    let then = c.in_ok-given.ensures.cause.later in
    let most = v.few in
    let few = c.in_ok-given.ensures.few before v.taken.0 v.taken.1 in
    let left = c.in_ok-given.ensures.left in
    let now = rw c.deref-in-loop-alloc.ensures.value at c.in_ok-push-2.ensures.count in
    record {
      files = c.in_ok-given.ensures.files ∙ v.files;
      later = omega (arith, first, then);
      schema = c.in_ok-given.ensures.schema ∙ v.schema;
      few = omega (arith, most, few, left, now);
      taken = (
        v.taken.0 ++ given,
        c.in_ok-given.ensures.read before v.taken.0 v.taken.1,
        (rw (c.requires.schema, c.deref-in-loop-alloc.ensures.value) at c.in_ok-push-2.ensures.listed) v.taken.0 v.taken.2,
      );
    }

pub returns-clause-taken : goal.returns-clause-taken
returns-clause-taken g c =
    let before : Option (List ℕ) = g.F.Shelf.rest c.args.shelf.now in
    let now : Option (List ℕ) = g.F.Shelf.rest c.loop-alloc.shelf in
    let v = c.loop-alloc.invariant.taken in
    finished_so c.args.which c.args.truncated (λ rows. IsListing (attrs_by c.args.which) rows c.loop-alloc.listing) before now v.0 c.finish.result
    (subst (λ (s : PacketSchema). TakesPackets s c.args.truncated (λ (cut : Option ℕ) what. what ≡ record { rows = v.0; cut = cut }) before now c.finish.result)
    c.loop-alloc.invariant.schema (c.finish.ensures.taken before now v.0 v.1)) v.2

pub returns-clause-cause : goal.returns-clause-cause
returns-clause-cause g c =
    let v = c.loop-alloc.invariant.taken in
    record {
      later = c.loop-alloc.invariant.later;
      failed = λ e. absurd (c.finish.ensures.unfailed (g.F.Shelf.rest c.loop-alloc.shelf) (g.F.Shelf.rest c.args.shelf.now) v.0 v.1 e);
    }
