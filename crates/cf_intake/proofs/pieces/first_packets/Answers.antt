use Rattle.std.proofs.Common.{rules, arith, ◌≡◌, ℕ, List, Option, ◌++◌, All, Ok, Err, sym, ap, subst, ◌∙◌}
use Rattle.std.proofs.lemmas.Result.{err_from_is_err_and}
use Rattle.std.proofs.lemmas.List.Elements.{All-append, All-take}
use Rattle.cf_row.specs.Row.{RowValue, Fits}
use Rattle.cf_intake.specs.declared.rows.Captured.{Captured}
use Rattle.cf_intake.specs.Parts.{captured, first_of}
use Rattle.cf_row.specs.Schema6.{attrs_by}
use Rattle.cf_row.specs.declared.packet6.PacketSchema.{PacketSchema}
use Rattle.cf_intake.specs.Reading.{TakesPackets}
use Rattle.cf_intake.specs.declared.refusal.Halt.TheVariants.{Stopped}
use Rattle.cf_intake.specs.declared.refusal.Stop.TheVariants as stops
use Rattle.cf_intake.proofs.Piecewise.{stopped_on, taken_so, untaken_so}
use Rattle.cf_intake.proofs.pieces.first_packets.Goals as goal

pub loop-alloc-init : goal.loop-alloc-init
loop-alloc-init g c = record {
  files = c.in_ok-pieces.ensures.files;
  later = c.in_ok-pieces.ensures.cause.later;
  schema = c.in_ok-pieces.ensures.schema;
  read = (c.in_ok-pieces.rows.items, c.in_ok-pieces.ensures.read, c.truncate.ensures.items, c.in_ok-pieces.ensures.fit);
}

pub returns-in_err-given-clause-taken : goal.returns-in_err-given-clause-taken
returns-in_err-given-clause-taken g c =
    let p = err_from_is_err_and c.from_residual-in_err-given.result c.from_residual-in_err-given.ensures.1 in
    let first = c.loop-alloc.invariant.read in
    rw (p.1, p.2) (c.in_err-given.ensures.stopped (g.F.Shelf.rest c.args.shelf.now) first.0 first.1)

pub returns-in_err-keep_first-clause-taken : goal.returns-in_err-keep_first-clause-taken
returns-in_err-keep_first-clause-taken g c =
    let p = err_from_is_err_and c.from_residual-in_err-keep_first.result c.from_residual-in_err-keep_first.ensures.1 in
    let before : Option (List ℕ) = g.F.Shelf.rest c.args.shelf.now in
    let first = c.loop-alloc.invariant.read in
    rw (p.1, p.2)
    (stopped_on c.next.new.self before (g.F.Shelf.rest c.next.new.shelf) (first.0 ++ c.in_ok-given.given.items)
    (c.in_ok-given.ensures.read before first.0 first.1))

pub loop-alloc-preserved : goal.loop-alloc-preserved
loop-alloc-preserved g c =
    let v = c.loop-alloc.invariant in
    let before : Option (List ℕ) = g.F.Shelf.rest c.args.shelf.now in
    let all : List RowValue = v.read.0 in
    let given : List RowValue = c.in_ok-given.given.items in
    let first = v.later in
    let then = c.in_ok-given.ensures.cause.later in
    record {
      files = c.in_ok-given.ensures.files ∙ v.files;
      later = omega (arith, first, then);
      schema = c.in_ok-given.ensures.schema ∙ v.schema;
      read = (
        all ++ given,
        c.in_ok-given.ensures.read before all v.read.1,
        c.in_ok-keep_first.ensures all v.read.2,
        All-append (Fits (attrs_by c.args.schema)) all given v.read.3
            (subst (λ (s : PacketSchema). All (Fits (attrs_by s)) given) v.schema c.in_ok-given.ensures.fit),
      );
    }

pub returns-in_err-cut-clause-taken : goal.returns-in_err-cut-clause-taken
returns-in_err-cut-clause-taken g c =
    let before : Option (List ℕ) = g.F.Shelf.rest c.args.shelf.now in
    let now : Option (List ℕ) = g.F.Shelf.rest c.loop-alloc.shelf in
    let first = c.loop-alloc.invariant.read in
    let all : List RowValue = first.0 in
    let same : c.from_residual-in_err-cut.result ≡ Err c.in_err-cut.field-0.0 = search rules in
    rw same (untaken_so c.args.schema c.args.truncated (λ (kept : Captured) what. captured kept ≡ first_of c.args.most what)
    (λ (cut : Option ℕ) what. what ≡ record { rows = all; cut = cut }) before now c.in_err-cut.field-0.0
    (subst (λ (s : PacketSchema). TakesPackets s c.args.truncated (λ (cut : Option ℕ) what. what ≡ record { rows = all; cut = cut }) before now
    (Err c.in_err-cut.field-0.0)) c.loop-alloc.invariant.schema (c.in_err-cut.ensures.taken before now all first.1)))

pub returns-in_err-cut-clause-cause : goal.returns-in_err-cut-clause-cause
returns-in_err-cut-clause-cause g c =
    let before : Option (List ℕ) = g.F.Shelf.rest c.args.shelf.now in
    let now : Option (List ℕ) = g.F.Shelf.rest c.loop-alloc.shelf in
    let first = c.loop-alloc.invariant.read in
    let same : c.from_residual-in_err-cut.result ≡ Err c.in_err-cut.field-0.0 = search rules in
    record {
      later = c.loop-alloc.invariant.later;
      failed = λ e. (let clash = sym same ∙ e in
          let stop : c.in_err-cut.field-0.0 ≡ Stopped stops.ReadFault = cc clash in
          absurd (c.finish.ensures.unfailed now before first.0 first.1 (c.in_err-cut.was ∙ ap (λ h. Err h) stop)));
    }

pub returns-clause-taken : goal.returns-clause-taken
returns-clause-taken g c =
    let before : Option (List ℕ) = g.F.Shelf.rest c.args.shelf.now in
    let now : Option (List ℕ) = g.F.Shelf.rest c.loop-alloc.shelf in
    let first = c.loop-alloc.invariant.read in
    let all : List RowValue = first.0 in
    taken_so c.args.schema c.args.truncated (λ (kept : Captured) this. captured kept ≡ first_of c.args.most this)
    (λ cut. record { rows = all; cut = cut }) before now c.in_ok-cut.cut
    (record { rows = c.loop-alloc.rows; cut = c.in_ok-cut.cut })
    (subst (λ (s : PacketSchema). TakesPackets s c.args.truncated (λ (cut : Option ℕ) what. what ≡ record { rows = all; cut = cut }) before now
    (Ok c.in_ok-cut.cut)) c.loop-alloc.invariant.schema (c.in_ok-cut.ensures.taken before now all first.1))
    (ap (λ (rs : List RowValue). record { rows = rs; cut = c.in_ok-cut.cut }) first.2)

pub returns-clause-fit : goal.returns-clause-fit
returns-clause-fit g c =
    let first = c.loop-alloc.invariant.read in
    subst (λ (rs : List RowValue). All (Fits (attrs_by c.args.schema)) rs) (sym first.2)
    (All-take (Fits (attrs_by c.args.schema)) c.args.most first.0 first.3)
