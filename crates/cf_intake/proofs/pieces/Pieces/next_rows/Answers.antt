use Rattle.std.proofs.Common.{rules, arith, ℕ, ◌≡◌, All, List, Option, ◌++◌, sym, ap, subst, ◌∙◌}
use Rattle.std.proofs.lemmas.List.{append_assoc}
use Rattle.std.proofs.lemmas.List.Elements.{All-append}
use Rattle.std.proofs.lemmas.Result.{err_from_is_err_and}
use Rattle.cf_row.specs.Row.{Fits, RowValue}
use Rattle.cf_row.specs.Schema6.{attrs_by}
use Rattle.cf_row.specs.declared.packet6.PacketSchema.{PacketSchema}
use Rattle.cf_intake.specs.Reading.{IsReadOn}
use Rattle.cf_intake.proofs.Piecewise.{few_more, stopped_on}
use Rattle.cf_intake.proofs.pieces.Pieces.next_rows.Goals as goal

pub loop-self-init : goal.loop-self-init
loop-self-init g c =
    let ok = c.in_ok-given.ensures in
    let number = ok.number in
    let some = c.requires.some in
    record {
      files = ok.files;
      later = ok.cause.later;
      schema = ok.schema;
      number = omega (arith, number);
      read = ok.read;
      few = λ before rows on. (let few = ok.few before rows on in omega (arith, few, some));
      fit = ok.fit;
    }

pub loop-self-preserved : goal.loop-self-preserved
loop-self-preserved g c =
    let v = c.loop-self.invariant in
    let ok = c.in_ok-more.ensures in
    let first = v.later in
    let then = ok.cause.later in
    let had = v.number in
    let number = ok.number in
    let grown : c.append.new.self.items ≡ c.loop-self.given.items ++ c.in_ok-more.more.items = search rules in
    let short = c.loop-self-test.true in
    let size = c.len.ensures in
    record {
      files = ok.files ∙ v.files;
      later = omega (arith, first, then);
      schema = ok.schema ∙ v.schema;
      number = omega (arith, had, number);
      read = λ before rows on.
          let all = rows ++ c.loop-self.given.items in
          subst (λ (rs : List RowValue). IsReadOn c.next-in-loop-self.new.self before (g.F.Shelf.rest c.next-in-loop-self.new.shelf) rs)
          (append_assoc rows c.loop-self.given.items c.in_ok-more.more.items ∙ ap (λ (rs : List RowValue). rows ++ rs) (sym grown))
          (ok.read before all (v.read before rows on));
      few = λ before rows on. few_more c.loop-self.given.items c.in_ok-more.more.items c.append.new.self.items c.args.wanted grown (omega (arith, short, size))
          (ok.few before (rows ++ c.loop-self.given.items) (v.read before rows on));
      fit = subst (λ (rs : List RowValue). All (Fits (attrs_by c.args.self.now.schema)) rs) (sym grown)
          (All-append (Fits (attrs_by c.args.self.now.schema)) c.loop-self.given.items c.in_ok-more.more.items v.fit
          (subst (λ (s : PacketSchema). All (Fits (attrs_by s)) c.in_ok-more.more.items) v.schema ok.fit));
    }

pub returns-in_err-more-clause-stopped : goal.returns-in_err-more-clause-stopped
returns-in_err-more-clause-stopped g c =
    let p = err_from_is_err_and c.from_residual-in_err-more.result c.from_residual-in_err-more.ensures.1 in
    rw p.1 (λ before rows on. c.in_err-more.ensures.stopped before (rows ++ c.loop-self.given.items) (c.loop-self.invariant.read before rows on))

pub returns-in_err-append-clause-stopped : goal.returns-in_err-append-clause-stopped
returns-in_err-append-clause-stopped g c =
    let p = err_from_is_err_and c.from_residual-in_err-append.result c.from_residual-in_err-append.ensures.1 in
    rw p.1 (λ before rows on.
    let now : Option (List ℕ) = g.F.Shelf.rest c.next-in-loop-self.new.shelf in
    let all : List RowValue = (rows ++ c.loop-self.given.items) ++ c.in_ok-more.more.items in
    stopped_on c.next-in-loop-self.new.self before now all
    (c.in_ok-more.ensures.read before (rows ++ c.loop-self.given.items) (c.loop-self.invariant.read before rows on)))

pub returns-clause-left : goal.returns-clause-left
returns-clause-left g c =
    let more = c.requires.more.1 in
    let number = c.loop-self.invariant.number in
    omega (arith, more, number)
