use Rattle.std.proofs.Common.{◌≡◌, ℕ, List, length, Ok, Err, sym, ◌∙◌, ap, arith, subst}
use Rattle.std.proofs.lemmas.Bool.{eqb-true}
use Rattle.cf_filter.specs.Tokens.{unspaced}
use Rattle.cf_lines.specs.Lines.{lines_of}
use Rattle.cf_setup.specs.Drafts.{nothing_stated}
use Rattle.cf_setup.specs.Reading.{setup_from, settled_or, said, Takes, fault_at, Answers}
use Rattle.cf_setup.proofs.Lawful.{said_lawful, draft_few}
use Rattle.cf_setup.proofs.Whole.{line_ok, line_stops, line_none, empty_is}
use Rattle.cf_setup.proofs.parse.read_lines.Goals as goal

pub read_line-requires-clause-few : goal.read_line-requires-clause-few
read_line-requires-clause-few c = draft_few c.loop-rest.draft c.loop-rest.invariant.draft

pub returns-in-Err : goal.returns-in-Err
returns-in-Err c =
    let line = c.first_line.result.0.now in
    let next = c.first_line.result.1.now in
    let fault = c.in-Err.fault in
    let read : Takes (Err fault) (said c.loop-rest.number c.loop-rest.draft (unspaced line)) =
    subst (λ (text : List ℕ). Takes (Err fault) (said c.loop-rest.number c.loop-rest.draft text)) c.unspaced.ensures c.in-Err.ensures in
    rw c.at.ensures
    (subst (Answers (Err (fault_at c.loop-rest.number fault))) c.loop-rest.invariant.read
    (line_stops c.loop-rest.number fault c.loop-rest.draft c.loop-rest.rest.now line next c.first_line.ensures.line read))

pub loop-rest-preserved : goal.loop-rest-preserved
loop-rest-preserved c =
    let line = c.first_line.result.0.now in
    let next = c.first_line.result.1.now in
    let new = c.in-Ok.stated in
    let read : said c.loop-rest.number c.loop-rest.draft (unspaced line) ≡ Ok new = ap (said c.loop-rest.number c.loop-rest.draft) (sym c.unspaced.ensures)
    ∙ c.in-Ok.ensures in
    record {
      read = sym (line_ok c.loop-rest.number c.loop-rest.draft new c.loop-rest.rest.now line next c.first_line.ensures.line read) ∙ c.loop-rest.invariant.read;
      draft = said_lawful c.loop-rest.number c.loop-rest.draft (unspaced line) new c.loop-rest.invariant.draft read;
      few = omega (arith, c.first_line.ensures.less, c.loop-rest.invariant.few);
    }

pub returns : goal.returns
returns c =
    let none : length c.loop-rest.rest.now ≡ 0 = eqb-true (length c.loop-rest.rest.now) 0 (sym c.is_empty.ensures ∙ c.loop-rest-test.false) in
    let read : settled_or c.loop-rest.number c.loop-rest.draft c.loop-rest.draft.schema ≡ setup_from 1 nothing_stated (lines_of c.args.bytes.now) =
    sym (line_none c.loop-rest.number c.loop-rest.draft c.loop-rest.rest.now (empty_is c.loop-rest.rest.now none)) ∙ c.loop-rest.invariant.read in
    subst (Answers c.settle.result) read c.settle.ensures
