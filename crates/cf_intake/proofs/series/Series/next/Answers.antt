use Rattle.std.proofs.Common.{sym, arith, ◌∙◌}
use Rattle.cf_intake.proofs.Serial.{done_so, none_of}
use Rattle.cf_intake.proofs.series.Series.next.Goals as goal

pub returns-clause-read : goal.returns-clause-read
returns-clause-read g c = λ rows at.
    let past = c.if-self.false in
    done_so c.args.self.now (g.F.Shelf.files c.args.shelf.now) (g.F.Shelf.rest c.args.shelf.now) rows
    (sym c.take.ensures.value ∙ none_of c.take.result c.in_default.not-Some) at (omega (arith, past))
