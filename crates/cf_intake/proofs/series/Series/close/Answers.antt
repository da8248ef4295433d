use Rattle.std.proofs.Common.{◌+◌, Option, sym, subst}
use Rattle.std.proofs.lemmas.Result.{err_from_is_err_and}
use Rattle.cf_intake.specs.Series.{SeriesGoesOn}
use Rattle.cf_intake.specs.declared.reads.Reads.{Reads}
use Rattle.cf_intake.proofs.Serial.{closed_so, unclosed_so, unfailing}
use Rattle.cf_intake.proofs.series.Series.close.Goals as goal

pub returns-in_err-cut-clause-read : goal.returns-in_err-cut-clause-read
returns-in_err-cut-clause-read c = λ told now rows at end.
    let p = err_from_is_err_and c.from_residual.result c.from_residual.ensures.1 in
    rw (p.1, p.2) (unclosed_so c.args.self.now c.args.reads told now rows at c.in_err-cut.field-0.0 c.in_err-cut.ensures end)

pub returns-in_err-cut-clause-unfailed : goal.returns-in_err-cut-clause-unfailed
returns-in_err-cut-clause-unfailed c = λ bytes rows have.
    let p = err_from_is_err_and c.from_residual.result c.from_residual.ensures.1 in
    rw (p.1, p.2) (λ failed. unfailing _ c.in_err-cut.field-0.0 (c.in_err-cut.ensures bytes rows have) (cc failed))

pub returns-clause-read : goal.returns-clause-read
returns-clause-read c = λ told now rows at end.
    let old = c.args.self.now in
    subst (λ (r : Option Reads). SeriesGoesOn (record old { place = old.place + 1; reads = r; cuts = c.push.new.self }) told now rows c.new.result.items)
    (sym c.requires.none)
    (closed_so old c.args.reads told now rows at c.in_ok-cut.cut c.push.new.self c.requires.more c.in_ok-cut.ensures end c.in-Ok.ensures.items
    c.new.result.items c.new.ensures.items)
