use Rattle.std.proofs.Common.{◌≡◌, ◌*◌, Err, rules}
use Rattle.cf_setup.specs.Setups.{shaped}
use Rattle.cf_fill.proofs.Sealing.{needs_at_most}
use Rattle.cf_long.proofs.KeptRows.{numbered_kept}
use Rattle.cf_long.proofs.report.long_report.Goals as goal

pub final_text-requires : goal.final_text-requires
final_text-requires g c =
    let setup = c.args.setup.now in
    let given = c.requires.long in
    let made = c.in_ok-answers.ensures setup given.0 given.1 given.2 given.3 given.4 in
    record {
      answers = (
        shaped setup given.0 given.1 given.2,
        given.3,
        made.0,
      );
    }

pub returns : goal.returns
returns g c = λ capacity writers nodes rows for.
    let setup = c.args.setup.now in
    let shape = shaped setup capacity writers nodes in
    let made = c.in_ok-answers.ensures setup capacity writers nodes rows for in (
      c.in_ok-final_text.ensures shape rows (numbered_kept c.args.long rows for.is) made.0,
      needs_at_most shape (writers * nodes) rows made.1,
    )

pub returns-in_err-answers : goal.returns-in_err-answers
returns-in_err-answers g c = λ capacity writers nodes rows for.
    let why = c.in_err-answers.field-0.0 in
    let same : c.from_residual.result ≡ Err why = search rules in
    rw same (c.in_err-answers.ensures c.args.setup.now capacity writers nodes rows for)
