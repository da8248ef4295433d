use Rattle.std.proofs.Common.{◌≡◌, ℕ, List, Err, sym, ap, subst, ◌∙◌, rules}
use Rattle.std.proofs.lemmas.Result.{err_from_is_err_and}
use Rattle.cf_row.specs.declared.row.Entry.{Entry}
use Rattle.cf_report.specs.Answered.{IsAnswering}
use Rattle.cf_report.specs.Text.{text_of}
use Rattle.cf_report.proofs.Answering.{are_answering}
use Rattle.cf_report.proofs.Bare.{text_bare}
use Rattle.cf_setup.specs.Setups.{shaped}
use Rattle.cf_fill.proofs.Logs.{sealed_in, tags_long}
use Rattle.cf_fill.proofs.log.report_in.Goals as goal

pub closed_log-requires-clause-filled : goal.closed_log-requires-clause-filled
closed_log-requires-clause-filled g c κs within = let given = c.requires.filled in (given.2, given.4.filled)

pub report_by_tags-requires : goal.report_by_tags-requires
report_by_tags-requires g c =
    let setup = c.args.setup.now in
    let given = c.requires.filled in
    let sizes = given.0 in
    let tags = c.in_ok-tags.tags in
    let seals = c.in_ok-tags.seals.items in
    let answers = c.in_ok-tags.answers in
    let made = c.in_ok-tags.ensures setup sizes given.1 given.2 given.4 in
    subst (λ (n : ℕ). IsAnswering setup n answers)
    (sym (tags_long setup sizes.capacity sizes.writers sizes.nodes given.1 given.2 tags seals answers made))
    (are_answering setup (shaped setup sizes.capacity sizes.writers sizes.nodes) given.1 made.entries answers c.requires.lawful made.closed.meant)

pub returns : goal.returns
returns g c = λ sizes rounds rows lawful is.
    let setup = c.args.setup.now in
    let form = c.args.form in
    let seals = c.in_ok-tags.seals.items in
    let answers = c.in_ok-tags.answers in
    let made = c.in_ok-tags.ensures setup sizes rounds rows is in
    let told = c.in_ok-text.ensures ∙ ap (λ (es : List Entry). text_of form setup es answers) made.tags_are ∙ text_bare setup made.entries form answers in (
      sealed_in setup sizes.capacity sizes.writers sizes.nodes rounds rows made.entries seals answers lawful.writers.0 made.closed form
          c.in_ok-text.text.items told,
      made.closed.few_nodes,
    )

pub returns-in_err-tags : goal.returns-in_err-tags
returns-in_err-tags g c = λ sizes rounds rows lawful is.
    let same : c.from_residual.result ≡ Err c.in_err-tags.field-0.0 = search rules in
    rw same (c.in_err-tags.ensures c.args.setup.now sizes rounds rows is)

pub returns-in_err-text : goal.returns-in_err-text
returns-in_err-text g c = λ sizes rounds rows lawful is.
    let p = err_from_is_err_and c.from_residual-in_err-text.result c.from_residual-in_err-text.ensures.1 in
    rw (p.1, p.2) tt
