use Rattle.std.proofs.Common.{◌∙◌, List, ap}
use Rattle.std.proofs.lemmas.Result.{IfOk-weaker}
use Rattle.cf_row.specs.declared.row.Entry.{Entry}
use Rattle.cf_report.specs.Text.{text_of}
use Rattle.cf_report.proofs.Bare.{text_bare}
use Rattle.cf_report.proofs.text.report.Goals as goal

pub returns : goal.returns
returns c =
    let setup = c.args.setup.now in
    let loaded = c.args.loaded.now in
    IfOk-weaker c.report_by_tags.result _ _
    (λ text is. is
    ∙ (ap (λ (es : List Entry). text_of c.args.form setup es loaded) c.in_ok-tags.ensures ∙ text_bare setup c.args.entries.now c.args.form loaded))
    c.report_by_tags.ensures
