use Rattle.std.proofs.Common.{◌≡◌, ◌∙◌, ◌++◌, List, ℕ, ap, string_bytes}
use Rattle.std.proofs.lemmas.Result.{on_ok_weaker}
use Rattle.cf_row.specs.declared.row.Entry.{Entry}
use Rattle.cf_plain.specs.Asks.{rows_in}
use Rattle.cf_report.specs.Answered.{tolds_of}
use Rattle.cf_report.specs.Snapshot.{host_part}
use Rattle.cf_report.proofs.Bare.{host_bare}
use Rattle.cf_report.proofs.snapshot.push_host.Goals as goal

pub returns : goal.returns
returns c =
    let setup = c.args.setup.now in
    let told = tolds_of setup.asks c.args.finals.now in
    let before = string_bytes c.args.text.now in
    on_ok_weaker c.push_host_by_tags.result
    (λ is. is ∙ ap (λ (part : List ℕ). before ++ part)
    (ap (λ (es : List Entry). host_part setup c.args.host (rows_in es) told) c.in_ok-tags.ensures ∙ host_bare setup c.args.entries.now c.args.host told))
    c.push_host_by_tags.ensures
