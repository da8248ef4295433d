use Rattle.std.proofs.Common.{◌∙◌, List, length, ap, ap₂, sym, subst}
use Rattle.std.proofs.lemmas.Result.{IfOk-weaker}
use Rattle.cf_row.specs.declared.row.Entry.{Entry}
use Rattle.cf_plain.specs.Answered.{LoadedValue}
use Rattle.cf_report.specs.Answered.{IsAnswering}
use Rattle.cf_report.specs.Tags.{bare}
use Rattle.cf_report.specs.Text.{text_of}
use Rattle.cf_report.specs.declared.text.Form.TheVariants.{Whole}
use Rattle.cf_report.proofs.Bare.{text_bare}
use Rattle.cf_store.specs.Ends.{seen_of}
use Rattle.cf_store.specs.Seen.{answered_on}
use Rattle.cf_store.proofs.Meant.{answering}
use Rattle.cf_store.proofs.Reported.{all_then, behind_still, seen_still}
use Rattle.cf_store.proofs.report.report_seen.Goals as goal

pub tags_seen-requires : goal.tags_seen-requires
tags_seen-requires c = record {
  behind = behind_still c.args.shared.now c.args.pass.now c.loaded_seen.new.pass c.args.rest.now c.loaded_seen.new.rest c.requires.behind
      c.loaded_seen.ensures.walked;
}

pub returns-in_err-tags-clause-walked : goal.returns-in_err-tags-clause-walked
returns-in_err-tags-clause-walked c =
    all_then c.args.pass.now c.loaded_seen.new.pass c.tags_seen.new.pass c.args.rest.now c.loaded_seen.new.rest c.tags_seen.new.rest
    c.loaded_seen.ensures.walked c.tags_seen.ensures.walked

pub report_by_tags-requires : goal.report_by_tags-requires
report_by_tags-requires c =
    let shared = c.args.shared.now in
    let shape = shared.log.shape in
    let seen = seen_of shared c.args.pass.now c.args.rest.now in
    let same = c.in_ok-tags.ensures.tags ∙ ap (λ (es : List Entry). bare es)
    (seen_still shared c.args.pass.now c.loaded_seen.new.pass c.args.rest.now c.loaded_seen.new.rest c.loaded_seen.ensures.walked) in
    subst (λ (loaded : LoadedValue). IsAnswering shared.setup (length c.in_ok-tags.tags) loaded) (sym c.in_ok-loaded.ensures.loaded)
    (subst (λ (es : List Entry). IsAnswering shared.setup (length es) (answered_on shape shared.setup seen)) (sym same)
    (answering shared.setup shape seen c.loaded_seen.ensures.lawful))

pub returns-clause-text : goal.returns-clause-text
returns-clause-text c =
    let shared = c.args.shared.now in
    let shape = shared.log.shape in
    let seen = seen_of shared c.args.pass.now c.args.rest.now in
    let same = c.in_ok-tags.ensures.tags ∙ ap (λ (es : List Entry). bare es)
    (seen_still shared c.args.pass.now c.loaded_seen.new.pass c.args.rest.now c.loaded_seen.new.rest c.loaded_seen.ensures.walked) in
    IfOk-weaker c.report_by_tags.result _ _
    (λ text is. is ∙ (ap₂ (λ (es : List Entry) (loaded : LoadedValue). text_of Whole shared.setup es loaded) same c.in_ok-loaded.ensures.loaded
    ∙ text_bare shared.setup seen Whole (answered_on shape shared.setup seen)))
    c.report_by_tags.ensures

pub returns-clause-walked : goal.returns-clause-walked
returns-clause-walked c =
    all_then c.args.pass.now c.loaded_seen.new.pass c.tags_seen.new.pass c.args.rest.now c.loaded_seen.new.rest c.tags_seen.new.rest
    c.loaded_seen.ensures.walked c.tags_seen.ensures.walked
