use Rattle.std.proofs.Common.{◌≡◌, ◌∙◌, length, map, take, ap, ap₂, arith, rules}
use Rattle.std.proofs.lemmas.List.{take_all}
use Rattle.cf_row.specs.declared.row.Entry.{Entry}
use Rattle.cf_report.specs.Tags.{bare_log}
use Rattle.cf_report.proofs.Bare.{bare_of}
use Rattle.cf_report.proofs.tags.Tags.of.Goals as goal

pub returns : goal.returns
returns c =
    let i = c.loop-entry.entry-index in
    let es = c.args.entries.now in
    let whole : i ≡ length es = search rules in
    let all : take i es ≡ es = take_all i es (omega (arith, whole)) in
    ap₂ bare_log (c.loop-entry.invariant.nums ∙ ap (map (λ (e : Entry). e.row.num)) all)
    (c.loop-entry.invariant.writers ∙ ap (map (λ (e : Entry). e.writer)) all)
    ∙ bare_of es
