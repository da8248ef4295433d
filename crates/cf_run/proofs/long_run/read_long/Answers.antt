use Rattle.std.proofs.Common.{◌≡◌, ◌∙◌, ◌++◌, ◌-◌, ◌^◌, ℕ, Bool, List, [], Option, Some, min, ap, ap₂, arith, subst, sym}
use Rattle.std.proofs.lemmas.List.{length-map}
use Rattle.std.specs.Borrow.{Bor}
use Rattle.cf_command.specs.Call.{long_by}
use Rattle.cf_command.specs.Call.Call.{long}
use Rattle.cf_fill.specs.Work.{shape_for}
use Rattle.cf_intake.specs.Several.{names_in}
use Rattle.cf_intake.specs.declared.refusal.Halt.{Halt}
use Rattle.cf_long.specs.Ends.{IsUntold}
use Rattle.cf_row.specs.declared.packet6.PacketSchema.{PacketSchema}
use Rattle.cf_setup.specs.declared.source.Source.TheVariants.{Packets}
use Rattle.cf_run.specs.Due.{IsDue}
use Rattle.cf_run.specs.Lengths.{are_several, cut_lines, line_among}
use Rattle.cf_run.specs.Refusals.{status_of}
use Rattle.cf_run.proofs.Lengths.{among_prepared, cuts_few, refused_due, told_due, told_prepared}
use Rattle.cf_run.proofs.long_run.read_long.Goals as goal

pub with_cuts-requires : goal.with_cuts-requires
with_cuts-requires g c =
    let sizes = c.args.command.now.sizes in
    let setup = c.args.work.setup in
    let series = c.series_report.new.series in
    cuts_few series (g.F.Shelf.files c.args.shelf.now) (g.F.Shelf.rest c.series_report.new.shelf) setup (shape_for setup sizes) c.in-Ok.text.items
    c.args.command.now.captures.items c.deref-in-Ok.result.now (c.in-Ok.ensures.told sizes.capacity sizes.writers sizes.nodes c.requires.begun.is)
    (c.series_report.ensures.series.names ∙ (c.begin-series.ensures.names ∙ c.deref-2.ensures.value)) c.requires.range.captures.1
    (c.deref-in-Ok.ensures.value ∙ ap (λ cuts. cuts.items) c.into_cuts.ensures)

pub returns-in-Ok-clause-prepared : goal.returns-in-Ok-clause-prepared
returns-in-Ok-clause-prepared g c = λ before.
    let command = c.args.command.now in
    let call = long_by command in
    let sizes = command.sizes in
    let setup = c.args.work.setup in
    let told = g.F.Shelf.files c.args.shelf.now in
    let now = g.F.Shelf.rest c.series_report.new.shelf in
    let series = c.series_report.new.series in
    let text = c.in-Ok.text.items in
    let cuts = c.deref-in-Ok.result.now in
    let several : c.are_several-several.result ≡ are_several call.captures =
    c.are_several-several.ensures ∙ ap (λ (ns : List (Bor (List ℕ))). are_several (names_in ns)) c.deref.ensures.value in
    let cuts_are : cuts ≡ series.cuts.items = c.deref-in-Ok.ensures.value ∙ ap (λ cs. cs.items) c.into_cuts.ensures in
    told_prepared told (Some (long call)) before now (text ++ cut_lines c.are_several-several.result cuts) c.in_ok-with_cuts-in-Ok.field-0
    (told_due told call before now setup series c.requires.begun.set
    (c.requires.begun.kind ∙ ap (λ (s : PacketSchema). Packets s) (sym (c.series_report.ensures.series.schema ∙ c.begin-series.ensures.schema)))
    (ap names_in (c.series_report.ensures.series.names ∙ (c.begin-series.ensures.names ∙ c.deref-2.ensures.value)))
    (c.series_report.ensures.series.truncated ∙ c.begin-series.ensures.truncated) text (text ++ cut_lines c.are_several-several.result cuts)
    (c.in-Ok.ensures.told sizes.capacity sizes.writers sizes.nodes c.requires.begun.is)
    (ap₂ (λ (b : Bool) (cs : List (Option ℕ)). text ++ cut_lines b cs) several cuts_are)) c.in_ok-with_cuts-in-Ok.ensures

pub returns-in-Err-Refused-clause-prepared : goal.returns-in-Err-Refused-clause-prepared
returns-in-Err-Refused-clause-prepared g c = λ before.
    let command = c.args.command.now in
    let call = long_by command in
    let sizes = command.sizes in
    let setup = c.args.work.setup in
    let told = g.F.Shelf.files c.args.shelf.now in
    let now = g.F.Shelf.rest c.series_report.new.shelf in
    let series = c.series_report.new.series in
    let why = c.in-Err-Refused.why in
    let place = min c.place.result (2 ^ 32 - 2) in
    let several : c.are_several-several.result ≡ are_several call.captures =
    c.are_several-several.ensures ∙ ap (λ (ns : List (Bor (List ℕ))). are_several (names_in ns)) c.deref.ensures.value in
    among_prepared told (Some (long call)) before now why (line_among c.are_several-several.result place why) c.refused_among.result
    (subst (λ (b : Bool). IsDue told (Some (long call)) before now (status_of why) (line_among b place why) []) (sym several)
    (refused_due told call before now setup series c.requires.begun.set
    (c.requires.begun.kind ∙ ap (λ (s : PacketSchema). Packets s) (sym (c.series_report.ensures.series.schema ∙ c.begin-series.ensures.schema)))
    (ap names_in (c.series_report.ensures.series.names ∙ (c.begin-series.ensures.names ∙ c.deref-2.ensures.value)))
    (c.series_report.ensures.series.truncated ∙ c.begin-series.ensures.truncated) place why
    (let size = length-map command.captures.items (λ (name : Bor (List ℕ)). name.now) in
    let most = c.requires.range.captures.1 in omega (arith, size, most)) (ap (λ (p : ℕ). min p (2 ^ 32 - 2)) c.place.ensures)
    (subst (λ (h : Halt). IsUntold series told now (shape_for setup sizes) h) c.in-Err-Refused.field-0-is
    (c.in-Err-Refused.ensures.told sizes.capacity sizes.writers sizes.nodes c.requires.begun.is)))) c.refused_among.ensures
