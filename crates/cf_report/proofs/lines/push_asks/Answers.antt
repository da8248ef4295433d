use Rattle.std.proofs.Common.{◌≡◌, ◌<◌, get_or, length, sym, ap, ap₂, ◌∙◌, string_bytes, ◌++◌}
use Rattle.cf_row.proofs.Ranges.{step_range}
use Rattle.cf_plain.specs.History.{AskReply}
use Rattle.cf_plain.specs.Asks.{rows_in}
use Rattle.cf_plain.specs.declared.ask.Ask.{Ask}
use Rattle.cf_plain.specs.declared.answer.Body.{Body}
use Rattle.cf_report.specs.Answered.{told_by, tolds_of}
use Rattle.cf_report.specs.Report.{ask_name, ask_line, ask_line_at, nothing_told}
use Rattle.cf_report.proofs.Tolds.{told_at}
use Rattle.cf_report.proofs.lines.push_asks.Goals as goal

pub loop-place-preserved : goal.loop-place-preserved
loop-place-preserved c =
    let setup = c.args.setup.now in
    let rows = rows_in c.args.entries.now in
    let finals = c.args.finals.now in
    let place = c.loop-place.place in
    let ask = c.index-asks-place.result in
    let answer = c.index-finals-place.result in
    let within : place < length setup.asks = rw c.asks-asks.ensures.asks at c.loop-place-test.true in
    let ask_is : ask ≡ get_or setup.asks place ask = rw c.asks-asks.ensures.asks at c.index-asks-place.is in
    let told : told_by ask answer ≡ get_or (tolds_of setup.asks finals) place nothing_told =
    sym (told_at setup.asks finals place ask answer nothing_told within c.requires.answered ∙ ap₂ told_by (sym ask_is) (sym c.index-finals-place.is)) in
    let line = rw (c.name_at.ensures, c.ask_names-names.ensures.names) at c.in_ok-push_ask.ensures in
    step_range (ask_line_at setup rows (tolds_of setup.asks finals)) place (string_bytes c.args.text.now) (string_bytes c.loop-place.text)
    (string_bytes c.push_ask.new.text) c.loop-place.invariant
    (line ∙ ap (λ (t : AskReply Ask Body). string_bytes c.loop-place.text ++ ask_line (ask_name setup place) rows t) told)
