use Rattle.std.proofs.Common.{List, map, sym, ap₂, subst, ◌∙◌, rules}
use Rattle.std.proofs.lemmas.Result.{IfOk-weaker}
use Rattle.std.specs.List.{All}
use Rattle.cf_row.specs.declared.row.Entry.{Entry}
use Rattle.cf_shape.specs.Lanes.{ShapeValue}
use Rattle.cf_plain.specs.Asks.{Suits}
use Rattle.cf_load.specs.Planned.{finding_on}
use Rattle.cf_plain.specs.declared.ask.Ask.{Ask}
use Rattle.cf_segments.specs.Segments.{SegmentsValue}
use Rattle.cf_load.proofs.Asking.{all_findings, can_ask, questions_after}
use Rattle.cf_segments.proofs.Kept.{kept_entries, kept_shape}
use Rattle.cf_load.proofs.finals.findings_of.Goals as goal

pub find_each-requires : goal.find_each-requires
find_each-requires g c =
    let s : SegmentsValue = c.args.segments.now in
    let t : SegmentsValue = c.questions_of.new.segments in
    let asks : List Ask = c.args.asks.items in
    let keeps = c.in_ok-questions.ensures.keeps in
    let suit : All (Suits t.shape) asks = subst (λ (h : ShapeValue). All (Suits h) asks) (sym (kept_shape s t keeps)) c.requires.suit in (
      search rules,
      rw (c.shape.ensures.shape, c.as_slice.ensures.value)
          (can_ask t c.logs.ensures.lawful c.in_ok-logs.logs.items c.in_ok-logs.ensures.logs asks c.in_ok-questions.questions.items suit
          (questions_after s t keeps asks c.in_ok-questions.questions.items c.in_ok-questions.ensures.are)),
    )

pub returns-clause-found : goal.returns-clause-found
returns-clause-found g c =
    let s : SegmentsValue = c.args.segments.now in
    let t : SegmentsValue = c.questions_of.new.segments in
    let asks : List Ask = c.args.asks.items in
    let qs = c.in_ok-questions.questions.items in
    let keeps = c.in_ok-questions.ensures.keeps in
    let each = rw c.shape.ensures.shape at c.in_ok-findings.ensures.each in
    IfOk-weaker c.all_found.result _ _ (λ given is.
    all_findings t asks qs c.in_ok-findings.findings.items given.items (questions_after s t keeps asks qs c.in_ok-questions.ensures.are)
    c.in_ok-findings.ensures.long each is
    ∙ ap₂ (λ (h : ShapeValue) (es : List Entry). map (finding_on h es) asks) (kept_shape s t keeps) (kept_entries s t keeps)) c.all_found.ensures
