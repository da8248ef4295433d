use Rattle.std.proofs.Common.{◌∙◌, ◌++◌, List, ℕ, ap, ap₂, codes, decimal, length, map, true, string_bytes}
use Rattle.std.specs.List.{flat_map, range_with_len}
use Rattle.cf_plain.specs.declared.answer.Fired.{Fired}
use Rattle.cf_report.specs.Bodies.{line}
use Rattle.cf_report.specs.Report.{alert_lines_at}
use Rattle.cf_window.specs.Held.{count_of}
use Rattle.cf_rounds.specs.Held.{view_in}
use Rattle.cf_rounds.specs.Lanes.{marks_by}
use Rattle.cf_rounds.specs.Lines.{final_line}
use Rattle.cf_rounds.proofs.Told.{ended_by}
use Rattle.cf_rounds.proofs.asks.push_end.Goals as goal

pub returns-clause-ended : goal.returns-clause-ended
returns-clause-ended c = λ last.
    let setup = c.args.setup.now in
    let window = c.args.window.now in
    let kept = c.args.kept.now in
    ended_by (string_bytes c.args.text.now) (string_bytes c.push_counts.new.text) (string_bytes c.push_asks.new.text) (string_bytes c.push_alerts.new.text)
    (line (codes "records " ++ decimal (count_of window)) ++ line (codes "window " ++ decimal window.from))
    (flat_map (final_line window.shape setup (view_in window kept last)) (range_with_len 0 (length setup.asks)))
    (flat_map (alert_lines_at setup (map (marks_by kept true) setup.triggers)) (range_with_len 0 (length setup.triggers)))
    (c.in_ok-push_counts.ensures
    ∙ ap₂ (λ (t f : ℕ). string_bytes c.args.text.now ++ (line (codes "records " ++ decimal t) ++ line (codes "window " ++ decimal f))) c.count.ensures
    c.from.ensures)
    (c.in_ok-push_asks.ensures.lines last)
    (c.in_ok-push_alerts.ensures
    ∙ ap (λ (ms : List (List Fired)). string_bytes c.push_asks.new.text ++ flat_map (alert_lines_at setup ms) (range_with_len 0 (length setup.triggers)))
    (c.deref.ensures.value ∙ c.in_ok-alerts.ensures.marks))
