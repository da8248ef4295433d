use Rattle.std.proofs.Common.{◌∙◌, ◌++◌, ℕ, ap, string_bytes}
use Rattle.cf_rounds.specs.Held.{view_in}
use Rattle.cf_rounds.specs.Lines.{told_from}
use Rattle.cf_rounds.proofs.Told.{final_line_is}
use Rattle.cf_rounds.proofs.asks.push_ask.Goals as goal

pub returns-clause-line : goal.returns-clause-line
returns-clause-line c = λ last.
    let window = c.args.window.now in
    final_line_is window.shape c.args.setup.now (view_in window c.args.kept.now last) c.args.place c.question_name-name.result.now
    c.question_word.result.now c.in_ok-body.body (string_bytes c.args.text.now) (string_bytes c.push_head.new.text) (string_bytes c.push_told.new.text)
    (string_bytes c.push_str.new.self) c.question_name-name.ensures c.question_word.ensures (c.in_ok-body.ensures.answered last) c.in_ok-push_head.ensures
    (c.in_ok-push_told.ensures ∙ ap (λ (f : ℕ). string_bytes c.push_head.new.text ++ told_from f c.in_ok-body.body) c.from-from.ensures)
    c.in_ok-push_str.ensures.bytes
