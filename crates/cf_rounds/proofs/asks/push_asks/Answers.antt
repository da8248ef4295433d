use Rattle.std.proofs.Common.{◌≡◌, ◌∙◌, ◌++◌, List, ap, arith, length, string_bytes}
use Rattle.cf_row.proofs.Ranges.{step_range}
use Rattle.cf_plain.specs.declared.ask.Ask.{Ask}
use Rattle.cf_window.specs.Held.{WindowValue}
use Rattle.cf_rounds.specs.Held.{view_in}
use Rattle.cf_rounds.specs.Lines.{final_line}
use Rattle.cf_rounds.proofs.asks.push_asks.Goals as goal

pub loop-place-preserved : goal.loop-place-preserved
loop-place-preserved c =
    let setup = c.args.setup.now in
    let window = c.args.window.now in
    let kept = c.args.kept.now in
    let place = c.loop-place.place in
    let v = c.loop-place.invariant in
    let e = c.in_ok-push_ask.ensures in record {
      same = e.stays ∙ v.same;
      text = λ last.
          step_range (final_line window.shape setup (view_in window kept last)) place (string_bytes c.args.text.now) (string_bytes c.loop-place.text)
          (string_bytes c.push_ask.new.text) (v.text last)
          (e.line last ∙ ap (λ (w : WindowValue). string_bytes c.loop-place.text ++ final_line w.shape setup (view_in w kept last) place) v.same);
    }

pub returns-clause-lines : goal.returns-clause-lines
returns-clause-lines c = λ last.
    let all = ap (λ (xs : List Ask). length xs) c.asks-asks.ensures.asks in
    let here : c.loop-place.place ≡ length c.args.setup.now.asks = omega (arith, all) in
    rw here at (c.loop-place.invariant.text last)
