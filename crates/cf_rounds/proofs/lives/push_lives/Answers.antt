use Rattle.std.proofs.Common.{◌∙◌, ◌++◌, List, ℕ, ap, arith, string_bytes}
use Rattle.std.specs.List.{flat_map}
use Rattle.std.proofs.lemmas.List.{take_all}
use Rattle.cf_window.specs.Held.{WindowValue}
use Rattle.cf_rounds.specs.Held.{view_in}
use Rattle.cf_rounds.specs.Lines.{live_line}
use Rattle.cf_rounds.proofs.Told.{step_list}
use Rattle.cf_rounds.proofs.lives.push_lives.Goals as goal

pub loop-live-preserved : goal.loop-live-preserved
loop-live-preserved c =
    let setup = c.args.setup.now in
    let window = c.args.window.now in
    let kept = c.args.kept.now in
    let v = c.loop-live.invariant in
    let e = c.in_ok-push_live.ensures in record {
      same = e.stays ∙ v.same;
      text = λ last.
          step_list (live_line window.shape setup (view_in window kept last)) c.lives-lives.result.now c.loop-live.live-index 0
          (string_bytes c.args.text.now) (string_bytes c.loop-live.text) (string_bytes c.push_live.new.text) c.loop-live-test.true (v.text last)
          (e.line last
          ∙ (ap (λ (w : WindowValue). string_bytes c.loop-live.text ++ live_line w.shape setup (view_in w kept last) c.from.result) v.same
          ∙ ap (λ (place : ℕ). string_bytes c.loop-live.text ++ live_line window.shape setup (view_in window kept last) place) c.from.ensures));
    }

pub returns-clause-lines : goal.returns-clause-lines
returns-clause-lines c = λ last.
    let window = c.args.window.now in
    c.loop-live.invariant.text last
    ∙ ap (λ (xs : List ℕ). string_bytes c.args.text.now
    ++ flat_map (live_line window.shape c.args.setup.now (view_in window c.args.kept.now last)) xs)
    (take_all c.loop-live.live-index c.lives-lives.result.now (omega arith) ∙ c.lives-lives.ensures.lives)
