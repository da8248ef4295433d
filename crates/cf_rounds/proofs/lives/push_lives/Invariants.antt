use Rattle.std.proofs.Common.{◌≡◌, ◌++◌, ℕ, take, string_bytes}
use Rattle.std.specs.List.{flat_map}
use Rattle.cf_rounds.specs.Held.{view_in}
use Rattle.cf_rounds.specs.Lines.{live_line}
use Rattle.cf_rounds.proofs.lives.push_lives.Given as goal

abbrev pub invariant-loop-live : goal.invariant-loop-live
invariant-loop-live l = record {
  same : l.window ≡ l.initial.window;
  text : (last : ℕ) → string_bytes l.text ≡ string_bytes l.initial.text
      ++ flat_map (live_line (l.initial.window).shape l.setup (view_in l.initial.window l.kept last)) (take l.live-index l.lives);
}
