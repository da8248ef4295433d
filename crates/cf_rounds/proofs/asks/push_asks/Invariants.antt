use Rattle.std.proofs.Common.{◌≡◌, ◌++◌, ℕ, string_bytes}
use Rattle.std.specs.List.{flat_map, range_with_len}
use Rattle.cf_rounds.specs.Held.{view_in}
use Rattle.cf_rounds.specs.Lines.{final_line}
use Rattle.cf_rounds.proofs.asks.push_asks.Given as goal

abbrev pub invariant-loop-place : goal.invariant-loop-place
invariant-loop-place l = record {
  same : l.window ≡ l.initial.window;
  text : (last : ℕ) → string_bytes l.text ≡ string_bytes l.initial.text
      ++ flat_map (final_line (l.initial.window).shape l.setup (view_in l.initial.window l.kept last)) (range_with_len 0 l.place);
}
