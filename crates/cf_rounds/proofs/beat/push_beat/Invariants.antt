use Rattle.std.proofs.Common.{◌≡◌, ◌++◌, string_bytes}
use Rattle.std.specs.List.{flat_map, range_with_len}
use Rattle.cf_rounds.specs.Lines.{RoundView, total_line_at}
use Rattle.cf_rounds.proofs.beat.push_beat.Given as goal

abbrev pub invariant-loop-lane : goal.invariant-loop-lane
invariant-loop-lane l = (view : RoundView) → view.kept ≡ l.kept
    → string_bytes l.text ≡ string_bytes l.initial.text ++ flat_map (total_line_at l.shape l.setup view) (range_with_len 0 l.lane)
