use Rattle.std.proofs.Common.{◌≡◌, ◌++◌, string_bytes}
use Rattle.std.specs.List.{flat_map, range_with_len}
use Rattle.cf_long.specs.Texts.{placed_line_at}
use Rattle.cf_long.proofs.text.push_asks.Given as goal

abbrev pub invariant-loop-place : goal.invariant-loop-place
invariant-loop-place l =
    string_bytes l.text ≡ string_bytes l.initial.text ++ flat_map (placed_line_at l.setup l.finals) (range_with_len 0 l.place)
