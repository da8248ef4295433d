use Rattle.std.proofs.Common.{◌≡◌, ◌++◌, string_bytes}
use Rattle.std.specs.List.{flat_map, range_with_len}
use Rattle.cf_rounds.specs.Lines.{crowded_lines_at}
use Rattle.cf_rounds.proofs.Keeping.{crowds_to}
use Rattle.cf_rounds.proofs.fresh.push_crowded_lines.Given as goal

abbrev pub invariant-loop-lane : goal.invariant-loop-lane
invariant-loop-lane l = record {
  told : l.kept ≡ crowds_to l.lane l.initial.kept;
  text : string_bytes l.text ≡ string_bytes l.initial.text ++ flat_map (crowded_lines_at l.setup l.to l.initial.kept) (range_with_len 0 l.lane);
}
