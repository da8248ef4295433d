use Rattle.std.proofs.Common.{◌≡◌, ◌++◌, string_bytes}
use Rattle.std.specs.List.{flat_map, range_with_len}
use Rattle.cf_rounds.specs.Lanes.{told_first}
use Rattle.cf_rounds.specs.Lines.{fresh_lines_at}
use Rattle.cf_rounds.proofs.fresh.push_fresh_lines.Given as goal

abbrev pub invariant-loop-place : goal.invariant-loop-place
invariant-loop-place l = record {
  told : l.kept ≡ told_first l.triggers l.initial.kept l.place;
  text : string_bytes l.text ≡ string_bytes l.initial.text ++ flat_map (fresh_lines_at l.setup l.to l.initial.kept) (range_with_len 0 l.place);
}
