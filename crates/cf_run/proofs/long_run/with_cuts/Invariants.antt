use Rattle.std.proofs.Common.{◌≡◌, ◌++◌, string_bytes}
use Rattle.std.specs.List.{flat_map, range_with_len}
use Rattle.cf_run.specs.Lengths.{cut_line_at}
use Rattle.cf_run.proofs.long_run.with_cuts.Given as goal

abbrev pub invariant-loop-place : goal.invariant-loop-place
invariant-loop-place l =
    string_bytes l.lines ≡ flat_map (cut_line_at l.several l.cuts) (range_with_len 0 l.place)
