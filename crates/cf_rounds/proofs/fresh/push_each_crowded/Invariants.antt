use Rattle.std.proofs.Common.{◌≡◌, ◌++◌, take, string_bytes}
use Rattle.std.specs.List.{flat_map}
use Rattle.cf_rounds.specs.Lines.{crowded_line}
use Rattle.cf_rounds.proofs.fresh.push_each_crowded.Given as goal

abbrev pub invariant-loop-bucket : goal.invariant-loop-bucket
invariant-loop-bucket l = string_bytes l.text ≡ string_bytes l.initial.text ++ flat_map (crowded_line l.name l.to) (take l.bucket-index l.buckets)
