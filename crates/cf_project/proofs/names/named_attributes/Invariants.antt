use Rattle.std.proofs.Common.{◌≡◌, map}
use Rattle.std.specs.List.{range_with_len}
use Rattle.cf_project.specs.Named.{is_named}
use Rattle.cf_project.proofs.names.named_attributes.Given as goal

abbrev pub invariant-loop-place : goal.invariant-loop-place
invariant-loop-place l = l.kept.items ≡ map (is_named l.shape l.asks) (range_with_len 0 l.place)
