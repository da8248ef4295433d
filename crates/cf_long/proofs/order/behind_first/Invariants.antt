use Rattle.std.proofs.Common.{◌≡◌, ◌-◌, map, slice_index_or, take}
use Rattle.cf_long.proofs.order.behind_first.Given as goal

abbrev pub invariant-loop-place : goal.invariant-loop-place
invariant-loop-place l = record { found : l.found.items ≡ map (λ place. slice_index_or l.nums place 0 - l.first) (take l.place-index l.places) }
