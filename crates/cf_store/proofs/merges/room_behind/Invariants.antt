use Rattle.std.proofs.Common.{◌≡◌, ◌+◌, map}
use Rattle.std.specs.List.{range_with_len}
use Rattle.cf_plain.specs.Segments.{numbers_in}
use Rattle.cf_store.specs.Merges.{group_at}
use Rattle.cf_store.proofs.merges.room_behind.Given as goal

abbrev pub invariant-loop-k : goal.invariant-loop-k
invariant-loop-k l = l.left + numbers_in (map (group_at l.words) (range_with_len 0 l.k)) ≡ l.room
