use Rattle.std.proofs.Common.{◌≤◌, ◌<◌, ◌^◌}
use Rattle.cf_row.proofs.Written.{Written}
use Rattle.cf_row.proofs.words.read_bytes.Given as goal

abbrev pub invariant-loop-left : goal.invariant-loop-left
invariant-loop-left l =
    record { within : l.left ≤ l.size; low : l.rest < 256 ^ l.left; written : Written l.initial.out l.out l.from l.size l.number l.left l.rest }

abbrev pub decreases-loop-left : goal.decreases-loop-left
decreases-loop-left l = l.left
