use Rattle.std.proofs.Common.{◌≡◌, ◌≤◌}
use Rattle.cf_headers.specs.Ipv6.{upper_after}
use Rattle.cf_headers.proofs.extension.upper_after.Given as goal

abbrev pub invariant-loop-left : goal.invariant-loop-left
invariant-loop-left l = record {
  same : upper_after 8 l.first l.start l.end l.frame ≡ upper_after l.left l.protocol l.at l.end l.frame;
  within : l.at ≤ l.end;
}

abbrev pub decreases-loop-left : goal.decreases-loop-left
decreases-loop-left l = l.left
