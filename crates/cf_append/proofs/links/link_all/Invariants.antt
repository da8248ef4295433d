use Rattle.std.proofs.Common.{◌+◌, ◌≤◌}
use Rattle.cf_table.specs.Loads.{CountsLoads}
use Rattle.cf_table.specs.Values.{IsOf}
use Rattle.cf_append.specs.Paths.{KeepsSeen}
use Rattle.cf_append.specs.Linking.{HasLinked}
use Rattle.cf_append.proofs.links.link_all.Given as goal

abbrev pub invariant-loop-lane : goal.invariant-loop-lane
invariant-loop-lane g l = record {
  of : IsOf l.pass l.log;
  strides : KeepsSeen l.fn.pass l.pass;
  linked : HasLinked (l.log).shape l.offset l.row l.lane l.fn.pass l.pass;
  loads : CountsLoads l.fn.pass l.pass l.fn.steps l.steps;
  steps : l.steps ≤ l.initial.steps + l.lane;
}
