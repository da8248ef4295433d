use Rattle.std.proofs.Common.{◌≡◌, ◌+◌, ◌*◌, ◌≤◌}
use Rattle.cf_table.specs.Loads.{CountsLoads}
use Rattle.cf_table.specs.Values.{IsOf}
use Rattle.cf_append.specs.Paths.{KeepsSeen}
use Rattle.cf_append.specs.Linking.{HasFilled, cell_from}
use Rattle.cf_append.proofs.links.fill_cells.Given as goal

abbrev pub invariant-loop-lane : goal.invariant-loop-lane
invariant-loop-lane g l = record {
  of : IsOf l.pass l.log;
  strides : KeepsSeen l.fn.pass l.pass;
  at : l.from ≡ cell_from (l.log).shape l.lane;
  filled : HasFilled (l.log).shape l.offset l.row (cell_from (l.log).shape l.lane) l.fn.pass l.pass;
  loads : CountsLoads l.fn.pass l.pass l.fn.steps l.steps;
  steps : l.steps ≤ l.initial.steps + 7 * l.lane;
}
