use Rattle.std.proofs.Common.{◌≡◌, ◌+◌, ◌≤◌, ℕ, length, slice_get}
use Rattle.cf_table.specs.Loads.{CountsLoads}
use Rattle.cf_table.specs.Values.{IsOf}
use Rattle.cf_append.specs.Appends.{Rests}
use Rattle.cf_append.specs.Paths.{KeepsSeen, HasUsed, IsOnPath, HasFilings, Remembers, KeepsLeaves, path_steps}
use Rattle.cf_append.proofs.Pathing.{AreEmpty}
use Rattle.cf_append.proofs.paths.make_paths.Given as goal

abbrev pub invariant-loop-lane : goal.invariant-loop-lane
invariant-loop-lane g l = record {
  of : IsOf l.pass l.log;
  rest : Rests (l.pass).view;
  strides : KeepsSeen l.fn.pass l.pass;
  used : HasUsed (IsOnPath (l.log).shape l.row) l.fn.pass l.pass;
  long : length l.filed ≡ 16;
  filed : HasFilings (l.log).shape l.row (l.pass).view l.filed l.lane;
  empty : AreEmpty l.filed l.lane;
  near : Remembers (l.log).shape (l.pass).view l.leaves;
  kept : KeepsLeaves (l.log).shape l.row l.leaves l.lane;
  others : (lane : ℕ) → l.lane ≤ lane → slice_get (l.leaves).kept lane ≡ slice_get (l.fn.leaves).kept lane;
  near_steps : KeepsLeaves (l.log).shape l.row l.fn.leaves (length (l.log).shape.lanes) → l.steps ≡ l.fn.steps;
  loads : CountsLoads l.fn.pass l.pass l.fn.steps l.steps;
  steps : l.steps ≤ l.initial.steps + path_steps (l.log).shape l.lane;
}
