use Rattle.cf_table.specs.Loads.{CountsLoads}
use Rattle.cf_table.specs.Values.{IsOf}
use Rattle.cf_load.specs.Rounds.{HasAskedSome}
use Rattle.cf_load.proofs.reader.ask_rounds.Given as goal

abbrev pub invariant-loop-round : goal.invariant-loop-round
invariant-loop-round g l = record {
  of : IsOf l.reader l.log;
  asked : HasAskedSome (l.log).shape (l.beside).plan.now (l.beside).prior.now (l.beside).batch l.round 0 l.initial.reader l.reader l.answers.items;
  loads : CountsLoads l.fn.reader l.reader l.fn.steps l.steps;
}
