use Rattle.cf_table.specs.Loads.{CountsLoads}
use Rattle.cf_table.specs.Values.{IsOf, PassValue}
use Rattle.cf_load.specs.Rounds.{HasAskedSome}
use Rattle.cf_load.proofs.reader.ask_round.Given as goal

abbrev pub invariant-loop-turn : goal.invariant-loop-turn
invariant-loop-turn g l = record {
  of : IsOf l.reader l.log;
  asked : (start : PassValue) → HasAskedSome (l.log).shape l.plan l.prior (l.beside).batch l.round 0 start l.initial.reader l.initial.answers.items
      → HasAskedSome (l.log).shape l.plan l.prior (l.beside).batch l.round l.turn start l.reader l.answers.items;
  loads : CountsLoads l.fn.reader l.reader l.fn.steps l.steps;
}
