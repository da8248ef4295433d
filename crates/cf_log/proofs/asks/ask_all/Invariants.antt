use Rattle.std.proofs.Common.{◌≡◌, map, take}
use Rattle.cf_plain.specs.Answered.{answer_on}
use Rattle.cf_table.specs.Values.{IsOf}
use Rattle.cf_query.specs.Asking.{HasAsked}
use Rattle.cf_log.proofs.asks.ask_all.Given as goal

abbrev pub invariant-loop-question : goal.invariant-loop-question
invariant-loop-question g l = record {
  of : IsOf (g.P.Pass.held l.pass) l.log;
  asked : HasAsked (l.log).shape (g.P.Pass.held l.fn.pass) (g.P.Pass.held l.pass);
  answers : (l.answers).items ≡ map (answer_on (l.log).shape ((g.P.Pass.held l.pass).view).seen) (take l.question-index l.questions);
}
