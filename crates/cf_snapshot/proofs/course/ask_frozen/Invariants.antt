use Rattle.std.proofs.Common.{◌≡◌, map, take}
use Rattle.cf_plain.specs.Answered.{answer_on}
use Rattle.cf_snapshot.proofs.course.ask_frozen.Given as goal

abbrev pub invariant-loop-question : goal.invariant-loop-question
invariant-loop-question l = record {
  host : l.host ≡ l.fn.host;
  answers : l.answers.items ≡ map (answer_on l.fn.host.shape l.fn.host.entries) (take l.question-index l.asks);
}
