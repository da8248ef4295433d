use Rattle.std.proofs.Common.{◌≡◌, map, take}
use Rattle.cf_plain.specs.Answered.{answer_on}
use Rattle.cf_store.specs.Ends.{AllWalked, seen_of}
use Rattle.cf_store.proofs.answers.answers_seen.Given as goal

abbrev pub invariant-loop-q : goal.invariant-loop-q
invariant-loop-q l = record {
  walked : AllWalked l.initial.pass l.pass l.initial.rest l.rest;
  answers : l.answers.items ≡ map (answer_on l.fn.shared.log.shape (seen_of l.fn.shared l.initial.pass l.initial.rest)) (take l.q l.fn.asks);
}
