use Rattle.std.proofs.Common.{◌≡◌, map, take}
use Rattle.cf_plain.specs.Asks.{marks_over, rows_in}
use Rattle.cf_store.specs.Ends.{AllWalked, seen_of}
use Rattle.cf_store.proofs.answers.alerts_seen.Given as goal

abbrev pub invariant-loop-trigger : goal.invariant-loop-trigger
invariant-loop-trigger l = record {
  walked : AllWalked l.initial.pass l.pass l.initial.rest l.rest;
  alerts : l.alerts.items ≡ map (λ trigger. marks_over l.fn.shared.log.shape trigger (rows_in (seen_of l.fn.shared l.initial.pass l.initial.rest))) (take l.trigger-index l.fn.triggers);
}
