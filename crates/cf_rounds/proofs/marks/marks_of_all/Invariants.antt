use Rattle.std.proofs.Common.{◌≡◌, true, map, take}
use Rattle.cf_rounds.specs.Lanes.{marks_by}
use Rattle.cf_rounds.proofs.marks.marks_of_all.Given as goal

abbrev pub invariant-loop-trigger : goal.invariant-loop-trigger
invariant-loop-trigger l = l.alerts.items ≡ map (marks_by l.kept true) (take l.trigger-index l.triggers)
