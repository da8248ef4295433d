use Rattle.std.proofs.Common.{◌≡◌, true, take}
use Rattle.std.specs.List.{All}
use Rattle.cf_report.specs.Answered.{ask_at, is_body_of}
use Rattle.cf_report.proofs.condition.lives_are_of_kind.Given as goal

abbrev pub invariant-loop-live : goal.invariant-loop-live
invariant-loop-live l = All (λ live. is_body_of (ask_at l.setup live.ask) live.answer.body ≡ true) (take l.live-index l.lives)
