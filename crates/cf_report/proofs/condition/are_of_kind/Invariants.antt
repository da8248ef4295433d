use Rattle.std.proofs.Common.{◌≡◌, true, take}
use Rattle.std.specs.List.{All}
use Rattle.cf_report.specs.Answered.{is_body_of, tolds_of}
use Rattle.cf_report.proofs.condition.are_of_kind.Given as goal

abbrev pub invariant-loop-place : goal.invariant-loop-place
invariant-loop-place l = All (λ told. is_body_of told.ask told.body ≡ true) (take l.place (tolds_of l.asks l.finals))
