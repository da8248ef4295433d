use Rattle.std.proofs.Common.{◌≡◌, ◌+◌, ◌++◌, take, string_bytes}
use Rattle.std.specs.List.{flat_map}
use Rattle.cf_report.specs.Bodies.{number_text}
use Rattle.cf_rounds.proofs.body.push_each.Given as goal

abbrev pub invariant-loop-place : goal.invariant-loop-place
invariant-loop-place l = string_bytes l.text ≡ string_bytes l.initial.text ++ flat_map (λ place. number_text (l.from + place)) (take l.place-index l.places)
