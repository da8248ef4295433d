use Rattle.std.proofs.Common.{◌≡◌, ◌++◌, take, string_bytes}
use Rattle.std.specs.List.{flat_map}
use Rattle.cf_report.specs.Bodies.{number_text}
use Rattle.cf_report.proofs.body.push_each.Given as goal

abbrev pub invariant-loop-num : goal.invariant-loop-num
invariant-loop-num l = string_bytes l.text ≡ string_bytes l.initial.text ++ flat_map number_text (take l.num-index l.nums)
