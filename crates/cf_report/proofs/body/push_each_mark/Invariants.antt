use Rattle.std.proofs.Common.{◌≡◌, ◌++◌, take, string_bytes}
use Rattle.std.specs.List.{flat_map}
use Rattle.cf_report.specs.Bodies.{mark_text}
use Rattle.cf_report.proofs.body.push_each_mark.Given as goal

abbrev pub invariant-loop-mark : goal.invariant-loop-mark
invariant-loop-mark l = string_bytes l.text ≡ string_bytes l.initial.text ++ flat_map mark_text (take l.mark-index l.marks)
