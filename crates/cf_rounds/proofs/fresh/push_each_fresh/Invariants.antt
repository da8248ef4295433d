use Rattle.std.proofs.Common.{◌≡◌, ◌++◌, take, string_bytes}
use Rattle.std.specs.List.{flat_map}
use Rattle.cf_rounds.specs.Lines.{fresh_line}
use Rattle.cf_rounds.proofs.fresh.push_each_fresh.Given as goal

abbrev pub invariant-loop-mark : goal.invariant-loop-mark
invariant-loop-mark l = string_bytes l.text ≡ string_bytes l.initial.text ++ flat_map (fresh_line l.name l.to) (take l.mark-index l.marks)
