use Rattle.std.proofs.Common.{◌≡◌, ◌++◌, map, take, string_bytes}
use Rattle.std.specs.List.{flat_map}
use Rattle.cf_plain.specs.Groups.{pair_of}
use Rattle.cf_report.specs.Bodies.{group_text}
use Rattle.cf_report.proofs.body.push_each_group.Given as goal

abbrev pub invariant-loop-group : goal.invariant-loop-group
invariant-loop-group l = string_bytes l.text ≡ string_bytes l.initial.text ++ flat_map group_text (map pair_of (take l.group-index l.groups))
