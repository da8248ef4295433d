use Rattle.std.proofs.Common.{◌≡◌, ◌-◌}
use Rattle.cf_lines.specs.Schemas.{attrs_at}
use Rattle.cf_lines.proofs.Members.{read_on}
use Rattle.cf_lines.proofs.list.attrs_of.Given as goal

abbrev pub invariant-loop-i : goal.invariant-loop-i
invariant-loop-i l = read_on l.attrs.items (24 - l._i) l.text ≡ attrs_at 24 l.list
