use Rattle.std.proofs.Common.{◌≡◌, drop}
use Rattle.cf_filter.specs.Reading.{attr_from, attr_named}
use Rattle.cf_filter.proofs.atom.attr_of.Given as goal

abbrev pub invariant-loop-i : goal.invariant-loop-i
invariant-loop-i l = attr_from l.i (drop l.i l.attrs) l.name ≡ attr_named l.attrs l.name
