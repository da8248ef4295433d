use Rattle.std.proofs.Common.{◌≡◌, take}
use Rattle.cf_row.proofs.schema.copies.Given as goal

abbrev pub invariant-loop-attr : goal.invariant-loop-attr
invariant-loop-attr l = l.copied.items ≡ take l.attr-index l.attrs
