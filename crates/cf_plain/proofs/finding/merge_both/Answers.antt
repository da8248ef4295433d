use Rattle.std.proofs.Common.{sym}
use Rattle.cf_plain.proofs.Ascending.{after_none, before_none}
use Rattle.cf_plain.proofs.finding.merge_both.Goals as goal

pub returns-then-is_empty : goal.returns-then-is_empty
returns-then-is_empty c =
    rw (sym c.as_slice-left.ensures, sym c.as_slice-right.ensures) (after_none c.as_slice-left.result.now c.as_slice-right.result.now c.if-is_empty.ensures
    (c.ascends-else-not-ascends.ensures.0 c.if-not-ascends-2.false))

pub returns-then-is_empty-2 : goal.returns-then-is_empty-2
returns-then-is_empty-2 c =
    rw (sym c.as_slice-left.ensures, sym c.as_slice-right.ensures) (before_none c.as_slice-left.result.now c.as_slice-right.result.now c.if-is_empty-2.ensures
    (c.ascends.ensures.0 c.if-not-ascends.false))
