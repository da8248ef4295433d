use Rattle.std.proofs.Common.{◌≡◌, ◌-◌, ◌+◌, ◌==◌, suc, length, true, false, Some, None, sym, ap, ◌∙◌, arith}
use Rattle.cf_row.specs.declared.schema.Attr.{Attr}
use Rattle.cf_filter.specs.declared.bytes.Class.TheVariants as classes
use Rattle.cf_filter.specs.Tokens.{run, past}
use Rattle.cf_lines.specs.Schemas.{member_at, attrs_at}
use Rattle.cf_lines.proofs.Members.{read_on, read_bad, read_last, read_more, read_full}
use Rattle.cf_lines.proofs.list.attrs_of.Goals as goal

pub returns-in_default : goal.returns-in_default
returns-in_default c =
    let none : member_at (run (classes.Except 44) c.loop-i.text.now) ≡ None = ap member_at (sym c.split.ensures.run) ∙ sym c.in_default.ensures.parts in
    let more : 24 - c.loop-i._i ≡ suc (23 - c.loop-i._i) = omega arith in
    sym (read_bad c.loop-i.attrs.items (24 - c.loop-i._i) (23 - c.loop-i._i) c.loop-i.text.now more none) ∙ c.loop-i.invariant

pub returns-then-is_empty : goal.returns-then-is_empty
returns-then-is_empty c =
    let attr : Attr = record { name = c.in-Some.name.now; kind = c.in-Some.kind } in
    let found : member_at (run (classes.Except 44) c.loop-i.text.now) ≡ Some attr = ap member_at (sym c.split.ensures.run) ∙ sym c.in-Some.ensures.parts in
    let more : 24 - c.loop-i._i ≡ suc (23 - c.loop-i._i) = omega arith in
    let last : (length (past (classes.Except 44) c.loop-i.text.now) == 0) ≡ true = ap (λ rest. length rest == 0) (sym c.split.ensures.rest)
    ∙ sym c.is_empty.ensures ∙ c.if-is_empty.true in
    rw (c.in_ok-push.ensures.items, c.in_ok-from_ascii.ensures)
    (sym (read_last c.loop-i.attrs.items (24 - c.loop-i._i) (23 - c.loop-i._i) c.loop-i.text.now attr more found last) ∙ c.loop-i.invariant)

pub loop-i-preserved : goal.loop-i-preserved
loop-i-preserved c =
    let attr : Attr = record { name = c.in-Some.name.now; kind = c.in-Some.kind } in
    let found : member_at (run (classes.Except 44) c.loop-i.text.now) ≡ Some attr = ap member_at (sym c.split.ensures.run) ∙ sym c.in-Some.ensures.parts in
    let more : 24 - c.loop-i._i ≡ suc (24 - (c.loop-i._i + 1)) = omega arith in
    let some : (length (past (classes.Except 44) c.loop-i.text.now) == 0) ≡ false = ap (λ rest. length rest == 0) (sym c.split.ensures.rest)
    ∙ sym c.is_empty.ensures ∙ c.if-is_empty.false in
    rw (c.in_ok-push.ensures.items, c.in_ok-from_ascii.ensures, c.split_at.ensures.back, c.split.ensures.rest)
    (sym (read_more c.loop-i.attrs.items (24 - c.loop-i._i) (24 - (c.loop-i._i + 1)) c.loop-i.text.now attr more found some) ∙ c.loop-i.invariant)

pub returns : goal.returns
returns c =
    let none : c.loop-i._i ≡ 24 = omega arith in
    let full : read_on c.loop-i.attrs.items 0 c.loop-i.text.now ≡ attrs_at 24 c.args.list.now = rw none at c.loop-i.invariant in
    sym (read_full c.loop-i.attrs.items c.loop-i.text.now) ∙ full
