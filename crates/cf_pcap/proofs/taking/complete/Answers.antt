use Rattle.std.proofs.Common.{◌≡◌, ◌≤◌, ◌-◌, ◌++◌, length, take, drop, sym, ap, ◌∙◌, arith, append_assoc, length-drop}
use Rattle.std.proofs.Math.Seq.{take-add}
use Rattle.cf_pcap.proofs.taking.complete.Goals as goal

pub returns-in-Ok-clause-filled : goal.returns-in-Ok-clause-filled
returns-in-Ok-clause-filled c =
    let held = c.args.held.now.items in
    let more = c.args.more.now in
    let n = c.in_ok-first.first in
    let m = c.in-Ok.second in
    let first = c.in_ok-first.ensures.filled in
    let second = c.in-Ok.ensures.filled in
    let rest : c.split_at.result.1.now ≡ drop n more = c.split_at.ensures.back in
    let few : m ≤ length c.split_at.result.1.now = second.0 in
    let left : length c.split_at.result.1.now ≡ length more - n = ap length rest ∙ length-drop n more in
    let some : n ≤ length more = first.0 in (
      omega (arith, few, left, some),
      second.1 ∙ ap (λ xs. xs ++ take m c.split_at.result.1.now) first.1 ∙ ap (λ xs. (held ++ take n more) ++ take m xs) rest
          ∙ append_assoc held (take n more) (take m (drop n more)) ∙ ap (λ xs. held ++ xs) (sym (take-add n m more)),
    )
