use Rattle.std.proofs.Common.{◌≡◌, ◌+◌, ◌*◌, ◌^◌, ◌<◌, ◌∙◌, ap, ℕ, arith}
use Rattle.std.specs.BTreeMap.{insert_entry}
use Rattle.std.specs.Ordering.{nat_cmp}
use Rattle.cf_plain.specs.declared.answer.Fired.{Fired}
use Rattle.cf_watch.proofs.Putting.{put_pair}
use Rattle.cf_watch.proofs.pair_marks.put.Goals as goal

pub returns : goal.returns
returns c =
    let number : ℕ = c.from.result * 2 ^ 64 + c.from-2.result in
    let low : c.args.pair.now.bucket < 2 ^ 64 = omega (arith, c.number-key.ensures, c.number-key.type_inv) in
    let is : number ≡ c.args.bucket * 2 ^ 64 + c.args.pair.now.bucket = omega (arith, c.from.ensures, c.from-2.ensures, c.number-key.ensures) in
    put_pair c.args.values.now.entries c.insert.new.self.entries c.args.bucket number c.args.trigger.now c.args.pair.now low is
    (c.in_ok-insert.ensures.entries ∙ ap (λ (m : Fired). insert_entry nat_cmp c.args.values.now.entries number m.value) c.mark-mark.ensures)
