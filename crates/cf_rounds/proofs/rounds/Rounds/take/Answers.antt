use Rattle.std.proofs.Common.{◌∙◌, ◌<◌, ℕ, ap, arith, length, subst, sym}
use Rattle.std.proofs.lemmas.List.{with_items_is}
use Rattle.cf_window.specs.Held.{WindowValue, count_of}
use Rattle.cf_rounds.proofs.Moving.{gone, moved_kept, rounds_kept, rounds_still}
use Rattle.cf_rounds.proofs.rounds.Rounds.take.Goals as goal

pub invariant_of-self : goal.invariant_of-self
invariant_of-self g c =
    let w = c.self.inside.window in
    let is = c.in_err-push.ensures.answer in
    let same = ap count_of is in
    rounds_still c.self.inside.setup w c.push.new.self c.self.inside.kept.items c.self.inside.limit c.self.invariant
    (ap (λ (v : WindowValue). v.shape) is) (omega (arith, same))

pub invariant_of-self-in_err-keep-in-Gone : goal.invariant_of-self-in_err-keep-in-Gone
invariant_of-self-in_err-keep-in-Gone g c =
    let i = c.self.inside in
    let has = rw c.in-Gone.is at c.in_ok-push.ensures.answer in
    let moved = moved_kept i.window c.push.new.self c.args.row.now has in
    let long = c.keep.auto.kept ∙ c.deref_mut.ensures.len in
    let counted = rw c.deref_mut.ensures.value at (c.keep.ensures.counted (count_of i.window)) in
    rw (with_items_is i.kept c.keep.new.kept long)
    (rounds_kept i.setup i.window c.push.new.self i.kept.items c.keep.new.kept i.limit c.self.invariant (ap (λ (v : WindowValue). v.shape) has.2) moved.count
    (c.keep.auto.kept ∙ ap length c.deref_mut.ensures.value) (counted c.self.invariant.counted))

pub invariant_of-self-in-Gone : goal.invariant_of-self-in-Gone
invariant_of-self-in-Gone g c =
    let i = c.self.inside in
    let has = rw c.in-Gone.is at c.in_ok-push.ensures.answer in
    let moved = moved_kept i.window c.push.new.self c.args.row.now has in
    let long = c.keep.auto.kept ∙ c.deref_mut.ensures.len in
    let counted = rw c.deref_mut.ensures.value at (c.keep.ensures.counted (count_of i.window)) in
    rw (with_items_is i.kept c.keep.new.kept long)
    (rounds_kept i.setup i.window c.push.new.self i.kept.items c.keep.new.kept i.limit c.self.invariant (ap (λ (v : WindowValue). v.shape) has.2) moved.count
    (c.keep.auto.kept ∙ ap length c.deref_mut.ensures.value) (counted c.self.invariant.counted))

pub returns-in_ok-keep-in-Gone : goal.returns-in_ok-keep-in-Gone
returns-in_ok-keep-in-Gone g c =
    let i = c.self.inside in
    let long = c.keep.auto.kept ∙ c.deref_mut.ensures.len in
    let kept = rw (c.deref_mut.ensures.value, c.shape.ensures) at c.in_ok-keep-in-Gone.ensures.kept in
    rw (with_items_is i.kept c.keep.new.kept long)
    (record {
      answer = gone i.setup i.window i.kept.items i.every i.beat i.limit i.asked i.beaten i.last c.args.row.now c.args.self.now c.self.view_is c.push.new.self
          c.in_ok-push.field-0 c.in_ok-push.ensures.answer (subst (λ (n : ℕ). n < i.limit) c.count.ensures c.if-count-self.false) c.keep.new.kept
          c.keep.new.last c.in-Gone.is (sym c.if-forgets.ensures) kept.0 kept.1;
    })
