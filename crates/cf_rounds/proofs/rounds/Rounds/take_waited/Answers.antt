use Rattle.std.proofs.Common.{◌∙◌, ap, length}
use Rattle.std.proofs.lemmas.List.{with_items_is}
use Rattle.cf_window.specs.Held.{count_of}
use Rattle.cf_rounds.proofs.Moving.{rounds_kept}
use Rattle.cf_rounds.proofs.rounds.Rounds.take_waited.Goals as goal

pub invariant_of-self-2 : goal.invariant_of-self-2
invariant_of-self-2 g c =
    let i = c.self.inside in
    let long = c.keep.auto.kept ∙ c.deref_mut.ensures.len in
    let counted = rw c.deref_mut.ensures.value at (c.keep.ensures.counted (count_of i.window)) in
    rw (with_items_is i.kept c.keep.new.kept long)
    (rounds_kept i.setup i.window c.move_on.new.window i.kept.items c.keep.new.kept i.limit c.self.invariant c.move_on.ensures.set.0
    c.in_ok-move_on.ensures.moved.count (c.keep.auto.kept ∙ ap length c.deref_mut.ensures.value) (counted c.self.invariant.counted))
