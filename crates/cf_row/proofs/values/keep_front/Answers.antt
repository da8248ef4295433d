use Rattle.std.proofs.Common.{◌∙◌, ℕ, ◌+◌, ◌<◌, get_or, length, set, ap, arith, subst, sym}
use Rattle.cf_row.proofs.Fronts.{IsFront, front_end, front_moved, front_stays, some_item}
use Rattle.cf_row.proofs.values.keep_front.Goals as goal
use Rattle.cf_row.proofs.values.keep_front.Goals.{then-kept-place, else-kept-place}

pub loop-place-preserved : goal.loop-place-preserved
loop-place-preserved g c =
    let marks = c.args.kept.now in
    let initial = c.args.items.now in
    let items = c.loop-place.items in
    let place = c.loop-place.place in
    let test = c.loop-place-test.true in
    let long = c.loop-place.auto.items in
    let fits = c.requires in
    let high : place < length items = omega (arith, test, long, fits) in
    elim c.if-kept-place.branch [
      | then-kept-place w ↦
          let d = w.index-items-place.result in
          let moved = front_moved marks initial items c.loop-place.count place d c.loop-place.invariant test high long w.if-kept-place.true in
          let stored = w.items-is ∙ ap (λ y. set items c.loop-place.count y) w.index-items-place.is in
          subst (λ xs. IsFront marks initial xs c.if-kept-place.count (place + 1)) (sym stored)
          (subst (λ (n : ℕ). IsFront marks initial (set items c.loop-place.count (get_or items place d)) n (place + 1)) (sym w.count-is) moved)
      | else-kept-place w ↦
          subst (λ xs. IsFront marks initial xs c.if-kept-place.count (place + 1)) (sym w.items-is)
          (subst (λ (n : ℕ). IsFront marks initial items n (place + 1)) (sym w.count-is)
          (front_stays marks initial items c.loop-place.count place (some_item items place high) c.loop-place.invariant test high long w.if-kept-place.false))
    ]

pub returns-clause-kept : goal.returns-clause-kept
returns-clause-kept g c =
    let test = c.loop-place-test.false in
    let ends = c.loop-place.auto.place-end in
    (front_end c.args.kept.now c.args.items.now c.loop-place.items c.loop-place.count c.loop-place.place c.loop-place.invariant (omega (arith, test, ends))).0

pub returns-clause-count : goal.returns-clause-count
returns-clause-count g c =
    let test = c.loop-place-test.false in
    let ends = c.loop-place.auto.place-end in
    (front_end c.args.kept.now c.args.items.now c.loop-place.items c.loop-place.count c.loop-place.place c.loop-place.invariant (omega (arith, test, ends))).1
