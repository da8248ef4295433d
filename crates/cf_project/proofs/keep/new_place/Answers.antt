use Rattle.std.proofs.Common.{◌≡◌, ◌∙◌, ◌<◌, true, false, get_or, length, ap, arith, inl, inr, sym}
use Rattle.std.proofs.lemmas.Bool.{cases_lt}
use Rattle.cf_project.specs.Keeping.{new_place}
use Rattle.cf_project.proofs.Keeping.{place_low, place_more, place_none, place_past}
use Rattle.cf_project.proofs.keep.new_place.Goals as goal
use Rattle.cf_project.proofs.keep.new_place.Goals.{then-kept-index, else-kept-index}

pub loop-index-init : goal.loop-index-init
loop-index-init c = sym (place_none c.args.kept.now)

pub overflow_add-before : goal.overflow_add-before
overflow_add-before c =
    let few = c.requires in
    let low = place_low c.args.kept.now c.loop-index.index in
    let is = c.loop-index.invariant in
    let test = c.loop-index-test.true in
    let end = c.min-index-end.ensures in
    omega (arith, few, low, is, test, end)

pub loop-index-preserved : goal.loop-index-preserved
loop-index-preserved c =
    let marks = c.args.kept.now in
    let i = c.loop-index.index in
    let test = c.loop-index-test.true in
    let end = c.min-index-end.ensures in
    let there : i < length marks = omega (arith, test, end) in
    let more = place_more marks i false there in
    let was = c.loop-index.invariant in
    elim c.if-kept-index.branch [
      | then-kept-index w ↦
          let is : get_or marks i false ≡ true = w.if-kept-index.true in
          let next = rw is at more in
          let now = w.before-is in
          omega (arith, now, was, next)
      | else-kept-index w ↦
          let is : get_or marks i false ≡ false = w.if-kept-index.false in
          let next = rw is at more in
          let now = w.before-is in
          omega (arith, now, was, next)
    ]

pub returns : goal.returns
returns c =
    let marks = c.args.kept.now in
    let place = c.args.place in
    let i = c.loop-index.index in
    let end = c.min-index-end.ensures in
    let from = c.from.ensures in
    let high = c.loop-index.auto.index-end in
    let low = c.loop-index-test.false in
    elim (cases_lt place (length marks)) [
      | inl within ↦
          let same : i ≡ place = omega (arith, end, from, high, low, within) in
          c.loop-index.invariant ∙ ap (new_place marks) same
      | inr past ↦
          let same : i ≡ length marks = omega (arith, end, from, high, low, past) in
          c.loop-index.invariant ∙ (ap (new_place marks) same ∙ place_past marks place past)
    ]
