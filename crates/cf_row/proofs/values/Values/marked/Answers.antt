use Rattle.std.proofs.Common.{◌∙◌, ◌<◌, ◌++◌, ◌∷◌, [], List, false, length, take, ap₂, append-nil, arith, sym}
use Rattle.cf_row.specs.declared.row.Value.{Value}
use Rattle.cf_row.specs.declared.row.Value.TheVariants.{Num}
use Rattle.cf_row.specs.Kept.{values_of}
use Rattle.cf_row.specs.Keeping.{keep}
use Rattle.cf_row.proofs.Keeping.{keep_more}
use Rattle.cf_row.proofs.values.Values.marked.Goals as goal
use Rattle.cf_row.proofs.values.Values.marked.Goals.{then-kept-place+in_ok-push, else-kept-place}

pub loop-place-preserved : goal.loop-place-preserved
loop-place-preserved c =
    let marks = c.args.kept.now in
    let values = values_of c.args.self.now in
    let i = c.loop-place.place in
    let test = c.loop-place-test.true in
    let same = c.requires in
    let high : i < length values = omega (arith, test, same) in
    let was = c.loop-place.invariant in
    elim c.if-kept-place.branch [
      | then-kept-place+in_ok-push w ↦
          let more = rw w.if-kept-place.true at (keep_more marks values i false (Num 0) test high) in
          rw w.left-is (w.in_ok-push.ensures.items ∙ (ap₂ (λ (ys : List Value) (y : Value). ys ++ y ∷ []) was w.at.ensures ∙ sym more))
      | else-kept-place w ↦
          let more = rw w.if-kept-place.false at (keep_more marks values i false (Num 0) test high) in
          rw w.left-is (was ∙ sym (more ∙ append-nil (keep (take i marks) (take i values))))
    ]
