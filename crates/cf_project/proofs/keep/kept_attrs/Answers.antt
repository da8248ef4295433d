use Rattle.std.proofs.Common.{◌≡◌, ◌∙◌, ◌<◌, ◌++◌, ◌∷◌, [], List, true, false, get_or, length, take, ap₂, append-nil, arith, sym}
use Rattle.cf_row.specs.declared.schema.Attr.{Attr}
use Rattle.cf_row.specs.declared.schema.Kind.TheVariants.{U8}
use Rattle.cf_project.specs.Keeping.{keep}
use Rattle.cf_project.proofs.Keeping.{keep_more}
use Rattle.cf_project.proofs.keep.kept_attrs.Goals as goal
use Rattle.cf_project.proofs.keep.kept_attrs.Goals.{then-kept-place+in_ok-copy+in_ok-push, else-kept-place}

-- stands in for an attribute where there is none
no_attr : Attr
no_attr = record { name = []; kind = U8 }

pub loop-place-preserved : goal.loop-place-preserved
loop-place-preserved c =
    let marks = c.args.kept.now in
    let attrs = c.args.attrs.now in
    let i = c.loop-place.place in
    let test = c.loop-place-test.true in
    let same = c.requires in
    let high : i < length attrs = omega (arith, test) in
    let low : i < length marks = omega (arith, test, same) in
    let was = c.loop-place.invariant in
    elim c.if-kept-place.branch [
      | then-kept-place+in_ok-copy+in_ok-push w ↦
          let d = w.index-attrs-place.result in
          let is : get_or marks i false ≡ true = w.if-kept-place.true in
          let more = rw is at (keep_more marks attrs i false d low high) in
          let item : w.in_ok-copy.field-0 ≡ get_or attrs i d = w.in_ok-copy.ensures ∙ w.index-attrs-place.is in
          let both = ap₂ (λ (ys : List Attr) (y : Attr). ys ++ y ∷ []) was item in
          rw w.left-is (w.in_ok-push.ensures.items ∙ (both ∙ sym more))
      | else-kept-place w ↦
          let is : get_or marks i false ≡ false = w.if-kept-place.false in
          let more = rw is at (keep_more marks attrs i false no_attr low high) in
          rw w.left-is (was ∙ sym (more ∙ append-nil (keep (take i marks) (take i attrs))))
    ]
