use Rattle.std.proofs.Common.{◌≡◌, ◌∙◌, Err, List, Ok, Result, Vec, ℕ, length, refl, rules, subst, sym}
use Rattle.std.specs.Global.{Global}
use Rattle.std.specs.declared.alloc.AllocError.{AllocError}
use Rattle.cf_handles.specs.Copied.{Copies}
use Rattle.cf_handles.specs.Ends.{CopiesText}
use Rattle.cf_handles.specs.declared.code.Code.TheVariants as codes
use Rattle.cf_handles.proofs.copies.show_text.Goals as goal

pub returns-in-Ok : goal.returns-in-Ok
returns-in-Ok c = (
  Ok c.len.result,
  subst (λ (made : Result (Vec ℕ Global) AllocError). CopiesText made c.args.text.now c.copy_part.new.out (Ok c.len.result)) (sym c.in-Ok.is) (
    (
      c.copy_part.result,
      subst (λ (items : List ℕ). Copies items 0 c.args.text.now c.copy_part.new.out c.copy_part.result) c.as_slice.ensures.value c.copy_part.ensures,
    ),
    (let long : c.in-Ok.found.len ≡ length c.in-Ok.found.items = search rules in c.len.ensures ∙ long),
  ),
  refl,
  refl,
)

pub returns-in-Err : goal.returns-in-Err
returns-in-Err c = (
  Err codes.Memory,
  subst (λ (made : Result (Vec ℕ Global) AllocError). CopiesText made c.args.text.now c.args.text.now (Err codes.Memory)) (sym c.in-Err.is) (refl, refl),
  c.number.ensures,
  refl,
)
