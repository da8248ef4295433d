use Rattle.std.proofs.Common.{◌≡◌, ◌∙◌, ◌++◌, ◌∷◌, [], ℕ, List, Some, length, map, min, take, drop, slice_get, ap, ap₂, sym, subst, arith, length-set}
use Rattle.std.proofs.lemmas.List.{take-append-drop}
use Rattle.cf_log.proofs.Chained.{took_more, stored_more, rest_more}
use Rattle.cf_row.specs.declared.schema.Attr.{Attr}
use Rattle.cf_row.specs.declared.row.Value.{Value}
use Rattle.cf_row.specs.declared.row.Value.TheVariants.{Num}
use Rattle.cf_store.specs.declared.shown.ShownValue.{ShownValue}
use Rattle.cf_store.specs.Values.{plain_of}
use Rattle.cf_store.proofs.Laid.{fit_long, mapped_at}
use Rattle.cf_store.proofs.values.show_row.Goals as goal

pub loop-k-preserved : goal.loop-k-preserved
loop-k-preserved c =
    let v = c.loop-k.invariant in
    let k = c.loop-k.k in
    let x = c.plain_of.result in
    let values = c.args.row.now.values in
    let low = c.loop-k-test.true in
    let end = c.min-k-end.ensures in
    let long = v.long in
    let attrs = ap (λ (xs : List Attr). length xs) c.attrs-count.ensures.attrs in
    let fit = fit_long c.args.schema.now values c.requires in
    let at : slice_get (map plain_of values) k ≡ Some x = mapped_at plain_of values k (Num 0) (omega (arith, low, end, attrs, fit))
    ∙ ap (λ (y : ShownValue). Some y) (ap (λ (y : Value). plain_of y) (sym c.get.ensures) ∙ sym c.plain_of.ensures) in
    record {
      front = stored_more c.loop-k.out k x (omega (arith, low, end, long))
          ∙ (ap (λ (xs : List ShownValue). xs ++ x ∷ []) v.front ∙ sym (took_more (map plain_of values) k x at));
      after = rest_more c.loop-k.out c.args.out.now k x v.after;
      long = length-set c.loop-k.out k x ∙ v.long;
    }

pub returns : goal.returns
returns c =
    let v = c.loop-k.invariant in
    let k = c.loop-k.k in
    let values = c.args.row.now.values in
    let past = c.loop-k-test.false in
    let far = c.loop-k.auto.k-end in
    let end = c.min-k-end.ensures in
    let same : k ≡ min (length c.attrs-count.result.now) (length c.args.out.now) = omega (arith, past, far, end) in
    record {
      count_is = ap (λ (xs : List Attr). length xs) c.attrs-count.ensures.attrs ∙ sym (fit_long c.args.schema.now values c.requires);
      after_is = subst (λ (i : ℕ). c.loop-k.out ≡ take i (map plain_of values) ++ drop i c.args.out.now) same
          (sym (take-append-drop k c.loop-k.out) ∙ ap₂ (λ (xs ys : List ShownValue). xs ++ ys) v.front v.after);
    }
