use Rattle.std.proofs.Common.{◌≡◌, ◌∙◌, ◌+◌, ◌<◌, ℕ, length, length-set, refl, ap, sym, rules, arith, ◌==◌}
use Rattle.cf_row.specs.declared.schema.Attr.{Attr}
use Rattle.cf_row.specs.Words.{words_of_kind}
use Rattle.cf_row.proofs.Counts.{count_none}
use Rattle.std.proofs.lemmas.Option.{slice_get_read}
use Rattle.cf_query.proofs.Selecting.{count_front, front_few, placed_more}
use Rattle.cf_query.proofs.selection.places_of.Goals as goal

pub loop-place-init : goal.loop-place-init
loop-place-init c = record { long = refl; word = sym count_none; filled = λ k lt. absurd (omega (arith, lt)) }

pub overflow_add-word : goal.overflow_add-word
overflow_add-word c =
    let attrs = c.attrs-attrs.result.now in
    let i = c.loop-place.place in
    let lt = c.loop-place-test.true in
    let at = slice_get_read attrs (length attrs) i c.index-attrs-place.result refl lt c.index-attrs-place.is in
    let more = count_front attrs i c.index-attrs-place.result at in
    let low = front_few attrs (i + 1) (omega (arith, lt)) in
    let few = c.attrs-attrs.ensures.lawful.few in
    let same = ap (λ (xs : Rattle.std.proofs.Common.List Attr). length xs) c.attrs-attrs.ensures.attrs in
    let word = c.loop-place.invariant.word in
    let one = c.words_of_kind-word.ensures ∙ ap (λ (a : Attr). words_of_kind a.kind) (sym c.index-attrs-place.is) in
    let small : c.loop-place.word + c.words_of_kind-word.result < 256 = omega (arith, more, low, few, same, word, one, lt) in
    search (rules, small)

pub loop-place-preserved : goal.loop-place-preserved
loop-place-preserved c =
    let attrs = c.attrs-attrs.result.now in
    let i = c.loop-place.place in
    let lt = c.loop-place-test.true in
    let v = c.loop-place.invariant in
    let at = slice_get_read attrs (length attrs) i c.index-attrs-place.result refl lt c.index-attrs-place.is in
    let more = count_front attrs i c.index-attrs-place.result at in
    let few = c.attrs-attrs.ensures.lawful.few in
    let same = ap (λ (xs : Rattle.std.proofs.Common.List Attr). length xs) c.attrs-attrs.ensures.attrs in
    let long = v.long in
    let word = v.word in
    let one = c.words_of_kind-word.ensures ∙ ap (λ (a : Attr). words_of_kind a.kind) (sym c.index-attrs-place.is) in
    record {
      long = length-set c.loop-place.places i c.loop-place.word ∙ long;
      word = omega (arith, more, word, one);
      filled = placed_more attrs c.loop-place.places i c.loop-place.word (omega (arith, lt, few, same, long)) v.filled word;
    }
