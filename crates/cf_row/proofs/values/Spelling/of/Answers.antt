use Rattle.std.proofs.Common.{◌≡◌, ◌<◌, ◌≤◌, ◌++◌, ℕ, List, length, take, get_or, true, arith, rules, refl, ap, ap₂, sym, ◌∙◌, length-append}
use Rattle.std.proofs.lemmas.List.{length-set, length-take-le, take_all}
use Rattle.cf_row.specs.declared.schema.TheConstants.{MOST_ATTRS}
use Rattle.cf_row.specs.declared.row.Value.{Value}
use Rattle.cf_row.specs.declared.row.Value.TheVariants.{Num}
use Rattle.cf_row.specs.Row.{is_of_kind, values_fit}
use Rattle.cf_row.specs.Kept.{kind_of, attrs_of, values_kept, AreKept}
use Rattle.cf_row.specs.Words.{values_words, value_words, words_of_kind}
use Rattle.cf_row.proofs.Spelling.{words_none, words_more}
use Rattle.cf_row.proofs.Kept.{fit_more, packed_kept, too_many_words}
use Rattle.cf_row.proofs.values.Spelling.of.Goals as goal

pub loop-place-init : goal.loop-place-init
loop-place-init c = record { long = refl; room = refl; fit = refl; end = ap (length {A = ℕ}) (sym words_none); spelled = sym words_none }

pub loop-place-preserved : goal.loop-place-preserved
loop-place-preserved c =
    let vs : List Value = c.args.values.now in
    let i = c.loop-place.place in
    let v : Value = get_or vs i (Num 0) in
    let lt : i < length vs = c.loop-place-test.true in
    let m = words_more vs i (Num 0) lt in
    let one : is_of_kind (kind_of c.in-Some.len) v ≡ true = search (rules, c.in-Some.ensures) in record {
      long = length-set c.loop-place.lens i c.in-Some.len ∙ c.loop-place.invariant.long;
      room = omega (arith, c.put_value-at.auto.out, c.loop-place.invariant.room);
      fit = fit_more c.loop-place.lens vs i c.in-Some.len lt
          (omega (arith, lt, c.if-values-gt-FEW.false, c.loop-place.invariant.long)) one c.loop-place.invariant.fit;
      end = omega (
        arith,
        ap (length {A = ℕ}) m,
        length-append (values_words (take i vs)) (value_words v),
        c.loop-place.invariant.end,
        c.put_value-at.ensures.end,
      );
      spelled = c.put_value-at.ensures.words ∙ (ap (λ (ws : List ℕ). ws ++ value_words v) c.loop-place.invariant.spelled ∙ sym m);
    }

-- all values came
kept : (vs : List Value) (lens words : List ℕ) (i at : ℕ) → i ≤ length vs → length vs ≤ i → length vs ≤ MOST_ATTRS → length lens ≡ MOST_ATTRS
    → values_fit (attrs_of (take i lens)) (take i vs) ≡ true → take at words ≡ values_words (take i vs)
    → AreKept (take (length vs) lens) (take at words) × (values_kept (take (length vs) lens) (take at words) ≡ vs)
kept vs lens words i at le ge few long fit spells =
    let end : i ≡ length vs = omega (arith, le, ge) in
    let all : take i vs ≡ vs = take_all i vs ge in
    let short : length (take (length vs) lens) ≤ MOST_ATTRS = omega (arith, few, length-take-le (length vs) lens (omega (arith, few, long))) in
    packed_kept (take (length vs) lens) (take at words) vs short (spells ∙ ap values_words all)
    (ap₂ (λ (n : ℕ) (ys : List Value). values_fit (attrs_of (take n lens)) ys) (sym end) (sym all) ∙ fit)

pub invariant_of-result : goal.invariant_of-result
invariant_of-result c =
    let k = kept c.args.values.now c.loop-place.lens c.loop-place.words c.loop-place.place c.loop-place.at c.loop-place.auto.place-end c.loop-place-test.false
    c.if-values-gt-FEW.false c.loop-place.invariant.long c.loop-place.invariant.fit c.loop-place.invariant.spelled in
    (k.0, omega (arith, c.if-values-gt-FEW.false, c.loop-place.invariant.long))

pub returns-clause-same : goal.returns-clause-same
returns-clause-same c =
    (kept c.args.values.now c.loop-place.lens c.loop-place.words c.loop-place.place c.loop-place.at c.loop-place.auto.place-end c.loop-place-test.false
    c.if-values-gt-FEW.false c.loop-place.invariant.long c.loop-place.invariant.fit c.loop-place.invariant.spelled).1

pub returns-then-at-kind_words-gt-FEW-clause-none : goal.returns-then-at-kind_words-gt-FEW-clause-none
returns-then-at-kind_words-gt-FEW-clause-none c =
    let one : is_of_kind (kind_of c.in-Some.len) (get_or c.args.values.now c.loop-place.place (Num 0)) ≡ true = search (rules, c.in-Some.ensures) in
    too_many_words c.args.values.now c.loop-place.place c.loop-place.at c.in-Some.len c.loop-place-test.true c.loop-place.invariant.end one
    (omega (arith, ap words_of_kind c.kind_of.ensures, c.kind_words.ensures, c.if-at-kind_words-gt-FEW.true))
