use Rattle.std.proofs.Common.{◌∙◌, ℕ, List, length, ap, ap₂, arith, refl, subst, sym}
use Rattle.cf_row.specs.declared.row.Value.{Value}
use Rattle.cf_row.specs.Kept.{AreKept, AreWithin, values_kept, words_in}
use Rattle.cf_row.specs.Keeping.{keep}
use Rattle.cf_row.proofs.Keeping.{are_marked, keep_fewer, kept_left, values_left, words_left}
use Rattle.cf_row.proofs.values.Spelling.keep.Goals as goal

pub keep_front-left-requires : goal.keep_front-left-requires
keep_front-left-requires c =
    let are = are_marked c.args.kept.now c.self.inside.count c.self.inside.lens c.self.inside.words
    (c.requires ∙ sym (ap (λ (vs : List Value). length vs) c.self.view_is)) c.self.invariant.0 c.self.invariant.1 (c.if-not-are_within.ensures.within refl) in
    let number = are.number in
    let fits = c.self.invariant.1 in
    omega (arith, number, fits)

pub overflow_cast-left : goal.overflow_cast-left
overflow_cast-left c =
    let count = c.keep_front-left.ensures.count in
    let fewer = keep_fewer c.args.kept.now c.self.inside.lens in
    let long = c.self.told in
    omega (arith, count, fewer, long)

pub keep-requires-clause-few : goal.keep-requires-clause-few
keep-requires-clause-few c =
    let are = are_marked c.args.kept.now c.self.inside.count c.self.inside.lens c.self.inside.words
    (c.requires ∙ sym (ap (λ (vs : List Value). length vs) c.self.view_is)) c.self.invariant.0 c.self.invariant.1 (c.if-not-are_within.ensures.within refl) in
    let number = are.number in
    let fits = c.self.invariant.1 in
    let long = c.self.told in
    omega (arith, number, fits, long)

pub keep-requires-clause-within : goal.keep-requires-clause-within
keep-requires-clause-within c =
    let are = are_marked c.args.kept.now c.self.inside.count c.self.inside.lens c.self.inside.words
    (c.requires ∙ sym (ap (λ (vs : List Value). length vs) c.self.view_is)) c.self.invariant.0 c.self.invariant.1 (c.if-not-are_within.ensures.within refl) in
    subst (λ (n : ℕ). AreWithin n c.self.inside.words) (sym are.number) (c.if-not-are_within.ensures.within refl)

pub keep-requires-clause-left : goal.keep-requires-clause-left
keep-requires-clause-left c =
    let are = are_marked c.args.kept.now c.self.inside.count c.self.inside.lens c.self.inside.words
    (c.requires ∙ sym (ap (λ (vs : List Value). length vs) c.self.view_is)) c.self.invariant.0 c.self.invariant.1 (c.if-not-are_within.ensures.within refl) in
    c.keep_front-left.ensures.count ∙ sym (words_left c.args.kept.now c.self.inside.count c.self.inside.lens (words_in c.self.inside.words) are)

pub invariant_of-self : goal.invariant_of-self
invariant_of-self c =
    let marks = c.args.kept.now in
    let are = are_marked c.args.kept.now c.self.inside.count c.self.inside.lens c.self.inside.words
    (c.requires ∙ sym (ap (λ (vs : List Value). length vs) c.self.view_is)) c.self.invariant.0 c.self.invariant.1 (c.if-not-are_within.ensures.within refl) in
    let count = c.keep_front-left.ensures.count in
    let fewer = keep_fewer marks c.self.inside.lens in
    let long = c.keep_front-left.auto.items in (
      subst (λ (xs : List ℕ). AreKept xs (words_in c.keep.new.self)) (sym c.keep_front-left.ensures.kept)
          (subst (λ (ws : List ℕ). AreKept (keep marks c.self.inside.lens) ws) (sym c.keep.ensures)
          (kept_left marks c.self.inside.count c.self.inside.lens (words_in c.self.inside.words) are)),
      omega (arith, count, fewer, long),
    )

pub returns-clause-left : goal.returns-clause-left
returns-clause-left c = λ yes.
    let marks = c.args.kept.now in
    let are = are_marked c.args.kept.now c.self.inside.count c.self.inside.lens c.self.inside.words
    (c.requires ∙ sym (ap (λ (vs : List Value). length vs) c.self.view_is)) c.self.invariant.0 c.self.invariant.1 (c.if-not-are_within.ensures.within refl) in
    ap₂ (λ (xs ws : List ℕ). values_kept xs ws) c.keep_front-left.ensures.kept c.keep.ensures
    ∙ (values_left marks c.self.inside.count c.self.inside.lens (words_in c.self.inside.words) are
    ∙ ap (λ (vs : List Value). keep marks vs) c.self.view_is)
