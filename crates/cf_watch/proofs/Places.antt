-- The buckets and keys of marks, and what is new.
use Rattle.std.proofs.Common.{◌≡◌, ℕ, ◌+◌, ◌<◌, Bool, true, false, cond, not, ◌||◌, ◌&&◌, ◌==◌, List, [], ◌∷◌, ◌++◌, length, take, get_or, refl, sym, ap, ◌∙◌, inl, inr, arith, Option, Some, None}
use Rattle.std.proofs.lemmas.Bool.{eq-eqb, ne_eqb, lt-ltb, le-ltb, cases_order}
use Rattle.std.proofs.lemmas.List.Folds.{list_any_more}
use Rattle.std.proofs.lemmas.List.Elements.{filter_more}
use Rattle.std.specs.List.{list_any}
use Rattle.std.specs.Option.{option_cmp, option_eq}
use Rattle.std.specs.Ordering.{nat_cmp, is_eq, ordering_then}
use Rattle.std.specs.declared.cmp.Ordering.{Ordering}
use Rattle.std.specs.declared.cmp.Ordering.TheVariants.{Less, Equal, Greater}
use Rattle.cf_plain.specs.declared.answer.Fired.{Fired}
use Rattle.cf_watch.specs.New.{newly, has_place_of, is_on, place_cmp}

pub is_eq-nat_cmp : (a b : ℕ) → is_eq (nat_cmp a b) ≡ (a == b)
is_eq-nat_cmp a b = elim (cases_order a b) [
  | inl e ↦ rw (le-ltb a b (omega (arith, e)), eq-eqb a b e) refl
  | inr (inl below) ↦ rw (lt-ltb a b below, ne_eqb a b (λ e. omega (arith, e, below))) refl
  | inr (inr above) ↦ rw (le-ltb a b (omega (arith, above)), ne_eqb a b (λ e. omega (arith, e, above))) refl
]

is_eq-then : (o p : Ordering) → is_eq (ordering_then o p) ≡ (is_eq o && is_eq p)
is_eq-then Less p = refl
is_eq-then Equal p = refl
is_eq-then Greater p = refl

is_eq-option_cmp : (a b : Option ℕ) → is_eq (option_cmp nat_cmp a b) ≡ option_eq (λ x y. x == y) a b
is_eq-option_cmp None None = refl
is_eq-option_cmp None (Some y) = refl
is_eq-option_cmp (Some x) None = refl
is_eq-option_cmp (Some x) (Some y) = is_eq-nat_cmp x y

is_eq-place_cmp : (mark : Fired) (q : ℕ × Option ℕ) → is_eq (place_cmp (mark.bucket, mark.key) q) ≡ is_on q mark
is_eq-place_cmp mark q = is_eq-then (nat_cmp mark.bucket q.0) (option_cmp nat_cmp mark.key q.1)
    ∙ rw (is_eq-nat_cmp mark.bucket q.0, is_eq-option_cmp mark.key q.1) refl

cond_or : (b had : Bool) → cond b true had ≡ (had || b)
cond_or true true = refl
cond_or true false = refl
cond_or false true = refl
cond_or false false = refl

cond_not : (b : Bool) (x : Fired) → cond (not b) (x ∷ []) [] ≡ cond b [] (x ∷ [])
cond_not true x = refl
cond_not false x = refl

pub place_more : (marks : List Fired) (i : ℕ) (q : ℕ × Option ℕ) (d : Fired) (had : Bool) → i < length marks → had ≡ list_any (is_on q) (take i marks)
    → cond (is_eq (place_cmp ((get_or marks i d).bucket, (get_or marks i d).key) q)) true had ≡ list_any (is_on q) (take (i + 1) marks)
place_more marks i q d had lt is =
    let step : (had || is_on q (get_or marks i d)) ≡ list_any (is_on q) (take (i + 1) marks) =
    rw is (sym (list_any_more (is_on q) marks i d lt)) in
    ap (λ b. cond b true had) (is_eq-place_cmp (get_or marks i d) q) ∙ cond_or (is_on q (get_or marks i d)) had ∙ step

pub new_more : (before now : List Fired) (i : ℕ) (d : Fired) (had : Bool) → i < length now → had ≡ has_place_of before (get_or now i d)
    → newly before (take (i + 1) now) ≡ newly before (take i now) ++ cond had [] (get_or now i d ∷ [])
new_more before now i d had lt is = filter_more (λ mark. not (has_place_of before mark)) now i d lt
    ∙ rw (sym is) (ap (λ xs. newly before (take i now) ++ xs) (cond_not had (get_or now i d)))
