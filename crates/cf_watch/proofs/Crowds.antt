-- Which buckets are crowded, ascending.
use Rattle.std.proofs.Common.{◌≡◌, ℕ, ◌+◌, ◌<◌, true, false, cond, List, [], ◌∷◌, ◌++◌, length, take, get_or, map, filter, fold, refl, sym, ap, ◌∙◌, inl, inr, arith, append-nil}
use Rattle.std.proofs.lemmas.Bool.{eq-eqb, ne_eqb, lt-ltb, le-ltb, cases_order}
use Rattle.std.proofs.lemmas.List.{map-append}
use Rattle.std.proofs.lemmas.List.Sums.{fold_push}
use Rattle.std.proofs.lemmas.List.Elements.{filter_more}
use Rattle.std.specs.BTreeSet.{insert_key}
use Rattle.std.specs.Ordering.{nat_cmp}
use Rattle.cf_plain.specs.Groups.{insert_into}
use Rattle.cf_watch.specs.Pairs.{ApartValue}
use Rattle.cf_watch.specs.PairMarks.{crowds_on, is_crowd_untold}

inserted : (ns : List ℕ) (n : ℕ) → insert_key nat_cmp ns n ≡ insert_into ns n
inserted [] n = refl
inserted (m ∷ ms) n = elim (cases_order n m) [
  | inl same ↦ rw (le-ltb n m (omega (arith, same)), eq-eqb n m same) refl
  | inr (inl below) ↦ rw (lt-ltb n m below) refl
  | inr (inr above) ↦ rw (le-ltb n m (omega (arith, above)), ne_eqb n m (λ same. omega (arith, same, above))) (ap (λ ns. m ∷ ns) (inserted ms n))
]

-- a bucket more that is one of them
pub crowd_more : (kept : List ApartValue) (i : ℕ) (d : ApartValue) (before after : List ℕ) → i < length kept → is_crowd_untold (get_or kept i d) ≡ true
    → before ≡ crowds_on (take i kept) → after ≡ insert_key nat_cmp before (get_or kept i d).bucket → after ≡ crowds_on (take (i + 1) kept)
crowd_more kept i d before after lt pass is put =
    let some : filter is_crowd_untold (take (i + 1) kept) ≡ filter is_crowd_untold (take i kept) ++ get_or kept i d ∷ [] =
    filter_more is_crowd_untold kept i d lt ∙ ap (λ b. filter is_crowd_untold (take i kept) ++ cond b (get_or kept i d ∷ []) []) pass in
    put ∙ inserted before (get_or kept i d).bucket ∙ ap (λ ns. insert_into ns (get_or kept i d).bucket) is
    ∙ sym (fold_push insert_into [] (map (λ a. a.bucket) (filter is_crowd_untold (take i kept))) (get_or kept i d).bucket)
    ∙ sym (ap (λ ks. fold insert_into [] ks) (ap (λ ks. map (λ a. a.bucket) ks) some ∙ map-append (λ (a : ApartValue). a.bucket) (filter is_crowd_untold (take i kept)) (get_or kept i d ∷ [])))

-- one that is not
pub crowd_same : (kept : List ApartValue) (i : ℕ) (d : ApartValue) (before : List ℕ) → i < length kept → is_crowd_untold (get_or kept i d) ≡ false
    → before ≡ crowds_on (take i kept) → before ≡ crowds_on (take (i + 1) kept)
crowd_same kept i d before lt fail is =
    let none : filter is_crowd_untold (take (i + 1) kept) ≡ filter is_crowd_untold (take i kept) =
    filter_more is_crowd_untold kept i d lt ∙ ap (λ b. filter is_crowd_untold (take i kept) ++ cond b (get_or kept i d ∷ []) []) fail
    ∙ append-nil (filter is_crowd_untold (take i kept)) in
    rw none is
