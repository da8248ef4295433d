-- What is kept of a bucket, and since when.
use Rattle.std.proofs.Common.{◌≡◌, ℕ, ◌+◌, ◌≤◌, true, false, List, [], ◌∷◌, ◌++◌, length, take, get_or, fold, All, refl, sym, ap, ◌∙◌, inl, inr, arith, append-nil, append_assoc}
use Rattle.std.proofs.lemmas.Bool.{eq-eqb, cases_lt}
use Rattle.std.proofs.lemmas.List.{length_push, take-append-le, take_all}
use Rattle.std.proofs.lemmas.List.Sums.{fold_push}
use Rattle.std.proofs.lemmas.List.Concat.{flat_map-append}
use Rattle.std.proofs.lemmas.List.Elements.{All-nil, All-contains}
use Rattle.std.proofs.lemmas.List.Folds.{list_any_at}
use Rattle.std.specs.List.{Contains}
use Rattle.cf_fold.specs.Quads.{quad_of}
use Rattle.cf_watch.specs.Kept.{AreApart, BucketValue, IsKept, is_kept, is_of, most_kept}
use Rattle.cf_watch.specs.Laws.{IsKeptSince, Step, took, told, after_step, after_steps, value_in, values_of}
use Rattle.cf_watch.proofs.Steps.{origin}
use Rattle.cf_watch.proofs.Taking.{kept_taking}
use Rattle.cf_watch.proofs.Told.{kept_telling}

abbrev Since : List Step → BucketValue → Type 0
Since steps k = (past : List Step) × (rest : List Step) × (steps ≡ past ++ rest) × IsKeptSince past rest k

one_more : (steps : List Step) (s : Step) → after_steps (steps ++ s ∷ []) ≡ after_step (after_steps steps) s
one_more steps s = fold_push after_step [] steps s

one_brings : (b : ℕ) (steps : List Step) (s : Step) → values_of b (steps ++ s ∷ []) ≡ values_of b steps ++ value_in b s
one_brings b steps s = flat_map-append (value_in b) steps (s ∷ []) ∙ ap (λ xs. values_of b steps ++ xs) (append-nil (value_in b s))

is_there : (kept : List BucketValue) (k : BucketValue) → Contains kept k → is_kept kept k.bucket ≡ true
is_there kept k there = list_any_at (is_of k.bucket) kept there.0 k there.1 (rw there.2 (eq-eqb k.bucket k.bucket refl))

-- it stays over one step more
goes_on : (past rest : List Step) (s : Step) (was k : BucketValue) → IsKeptSince past rest was → k.bucket ≡ was.bucket
    → ((xs : List ℕ) → was.quad ≡ quad_of xs → k.quad ≡ quad_of (xs ++ value_in k.bucket s)) → is_kept (after_steps (past ++ (rest ++ s ∷ []))) k.bucket ≡ true
    → IsKeptSince past (rest ++ s ∷ []) k
goes_on past rest s was k since same quad here = record {
  was_not = rw same since.was_not;
  stayed = λ i some within. elim (cases_lt (length rest) i) [
    | inl behind ↦
        let len : length (rest ++ s ∷ []) ≤ i = let l = length_push rest s in omega (arith, l, behind) in
        ap (λ steps. is_kept (after_steps (past ++ steps)) k.bucket) (take_all i (rest ++ s ∷ []) len) ∙ here
    | inr front ↦
        ap (λ steps. is_kept (after_steps (past ++ steps)) k.bucket) (take-append-le i rest (s ∷ []) front)
        ∙ ap (is_kept (after_steps (past ++ take i rest))) same ∙ since.stayed i some front
  ];
  whole =
      let e : was.quad ≡ quad_of (values_of k.bucket rest) = since.whole ∙ ap (λ b. quad_of (values_of b rest)) (sym same) in
      quad (values_of k.bucket rest) e ∙ ap quad_of (sym (one_brings k.bucket rest s));
}

-- it begins with a step
begins : (past : List Step) (s : Step) (k : BucketValue) → is_kept (after_steps past) k.bucket ≡ false → k.quad ≡ quad_of (value_in k.bucket s)
    → is_kept (after_steps (past ++ s ∷ [])) k.bucket ≡ true → IsKeptSince past (s ∷ []) k
begins past s k none quad here = record {
  was_not = none;
  stayed = λ i some within. ap (λ steps. is_kept (after_steps (past ++ steps)) k.bucket) (take_all i (s ∷ []) some) ∙ here;
  whole = quad ∙ ap quad_of (sym (append-nil (value_in k.bucket s)));
}

since_more : (steps : List Step) (s : Step) → All (Since steps) (after_steps steps) → All (Since (steps ++ s ∷ [])) (after_step (after_steps steps) s)
since_more steps s since = λ i d lt.
    let new : List BucketValue = after_step (after_steps steps) s in
    let k : BucketValue = get_or new i d in
    let here : is_kept (after_steps (steps ++ s ∷ [])) k.bucket ≡ true =
    ap (λ kept. is_kept kept k.bucket) (one_more steps s) ∙ list_any_at (is_of k.bucket) new i d lt (eq-eqb k.bucket k.bucket refl) in
    elim (origin (after_steps steps) s i d lt) [
      | inl stays ↦
          let was = All-contains (Since steps) (after_steps steps) stays.was since stays.there in
          let split : steps ++ s ∷ [] ≡ was.0 ++ (was.1 ++ s ∷ []) = ap (λ xs. xs ++ s ∷ []) was.2 ∙ append_assoc was.0 was.1 (s ∷ []) in
          (was.0, was.1 ++ s ∷ [], split, goes_on was.0 was.1 s stays.was k was.3 stays.same stays.quad (ap (λ xs. is_kept (after_steps xs) k.bucket) (sym split) ∙ here))
      | inr new ↦ (steps, s ∷ [], refl, begins steps s k new.new new.quad here)
    ]

since_from : (past rest : List Step) → All (Since past) (after_steps past) → All (Since (past ++ rest)) (after_steps (past ++ rest))
since_from past [] since = rw (append-nil past) since
since_from past (s ∷ rest) since =
    let one : All (Since (past ++ s ∷ [])) (after_steps (past ++ s ∷ [])) = rw (one_more past s) (since_more past s since) in
    let e : (past ++ s ∷ []) ++ rest ≡ past ++ (s ∷ rest) = append_assoc past (s ∷ []) rest in
    rw e at (since_from (past ++ s ∷ []) rest one)

pub all_since : (steps : List Step) → All (Since steps) (after_steps steps)
all_since steps = since_from [] steps (All-nil (Since []))

-- each state that steps lead to is lawful
kept_from : (kept : List BucketValue) (count : ℕ) (steps : List Step) → IsKept kept count → (n : ℕ) × IsKept (fold after_step kept steps) n
kept_from kept count [] is = (count, is)
kept_from kept count (took b n ∷ steps) is = kept_from (after_step kept (took b n)) (count + 1) steps (kept_taking kept count b n is)
kept_from kept count (told trigger place ∷ steps) is = kept_from (after_step kept (told trigger place)) count steps (kept_telling trigger place kept count is)

pub few_kept : (steps : List Step) → (length (after_steps steps) ≤ most_kept) × AreApart (after_steps steps)
few_kept steps =
    let is = kept_from [] 0 steps (record { few = omega arith; apart = tt; counted = All-nil (λ k. k.quad.count ≤ 0) }) in
    (is.1.few, is.1.apart)
