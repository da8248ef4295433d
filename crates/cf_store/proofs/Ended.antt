-- Readers look on, one log after the other.
use Rattle.std.proofs.Common.{◌≡◌, ◌∙◌, ◌<◌, ◌≤◌, ◌+◌, ℕ, zero, suc, List, [], ◌∷◌, length, Some, slice_get, get_or, set, inl, inr, refl, sym, ap, subst, arith}
use Rattle.std.proofs.lemmas.Bool.{cases_lt}
use Rattle.std.proofs.lemmas.List.{length-map}
use Rattle.std.proofs.lemmas.Option.{slice_get-get_or}
use Rattle.cf_row.specs.declared.row.Entry.{Entry}
use Rattle.cf_law.proofs.Heads.{get_set_other, get_set_same}
use Rattle.cf_table.specs.Values.{PassValue}
use Rattle.cf_store.specs.Asks.{AsksTail}
use Rattle.cf_store.specs.Spans.{IsLast, passes_of, seen_each}
use Rattle.cf_store.specs.declared.held.Reader.{Reader}

-- what is seen of the first log and of those behind it
abbrev pub logs : PassValue → List Reader → List (List Entry)
logs first others = seen_each (first ∷ passes_of others)

-- how much is seen of the log of that number
abbrev pub long_at : PassValue → List Reader → ℕ → ℕ
long_at first others k = length (get_or (logs first others) k [])

pub logs_long : (first : PassValue) (others : List Reader) → length (logs first others) ≡ length others + 1
logs_long first others =
    let passes = length-map others (λ (r : Reader). r.pass) in
    let all = length-map (first ∷ passes_of others) (λ (p : PassValue). (p.view).seen) in
    omega (arith, passes, all)

next_is : (first : PassValue) (others : List Reader) (k : ℕ) (d : Reader) → k < length others
    → long_at first others (suc k) ≡ length ((get_or others k d).pass.view).seen
next_is first [] k d low = absurd (omega (arith, low))
next_is first (r ∷ others) zero d low = refl
next_is first (r ∷ others) (suc k) d low = next_is r.pass others k d (omega (arith, low))

one_more : (k : ℕ) → k + 1 ≡ suc k
one_more k = omega arith

pub log_next : (first : PassValue) (others : List Reader) (k : ℕ) (d : Reader) → k < length others
    → long_at first others (k + 1) ≡ length ((get_or others k d).pass.view).seen
log_next first others k d low = ap (long_at first others) (one_more k) ∙ next_is first others k d low

pub log_kept : (first : PassValue) (others : List Reader) (k : ℕ) (n : Reader) (j : ℕ) → k < length others → j ≤ k
    → long_at first (set others k n) j ≡ long_at first others j
log_kept first others k n zero low le = refl
log_kept first [] k n (suc j) low le = absurd (omega (arith, low))
log_kept first (r ∷ others) zero n (suc j) low le = absurd (omega (arith, le))
log_kept first (r ∷ others) (suc k) n (suc j) low le = log_kept r.pass others k n j (omega (arith, low)) (omega (arith, le))

new_is : (first : PassValue) (others : List Reader) (k : ℕ) (n : Reader) → k < length others
    → long_at first (set others k n) (suc k) ≡ length (n.pass.view).seen
new_is first [] k n low = absurd (omega (arith, low))
new_is first (r ∷ others) zero n low = refl
new_is first (r ∷ others) (suc k) n low = new_is r.pass others k n (omega (arith, low))

pub log_new : (first : PassValue) (others : List Reader) (k : ℕ) (n : Reader) → k < length others
    → long_at first (set others k n) (k + 1) ≡ length (n.pass.view).seen
log_new first others k n low = ap (long_at first (set others k n)) (one_more k) ∙ new_is first others k n low

-- all below one number more
pub all_more : (f : ℕ → ℕ) (n k : ℕ) → ((j : ℕ) → j < k → f j ≡ n) → f k ≡ n → (j : ℕ) → j < k + 1 → f j ≡ n
all_more f n k before here j low = elim (cases_lt j k) [
  | inl below ↦ before j below
  | inr above ↦ (let at : k ≡ j = omega (arith, above, low) in subst (λ (i : ℕ). f i ≡ n) at here)
]

-- the last of all logs
pub last_of_all : (capacity : ℕ) (first : PassValue) (others : List Reader) → ((k : ℕ) → k < length others → long_at first others k ≡ capacity)
    → IsLast capacity (logs first others) (length others)
last_of_all capacity first others full =
    let long = logs_long first others in
    record { within = omega (arith, long); full = full; stops = λ more. absurd (omega (arith, long, more)) }

some_is : {X : Type 0} {x y : X} → Some x ≡ Some y → x ≡ y
some_is e = cc e

module _ (before now : List Reader) (k : ℕ) (d n : Reader) (low : k < length now) (tail : ℕ)
    (asked : (j : ℕ) (l m : Reader) → j < k → slice_get before j ≡ Some l → slice_get now j ≡ Some m → AsksTail l m (length (m.pass.view).seen))
    (others : (j : ℕ) → k ≤ j → slice_get now j ≡ slice_get before j) (asks : AsksTail (get_or now k d) n tail) where
  here : slice_get now k ≡ Some (get_or now k d)
  here = slice_get-get_or now k d low

  pub asked_more : (j : ℕ) (l m : Reader) → j < k + 1 → slice_get before j ≡ Some l → slice_get (set now k n) j ≡ Some m
      → AsksTail l m (length (m.pass.view).seen)
  asked_more j l m under was is = elim (cases_lt j k) [
    | inl below ↦ asked j l m below was (sym (get_set_other now k j n (λ same. omega (arith, below, same))) ∙ is)
    | inr above ↦
        (let at : k ≡ j = omega (arith, above, under) in
        let first : get_or now k d ≡ l = some_is (sym here ∙ others k (omega arith) ∙ ap (λ (i : ℕ). slice_get before i) at ∙ was) in
        let then : n ≡ m = some_is (sym (get_set_same now k n _ here) ∙ ap (λ (i : ℕ). slice_get (set now k n) i) at ∙ is) in
        subst (λ (r : Reader). AsksTail l r (length (r.pass.view).seen)) then
        (subst (λ (r : Reader). AsksTail r n (length (n.pass.view).seen)) first (subst (λ (t : ℕ). AsksTail (get_or now k d) n t) asks.tail_is asks)))
  ]

  pub others_more : (j : ℕ) → k + 1 ≤ j → slice_get (set now k n) j ≡ slice_get before j
  others_more j above = get_set_other now k j n (λ same. omega (arith, above, same)) ∙ others j (omega (arith, above))
