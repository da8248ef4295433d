-- Which items are kept, and that values of one word each are kept by their words.
use Rattle.std.proofs.Common.{◌≡◌, ◌∙◌, ℕ, zero, suc, ◌+◌, ◌<◌, ◌≤◌, Bool, true, false, nat_lt, cond, List, [], ◌∷◌, ◌++◌, length, take, drop, get_or, refl, ap, ap₂, sym, arith, inl, inr, add-one, subst}
use Rattle.std.specs.List.{list_all}
use Rattle.std.proofs.lemmas.Bool.{cases_Bool, and_from}
use Rattle.std.proofs.lemmas.List.{length-map, length-take-le, take_all}
use Rattle.cf_row.specs.declared.schema.Attr.{Attr}
use Rattle.cf_row.specs.declared.row.Value.{Value}
use Rattle.cf_row.specs.Schema.{has_good_size}
use Rattle.cf_row.specs.Words.{value_read, values_read, word_count, word_fits, words_fit, words_of_kind}
use Rattle.cf_row.specs.declared.values.Words.{Words}
use Rattle.cf_row.specs.declared.values.Words.TheVariants.{Few, Many}
use Rattle.cf_row.specs.Kept.{AreKept, AreWithin, attrs_of, kind_of, values_kept, words_in}
use Rattle.cf_row.specs.Keeping.{keep}
use Rattle.cf_row.proofs.Bytes.{both}
use Rattle.cf_row.proofs.Counts.{count_cons, count_none}
use Rattle.cf_row.proofs.Kept.{long_read, many_words, one_word}
use Rattle.cf_row.proofs.Readable.{fit_cons, fit_none, read_cons, read_none}

-- nothing is kept of nothing
pub keep_none : {X : Type 0} (marks : List Bool) → keep {X = X} marks [] ≡ []
keep_none [] = refl
keep_none (mark ∷ marks) = refl

pub keep_fewer : {X : Type 0} (marks : List Bool) (xs : List X) → length (keep marks xs) ≤ length xs
keep_fewer [] xs = omega arith
keep_fewer (mark ∷ marks) [] = omega arith
keep_fewer (true ∷ marks) (x ∷ xs) = omega (arith, keep_fewer marks xs)
keep_fewer (false ∷ marks) (x ∷ xs) = omega (arith, keep_fewer marks xs)

pub keep_all : {X : Type 0} (p : X → Bool) (marks : List Bool) (xs : List X) → list_all p xs ≡ true → list_all p (keep marks xs) ≡ true
keep_all p [] xs all = refl
keep_all p (mark ∷ marks) [] all = refl
keep_all p (true ∷ marks) (x ∷ xs) all = let parts = both (p x) (list_all p xs) all in rw (parts.0) (keep_all p marks xs parts.1)
keep_all p (false ∷ marks) (x ∷ xs) all = keep_all p marks xs (both (p x) (list_all p xs) all).1

keep_next : {X : Type 0} (marks : List Bool) (xs : List X) (i : ℕ) (m : Bool) (d : X) → i < length marks → i < length xs
    → keep (take (suc i) marks) (take (suc i) xs) ≡ keep (take i marks) (take i xs) ++ cond (get_or marks i m) (get_or xs i d ∷ []) []
keep_next [] xs i m d low high = absurd (omega (arith, low))
keep_next (mark ∷ marks) [] i m d low high = absurd (omega (arith, high))
keep_next (true ∷ marks) (x ∷ xs) zero m d low high = ap (λ ys. x ∷ ys) (keep_none (take 0 marks))
keep_next (false ∷ marks) (x ∷ xs) zero m d low high = keep_none (take 0 marks)
keep_next (true ∷ marks) (x ∷ xs) (suc i) m d low high = ap (λ ys. x ∷ ys) (keep_next marks xs i m d (omega (arith, low)) (omega (arith, high)))
keep_next (false ∷ marks) (x ∷ xs) (suc i) m d low high = keep_next marks xs i m d (omega (arith, low)) (omega (arith, high))

-- one item more is looked at
pub keep_more : {X : Type 0} (marks : List Bool) (xs : List X) (i : ℕ) (m : Bool) (d : X) → i < length marks → i < length xs
    → keep (take (i + 1) marks) (take (i + 1) xs) ≡ keep (take i marks) (take i xs) ++ cond (get_or marks i m) (get_or xs i d ∷ []) []
keep_more marks xs i m d low high = rw (add-one i) (keep_next marks xs i m d low high)

pub keep_end : {X : Type 0} (marks : List Bool) (xs : List X) (n : ℕ) → length marks ≡ length xs → length marks ≤ n → keep (take n marks) (take n xs) ≡ keep marks xs
keep_end marks xs n same high =
    ap₂ (λ ms ys. keep ms ys) (take_all n marks high) (take_all n xs (omega (arith, same, high)))

-- items behind the last mark do not count
pub keep_front : {X : Type 0} (marks : List Bool) (xs : List X) → keep marks (take (length marks) xs) ≡ keep marks xs
keep_front [] xs = refl
keep_front (mark ∷ marks) [] = refl
keep_front (true ∷ marks) (x ∷ xs) = ap (λ ys. x ∷ ys) (keep_front marks xs)
keep_front (false ∷ marks) (x ∷ xs) = keep_front marks xs

-- of two lists of one length as many are kept
pub keep_long : {X Y : Type 0} (marks : List Bool) (xs : List X) (ys : List Y) → length xs ≡ length ys → length (keep marks xs) ≡ length (keep marks ys)
keep_long [] xs ys same = refl
keep_long (mark ∷ marks) [] [] same = refl
keep_long (mark ∷ marks) [] (y ∷ ys) same = absurd (omega (arith, same))
keep_long (mark ∷ marks) (x ∷ xs) [] same = absurd (omega (arith, same))
keep_long (true ∷ marks) (x ∷ xs) (y ∷ ys) same = ap suc (keep_long marks xs ys (omega (arith, same)))
keep_long (false ∷ marks) (x ∷ xs) (y ∷ ys) same = keep_long marks xs ys (omega (arith, same))

-- A value of one word is read from the first of them.
single_read : (len w : ℕ) (us vs : List ℕ) → words_of_kind (kind_of len) ≡ 1 → value_read (kind_of len) (w ∷ us) ≡ value_read (kind_of len) (w ∷ vs)
single_read zero w us vs one = refl
single_read (suc k) w us vs one = elim (cases_Bool (nat_lt 8 (suc k))) [
  | inl is ↦ absurd (let two : 2 ≡ 1 = rw is at one in omega (arith, two))
  | inr is ↦ rw is refl
]

single_fits : (len w : ℕ) (us vs : List ℕ) → words_of_kind (kind_of len) ≡ 1 → word_fits (kind_of len) (w ∷ us) ≡ word_fits (kind_of len) (w ∷ vs)
single_fits zero w us vs one = refl
single_fits (suc k) w us vs one = elim (cases_Bool (nat_lt 8 (suc k))) [
  | inl is ↦ absurd (let two : 2 ≡ 1 = rw is at one in omega (arith, two))
  | inr is ↦ rw is refl
]

abbrev front_of : ℕ → Attr
front_of len = record { name = []; kind = kind_of len }

-- if there are as many words as values, the first value has one, and so on
singles : (len : ℕ) (lens : List ℕ) → word_count (attrs_of (len ∷ lens)) ≡ length (len ∷ lens)
    → (words_of_kind (kind_of len) ≡ 1) × (word_count (attrs_of lens) ≡ length lens)
singles len lens same =
    let count = count_cons (front_of len) (attrs_of lens) in
    let one = one_word (kind_of len) in
    let many = many_words lens in
    (omega (arith, same, count, one, many), omega (arith, same, count, one, many))

pub count_kept : (marks : List Bool) (lens : List ℕ) → word_count (attrs_of lens) ≡ length lens → word_count (attrs_of (keep marks lens)) ≡ length (keep marks lens)
count_kept [] lens same = count_none
count_kept (mark ∷ marks) [] same = count_none
count_kept (true ∷ marks) (len ∷ lens) same =
    let parts = singles len lens same in
    let count = count_cons (front_of len) (attrs_of (keep marks lens)) in
    let one = parts.0 in
    let rest = count_kept marks lens parts.1 in
    omega (arith, count, one, rest)
count_kept (false ∷ marks) (len ∷ lens) same = count_kept marks lens (singles len lens same).1

-- what the kept words spell are the kept values
pub values_are_kept : (marks : List Bool) (lens words : List ℕ) → word_count (attrs_of lens) ≡ length lens → length words ≡ length lens
    → values_kept (keep marks lens) (keep marks words) ≡ keep marks (values_kept lens words)
values_are_kept [] lens words same long = read_none []
values_are_kept (mark ∷ marks) [] words same long = read_none (keep (mark ∷ marks) words) ∙ ap (λ (vs : List Value). keep (mark ∷ marks) vs) (sym (read_none words))
values_are_kept (mark ∷ marks) (len ∷ lens) [] same long = absurd (omega (arith, long))
values_are_kept (true ∷ marks) (len ∷ lens) (word ∷ words) same long =
    let parts = singles len lens same in
    let rest = values_are_kept marks lens words parts.1 (omega (arith, long)) in
    let left = read_cons (front_of len) (attrs_of (keep marks lens)) (word ∷ keep marks words) in
    let right = read_cons (front_of len) (attrs_of lens) (word ∷ words) in
    left
    ∙ (ap₂ (λ (v : Value) (n : ℕ). v ∷ values_read (attrs_of (keep marks lens)) (drop n (word ∷ keep marks words)))
    (single_read len word (keep marks words) words parts.0) parts.0
    ∙ (ap (λ (vs : List Value). value_read (kind_of len) (word ∷ words) ∷ vs) rest
    ∙ sym (ap (λ (vs : List Value). keep (true ∷ marks) vs)
    (right ∙ ap (λ (n : ℕ). value_read (kind_of len) (word ∷ words) ∷ values_read (attrs_of lens) (drop n (word ∷ words))) parts.0))))
values_are_kept (false ∷ marks) (len ∷ lens) (word ∷ words) same long =
    let parts = singles len lens same in
    let right = read_cons (front_of len) (attrs_of lens) (word ∷ words) in
    values_are_kept marks lens words parts.1 (omega (arith, long))
    ∙ sym (ap (λ (vs : List Value). keep (false ∷ marks) vs)
    (right ∙ ap (λ (n : ℕ). value_read (kind_of len) (word ∷ words) ∷ values_read (attrs_of lens) (drop n (word ∷ words))) parts.0))

fit_end : words_fit [] [] ≡ true
fit_end = fit_none [] ∙ refl

fits_kept : (marks : List Bool) (lens words : List ℕ) → word_count (attrs_of lens) ≡ length lens → length words ≡ length lens → words_fit (attrs_of lens) words ≡ true
    → words_fit (attrs_of (keep marks lens)) (keep marks words) ≡ true
fits_kept [] lens words same long fits = fit_end
fits_kept (mark ∷ marks) [] [] same long fits = fit_end
fits_kept (mark ∷ marks) [] (word ∷ words) same long fits = absurd (omega (arith, long))
fits_kept (mark ∷ marks) (len ∷ lens) [] same long fits = absurd (omega (arith, long))
fits_kept (true ∷ marks) (len ∷ lens) (word ∷ words) same long fits =
    let parts = singles len lens same in
    let f = both (word_fits (kind_of len) (word ∷ words)) (words_fit (attrs_of lens) (drop (words_of_kind (kind_of len)) (word ∷ words)))
    (sym (fit_cons (front_of len) (attrs_of lens) (word ∷ words)) ∙ fits) in
    let rest = fits_kept marks lens words parts.1 (omega (arith, long)) (sym (ap (λ (n : ℕ). words_fit (attrs_of lens) (drop n (word ∷ words))) parts.0) ∙ f.1) in
    fit_cons (front_of len) (attrs_of (keep marks lens)) (word ∷ keep marks words)
    ∙ and_from _ _ (single_fits len word (keep marks words) words parts.0 ∙ f.0)
    (ap (λ (n : ℕ). words_fit (attrs_of (keep marks lens)) (drop n (word ∷ keep marks words))) parts.0 ∙ rest)
fits_kept (false ∷ marks) (len ∷ lens) (word ∷ words) same long fits =
    let parts = singles len lens same in
    let f = both (word_fits (kind_of len) (word ∷ words)) (words_fit (attrs_of lens) (drop (words_of_kind (kind_of len)) (word ∷ words)))
    (sym (fit_cons (front_of len) (attrs_of lens) (word ∷ words)) ∙ fits) in
    fits_kept marks lens words parts.1 (omega (arith, long)) (sym (ap (λ (n : ℕ). words_fit (attrs_of lens) (drop n (word ∷ words))) parts.0) ∙ f.1)

sized_kept : (marks : List Bool) (lens : List ℕ) → list_all (λ attr. has_good_size attr.kind) (attrs_of lens) ≡ true
    → list_all (λ attr. has_good_size attr.kind) (attrs_of (keep marks lens)) ≡ true
sized_kept [] lens good = refl
sized_kept (mark ∷ marks) [] good = refl
sized_kept (true ∷ marks) (len ∷ lens) good =
    let g = both (has_good_size (kind_of len)) (list_all (λ b. has_good_size b.kind) (attrs_of lens)) good in and_from _ _ g.0 (sized_kept marks lens g.1)
sized_kept (false ∷ marks) (len ∷ lens) good =
    sized_kept marks lens (both (has_good_size (kind_of len)) (list_all (λ b. has_good_size b.kind) (attrs_of lens)) good).1

pub still_kept : (marks : List Bool) (lens words : List ℕ) → AreKept lens words → length words ≡ length lens → AreKept (keep marks lens) (keep marks words)
still_kept marks lens words kept long =
    let same : word_count (attrs_of lens) ≡ length lens = sym kept.long ∙ long in
    record {
      few = (let fewer = keep_fewer marks lens in let few = kept.few in omega (arith, fewer, few));
      sized = sized_kept marks lens kept.sized;
      long = keep_long marks words lens long ∙ sym (count_kept marks lens same);
      fits = fits_kept marks lens words same long kept.fits;
    }

take_low : (n : ℕ) (xs : List ℕ) → length (take n xs) ≤ n
take_low zero xs = omega arith
take_low (suc n) [] = omega arith
take_low (suc n) (x ∷ xs) = omega (arith, take_low n xs)

within_long : (count : ℕ) (words : Words) → AreWithin count words → length (words_in words) ≤ count
within_long count (Few words n) is = (let low = take_low n words in omega (arith, low, is))
within_long count (Many words) is = absurd is

-- There are as many marks as values, and as many words.
pub record AreMarked (marks : List Bool) (count : ℕ) (lens words : List ℕ) : Type 0 where
  pub number : length marks ≡ count
  pub lens_long : length (take count lens) ≡ count
  pub words_long : length words ≡ count
  pub kept : AreKept (take count lens) words

pub are_marked : (marks : List Bool) (count : ℕ) (lens : List ℕ) (words : Words) → length marks ≡ length (values_kept (take count lens) (words_in words))
    → AreKept (take count lens) (words_in words) → count ≤ length lens → AreWithin count words → AreMarked marks count lens (words_in words)
are_marked marks count lens words same kept fits within =
    let front = length-take-le count lens fits in
    let read = long_read (attrs_of (take count lens)) (words_in words) in
    let named = length-map (take count lens) front_of in
    let few = within_long count words within in
    let many = many_words (take count lens) in
    let long = kept.long in
    record {
      number = same ∙ (read ∙ (named ∙ front));
      lens_long = front;
      words_long = omega (arith, few, many, long, front);
      kept = kept;
    }

-- What is left of the marked ones, once lengths and words have moved to the front.
module _ (marks : List Bool) (count : ℕ) (lens words : List ℕ) (are : AreMarked marks count lens words) where
  -- lengths behind the last value do not count
  pub lens_left : keep marks lens ≡ keep marks (take count lens)
  lens_left = sym (keep_front marks lens) ∙ ap (λ (n : ℕ). keep marks (take n lens)) are.number

  pub words_left : length (keep marks words) ≡ length (keep marks lens)
  words_left = keep_long marks words (take count lens) (are.words_long ∙ sym are.lens_long) ∙ sym (ap (λ (xs : List ℕ). length xs) lens_left)

  pub kept_left : AreKept (keep marks lens) (keep marks words)
  kept_left = subst (λ (xs : List ℕ). AreKept xs (keep marks words)) (sym lens_left)
      (still_kept marks (take count lens) words are.kept (are.words_long ∙ sym are.lens_long))

  pub values_left : values_kept (keep marks lens) (keep marks words) ≡ keep marks (values_kept (take count lens) words)
  values_left =
      let long = are.words_long ∙ sym are.lens_long in
      let same : word_count (attrs_of (take count lens)) ≡ length (take count lens) = sym (are.kept).long ∙ long in
      ap (λ (xs : List ℕ). values_kept xs (keep marks words)) lens_left ∙ values_are_kept marks (take count lens) words same long
