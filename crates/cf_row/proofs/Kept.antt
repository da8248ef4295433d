-- The values that words and lengths keep.
use Rattle.std.proofs.Common.{◌≡◌, ℕ, zero, suc, ◌+◌, ◌-◌, ◌*◌, ◌^◌, ◌<◌, ◌≤◌, List, [], ◌∷◌, ◌++◌, length, map, min, set, get_or, take, drop, replicate, cond, Bool, true, false, ◌&&◌, nat_lt, nat_le, inl, inr, refl, arith, ap, ap₂, sym, ◌∙◌, subst, length-append}
use Rattle.std.specs.List.{list_all}
use Rattle.std.proofs.lemmas.Bool.{and_from, ltb-true, lt-ltb, le-leb, leb-true, cases_lt, cases_Bool}
use Rattle.std.proofs.lemmas.List.{drop-drop, drop_more, drop_all, length-map, take_more, take_more_set, map-append, get_or_past, get_or-take, drop-take, length-take-le, take_all, take_at, append-nil}
use Rattle.cf_row.specs.declared.schema.TheConstants.{MOST_ATTRS}
use Rattle.cf_row.specs.declared.schema.Attr.{Attr}
use Rattle.cf_row.specs.declared.schema.Kind.{Kind}
use Rattle.cf_row.specs.declared.schema.Kind.TheVariants.{U8, U16, U32, U64, Bytes}
use Rattle.cf_row.specs.declared.row.Value.{Value}
use Rattle.cf_row.specs.declared.row.Value.TheVariants.{Num, Raw}
use Rattle.cf_row.specs.Schema.{has_good_size}
use Rattle.cf_row.specs.Row.{is_of_kind, values_fit}
use Rattle.cf_row.specs.Words.{words_of_kind, word_count, big_bytes, value_words, values_words, value_read, values_read, word_fits, words_fit}
use Rattle.cf_row.specs.Kept.{len_of, kind_of, attrs_of, values_kept, AreKept, can_be_kept, lie_within}
use Rattle.cf_row.proofs.Counts.{count_none, count_cons, count_low}
use Rattle.cf_row.proofs.Bytes.{both}
use Rattle.cf_row.proofs.Spelling.{string_of, value_long, values_long, values_back, words_front, words_more}
use Rattle.cf_row.proofs.Readable.{fit_cons, fit_none, read_cons, read_none, values_fit_words, values_are_read}

-- A kind that is read as another, and takes its words.
record IsReadAs (k : Kind) (kept : Kind) : Type 0 where
  pub read : (ws : List ℕ) → value_read kept ws ≡ value_read k ws
  pub words : words_of_kind kept ≡ words_of_kind k
  pub good : has_good_size kept ≡ true
  pub fits : (ws : List ℕ) → word_fits k ws ≡ true → word_fits kept ws ≡ true

wider : (x low : ℕ) → low ≤ 256 ^ 8 → nat_lt x low ≡ true → nat_lt x (256 ^ 8) ≡ true
wider x low le h = let lt = ltb-true x low h in lt-ltb x (256 ^ 8) (omega (arith, lt, le))

kind_kept : (k : Kind) → has_good_size k ≡ true → IsReadAs k (kind_of (len_of k))
kind_kept U8 good = record { read = λ ws. refl; words = refl; good = refl; fits = λ ws h. wider (get_or ws 0 0) (256 ^ 1) (omega arith) h }
kind_kept U16 good = record { read = λ ws. refl; words = refl; good = refl; fits = λ ws h. wider (get_or ws 0 0) (256 ^ 2) (omega arith) h }
kind_kept U32 good = record { read = λ ws. refl; words = refl; good = refl; fits = λ ws h. wider (get_or ws 0 0) (256 ^ 4) (omega arith) h }
kind_kept U64 good = record { read = λ ws. refl; words = refl; good = refl; fits = λ ws h. h }
kind_kept (Bytes zero) good = absurd (cc good)
kind_kept (Bytes (suc k)) good = record { read = λ ws. refl; words = refl; good = good; fits = λ ws h. h }

-- The same of all attributes.
pub record AreReadAs (attrs : List Attr) (kept : List Attr) : Type 0 where
  pub read : (ws : List ℕ) → values_read kept ws ≡ values_read attrs ws
  pub count : word_count kept ≡ word_count attrs
  pub sized : list_all (λ attr. has_good_size attr.kind) kept ≡ true
  pub fits : (ws : List ℕ) → words_fit attrs ws ≡ true → words_fit kept ws ≡ true

pub attrs_kept : (attrs : List Attr) → list_all (λ attr. has_good_size attr.kind) attrs ≡ true
    → AreReadAs attrs (attrs_of (map (λ attr. len_of attr.kind) attrs))
attrs_kept [] good = record { read = λ ws. refl; count = refl; sized = refl; fits = λ ws h. h }
attrs_kept (a ∷ attrs) good =
    let g = both (has_good_size a.kind) (list_all (λ b. has_good_size b.kind) attrs) good in
    let one = kind_kept a.kind g.0 in
    let more = attrs_kept attrs g.1 in
    let kept : List Attr = attrs_of (map (λ attr. len_of attr.kind) attrs) in
    let front : Attr = record { name = []; kind = kind_of (len_of a.kind) } in record {
      read = λ ws. read_cons front kept ws
          ∙ (ap₂ (λ (v : Value) (n : ℕ). v ∷ values_read kept (drop n ws)) (one.read ws) one.words
          ∙ (ap (λ (vs : List Value). value_read a.kind ws ∷ vs) (more.read (drop (words_of_kind a.kind) ws)) ∙ sym (read_cons a attrs ws)));
      count = omega (arith, count_cons front kept, one.words, more.count, count_cons a attrs);
      sized = and_from _ _ one.good more.sized;
      fits = λ ws h.
          let f = both (word_fits a.kind ws) (words_fit attrs (drop (words_of_kind a.kind) ws)) (sym (fit_cons a attrs ws) ∙ h) in
          fit_cons front kept ws
          ∙ and_from _ _ (one.fits ws f.0) (ap (λ (n : ℕ). words_fit kept (drop n ws)) one.words ∙ more.fits (drop (words_of_kind a.kind) ws) f.1);
    }

pub long_read : (attrs : List Attr) (ws : List ℕ) → length (values_read attrs ws) ≡ length attrs
long_read [] ws = ap (length {A = Value}) (read_none ws)
long_read (a ∷ attrs) ws = omega (arith, ap (length {A = Value}) (read_cons a attrs ws), long_read attrs (drop (words_of_kind a.kind) ws))

-- The value at a place is read where its words begin.
pub record IsReadAt (lens ws : List ℕ) (i start : ℕ) : Type 0 where
  pub value : get_or (values_kept lens ws) i (Num 0) ≡ value_read (kind_of (get_or lens i 0)) (drop start ws)
  pub good : has_good_size (kind_of (get_or lens i 0)) ≡ true
  pub fits : word_fits (kind_of (get_or lens i 0)) (drop start ws) ≡ true
  pub room : start + words_of_kind (kind_of (get_or lens i 0)) ≤ word_count (attrs_of lens)

read_at : (lens ws : List ℕ) (i : ℕ) → i < length lens → list_all (λ attr. has_good_size attr.kind) (attrs_of lens) ≡ true
    → words_fit (attrs_of lens) ws ≡ true → IsReadAt lens ws i (word_count (attrs_of (take i lens)))
read_at [] ws i lt good fits = absurd (omega (arith, lt))
read_at (x ∷ xs) ws zero lt good fits =
    let front : Attr = record { name = []; kind = kind_of x } in
    let g = both (has_good_size (kind_of x)) (list_all (λ b. has_good_size b.kind) (attrs_of xs)) good in
    let f = both (word_fits (kind_of x) ws) (words_fit (attrs_of xs) (drop (words_of_kind (kind_of x)) ws)) (sym (fit_cons front (attrs_of xs) ws) ∙ fits) in
    let read = ap (λ (vs : List Value). get_or vs 0 (Num 0)) (read_cons front (attrs_of xs) ws) in
    subst (λ (n : ℕ). IsReadAt (x ∷ xs) ws zero n) (sym count_none) (record {
      value = read;
      good = g.0;
      fits = f.0;
      room = omega (arith, count_cons front (attrs_of xs));
    })
read_at (x ∷ xs) ws (suc i) lt good fits =
    let front : Attr = record { name = []; kind = kind_of x } in
    let n = words_of_kind (kind_of x) in
    let g = both (has_good_size (kind_of x)) (list_all (λ b. has_good_size b.kind) (attrs_of xs)) good in
    let f = both (word_fits (kind_of x) ws) (words_fit (attrs_of xs) (drop n ws)) (sym (fit_cons front (attrs_of xs) ws) ∙ fits) in
    let more = read_at xs (drop n ws) i (omega (arith, lt)) g.1 f.1 in
    let start : ℕ = word_count (attrs_of (take i xs)) in
    let begins : drop start (drop n ws) ≡ drop (n + start) ws = drop-drop start n ws in
    let read = ap (λ (vs : List Value). get_or vs (suc i) (Num 0)) (read_cons front (attrs_of xs) ws) in
    subst (λ (k : ℕ). IsReadAt (x ∷ xs) ws (suc i) k) (sym (count_cons front (attrs_of (take i xs)))) (record {
      value = read ∙ (more.value ∙ ap (value_read (kind_of (get_or xs i 0))) begins);
      good = more.good;
      fits = subst (λ (vs : List ℕ). word_fits (kind_of (get_or xs i 0)) vs ≡ true) begins more.fits;
      room = (let r = more.room in omega (arith, r, count_cons front (attrs_of xs)));
    })

pub kept_at : (lens ws : List ℕ) (i : ℕ) → i < length lens → AreKept lens ws → IsReadAt lens ws i (word_count (attrs_of (take i lens)))
kept_at lens ws i lt kept = read_at lens ws i lt kept.sized kept.fits

pub one_word : (k : Kind) → 1 ≤ words_of_kind k
one_word U8 = omega arith
one_word U16 = omega arith
one_word U32 = omega arith
one_word U64 = omega arith
one_word (Bytes n) = grind arith

pub many_words : (lens : List ℕ) → length lens ≤ word_count (attrs_of lens)
many_words [] = omega arith
many_words (x ∷ xs) = omega (arith, count_cons (record { name = []; kind = kind_of x }) (attrs_of xs), one_word (kind_of x), many_words xs)

-- where each value has one word, each begins at its own place
pub flat_start : (lens : List ℕ) (i : ℕ) → i ≤ length lens → word_count (attrs_of lens) ≡ length lens → word_count (attrs_of (take i lens)) ≡ i
flat_start lens zero le flat = count_none
flat_start [] (suc i) le flat = absurd (omega (arith, le))
flat_start (x ∷ xs) (suc i) le flat =
    let front : Attr = record { name = []; kind = kind_of x } in
    let c = count_cons front (attrs_of xs) in
    let more = flat_start xs i (omega (arith, le)) (omega (arith, flat, c, one_word (kind_of x), many_words xs)) in
    omega (arith, more, flat, c, one_word (kind_of x), many_words xs, count_cons front (attrs_of (take i xs)))

pub lens_step : (lens : List ℕ) (i : ℕ) → i < length lens
    → word_count (attrs_of (drop i lens)) ≡ words_of_kind (kind_of (get_or lens i 0)) + word_count (attrs_of (drop (i + 1) lens))
lens_step lens i lt =
    ap (λ (xs : List ℕ). word_count (attrs_of xs)) (drop_more lens i 0 lt)
    ∙ count_cons (record { name = []; kind = kind_of (get_or lens i 0) }) (attrs_of (drop (i + 1) lens))

pub lens_end : (lens : List ℕ) (i : ℕ) → length lens ≤ i → word_count (attrs_of (drop i lens)) ≡ 0
lens_end lens i le = ap (λ (xs : List ℕ). word_count (attrs_of xs)) (drop_all i lens le) ∙ count_none

long_attrs : (lens : List ℕ) → length (attrs_of lens) ≡ length lens
long_attrs [] = refl
long_attrs (x ∷ xs) = omega (arith, long_attrs xs)

pub lens_low : (lens : List ℕ) → word_count (attrs_of lens) ≤ 2 * length lens
lens_low lens = omega (arith, count_low (attrs_of lens), long_attrs lens)

pub long_kept : (lens ws : List ℕ) → length (values_kept lens ws) ≡ length lens
long_kept lens ws = long_read (attrs_of lens) ws ∙ long_attrs lens

pub lens_more : (f : Attr → ℕ) (attrs : List Attr) (lens : List ℕ) (i r : ℕ) (a : Attr) → i < length attrs → i < length lens
    → take i lens ≡ map f (take i attrs) → a ≡ get_or attrs i a → r ≡ f a → take (i + 1) (set lens i r) ≡ map f (take (i + 1) attrs)
lens_more f attrs lens i r a lt room kept is same =
    take_more_set lens i r room
    ∙ (ap₂ (λ (xs : List ℕ) (n : ℕ). xs ++ n ∷ []) kept (same ∙ ap f is)
    ∙ sym (ap (map f) (take_more attrs i a lt) ∙ map-append f (take i attrs) (get_or attrs i a ∷ [])))

-- the words of an entry of the attributes keep its values
pub kept_new : (attrs : List Attr) (lens ws items : List ℕ) → lens ≡ map (λ attr. len_of attr.kind) attrs → items ≡ ws
    → list_all (λ attr. has_good_size attr.kind) attrs ≡ true → length attrs ≤ MOST_ATTRS → length ws ≡ word_count attrs → words_fit attrs ws ≡ true
    → AreKept lens items
kept_new attrs lens ws items is same good few long fits =
    let alike = attrs_kept attrs good in
    let kept : List ℕ = map (λ attr. len_of attr.kind) attrs in
    subst (λ (ls : List ℕ). AreKept ls items) (sym is) (subst (λ (xs : List ℕ). AreKept kept xs) (sym same) (record {
      few = omega (arith, few, length-map attrs (λ (attr : Attr). len_of attr.kind));
      sized = alike.sized;
      long = omega (arith, long, alike.count);
      fits = alike.fits ws fits;
    }))

pub read_new : (attrs : List Attr) (lens ws items : List ℕ) → lens ≡ map (λ attr. len_of attr.kind) attrs → items ≡ ws
    → list_all (λ attr. has_good_size attr.kind) attrs ≡ true → values_kept lens items ≡ values_read attrs ws
read_new attrs lens ws items is same good = ap₂ values_kept is same ∙ (attrs_kept attrs good).read ws

pub none_kept : (lens ws : List ℕ) (i : ℕ) → length lens ≤ i → get_or (values_kept lens ws) i (Num 0) ≡ Num 0
none_kept lens ws i le = get_or_past (values_kept lens ws) i (Num 0) (omega (arith, le, long_kept lens ws))

-- Of the words of an entry those of the values are read alike, and are as much in range.
pub record AreReadAlone (attrs : List Attr) (ws : List ℕ) : Type 0 where
  pub read : values_read attrs (take (word_count attrs) ws) ≡ values_read attrs ws
  pub fits : words_fit attrs (take (word_count attrs) ws) ≡ true

abbrev raw_by : ℕ → Bool → List ℕ → List ℕ
raw_by k long ws = cond long (big_bytes 8 (get_or ws 0 0) ++ big_bytes (k - 8) (get_or ws 1 0)) (big_bytes k (get_or ws 0 0))

abbrev fits_by : ℕ → Bool → List ℕ → Bool
fits_by k long ws = cond long (nat_lt (get_or ws 0 0) (256 ^ 8) && nat_lt (get_or ws 1 0) (256 ^ (k - 8))) (nat_lt (get_or ws 0 0) (256 ^ k))

front : (n : ℕ) (ws : List ℕ) (i : ℕ) → i < n → get_or (take n ws) i 0 ≡ get_or ws i 0
front n ws i lt = get_or-take n ws i 0 lt

raw_alone : (k : ℕ) (long : Bool) (ws : List ℕ) (m : ℕ) → raw_by k long (take (cond long 2 1 + m) ws) ≡ raw_by k long ws
raw_alone k true ws m = ap₂ (λ (x y : ℕ). big_bytes 8 x ++ big_bytes (k - 8) y) (front (2 + m) ws 0 (omega arith)) (front (2 + m) ws 1 (omega arith))
raw_alone k false ws m = ap (big_bytes k) (front (1 + m) ws 0 (omega arith))

fits_alone : (k : ℕ) (long : Bool) (ws : List ℕ) (m : ℕ) → fits_by k long (take (cond long 2 1 + m) ws) ≡ fits_by k long ws
fits_alone k true ws m = ap₂ (λ (x y : ℕ). nat_lt x (256 ^ 8) && nat_lt y (256 ^ (k - 8))) (front (2 + m) ws 0 (omega arith)) (front (2 + m) ws 1 (omega arith))
fits_alone k false ws m = ap (λ (x : ℕ). nat_lt x (256 ^ k)) (front (1 + m) ws 0 (omega arith))

value_alone : (k : Kind) (ws : List ℕ) (m : ℕ) → value_read k (take (words_of_kind k + m) ws) ≡ value_read k ws
value_alone U8 ws m = ap Num (front (1 + m) ws 0 (omega arith))
value_alone U16 ws m = ap Num (front (1 + m) ws 0 (omega arith))
value_alone U32 ws m = ap Num (front (1 + m) ws 0 (omega arith))
value_alone U64 ws m = ap Num (front (1 + m) ws 0 (omega arith))
value_alone (Bytes k) ws m = ap (λ (bs : List ℕ). Raw k (bs ++ replicate (16 - k) 0)) (raw_alone k (nat_lt 8 k) ws m)

word_alone : (k : Kind) (ws : List ℕ) (m : ℕ) → word_fits k (take (words_of_kind k + m) ws) ≡ word_fits k ws
word_alone U8 ws m = ap (λ (x : ℕ). nat_lt x (256 ^ 1)) (front (1 + m) ws 0 (omega arith))
word_alone U16 ws m = ap (λ (x : ℕ). nat_lt x (256 ^ 2)) (front (1 + m) ws 0 (omega arith))
word_alone U32 ws m = ap (λ (x : ℕ). nat_lt x (256 ^ 4)) (front (1 + m) ws 0 (omega arith))
word_alone U64 ws m = ap (λ (x : ℕ). nat_lt x (256 ^ 8)) (front (1 + m) ws 0 (omega arith))
word_alone (Bytes k) ws m = fits_alone k (nat_lt 8 k) ws m

pub read_alone : (attrs : List Attr) (ws : List ℕ) → words_fit attrs ws ≡ true → AreReadAlone attrs ws
read_alone [] ws fits = record {
  read = read_none (take (word_count []) ws) ∙ sym (read_none ws);
  fits = fit_none (take (word_count []) ws) ∙ (ap (λ (n : ℕ). nat_lt (get_or (take n ws) 0 0) (2 ^ 36)) count_none ∙ lt-ltb 0 (2 ^ 36) (omega arith));
}
read_alone (a ∷ attrs) ws fits =
    let n = words_of_kind a.kind in
    let m = word_count attrs in
    let f = both (word_fits a.kind ws) (words_fit attrs (drop n ws)) (sym (fit_cons a attrs ws) ∙ fits) in
    let more = read_alone attrs (drop n ws) f.1 in
    let rest : drop n (take (n + m) ws) ≡ take m (drop n ws) = drop-take n m ws in
    let count = count_cons a attrs in record {
      read = ap (λ (c : ℕ). values_read (a ∷ attrs) (take c ws)) count
          ∙ (read_cons a attrs (take (n + m) ws)
          ∙ (ap₂ (λ (v : Value) (vs : List Value). v ∷ vs) (value_alone a.kind ws m) (ap (values_read attrs) rest ∙ more.read) ∙ sym (read_cons a attrs ws)));
      fits = ap (λ (c : ℕ). words_fit (a ∷ attrs) (take c ws)) count
          ∙ (fit_cons a attrs (take (n + m) ws) ∙ and_from _ _ (word_alone a.kind ws m ∙ f.0) (ap (words_fit attrs) rest ∙ more.fits));
    }

-- the same by any number that is that of the words
pub alone_of : (attrs : List Attr) (ws : List ℕ) (n : ℕ) → n ≡ word_count attrs → word_count attrs ≤ length ws → words_fit attrs ws ≡ true
    → (length (take n ws) ≡ word_count attrs) × (words_fit attrs (take n ws) ≡ true) × (values_read attrs (take n ws) ≡ values_read attrs ws)
alone_of attrs ws n count le fits =
    let alone = read_alone attrs ws fits in
    let cut = ap (λ (c : ℕ). take c ws) count in
    (ap (length {A = ℕ}) cut ∙ length-take-le (word_count attrs) ws le, ap (words_fit attrs) cut ∙ alone.fits, ap (values_read attrs) cut ∙ alone.read)

-- the front of some words
pub take_min : (n m : ℕ) (ws : List ℕ) → m ≡ min n (length ws) → take m ws ≡ take n ws
take_min n m ws is = elim (cases_lt (length ws) n) [
  | inl gt ↦ take_all m ws (omega (arith, is, gt)) ∙ sym (take_all n ws (omega (arith, gt)))
  | inr le ↦ ap (λ (k : ℕ). take k ws) (let e : m ≡ n = omega (arith, is, le) in e)
]

-- the words of the values that are kept are those that are kept
pub kept_words : (lens ws : List ℕ) → AreKept lens ws → values_words (values_kept lens ws) ≡ ws
kept_words lens ws kept =
    let long = kept.long in
    (values_are_read (attrs_of lens) ws kept.sized (omega (arith, long)) kept.fits).words ∙ take_all (word_count (attrs_of lens)) ws (omega (arith, long))

good_len : (n : ℕ) (v : Value) → is_of_kind (kind_of n) v ≡ true → has_good_size (kind_of n) ≡ true
good_len zero v fits = refl
good_len (suc k) (Num x) fits = absurd (cc fits)
good_len (suc k) (Raw len bytes) fits =
    let s = string_of (suc k) len bytes fits in
    let same = s.same in
    let few = s.few in
    and_from _ _ (le-leb 1 (suc k) (omega arith)) (le-leb (suc k) 16 (omega (arith, same, few)))

good_lens : (lens : List ℕ) (vs : List Value) → values_fit (attrs_of lens) vs ≡ true → list_all (λ attr. has_good_size attr.kind) (attrs_of lens) ≡ true
good_lens [] vs fits = refl
good_lens (x ∷ xs) [] fits = absurd (cc fits)
good_lens (x ∷ xs) (v ∷ vs) fits = let c = both (is_of_kind (kind_of x) v) (values_fit (attrs_of xs) vs) fits in
    and_from _ _ (good_len x v c.0) (good_lens xs vs c.1)

-- the words of values of these lengths keep them
pub packed_kept : (lens ws : List ℕ) (vs : List Value) → length lens ≤ MOST_ATTRS → ws ≡ values_words vs → values_fit (attrs_of lens) vs ≡ true → AreKept lens ws
    × (values_kept lens ws ≡ vs)
packed_kept lens ws vs few is fits =
    let attrs : List Attr = attrs_of lens in
    let long = values_long attrs vs fits in
    let alone = read_alone attrs (values_words vs ++ 0 ∷ []) (values_fit_words attrs vs 0 fits (omega arith)) in
    let cut : take (word_count attrs) (values_words vs ++ 0 ∷ []) ≡ values_words vs = take_at (values_words vs) (0 ∷ []) (word_count attrs) long in
    let low : words_fit attrs (values_words vs) ≡ true = subst (λ (xs : List ℕ). words_fit attrs xs ≡ true) cut alone.fits in
    let back : values_read attrs (values_words vs) ≡ vs = ap (values_read attrs) (sym (append-nil (values_words vs))) ∙ values_back attrs vs [] fits in
    subst (λ (xs : List ℕ). AreKept lens xs × (values_kept lens xs ≡ vs)) (sym is)
    (record { few = few; sized = good_lens lens vs fits; long = long; fits = low }, back)

fit_push : (lens : List ℕ) (vs : List Value) (n : ℕ) (v : Value) → values_fit (attrs_of lens) vs ≡ true → is_of_kind (kind_of n) v ≡ true
    → values_fit (attrs_of (lens ++ n ∷ [])) (vs ++ v ∷ []) ≡ true
fit_push [] [] n v fits one = and_from _ _ one refl
fit_push [] (y ∷ ys) n v fits one = absurd (cc fits)
fit_push (x ∷ xs) [] n v fits one = absurd (cc fits)
fit_push (x ∷ xs) (y ∷ ys) n v fits one = let c = both (is_of_kind (kind_of x) y) (values_fit (attrs_of xs) ys) fits in
    and_from _ _ c.0 (fit_push xs ys n v c.1 one)

-- the next value is of the next length
pub fit_more : (lens : List ℕ) (vs : List Value) (i n : ℕ) → i < length vs → i < length lens → is_of_kind (kind_of n) (get_or vs i (Num 0)) ≡ true
    → values_fit (attrs_of (take i lens)) (take i vs) ≡ true → values_fit (attrs_of (take (i + 1) (set lens i n))) (take (i + 1) vs) ≡ true
fit_more lens vs i n lt room one fits =
    ap₂ (λ (xs : List ℕ) (ys : List Value). values_fit (attrs_of xs) ys) (take_more_set lens i n room) (take_more vs i (Num 0) lt)
    ∙ fit_push (take i lens) (take i vs) n (get_or vs i (Num 0)) fits one

no_and : (a b : Bool) → b ≡ false → (a && b) ≡ false
no_and true b h = h
no_and false b h = refl

above : (n m : ℕ) → m < n → nat_le n m ≡ false
above n m lt = elim (cases_Bool (nat_le n m)) [
  | inl e ↦ (let le = leb-true n m e in absurd (omega (arith, le, lt)))
  | inr e ↦ e
]

pub too_many_words : (vs : List Value) (i at n : ℕ) → i < length vs → at ≡ length (values_words (take i vs))
    → is_of_kind (kind_of n) (get_or vs i (Num 0)) ≡ true → MOST_ATTRS < at + words_of_kind (kind_of n) → lie_within vs ≡ false
too_many_words vs i at n lt end fits gt =
    let v : Value = get_or vs i (Num 0) in
    let m = ap (length {A = ℕ}) (words_more vs i (Num 0) lt) in
    let long = value_long (kind_of n) v fits in
    let all = words_front vs (i + 1) in
    let more : MOST_ATTRS < length (values_words vs) = omega (arith, m, long, all, end, gt, length-append (values_words (take i vs)) (value_words v)) in
    no_and (nat_le (length vs) MOST_ATTRS && list_all can_be_kept vs) (nat_le (length (values_words vs)) MOST_ATTRS) (above (length (values_words vs)) MOST_ATTRS more)
