-- Which words are those of an entry.
use Rattle.std.proofs.Common.{◌≡◌, ℕ, ◌+◌, ◌-◌, ◌^◌, ◌<◌, ◌≤◌, ◌==◌, List, [], ◌∷◌, ◌++◌, length, get_or, take, drop, replicate, cond, Bool, true, ◌&&◌, nat_lt, nat_le, inl, inr, refl, arith, ap, ap₂, sym, ◌∙◌, subst, length-append, append_assoc, length-drop}
use Rattle.std.specs.List.{list_all}
use Rattle.std.proofs.lemmas.Bool.{cases_Bool, and_from, ltb-true, ltb-false, lt-ltb, leb-true, le-leb, eq-eqb}
use Rattle.std.proofs.lemmas.List.{length-take-le, length-replicate, drop_at, take_at}
use Rattle.std.proofs.lemmas.Nat.{div-add-mod'}
use Rattle.cf_row.specs.declared.schema.Attr.{Attr}
use Rattle.cf_row.specs.declared.schema.Kind.{Kind}
use Rattle.cf_row.specs.declared.schema.Kind.TheVariants.{U8, U16, U32, U64, Bytes}
use Rattle.cf_row.specs.declared.row.Value.{Value}
use Rattle.cf_row.specs.declared.row.Value.TheVariants.{Num, Raw}
use Rattle.cf_row.specs.declared.row.Entry.{Entry}
use Rattle.cf_row.specs.Row.{is_of_kind, values_fit}
use Rattle.cf_row.specs.Schema.{has_good_size}
use Rattle.cf_row.specs.Words.{words_of_kind, word_count, big_number, big_bytes, raw_words, value_words, values_words, tag_of, spelled, IsEntry, AreSpelled, raw_read, value_read, values_read, entry_read, word_fits, words_fit}
use Rattle.cf_row.proofs.Counts.{count_none, count_cons}
use Rattle.cf_row.proofs.Bytes.{both, AreBytes, big_small, bytes_take, bytes_drop, bytes_back, big_long, big_bytes_low, bytes_append, zeros_all, zeros_low}
use Rattle.cf_row.proofs.Spelling.{string_of, value_long, spelled_long, entry_back, words_none, words_cons}

pub fit_cons : (a : Attr) (attrs : List Attr) (ws : List ℕ)
    → words_fit (a ∷ attrs) ws ≡ (word_fits a.kind ws && words_fit attrs (drop (words_of_kind a.kind) ws))
unfolding words_fit
fit_cons a attrs ws = refl

pub fit_none : (ws : List ℕ) → words_fit [] ws ≡ nat_lt (get_or ws 0 0) (2 ^ 36)
unfolding words_fit
fit_none ws = refl

front_low : (n : ℕ) (xs : List ℕ) → AreBytes xs → n ≤ length xs → big_number (take n xs) < 256 ^ n
front_low n xs low le = subst (λ (m : ℕ). big_number (take n xs) < 256 ^ m) (length-take-le n xs le) (big_small (take n xs) (bytes_take n xs low))

-- the words of a value of the kind are in range
raw_fits : (k : ℕ) (bytes rest : List ℕ) → k ≤ 16 → length bytes ≡ 16 → AreBytes bytes → word_fits (Bytes k) (raw_words k bytes ++ rest) ≡ true
raw_fits k bytes rest few size low = elim (cases_Bool (nat_lt 8 k)) [
  | inl e ↦
      let lt = ltb-true 8 k e in
      let a = front_low 8 bytes low (omega arith) in
      let b = front_low (k - 8) (drop 8 bytes) (bytes_drop 8 bytes low) (omega (arith, length-drop 8 bytes)) in
      ap (λ (t : Bool). cond t (nat_lt (get_or (words_by t ++ rest) 0 0) (256 ^ 8) && nat_lt (get_or (words_by t ++ rest) 1 0) (256 ^ (k - 8)))
      (nat_lt (get_or (words_by t ++ rest) 0 0) (256 ^ k))) e
      ∙ and_from _ _ (lt-ltb _ _ a) (lt-ltb _ _ b)
  | inr e ↦
      let ge = ltb-false 8 k e in
      ap (λ (t : Bool). cond t (nat_lt (get_or (words_by t ++ rest) 0 0) (256 ^ 8) && nat_lt (get_or (words_by t ++ rest) 1 0) (256 ^ (k - 8)))
      (nat_lt (get_or (words_by t ++ rest) 0 0) (256 ^ k))) e
      ∙ lt-ltb _ _ (front_low k bytes low (omega arith))
]
  where
    words_by : Bool → List ℕ
    words_by t = cond t (big_number (take 8 bytes) ∷ big_number (take (k - 8) (drop 8 bytes)) ∷ []) (big_number (take k bytes) ∷ [])

value_fits : (k : Kind) (v : Value) (rest : List ℕ) → is_of_kind k v ≡ true → word_fits k (value_words v ++ rest) ≡ true
value_fits U8 (Num n) rest h = h
value_fits U16 (Num n) rest h = h
value_fits U32 (Num n) rest h = h
value_fits U64 (Num n) rest h = h
value_fits (Bytes b) (Num n) rest h = absurd (cc h)
value_fits U8 (Raw len bytes) rest h = absurd (cc h)
value_fits U16 (Raw len bytes) rest h = absurd (cc h)
value_fits U32 (Raw len bytes) rest h = absurd (cc h)
value_fits U64 (Raw len bytes) rest h = absurd (cc h)
value_fits (Bytes k) (Raw len bytes) rest h =
    let s = string_of k len bytes h in
    subst (λ (n : ℕ). word_fits (Bytes n) (raw_words len bytes ++ rest) ≡ true) s.same (raw_fits len bytes rest s.few s.size s.low)

pub values_fit_words : (attrs : List Attr) (vs : List Value) (tag : ℕ) → values_fit attrs vs ≡ true → tag < 2 ^ 36
    → words_fit attrs (values_words vs ++ tag ∷ []) ≡ true
values_fit_words [] [] tag h lt = fit_none (values_words [] ++ tag ∷ [])
    ∙ (ap (λ (ws : List ℕ). nat_lt (get_or (ws ++ tag ∷ []) 0 0) (2 ^ 36)) words_none ∙ lt-ltb tag (2 ^ 36) lt)
values_fit_words [] (v ∷ vs) tag h lt = absurd (cc h)
values_fit_words (a ∷ attrs) [] tag h lt = absurd (cc h)
values_fit_words (a ∷ attrs) (v ∷ vs) tag h lt =
    let c = both (is_of_kind a.kind v) (values_fit attrs vs) h in
    let flat : values_words (v ∷ vs) ++ tag ∷ [] ≡ value_words v ++ (values_words vs ++ tag ∷ []) = ap (λ (ws : List ℕ). ws ++ tag ∷ []) (words_cons v vs)
    ∙ append_assoc (value_words v) (values_words vs) (tag ∷ []) in
    fit_cons a attrs (values_words (v ∷ vs) ++ tag ∷ []) ∙ (ap (λ (ws : List ℕ). word_fits a.kind ws && words_fit attrs (drop (words_of_kind a.kind) ws)) flat
    ∙ and_from _ _ (value_fits a.kind v (values_words vs ++ tag ∷ []) c.0)
    (ap (words_fit attrs) (drop_at (value_words v) (values_words vs ++ tag ∷ []) (words_of_kind a.kind) (value_long a.kind v c.0))
    ∙ values_fit_words attrs vs tag c.1 lt))

-- the words of an entry are as many as there must be, and in range
pub entry_fits : (attrs : List Attr) (e : Entry) → IsEntry attrs e → (length (spelled e) ≡ word_count attrs + 1) × (words_fit attrs (spelled e) ≡ true)
entry_fits attrs e is =
    (spelled_long attrs e is.fits, values_fit_words attrs e.row.values (tag_of e) is.fits (let a = is.num in let b = is.writer in omega arith))

pub spelled_read : (attrs : List Attr) (ws : List ℕ) (e : Entry) → IsEntry attrs e → ws ≡ spelled e → entry_read attrs ws ≡ e
spelled_read attrs ws e is same = ap (entry_read attrs) same ∙ entry_back attrs e is

pub spelled_fits : (attrs : List Attr) (ws : List ℕ) → AreSpelled attrs ws → (length ws ≡ word_count attrs + 1) × (words_fit attrs ws ≡ true)
spelled_fits attrs ws s =
    subst (λ (xs : List ℕ). (length xs ≡ word_count attrs + 1) × (words_fit attrs xs ≡ true)) (sym s.spells) (entry_fits attrs s.entry s.lawful)

-- Words in range are those of the entry that is read from them.
pub record IsRead (k : Kind) (ws : List ℕ) : Type 0 where
  pub of_kind : is_of_kind k (value_read k ws) ≡ true
  pub words : value_words (value_read k ws) ≡ take (words_of_kind k) ws

number_read : (ws : List ℕ) → 1 ≤ length ws → get_or ws 0 0 ∷ [] ≡ take 1 ws
number_read [] le = absurd (omega arith)
number_read (x ∷ xs) le = refl

two_read : (ws : List ℕ) → 2 ≤ length ws → get_or ws 0 0 ∷ get_or ws 1 0 ∷ [] ≡ take 2 ws
two_read [] le = absurd (omega arith)
two_read (x ∷ []) le = absurd (omega arith)
two_read (x ∷ (y ∷ xs)) le = refl

string_is : (k : ℕ) (xs : List ℕ) → k ≤ 16 → length xs ≡ k → AreBytes xs → is_of_kind (Bytes k) (Raw k (xs ++ replicate (16 - k) 0)) ≡ true
string_is k xs few size low =
    let long : length (xs ++ replicate (16 - k) 0) ≡ 16 = omega (arith, length-append xs (replicate (16 - k) 0), length-replicate {A = ℕ} (16 - k) 0) in
    and_from _ _ (eq-eqb k k refl)
    (and_from _ _ (and_from _ _ (and_from _ _ (le-leb k 16 few) (eq-eqb _ 16 long)) (bytes_append xs (replicate (16 - k) 0) low (zeros_low (16 - k))))
    (ap (list_all (λ byte. byte == 0)) (drop_at xs (replicate (16 - k) 0) k size) ∙ zeros_all (16 - k)))

short_read : (k : ℕ) (ws : List ℕ) → k ≤ 8 → 1 ≤ length ws → get_or ws 0 0 < 256 ^ k
    → raw_words k (big_bytes k (get_or ws 0 0) ++ replicate (16 - k) 0) ≡ take 1 ws
short_read k ws few le lt =
    let x = get_or ws 0 0 in
    let bs : List ℕ = big_bytes k x ++ replicate (16 - k) 0 in
    ap (λ (t : Bool). cond t (big_number (take 8 bs) ∷ big_number (take (k - 8) (drop 8 bs)) ∷ []) (big_number (take k bs) ∷ []))
    (Rattle.std.proofs.lemmas.Bool.le-ltb 8 k few)
    ∙ (ap (λ (ys : List ℕ). big_number ys ∷ []) (take_at (big_bytes k x) (replicate (16 - k) 0) k (big_long k x))
    ∙ (ap (λ (n : ℕ). n ∷ []) (bytes_back k x lt) ∙ number_read ws le))

long_read : (k : ℕ) (ws : List ℕ) → 8 < k → k ≤ 16 → 2 ≤ length ws → get_or ws 0 0 < 256 ^ 8 → get_or ws 1 0 < 256 ^ (k - 8)
    → raw_words k ((big_bytes 8 (get_or ws 0 0) ++ big_bytes (k - 8) (get_or ws 1 0)) ++ replicate (16 - k) 0) ≡ take 2 ws
long_read k ws many few le a b =
    let x = get_or ws 0 0 in
    let y = get_or ws 1 0 in
    let bs : List ℕ = (big_bytes 8 x ++ big_bytes (k - 8) y) ++ replicate (16 - k) 0 in
    let flat : bs ≡ big_bytes 8 x ++ (big_bytes (k - 8) y ++ replicate (16 - k) 0) =
    append_assoc (big_bytes 8 x) (big_bytes (k - 8) y) (replicate (16 - k) 0) in
    let first : big_number (take 8 bs) ≡ x = ap (λ (ys : List ℕ). big_number (take 8 ys)) flat
    ∙ (ap big_number (take_at (big_bytes 8 x) (big_bytes (k - 8) y ++ replicate (16 - k) 0) 8 (big_long 8 x)) ∙ bytes_back 8 x a) in
    let second : big_number (take (k - 8) (drop 8 bs)) ≡ y =
    ap (λ (ys : List ℕ). big_number (take (k - 8) (drop 8 ys))) flat
    ∙ (ap (λ (ys : List ℕ). big_number (take (k - 8) ys)) (drop_at (big_bytes 8 x) (big_bytes (k - 8) y ++ replicate (16 - k) 0) 8 (big_long 8 x))
    ∙ (ap big_number (take_at (big_bytes (k - 8) y) (replicate (16 - k) 0) (k - 8) (big_long (k - 8) y)) ∙ bytes_back (k - 8) y b)) in
    ap (λ (t : Bool). cond t (big_number (take 8 bs) ∷ big_number (take (k - 8) (drop 8 bs)) ∷ []) (big_number (take k bs) ∷ [])) (lt-ltb 8 k many)
    ∙ (ap₂ (λ (m n : ℕ). m ∷ n ∷ []) first second ∙ two_read ws le)

pub value_is_read : (k : Kind) (ws : List ℕ) → has_good_size k ≡ true → words_of_kind k ≤ length ws → word_fits k ws ≡ true → IsRead k ws
value_is_read U8 ws good le fits = record { of_kind = fits; words = number_read ws le }
value_is_read U16 ws good le fits = record { of_kind = fits; words = number_read ws le }
value_is_read U32 ws good le fits = record { of_kind = fits; words = number_read ws le }
value_is_read U64 ws good le fits = record { of_kind = fits; words = number_read ws le }
value_is_read (Bytes k) ws good le fits =
    let few = leb-true k 16 (both (nat_le 1 k) (nat_le k 16) good).1 in
    elim (cases_Bool (nat_lt 8 k)) [
      | inl e ↦
          let many = ltb-true 8 k e in
          let two : 2 ≤ length ws = subst (λ (t : Bool). cond t 2 1 ≤ length ws) e le in
          let b = both (nat_lt (get_or ws 0 0) (256 ^ 8)) (nat_lt (get_or ws 1 0) (256 ^ (k - 8)))
          (sym (ap (λ (t : Bool). cond t (nat_lt (get_or ws 0 0) (256 ^ 8) && nat_lt (get_or ws 1 0) (256 ^ (k - 8)))
          (nat_lt (get_or ws 0 0) (256 ^ k))) e) ∙ fits) in
          let x = ltb-true _ _ b.0 in
          let y = ltb-true _ _ b.1 in
          let bytes : raw_read k ws ≡ big_bytes 8 (get_or ws 0 0) ++ big_bytes (k - 8) (get_or ws 1 0) =
          ap (λ (t : Bool). cond t (big_bytes 8 (get_or ws 0 0) ++ big_bytes (k - 8) (get_or ws 1 0)) (big_bytes k (get_or ws 0 0))) e in
          let size : length (big_bytes 8 (get_or ws 0 0) ++ big_bytes (k - 8) (get_or ws 1 0)) ≡ k =
          omega (
            arith,
            length-append (big_bytes 8 (get_or ws 0 0)) (big_bytes (k - 8) (get_or ws 1 0)),
            big_long 8 (get_or ws 0 0),
            big_long (k - 8) (get_or ws 1 0),
          ) in
          record {
            of_kind = ap (λ (bs : List ℕ). is_of_kind (Bytes k) (Raw k (bs ++ replicate (16 - k) 0))) bytes
                ∙ string_is k (big_bytes 8 (get_or ws 0 0) ++ big_bytes (k - 8) (get_or ws 1 0)) few size
                (bytes_append (big_bytes 8 (get_or ws 0 0)) (big_bytes (k - 8) (get_or ws 1 0)) (big_bytes_low 8 (get_or ws 0 0) x)
                (big_bytes_low (k - 8) (get_or ws 1 0) y));
            words = ap (λ (bs : List ℕ). raw_words k (bs ++ replicate (16 - k) 0)) bytes
                ∙ (long_read k ws many few two x y ∙ ap (λ (t : Bool). take (cond t 2 1) ws) (sym e));
          }
      | inr e ↦
          let short = ltb-false 8 k e in
          let one : 1 ≤ length ws = subst (λ (t : Bool). cond t 2 1 ≤ length ws) e le in
          let x = ltb-true _ _
          (sym (ap (λ (t : Bool). cond t (nat_lt (get_or ws 0 0) (256 ^ 8) && nat_lt (get_or ws 1 0) (256 ^ (k - 8)))
          (nat_lt (get_or ws 0 0) (256 ^ k))) e) ∙ fits) in
          let bytes : raw_read k ws ≡ big_bytes k (get_or ws 0 0) =
          ap (λ (t : Bool). cond t (big_bytes 8 (get_or ws 0 0) ++ big_bytes (k - 8) (get_or ws 1 0)) (big_bytes k (get_or ws 0 0))) e in
          record {
            of_kind = ap (λ (bs : List ℕ). is_of_kind (Bytes k) (Raw k (bs ++ replicate (16 - k) 0))) bytes
                ∙ string_is k (big_bytes k (get_or ws 0 0)) few (big_long k (get_or ws 0 0)) (big_bytes_low k (get_or ws 0 0) x);
            words = ap (λ (bs : List ℕ). raw_words k (bs ++ replicate (16 - k) 0)) bytes
                ∙ (short_read k ws short one x ∙ ap (λ (t : Bool). take (cond t 2 1) ws) (sym e));
          }
    ]

pub read_cons : (a : Attr) (attrs : List Attr) (ws : List ℕ)
    → values_read (a ∷ attrs) ws ≡ value_read a.kind ws ∷ values_read attrs (drop (words_of_kind a.kind) ws)
unfolding values_read
read_cons a attrs ws = refl

pub read_none : (ws : List ℕ) → values_read [] ws ≡ []
unfolding values_read
read_none ws = refl

pub record AreRead (attrs : List Attr) (ws : List ℕ) : Type 0 where
  pub fit : values_fit attrs (values_read attrs ws) ≡ true
  pub words : values_words (values_read attrs ws) ≡ take (word_count attrs) ws
  pub tag : get_or ws (word_count attrs) 0 < 2 ^ 36

take_two : (n m : ℕ) (xs : List ℕ) → take n xs ++ take m (drop n xs) ≡ take (n + m) xs
take_two n m xs = Rattle.cf_row.proofs.Spelling.take_two n m xs

pub values_are_read : (attrs : List Attr) (ws : List ℕ) → list_all (λ a. has_good_size a.kind) attrs ≡ true → word_count attrs ≤ length ws
    → words_fit attrs ws ≡ true → AreRead attrs ws
values_are_read [] ws good le fits = record {
  fit = ap (values_fit []) (read_none ws);
  words = ap values_words (read_none ws) ∙ (words_none ∙ ap (λ (n : ℕ). take n ws) (sym count_none));
  tag = subst (λ (n : ℕ). get_or ws n 0 < 2 ^ 36) (sym count_none) (ltb-true (get_or ws 0 0) (2 ^ 36) (sym (fit_none ws) ∙ fits));
}
values_are_read (a ∷ attrs) ws good le fits =
    let g = both (has_good_size a.kind) (list_all (λ b. has_good_size b.kind) attrs) good in
    let f = both (word_fits a.kind ws) (words_fit attrs (drop (words_of_kind a.kind) ws)) (sym (fit_cons a attrs ws) ∙ fits) in
    let n = words_of_kind a.kind in
    let count = count_cons a attrs in
    let l = length-drop n ws in
    let one = value_is_read a.kind ws g.0 (omega (arith, count)) f.0 in
    let more = values_are_read attrs (drop n ws) g.1 (omega (arith, count, l)) f.1 in
    let read = read_cons a attrs ws in record {
      fit = ap (values_fit (a ∷ attrs)) read ∙ and_from _ _ one.of_kind more.fit;
      words = ap values_words read ∙ (words_cons (value_read a.kind ws) (values_read attrs (drop n ws)) ∙ (ap₂ (λ (x y : List ℕ). x ++ y) one.words more.words
          ∙ (take_two n (word_count attrs) ws ∙ ap (λ (m : ℕ). take m ws) (sym count))));
      tag = (let t = more.tag in let e = Rattle.std.proofs.lemmas.List.get_or-drop n ws (word_count attrs) 0 in let p = ap (λ (m : ℕ). get_or ws m 0) count in
          omega (arith, t, e, p));
    }

-- Words of the right number and range are those of an entry, the one that is read from them.
pub read_spells : (attrs : List Attr) (ws : List ℕ) → list_all (λ a. has_good_size a.kind) attrs ≡ true → length ws ≡ word_count attrs + 1
    → words_fit attrs ws ≡ true → IsEntry attrs (entry_read attrs ws) × (ws ≡ spelled (entry_read attrs ws))
read_spells attrs ws good long fits =
    let r = values_are_read attrs ws good (omega (arith, long)) fits in
    let tag = get_or ws (word_count attrs) 0 in
    let t = r.tag in
    let last : take (word_count attrs) ws ++ tag ∷ [] ≡ ws = sym (Rattle.std.proofs.lemmas.List.take_more ws (word_count attrs) 0 (omega (arith, long)))
    ∙ Rattle.std.proofs.lemmas.List.take_all (word_count attrs + 1) ws (omega (arith, long)) in (
      record { fits = r.fit; num = omega (arith, t); writer = omega arith },
      sym (ap₂ (λ (xs : List ℕ) (n : ℕ). xs ++ n ∷ []) r.words (div-add-mod' tag 16) ∙ last),
    )

pub read_step : (attrs : List Attr) (i : ℕ) (a : Attr) (ws : List ℕ) → i < length attrs → a ≡ get_or attrs i a
    → (words_fit (drop i attrs) ws ≡ (word_fits a.kind ws && words_fit (drop (i + 1) attrs) (drop (words_of_kind a.kind) ws)))
    × (values_read (drop i attrs) ws ≡ value_read a.kind ws ∷ values_read (drop (i + 1) attrs) (drop (words_of_kind a.kind) ws))
read_step attrs i a ws lt is =
    let e : drop i attrs ≡ a ∷ drop (i + 1) attrs = Rattle.std.proofs.lemmas.List.drop_more attrs i a lt
    ∙ ap (λ (b : Attr). b ∷ drop (i + 1) attrs) (sym is) in (
      ap (λ (xs : List Attr). words_fit xs ws) e ∙ fit_cons a (drop (i + 1) attrs) ws,
      ap (λ (xs : List Attr). values_read xs ws) e
          ∙ read_cons a (drop (i + 1) attrs) ws,
    )

pub read_end : (attrs : List Attr) (i : ℕ) (ws : List ℕ) → length attrs ≤ i → (words_fit (drop i attrs) ws ≡ nat_lt (get_or ws 0 0) (2 ^ 36))
    × (values_read (drop i attrs) ws ≡ [])
read_end attrs i ws le =
    let e = Rattle.std.proofs.lemmas.List.drop_all i attrs le in
    (ap (λ (xs : List Attr). words_fit xs ws) e ∙ fit_none ws, ap (λ (xs : List Attr). values_read xs ws) e ∙ read_none ws)
