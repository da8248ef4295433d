-- An entry is read back from the words that spell it.
use Rattle.std.proofs.Common.{◌≡◌, ℕ, ◌+◌, ◌-◌, ◌/◌, ◌%◌, ◌<◌, ◌≤◌, ◌==◌, zero, suc, List, [], ◌∷◌, ◌++◌, length, get_or, set, take, drop, replicate, cond, Bool, true, ◌&&◌, nat_lt, nat_le, inl, inr, refl, arith, ap, ap₂, sym, ◌∙◌, length-append, append_assoc, length-drop}
use Rattle.std.proofs.lemmas.Bool.{cases_Bool, ltb-true, leb-true, eqb-true}
use Rattle.std.proofs.lemmas.List.{length-take-le, take-append-drop, drop_at, get_or_at, take_more, append-nil, set_split, drop_all}
use Rattle.std.proofs.lemmas.Nat.{div-mul-add, mod-mul-add}
use Rattle.std.specs.List.{list_all}
use Rattle.cf_row.specs.declared.schema.Attr.{Attr}
use Rattle.cf_row.specs.declared.schema.Kind.{Kind}
use Rattle.cf_row.specs.declared.schema.Kind.TheVariants.{U8, U16, U32, U64, Bytes}
use Rattle.cf_row.specs.declared.row.Value.{Value}
use Rattle.cf_row.specs.declared.row.Value.TheVariants.{Num, Raw}
use Rattle.cf_row.specs.declared.row.Entry.{Entry}
use Rattle.cf_row.specs.Row.{is_of_kind, is_byte_string, values_fit}
use Rattle.cf_row.specs.Words.{words_of_kind, word_count, big_number, big_bytes, raw_words, value_words, values_words, tag_of, spelled, IsEntry, raw_read, value_read, values_read, entry_read}
use Rattle.cf_row.proofs.Counts.{count_none, count_cons}
use Rattle.cf_row.proofs.Bytes.{both, AreBytes, big_back, bytes_take, bytes_drop, all_zero}

-- what a string of bytes that fits is
pub record IsString (k len : ℕ) (bytes : List ℕ) : Type 0 where
  pub same : len ≡ k
  pub few : len ≤ 16
  pub size : length bytes ≡ 16
  pub low : AreBytes bytes
  pub padded : drop len bytes ≡ replicate (16 - len) 0

pub string_of : (k len : ℕ) (bytes : List ℕ) → is_of_kind (Bytes k) (Raw len bytes) ≡ true → IsString k len bytes
string_of k len bytes h =
    let a = both (len == k) (is_byte_string len bytes) h in
    let b = both (nat_le len 16 && (length bytes == 16) && list_all (λ byte. nat_lt byte 256) bytes) (list_all (λ byte. byte == 0) (drop len bytes)) a.1 in
    let c = both (nat_le len 16 && (length bytes == 16)) (list_all (λ byte. nat_lt byte 256) bytes) b.0 in
    let d = both (nat_le len 16) (length bytes == 16) c.0 in
    let size : length bytes ≡ 16 = eqb-true (length bytes) 16 d.1 in record {
      same = eqb-true len k a.0;
      few = leb-true len 16 d.0;
      size = size;
      low = c.1;
      padded = all_zero (drop len bytes) b.1 ∙ ap (λ (n : ℕ). replicate n 0) (length-drop len bytes ∙ ap (λ (n : ℕ). n - len) size);
    }

raw_long : (len : ℕ) (bytes : List ℕ) → length (raw_words len bytes) ≡ words_of_kind (Bytes len)
raw_long len bytes = elim (cases_Bool (nat_lt 8 len)) [
  | inl e ↦
      ap (λ (t : Bool). length (cond t (big_number (take 8 bytes) ∷ big_number (take (len - 8) (drop 8 bytes)) ∷ []) (big_number (take len bytes) ∷ []))) e
      ∙ ap (λ (t : Bool). cond t 2 1) (sym e)
  | inr e ↦
      ap (λ (t : Bool). length (cond t (big_number (take 8 bytes) ∷ big_number (take (len - 8) (drop 8 bytes)) ∷ []) (big_number (take len bytes) ∷ []))) e
      ∙ ap (λ (t : Bool). cond t 2 1) (sym e)
]

back_of : (n : ℕ) (xs : List ℕ) → AreBytes xs → n ≤ length xs → big_bytes n (big_number (take n xs)) ≡ take n xs
back_of n xs low le = ap (λ (m : ℕ). big_bytes m (big_number (take n xs))) (sym (length-take-le n xs le)) ∙ big_back (take n xs) (bytes_take n xs low)

pub take_two : (n m : ℕ) (xs : List ℕ) → take n xs ++ take m (drop n xs) ≡ take (n + m) xs
take_two zero m xs = ap (λ (k : ℕ). take k xs) (let e : m ≡ 0 + m = omega arith in e)
take_two (suc n) m [] =
    nothing m ∙ ap (λ (k : ℕ). take {A = ℕ} k []) (let e : suc (n + m) ≡ suc n + m = omega arith in e)
  where
    nothing : (m : ℕ) → take {A = ℕ} m [] ≡ []
    nothing zero = refl
    nothing (suc m) = refl
take_two (suc n) m (x ∷ xs) =
    ap (λ (ys : List ℕ). x ∷ ys) (take_two n m xs) ∙ ap (λ (k : ℕ). take k (x ∷ xs)) (let e : suc (n + m) ≡ suc n + m = omega arith in e)

abbrev words_by : ℕ → List ℕ → Bool → List ℕ
words_by len bytes t = cond t (big_number (take 8 bytes) ∷ big_number (take (len - 8) (drop 8 bytes)) ∷ []) (big_number (take len bytes) ∷ [])

abbrev read_by : ℕ → Bool → List ℕ → List ℕ
read_by len t ws = cond t (big_bytes 8 (get_or ws 0 0) ++ big_bytes (len - 8) (get_or ws 1 0)) (big_bytes len (get_or ws 0 0))

raw_back : (len : ℕ) (bytes rest : List ℕ) → len ≤ length bytes → AreBytes bytes → raw_read len (raw_words len bytes ++ rest) ≡ take len bytes
raw_back len bytes rest few low = elim (cases_Bool (nat_lt 8 len)) [
  | inl e ↦
      let lt : 8 < len = ltb-true 8 len e in
      let d : length (drop 8 bytes) ≡ length bytes - 8 = length-drop 8 bytes in
      let first = back_of 8 bytes low (omega arith) in
      let second = back_of (len - 8) (drop 8 bytes) (bytes_drop 8 bytes low) (omega (arith, d)) in
      ap (λ (t : Bool). read_by len t (words_by len bytes t ++ rest)) e
      ∙ (ap₂ (λ (a b : List ℕ). a ++ b) first second
      ∙ (take_two 8 (len - 8) bytes ∙ ap (λ (k : ℕ). take k bytes) (let h : 8 + (len - 8) ≡ len = omega arith in h)))
  | inr e ↦ ap (λ (t : Bool). read_by len t (words_by len bytes t ++ rest)) e ∙ back_of len bytes low few
]

pub value_long : (k : Kind) (v : Value) → is_of_kind k v ≡ true → length (value_words v) ≡ words_of_kind k
value_long U8 (Num n) h = refl
value_long U16 (Num n) h = refl
value_long U32 (Num n) h = refl
value_long U64 (Num n) h = refl
value_long (Bytes b) (Num n) h = absurd (cc h)
value_long U8 (Raw len bytes) h = absurd (cc h)
value_long U16 (Raw len bytes) h = absurd (cc h)
value_long U32 (Raw len bytes) h = absurd (cc h)
value_long U64 (Raw len bytes) h = absurd (cc h)
value_long (Bytes k) (Raw len bytes) h = raw_long len bytes ∙ ap (λ (n : ℕ). words_of_kind (Bytes n)) (string_of k len bytes h).same

-- a value of its kind is read back
pub value_back : (k : Kind) (v : Value) (rest : List ℕ) → is_of_kind k v ≡ true → value_read k (value_words v ++ rest) ≡ v
value_back U8 (Num n) rest h = refl
value_back U16 (Num n) rest h = refl
value_back U32 (Num n) rest h = refl
value_back U64 (Num n) rest h = refl
value_back (Bytes b) (Num n) rest h = absurd (cc h)
value_back U8 (Raw len bytes) rest h = absurd (cc h)
value_back U16 (Raw len bytes) rest h = absurd (cc h)
value_back U32 (Raw len bytes) rest h = absurd (cc h)
value_back U64 (Raw len bytes) rest h = absurd (cc h)
value_back (Bytes k) (Raw len bytes) rest h =
    let s = string_of k len bytes h in
    let few : len ≤ length bytes = let a = s.few in let b = s.size in omega arith in
    ap (λ (n : ℕ). value_read (Bytes n) (raw_words len bytes ++ rest)) (sym s.same)
    ∙ ap (λ (bs : List ℕ). Raw len bs) (ap₂ (λ (a b : List ℕ). a ++ b) (raw_back len bytes rest few s.low) (sym s.padded) ∙ take-append-drop len bytes)

pub words_none : values_words [] ≡ []
unfolding values_words
words_none = refl

pub words_cons : (v : Value) (vs : List Value) → values_words (v ∷ vs) ≡ value_words v ++ values_words vs
unfolding values_words
words_cons v vs = refl

pub values_long : (attrs : List Attr) (vs : List Value) → values_fit attrs vs ≡ true → length (values_words vs) ≡ word_count attrs
values_long [] [] h = ap (length {A = ℕ}) words_none ∙ sym count_none
values_long [] (v ∷ vs) h = absurd (cc h)
values_long (a ∷ attrs) [] h = absurd (cc h)
values_long (a ∷ attrs) (v ∷ vs) h =
    let c = both (is_of_kind a.kind v) (values_fit attrs vs) h in
    let e = ap (length {A = ℕ}) (words_cons v vs) in
    omega (arith, e, length-append (value_words v) (values_words vs), value_long a.kind v c.0, values_long attrs vs c.1, count_cons a attrs)

pub values_back : (attrs : List Attr) (vs : List Value) (rest : List ℕ) → values_fit attrs vs ≡ true → values_read attrs (values_words vs ++ rest) ≡ vs
unfolding values_read
values_back [] [] rest h = refl
values_back [] (v ∷ vs) rest h = absurd (cc h)
values_back (a ∷ attrs) [] rest h = absurd (cc h)
values_back (a ∷ attrs) (v ∷ vs) rest h =
    let c = both (is_of_kind a.kind v) (values_fit attrs vs) h in
    let flat : values_words (v ∷ vs) ++ rest ≡ value_words v ++ (values_words vs ++ rest) = ap (λ (ws : List ℕ). ws ++ rest) (words_cons v vs)
    ∙ append_assoc (value_words v) (values_words vs) rest in
    ap (λ (ws : List ℕ). value_read a.kind ws ∷ values_read attrs (drop (words_of_kind a.kind) ws)) flat
    ∙ ap₂ (λ (x : Value) (xs : List Value). x ∷ xs) (value_back a.kind v (values_words vs ++ rest) c.0)
    (ap (values_read attrs) (drop_at (value_words v) (values_words vs ++ rest) (words_of_kind a.kind) (value_long a.kind v c.0))
    ∙ values_back attrs vs rest c.1)

pub spelled_long : (attrs : List Attr) (e : Entry) → values_fit attrs e.row.values ≡ true → length (spelled e) ≡ word_count attrs + 1
spelled_long attrs e fits = omega (arith, length-append (values_words e.row.values) (tag_of e ∷ []), values_long attrs e.row.values fits)

-- an entry is read back
pub entry_back : (attrs : List Attr) (e : Entry) → IsEntry attrs e → entry_read attrs (spelled e) ≡ e
entry_back attrs e is =
    let back = values_back attrs e.row.values (tag_of e ∷ []) is.fits in
    let tag : get_or (spelled e) (word_count attrs) 0 ≡ tag_of e =
    get_or_at (values_words e.row.values) (tag_of e) [] 0 (word_count attrs) (values_long attrs e.row.values is.fits) in
    let num : tag_of e / 16 ≡ e.row.num = div-mul-add e.row.num 16 e.writer is.writer in
    let writer : tag_of e % 16 ≡ e.writer = mod-mul-add e.row.num 16 e.writer is.writer in
    ap₂ (λ (t : ℕ) (vs : List Value). record { writer = t % 16; row = record { num = t / 16; values = vs } }) tag back
    ∙ ap₂ (λ (a b : ℕ). record { writer = a; row = record { num = b; values = e.row.values } }) writer num

pub words_push : (vs : List Value) (v : Value) → values_words (vs ++ v ∷ []) ≡ values_words vs ++ value_words v
words_push [] v = words_cons v []
    ∙ (ap (λ (ws : List ℕ). value_words v ++ ws) words_none ∙ (append-nil (value_words v) ∙ ap (λ (ws : List ℕ). ws ++ value_words v) (sym words_none)))
words_push (x ∷ xs) v =
    words_cons x (xs ++ v ∷ []) ∙ (ap (λ (ws : List ℕ). value_words x ++ ws) (words_push xs v)
    ∙ (sym (append_assoc (value_words x) (values_words xs) (value_words v)) ∙ ap (λ (ws : List ℕ). ws ++ value_words v) (sym (words_cons x xs))))

pub words_more : (vs : List Value) (i : ℕ) (d : Value) → i < length vs
    → values_words (take (i + 1) vs) ≡ values_words (take i vs) ++ value_words (get_or vs i d)
words_more vs i d lt = ap values_words (take_more vs i d lt) ∙ words_push (take i vs) (get_or vs i d)

words_append : (vs ws : List Value) → length (values_words (vs ++ ws)) ≡ length (values_words vs) + length (values_words ws)
words_append [] ws = omega (arith, ap (length {A = ℕ}) words_none)
words_append (x ∷ xs) ws = omega (
  arith,
  ap (length {A = ℕ}) (words_cons x (xs ++ ws)),
  length-append (value_words x) (values_words (xs ++ ws)),
  words_append xs ws,
  ap (length {A = ℕ}) (words_cons x xs),
  length-append (value_words x) (values_words xs),
)

-- the words of the first values are no more than all
pub words_front : (vs : List Value) (i : ℕ) → length (values_words (take i vs)) ≤ length (values_words vs)
words_front vs i = omega (arith, ap (λ (xs : List Value). length (values_words xs)) (take-append-drop i vs), words_append (take i vs) (drop i vs))

-- the last word is written after the others
pub last_written : (out ws : List ℕ) (at x y : ℕ) → at ≡ length ws → take at out ≡ ws → length out ≡ at + 1 → x ≡ y → set out at x ≡ ws ++ y ∷ []
last_written out ws at x y is front long same =
    set_split out at x (omega arith) ∙ (ap₂ (λ (a b : List ℕ). a ++ x ∷ b) front (drop_all (suc at) out (omega arith)) ∙ ap (λ (z : ℕ). ws ++ z ∷ []) same)
