-- A number is read from the word of its attribute.
use Rattle.std.proofs.Common.{◌≡◌, ◌∙◌, ◌+◌, ◌*◌, ◌-◌, ◌^◌, ◌<◌, ◌≤◌, ℕ, zero, suc, min, Bool, true, inl, inr, ◌&&◌, ◌==◌, List, [], ◌∷◌, ◌++◌, length, drop, take, get_or, set, Some, slice_get, refl, ap, ap₂, sym, subst, arith, append_assoc}
use Rattle.std.specs.List.{list_all}
use Rattle.std.proofs.lemmas.Bool.{and_from, cases_Bool}
use Rattle.std.proofs.lemmas.List.{drop_more, get_or-append-add, get_or-set_same, get_or-set_other, length-take-le}
use Rattle.std.proofs.lemmas.Option.{slice_get-get_or}
use Rattle.cf_row.proofs.Truths.{eq_from, eq_true}
use Rattle.cf_row.specs.declared.schema.Attr.{Attr}
use Rattle.cf_row.specs.declared.schema.Kind.{Kind}
use Rattle.cf_row.specs.declared.schema.Kind.TheVariants.{U8, U16, U32, U64, Bytes}
use Rattle.cf_row.specs.declared.row.Value.{Value}
use Rattle.cf_row.specs.declared.row.Value.TheVariants.{Num, Raw}
use Rattle.cf_row.specs.declared.expr.Atom.{Atom}
use Rattle.cf_row.specs.declared.expr.Op.TheVariants.{Eq}
use Rattle.cf_row.specs.Expr.{atom_suits, number_of}
use Rattle.cf_row.specs.Row.{is_of_kind, value_at, values_fit}
use Rattle.cf_row.specs.Words.{spelled, tag_of, value_words, values_words, word_count, words_of_kind}
use Rattle.cf_row.proofs.Bytes.{both}
use Rattle.cf_row.proofs.Counts.{count_none, count_cons, count_low}
use Rattle.cf_row.proofs.Spelling.{value_long, words_cons}
use Rattle.cf_shape.specs.Lanes.{ShapeValue, IsShape, is_number, option_passes}
use Rattle.cf_table.specs.Effects.{HasStepped, word_effect}
use Rattle.cf_table.specs.Moves.{AreFit, OnlyLooked}
use Rattle.cf_table.specs.Values.{PassValue}
use Rattle.cf_plain.specs.Asks.{row_at, rows_in}
use Rattle.cf_plain.specs.Totals.{IsNarrow}
use Rattle.cf_plain.proofs.Amounts.{amount_low}
use Rattle.cf_query.specs.Selecting.{ArePlaces, compare_numbers, compares_number, is_plain}
use Rattle.cf_table.proofs.Reading.{no_entry, entry_at, loaded}
use Rattle.cf_walk.proofs.Tallied.{row_is, fits_of}

-- one attribute's words more
pub count_front : (attrs : List Attr) (k : ℕ) (attr : Attr) → slice_get attrs k ≡ Some attr
    → word_count (take (k + 1) attrs) ≡ word_count (take k attrs) + words_of_kind attr.kind
count_front [] zero attr at = absurd (cc at)
count_front [] (suc k) attr at = absurd (cc at)
count_front (x ∷ xs) zero attr at =
    let same : x ≡ attr = cc at in
    let one = count_cons x [] in
    let kind = ap (λ (a : Attr). words_of_kind a.kind) same in
    omega (arith, one, count_none, kind)
count_front (x ∷ xs) (suc k) attr at =
    let next : suc k + 1 ≡ suc (k + 1) = omega arith in
    let more = ap (λ (n : ℕ). word_count (take n (x ∷ xs))) next ∙ count_cons x (take (k + 1) xs) in
    omega (arith, more, count_cons x (take k xs), count_front xs k attr at)

-- the first words are no more than all
kind_some : (kind : Kind) → 1 ≤ words_of_kind kind
kind_some U8 = omega arith
kind_some U16 = omega arith
kind_some U32 = omega arith
kind_some U64 = omega arith
kind_some (Bytes n) = grind arith

pub front_low : (attrs : List Attr) (k : ℕ) → k < length attrs → word_count (take k attrs) < word_count attrs
front_low [] k lt = absurd (omega arith)
front_low (x ∷ xs) zero lt = omega (arith, count_none, count_cons x xs, kind_some x.kind)
front_low (x ∷ xs) (suc k) lt = omega (arith, count_cons x (take k xs), count_cons x xs, front_low xs k (omega (arith, lt)))

pub front_few : (attrs : List Attr) (k : ℕ) → k ≤ length attrs → word_count (take k attrs) ≤ 2 * k
front_few attrs k le = omega (arith, count_low (take k attrs), length-take-le k attrs le)

-- one place more is written
pub placed_more : (attrs : List Attr) (places : List ℕ) (i word : ℕ) → i < length places
    → ((k : ℕ) → k < i → get_or places k 0 ≡ word_count (take k attrs)) → word ≡ word_count (take i attrs)
    → (k : ℕ) → k < i + 1 → get_or (set places i word) k 0 ≡ word_count (take k attrs)
placed_more attrs places i word lt before is k low = elim (cases_Bool (k == i)) [
  | inl t ↦
      let same : k ≡ i = eq_from k i t in
      ap (λ (j : ℕ). get_or (set places i word) j 0) same
      ∙ (get_or-set_same places i word 0 lt ∙ (is ∙ ap (λ (j : ℕ). word_count (take j attrs)) (sym same)))
  | inr t ↦
      let ne : k ≡ i → ⊥ = λ f. absurd (cc (sym t ∙ eq_true k i f)) in
      get_or-set_other places i k word 0 ne ∙ before k (omega (arith, low, ne))
]

-- the value of a kind of numbers is the one word that spells it
value_word : (kind : Kind) (v : Value) (rest : List ℕ) → is_number kind ≡ true → is_of_kind kind v ≡ true → v ≡ Num (get_or (value_words v ++ rest) 0 0)
value_word U8 (Num n) rest number of = refl
value_word U16 (Num n) rest number of = refl
value_word U32 (Num n) rest number of = refl
value_word U64 (Num n) rest number of = refl
value_word (Bytes k) v rest number of = absurd (cc number)
value_word U8 (Raw len bytes) rest number of = absurd (cc of)
value_word U16 (Raw len bytes) rest number of = absurd (cc of)
value_word U32 (Raw len bytes) rest number of = absurd (cc of)
value_word U64 (Raw len bytes) rest number of = absurd (cc of)

number_word : (attrs : List Attr) (vs : List Value) (rest : List ℕ) (k : ℕ) → values_fit attrs vs ≡ true
    → option_passes is_number (slice_get attrs k) ≡ true
    → get_or vs k (Num 0) ≡ Num (get_or (values_words vs ++ rest) (word_count (take k attrs)) 0)
number_word [] vs rest zero fit number = absurd (cc number)
number_word [] vs rest (suc k) fit number = absurd (cc number)
number_word (a ∷ attrs) [] rest k fit number = absurd (cc fit)
number_word (a ∷ attrs) (v ∷ vs) rest zero fit number =
    let fits = both (is_of_kind a.kind v) (values_fit attrs vs) fit in
    let flat : values_words (v ∷ vs) ++ rest ≡ value_words v ++ (values_words vs ++ rest) = ap (λ (ws : List ℕ). ws ++ rest) (words_cons v vs)
    ∙ append_assoc (value_words v) (values_words vs) rest in
    value_word a.kind v (values_words vs ++ rest) number fits.0
    ∙ ap₂ (λ (ws : List ℕ) (n : ℕ). Num (get_or ws n 0)) (sym flat) (sym count_none)
number_word (a ∷ attrs) (v ∷ vs) rest (suc k) fit number =
    let fits = both (is_of_kind a.kind v) (values_fit attrs vs) fit in
    let flat : values_words (v ∷ vs) ++ rest ≡ value_words v ++ (values_words vs ++ rest) = ap (λ (ws : List ℕ). ws ++ rest) (words_cons v vs)
    ∙ append_assoc (value_words v) (values_words vs) rest in
    let there : word_count (take (suc k) (a ∷ attrs)) ≡ length (value_words v) + word_count (take k attrs) = count_cons a (take k attrs)
    ∙ ap (λ (n : ℕ). n + word_count (take k attrs)) (sym (value_long a.kind v fits.0)) in
    number_word attrs vs rest k fits.1 number
    ∙ ap Num (sym
    (ap₂ (λ (ws : List ℕ) (n : ℕ). get_or ws n 0) flat there ∙ get_or-append-add (value_words v) (values_words vs ++ rest) (word_count (take k attrs)) 0))

-- an attribute of numbers exists
attr_exists : (attrs : List Attr) (k : ℕ) → option_passes is_number (slice_get attrs k) ≡ true → k < length attrs
attr_exists [] zero number = absurd (cc number)
attr_exists [] (suc k) number = absurd (cc number)
attr_exists (a ∷ attrs) zero number = omega arith
attr_exists (a ∷ attrs) (suc k) number = omega (arith, attr_exists attrs k number)

-- its word lies before the tag
pub word_there : (attrs : List Attr) (places : List ℕ) (k : ℕ) → ArePlaces attrs places → option_passes is_number (slice_get attrs k) ≡ true
    → (get_or places k 0 ≡ word_count (take k attrs)) × (get_or places k 0 < word_count attrs)
word_there attrs places k are number =
    let lt = attr_exists attrs k number in
    let there = are k lt in
    (there, omega (arith, there, front_low attrs k lt))

-- what a load of the word of attribute k tells of the entry at o
pub record IsNumber (m n : PassValue) (o k found : ℕ) : Type 0 where
  pub number : value_at (row_at (rows_in (m.view).seen) o) k ≡ Num found
  pub looked : OnlyLooked m n

pub number_read : (shape : ShapeValue) (m n : PassValue) (o place k i found : ℕ) → IsShape shape → place ≡ min o (shape.capacity - 1)
    → o < length (m.view).seen → option_passes is_number (slice_get shape.schema k) ≡ true → i ≡ word_count (take k shape.schema)
    → i < word_count shape.schema + 1 → HasStepped shape (word_effect shape m.view place i) m found n → IsNumber m n o k found
number_read shape m n o place k i found is at lt number here low made =
    let all = loaded shape m n o place i found is at lt low made in
    let e = entry_at m.view o in
    let row : e.row ≡ row_at (rows_in (m.view).seen) o = row_is (m.view).seen o e (slice_get-get_or (m.view).seen o no_entry lt) in
    record {
      number = ap (λ (r : Rattle.cf_row.specs.Row.RowValue). value_at r k) (sym row)
          ∙ (number_word shape.schema (e.row).values (tag_of e ∷ []) k all.lawful.fits number
          ∙ ap Num (ap (λ (j : ℕ). get_or (spelled e) j 0) (sym here) ∙ sym all.word));
      looked = all.looked;
    }

-- an expression of the schema that compares numbers alone
plain_atoms : (attrs : List Attr) (atoms : List Atom) → list_all (atom_suits attrs) atoms ≡ true → list_all (λ (atom : Atom). is_plain atom.low) atoms ≡ true
    → list_all (compares_number attrs) atoms ≡ true
plain_atoms attrs [] suit plain = refl
plain_atoms attrs (x ∷ xs) suit plain =
    let a = both (atom_suits attrs x) (list_all (atom_suits attrs) xs) suit in
    let b = both (is_plain x.low) (list_all (λ (atom : Atom). is_plain atom.low) xs) plain in
    and_from _ _ (and_from _ _ a.0 b.0) (plain_atoms attrs xs a.1 b.1)

pub plain_expr : (attrs : List Attr) (expr : List (List Atom)) → list_all (list_all (atom_suits attrs)) expr ≡ true
    → list_all (list_all (λ (atom : Atom). is_plain atom.low)) expr ≡ true → compare_numbers attrs expr ≡ true
plain_expr attrs [] suit plain = refl
plain_expr attrs (x ∷ xs) suit plain =
    let a = both (list_all (atom_suits attrs) x) (list_all (list_all (atom_suits attrs)) xs) suit in
    let b = both (list_all (λ (atom : Atom). is_plain atom.low) x) (list_all (list_all (λ (atom : Atom). is_plain atom.low)) xs) plain in
    and_from _ _ (plain_atoms attrs x a.0 b.0) (plain_expr attrs xs a.1 b.1)

-- what stands for an atom where there is none
abbrev pub no_atom : Atom
no_atom = record { attr = 0; op = Eq; low = Num 0; high = Num 0 }

-- all of a list where all of the rest are, and any of it where any of the rest is
pub all_rest : {X : Type 0} (p : X → Bool) (xs : List X) (i : ℕ) (d : X) → i < length xs → p (get_or xs i d) ≡ true
    → list_all p (drop i xs) ≡ list_all p (drop (i + 1) xs)
all_rest p xs i d lt holds = ap (list_all p) (drop_more xs i d lt) ∙ ap (λ (b : Bool). b && list_all p (drop (i + 1) xs)) holds

-- a number of a narrow attribute is below 2^32
pub narrow_low : (shape : ShapeValue) (m : PassValue) (o attr n : ℕ) → IsShape shape → AreFit shape m.view → o < length (m.view).seen
    → IsNarrow shape.schema attr → value_at (row_at (rows_in (m.view).seen) o) attr ≡ Num n → n < 2 ^ 32
narrow_low shape m o attr n is fit lt narrow value =
    let e = entry_at m.view o in
    let at : slice_get (m.view).seen o ≡ Some e = slice_get-get_or (m.view).seen o no_entry lt in
    let row : e.row ≡ row_at (rows_in (m.view).seen) o = row_is (m.view).seen o e at in
    subst (λ (v : Value). number_of v < 2 ^ 32) (ap (λ (r : Rattle.cf_row.specs.Row.RowValue). value_at r attr) row ∙ value)
    (amount_low shape.schema attr e.row is.schema narrow (fits_of shape e (fit o e at)))
