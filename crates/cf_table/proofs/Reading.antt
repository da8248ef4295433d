-- The words of what was seen are read.
use Rattle.std.proofs.Common.{◌≡◌, ℕ, ◌+◌, ◌-◌, ◌^◌, ◌==◌, ◌<◌, inl, inr, min, List, [], ◌∷◌, ◌++◌, length, take, set, get_or, Some, slice_get, refl, sym, ap, ◌∙◌, arith}
use Rattle.std.specs.Bool.{nat_lt}
use Rattle.std.proofs.lemmas.Bool.{cases_Bool}
use Rattle.std.proofs.lemmas.Bool.Decides.{nat_tests}
use Rattle.std.proofs.lemmas.Option.{get_or_from_slice_get, slice_get-get_or, slice_get_within}
use Rattle.std.proofs.lemmas.List.{get_or-set_same, get_or-set_other, take_more}
use Rattle.cf_row.proofs.Truths.{eq_from, eq_true}
use Rattle.cf_row.specs.Row.{values_fit}
use Rattle.cf_row.specs.Words.{IsEntry, word_count, spelled}
use Rattle.cf_row.specs.declared.row.Entry.{Entry}
use Rattle.cf_shape.specs.Lanes.{ShapeValue, IsShape}
use Rattle.cf_row.proofs.Bytes.{both}
use Rattle.cf_law.specs.Passes.{Pass}
use Rattle.cf_law.specs.Shapes.{layout}
use Rattle.cf_law.specs.Readers.{IsFit, AtHome}
use Rattle.cf_table.specs.Values.{PassValue}
use Rattle.cf_table.specs.Effects.{HasStepped, word_effect}
use Rattle.cf_table.specs.Moves.{OnlyLooked}

word_is : (shape : ShapeValue) (m n : PassValue) (o i found : ℕ) (e : Entry) → HasStepped shape (word_effect shape m.view o i) m found n
    → slice_get (m.view).seen o ≡ Some e → i < word_count shape.schema + 1 → found ≡ get_or (spelled e) i 0
word_is shape m n o i found e made at lt = (made.told.tells.entry o i refl).plains e at lt

abbrev with_look : PassValue → Rattle.cf_law.specs.Passes.Look → PassValue
with_look m x = record m { view = record m.view { look = x } }

only_by : (m n : PassValue) (x : Rattle.cf_law.specs.Passes.Look) → n ≡ record m { view = n.view } → n.view ≡ record m.view { look = x } → OnlyLooked m n
only_by m n x same is =
    let look : (n.view).look ≡ x = ap (λ (q : Pass). q.look) is in
    same ∙ (ap (λ (q : Pass). record m { view = q }) is ∙ ap (with_look m) (sym look))

looked_word : (shape : ShapeValue) (m n : PassValue) (o i found : ℕ) → HasStepped shape (word_effect shape m.view o i) m found n → OnlyLooked m n
looked_word shape m n o i found made = only_by m n _ made.same made.told.is

pub looked_then : (m n o : PassValue) → OnlyLooked m n → OnlyLooked n o → OnlyLooked m o
looked_then m n o a b = b ∙ ap (λ (h : PassValue). with_look h (o.view).look) a

pub looked_none : (m : PassValue) → OnlyLooked m m
looked_none m = refl

-- one word more is read
pub read_more : (words : List ℕ) (e : Entry) (i v : ℕ) → i < length words → ((k : ℕ) → k < i → get_or words k 0 ≡ get_or (spelled e) k 0)
    → v ≡ get_or (spelled e) i 0
    → (k : ℕ) → k < i + 1 → get_or (set words i v) k 0 ≡ get_or (spelled e) k 0
read_more words e i v lt before is k low = elim (cases_Bool (k == i)) [
  | inl t ↦
      let same : k ≡ i = eq_from k i t in
      ap (λ (j : ℕ). get_or (set words i v) j 0) same ∙ (get_or-set_same words i v 0 lt ∙ (is ∙ ap (λ (j : ℕ). get_or (spelled e) j 0) (sym same)))
  | inr t ↦
      let ne : k ≡ i → ⊥ = λ f. absurd (cc (sym t ∙ eq_true k i f)) in
      get_or-set_other words i k v 0 ne ∙ before k (omega (arith, ne))
]

abbrev pub no_entry : Entry
no_entry = record { writer = 0; row = record { num = 0; values = [] } }

abbrev pub entry_at : Pass → ℕ → Entry
entry_at p o = get_or p.seen o no_entry

entry_by : (shape : ShapeValue) (e : Entry) → IsShape shape → IsFit (layout shape) e → IsEntry shape.schema e
entry_by shape e is fit =
    let b = both (values_fit shape.schema (e.row).values) (nat_lt (e.row).num (2 ^ 32)) fit.0 in
    let low = b.1 in
    let few = is.writers in
    let writer = fit.1 in
    record { fits = b.0; num = grind (arith, nat_tests); writer = omega (arith, few, writer) }

-- one entry more is read
pub taken_more : (seen before after : List Entry) (o : ℕ) (e : Entry) → before ≡ take o seen → slice_get seen o ≡ Some e → after ≡ before ++ e ∷ []
    → after ≡ take (o + 1) seen
taken_more seen before after o e is at more =
    more
    ∙ (ap (λ (es : List Entry). es ++ e ∷ []) is
    ∙ (ap (λ (x : Entry). take o seen ++ x ∷ []) (sym (get_or_from_slice_get seen o e e at)) ∙ sym (take_more seen o e (slice_get_within seen o e at))))

-- a pass that only looked holds its books still
pub looked_home : (shape : ShapeValue) (m n : PassValue) → OnlyLooked m n → AtHome (layout shape) m.view → AtHome (layout shape) n.view
looked_home shape m n looked home w lt = let h = home w lt in (h.0, h.1, ap (λ (p : PassValue). slice_get (p.view).books h.0) looked ∙ h.2, h.3, h.4)

-- what a load of word i tells of the entry at o
pub record IsLoaded (shape : ShapeValue) (m n : PassValue) (o i found : ℕ) : Type 0 where
  pub lawful : IsEntry shape.schema (entry_at m.view o)
  pub word : found ≡ get_or (spelled (entry_at m.view o)) i 0
  pub looked : OnlyLooked m n

pub loaded : (shape : ShapeValue) (m n : PassValue) (o place i found : ℕ) → IsShape shape → place ≡ min o (shape.capacity - 1) → o < length (m.view).seen
    → i < word_count shape.schema + 1 → HasStepped shape (word_effect shape m.view place i) m found n → IsLoaded shape m n o i found
loaded shape m n o place i found is at lt low made =
    let told = made.told in
    let same : length (n.view).seen ≡ length (m.view).seen = ap (λ (q : Pass). length q.seen) told.is in
    let few = told.bounds.seen in
    let room = is.capacity in
    let here : place ≡ o = omega (arith, at, lt, few, same, room) in
    let get : slice_get (m.view).seen o ≡ Some (entry_at m.view o) = slice_get-get_or (m.view).seen o no_entry lt in
    record {
      lawful = entry_by shape (entry_at m.view o) is (told.tells.fit o (entry_at m.view o) get);
      word = word_is shape m n place i found (entry_at m.view o) made (ap (λ (k : ℕ). slice_get (m.view).seen k) here ∙ get) low;
      looked = looked_word shape m n place i found made;
    }
