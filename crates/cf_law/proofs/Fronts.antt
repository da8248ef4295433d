-- What was seen, as the tickets change, and what the words spell.
use Rattle.std.proofs.Common.{◌≡◌, ℕ, ◌<◌, ◌≤◌, zero, suc, List, [], ◌∷◌, ◌++◌, length, take, get_or, Option, Some, None, slice_get, cond, Bool, true, inl, inr, refl, arith, ap, ap₂, sym, ◌∙◌, subst, length-append}
use Rattle.cf_row.proofs.Lists.{get_push_other, get_push_same}
use Rattle.cf_row.proofs.Truths.{eq_false, lt_true}
use Rattle.cf_row.specs.Row.{RowValue}
use Rattle.cf_row.specs.declared.row.Entry.{Entry}
use Rattle.std.specs.Bool.{nat_lt}
use Rattle.std.proofs.lemmas.Bool.{cases_lt, cases_eq}
use Rattle.std.proofs.lemmas.Option.{slice_get_within}
use Rattle.cf_shape.specs.Places.Slot.{cell}
use Rattle.cf_law.specs.Words.{Layout, entry, Ticket, ticket_word, full_word, used_word, done_word}
use Rattle.cf_law.specs.Law.{LayoutLaw, Skips}
use Rattle.cf_law.specs.Lawful.{Base, BaseLaw, front}
use Rattle.cf_law.specs.Events.{tabulated, word_at, plain_at, entries_spelled}
use Rattle.cf_law.proofs.Passes.{Evolves, no_gap}

module _ {A : Type 0} where
  pub table_length : (f : ℕ → A) (n : ℕ) → length (tabulated f n) ≡ n
  unfolding tabulated
  table_length f zero = refl
  table_length f (suc n) = omega (arith, length-append (tabulated f n) (f n ∷ []), table_length f n)

  pub table_at : (f : ℕ → A) (n i : ℕ) → i < n → slice_get (tabulated f n) i ≡ Some (f i)
  unfolding tabulated
  table_at f zero i lt = absurd (omega arith)
  table_at f (suc n) i lt = elim (cases_eq i n) [
    | inl e ↦ let here : i ≡ length (tabulated f n) = omega (arith, table_length f n) in
        ap (slice_get (tabulated f n ++ f n ∷ [])) here ∙ (get_push_same (tabulated f n) (f n) ∙ ap (λ (k : ℕ). Some (f k)) (sym e))
    | inr ne ↦ get_push_other (tabulated f n) (f n) i (λ e. absurd (omega (arith, table_length f n))) ∙ table_at f n i (omega arith)
  ]

  -- a list by its elements
  pub same_list : (xs ys : List A) → length xs ≡ length ys → ((i : ℕ) → i < length xs → slice_get xs i ≡ slice_get ys i) → xs ≡ ys
  same_list [] [] len h = refl
  same_list [] (y ∷ ys) len h = absurd (omega arith)
  same_list (x ∷ xs) [] len h = absurd (omega arith)
  same_list (x ∷ xs) (y ∷ ys) len h =
      let e : x ≡ y = cc (h 0 (omega arith)) in
      ap₂ (λ (z : A) (zs : List A). z ∷ zs) e (same_list xs ys (omega arith) (λ i lt. h (suc i) (omega arith)))

  pub get_from_or : (xs : List A) (i : ℕ) (d : A) → i < length xs → slice_get xs i ≡ Some (get_or xs i d)
  get_from_or [] i d lt = absurd (omega arith)
  get_from_or (x ∷ xs) zero d lt = refl
  get_from_or (x ∷ xs) (suc i) d lt = get_from_or xs i d (omega arith)

-- entries stay where the log evolves
pub front_evolves : (log log' : List Ticket) (n : ℕ) → n ≤ length log → Evolves log log' → front n log ≡ front n log'
unfolding front
front_evolves log log' zero le ev = refl
front_evolves [] log' (suc n) le ev = absurd (omega arith)
front_evolves (t ∷ ts) log' (suc n) le ev =
    go log' (ev 0 t refl)
    (λ r rs e. front_evolves ts rs n (omega arith)
    (λ o q h. let m = ev (suc o) q h in (m.0, ap (λ (xs : List Ticket). slice_get xs (suc o)) (sym e) ∙ m.1, m.2)))
  where
    go : (log' : List Ticket) → (u : Ticket) × (slice_get log' 0 ≡ Some u) × Rattle.cf_law.proofs.Passes.Becomes t u
        → ((r : Ticket) (rs : List Ticket) → log' ≡ r ∷ rs → front n ts ≡ front n rs) → front (suc n) (t ∷ ts) ≡ front (suc n) log'
    go [] m rest = absurd (cc (m.1))
    go (r ∷ rs) m rest =
        let same : r ≡ m.0 = cc (m.1) in
        ap₂ (λ (w : ℕ) (x : RowValue). entry w x ∷ front n ts) (sym m.2.writer ∙ ap (λ (z : Ticket). z.writer) (sym same))
        (sym m.2.row ∙ ap (λ (z : Ticket). z.row) (sym same))
        ∙ ap (λ (es : List Entry). entry r.writer r.row ∷ es) (rest r rs refl)

pub front_length : (log : List Ticket) (n : ℕ) → n ≤ length log → length (front n log) ≡ n
unfolding front
front_length log zero le = refl
front_length [] (suc n) le = absurd (omega arith)
front_length (t ∷ ts) (suc n) le = ap suc (front_length ts n (omega arith))

pub front_take : (log : List Ticket) (k n : ℕ) → k ≤ n → take k (front n log) ≡ front k log
unfolding front
front_take log zero n le = refl
front_take log (suc k) zero le = absurd (omega arith)
front_take [] (suc k) (suc n) le = refl
front_take (t ∷ ts) (suc k) (suc n) le = ap (λ (es : List Entry). entry t.writer t.row ∷ es) (front_take ts k n (omega arith))

pub front_get : (log : List Ticket) (n o : ℕ) (t : Ticket) → o < n → slice_get log o ≡ Some t → slice_get (front n log) o ≡ Some (entry t.writer t.row)
unfolding front
front_get log zero o t lt at = absurd (omega arith)
front_get [] (suc n) o t lt at = absurd (cc at)
front_get (x ∷ log) (suc n) zero t lt at = let same : x ≡ t = cc at in ap (λ (z : Ticket). Some (entry z.writer z.row)) same
front_get (x ∷ log) (suc n) (suc o) t lt at = front_get log n o t (omega arith) at

-- what is seen at a place is the ticket there
pub front_at : (log : List Ticket) (n o : ℕ) (e : Entry) → slice_get (front n log) o ≡ Some e → (o < n) × (t : Ticket) × (slice_get log o ≡ Some t)
    × (e ≡ entry t.writer t.row)
unfolding front
front_at log zero o e h = absurd (cc h)
front_at [] (suc n) o e h = absurd (cc h)
front_at (x ∷ log) (suc n) zero e h = let same : entry x.writer x.row ≡ e = cc h in (omega arith, x, refl, sym same)
front_at (x ∷ log) (suc n) (suc o) e h = let k = front_at log n o e h in let lt = k.0 in (omega arith, k.1, k.2, k.3)

-- a filled word of a ticket
pub word_filled : (sh : Layout) (m : Base) (o i : ℕ) (t : Ticket) → BaseLaw sh m → slice_get m.log o ≡ Some t → i < t.filled → suc i < sh.sizes.ticket_words
    → word_at sh m.words (cell o i) ≡ full_word sh m.log o t i
word_filled sh m o i t law at filled within =
    let r : word_at sh m.words (cell o i) ≡ ticket_word sh m.log o i (slice_get m.log o) =
    law.spells (cell o i) (omega (arith, slice_get_within m.log o t at, law.room), omega arith) in
    let full : ticket_word sh m.log o i (Some t) ≡ full_word sh m.log o t i =
    ap (λ (b : Bool). cond b (done_word t.is_done) (cond (nat_lt i t.filled) (full_word sh m.log o t i) 0))
    (eq_false (suc i) sh.sizes.ticket_words (λ e. omega arith))
    ∙ ap (λ (b : Bool). cond b (full_word sh m.log o t i) 0) (lt_true i t.filled filled) in
    r ∙ (ap (ticket_word sh m.log o i) at ∙ full)

-- a finished ticket's words spell its entry
pub word_spells : (sh : Layout) (m : Base) (o i : ℕ) (t : Ticket) → LayoutLaw sh → BaseLaw sh m → slice_get m.log o ≡ Some t → t.is_done ≡ true
    → i < sh.plain_words
    → word_at sh m.words (cell o i) ≡ get_or (sh.spelled t.row t.writer) i 0
word_spells sh m o i t shaped law at done small =
    let p = shaped.plains i small in
    let filled : i < t.filled = elim (cases_lt i t.filled) [ inl h ↦ h | inr ge ↦ absurd (subst (Skips sh t) p.1 (law.whole o t at done i ge p.0)) ] in
    word_filled sh m o i t law at filled p.0 ∙ ap (used_word sh m.log o t) p.1

pub plain_spells : (sh : Layout) (m : Base) (o : ℕ) (t : Ticket) → LayoutLaw sh → BaseLaw sh m → slice_get m.log o ≡ Some t → t.is_done ≡ true
    → plain_at sh m.words o ≡ sh.spelled t.row t.writer
plain_spells sh m o t shaped law at done =
    let f = λ (i : ℕ). word_at sh m.words (cell o i) in
    let n = table_length f sh.plain_words in
    let long = shaped.spelled t.row t.writer (law.fits o t at) in
    same_list (plain_at sh m.words o) (sh.spelled t.row t.writer) (n ∙ sym long)
    (λ i lt. let small : i < sh.plain_words = omega (arith, n) in
    table_at f sh.plain_words i small
    ∙ (ap (λ (v : ℕ). Some v) (word_spells sh m o i t shaped law at done small) ∙ sym (get_from_or (sh.spelled t.row t.writer) i 0 (omega (arith, long)))))

-- the words below the read tail spell the entries
pub spelt_front : (sh : Layout) (m : Base) (n : ℕ) → LayoutLaw sh → BaseLaw sh m → n ≤ m.tails.1 → entries_spelled sh m.words n ≡ front n m.log
spelt_front sh m n shaped law le =
    let g = λ (o : ℕ). sh.reads (plain_at sh m.words o) in
    let len = table_length g n in
    let front_len = front_length m.log n (omega (arith, law.covered)) in
    same_list (entries_spelled sh m.words n) (front n m.log) (len ∙ sym front_len) (λ o lt. go o (omega (arith, len)) (slice_get m.log o) refl)
  where
    go : (o : ℕ) → o < n → (x : Option Ticket) → slice_get m.log o ≡ x → slice_get (entries_spelled sh m.words n) o ≡ slice_get (front n m.log) o
    go o lt None at = absurd (no_gap m.log o (omega (arith, law.covered)) at)
    go o lt (Some t) at =
        table_at (λ (k : ℕ). sh.reads (plain_at sh m.words k)) n o lt
        ∙ (ap (λ (ws : List ℕ). Some (sh.reads ws)) (plain_spells sh m o t shaped law at (law.done o t (omega arith) at))
        ∙ (ap (λ (e : Entry). Some e) (shaped.reads t.row t.writer (law.fits o t at) (law.writers o t at))
        ∙ sym (front_get m.log n o t lt at)))
