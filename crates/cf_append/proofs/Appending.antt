-- The ticket of an append, and the words of its row.
use Rattle.std.proofs.Common.{◌≡◌, ℕ, ◌+◌, ◌^◌, ◌<◌, suc, zero, cond, Bool, true, false, List, [], ◌∷◌, get_or, Some, None, slice_get, refl, ap, sym, subst, ◌∙◌, arith}
use Rattle.std.specs.Bool.{nat_lt}
use Rattle.std.proofs.lemmas.Bool.Decides.{nat_tests}
use Rattle.cf_row.specs.Row.{RowValue, Fits}
use Rattle.cf_row.specs.Words.{word_count, spelled}
use Rattle.cf_shape.specs.Lanes.{ShapeValue}
use Rattle.cf_shape.specs.Uses.{Use}
use Rattle.cf_shape.proofs.Used.{plain_at}
use Rattle.cf_law.specs.Words.{entry}
use Rattle.cf_law.specs.Law.{Skips}
use Rattle.cf_law.specs.Passes.{Book, Flight, Pass}
use Rattle.cf_law.specs.Steps.{IsAtRest, IsNext, ticket_of, own_word, book_with_flight, fresh_flight}
use Rattle.cf_law.specs.Steps.Act.{take_ticket, store_cell}
use Rattle.cf_law.specs.Shapes.{layout}
use Rattle.cf_table.specs.Values.{PassValue, book_of}
use Rattle.cf_table.specs.Effects.{IsLawfulStep, HasStepped, HasSteppedUnseen, take_effect, store_effect}
use Rattle.cf_table.proofs.Mays.{the_book, may_take, may_store}
use Rattle.cf_append.specs.Appends.{Rests, with_book, flying}

abbrev pub flight : ℕ → RowValue → ℕ → Flight
flight o row n = record { offset = o; row = row; filled = n; linked = [] }

abbrev pub flown : ℕ → RowValue → ℕ → PassValue → Book
flown o row n m = record (book_of m.view) { flight = Some (flight o row n) }

-- word i of the ticket is the next, and what the row and the writer give it
next_plain : (shape : ShapeValue) (b : Book) (o i : ℕ) (row : RowValue) → i < word_count shape.schema + 1
    → IsNext (layout shape) (ticket_of b.writer (flight o row i)) i
next_plain shape b o i row low = record {
  from = omega arith;
  skipped = λ k le lt. absurd (let f : ⊥ = omega arith in f);
  wanted = subst (λ (u : Use). Skips (layout shape) (ticket_of b.writer (flight o row i)) u → ⊥) (sym (plain_at shape i low)) (λ e. e);
  within = omega arith;
}

own_plain : (shape : ShapeValue) (b : Book) (i : ℕ) (row : RowValue) → i < word_count shape.schema + 1
    → get_or (spelled (entry b.writer row)) i 0 ≡ own_word (layout shape) b row ((layout shape).use_of i)
own_plain shape b i row low = ap (λ (u : Use). own_word (layout shape) b row u) (sym (plain_at shape i low))

pub may_fill : (shape : ShapeValue) (m p : PassValue) (o i value : ℕ) (row : RowValue) (words : List ℕ) → p ≡ flying o row i m
    → i < word_count shape.schema + 1 → words ≡ spelled (entry (book_of m.view).writer row) → value ≡ get_or words i 0
    → IsLawfulStep shape p.view (store_cell o i value) (store_effect p.view o i value)
may_fill shape m p o i value row words is low spell at =
    may_store shape p.view (flown o row i m) (flight o row i) o i value (ap (λ (h : PassValue). (h.view).books) is) refl refl
    (next_plain shape (flown o row i m) o i row low)
    (at ∙ (ap (λ (ws : List ℕ). get_or ws i 0) spell ∙ own_plain shape (flown o row i m) i row low))

pub fills : (shape : ShapeValue) (m p n : PassValue) (o i value : ℕ) (row : RowValue) → p ≡ flying o row i m
    → HasSteppedUnseen shape (store_effect p.view o i value) p n → n ≡ flying o row (i + 1) m
fills shape m p n o i value row is stored =
    let next : suc i ≡ i + 1 = omega arith in
    stored.made.same
    ∙ (ap (λ (q : Pass). record p { view = q }) stored.made.told.is
    ∙ (ap (λ (h : PassValue). record h { view = (store_effect h.view o i value).after 0 [] }) is ∙ ap (λ (k : ℕ). flying o row k m) next))

-- The ticket.
pub fits_row : (shape : ShapeValue) (row : RowValue) → Fits shape.schema row → row.num < 2 ^ 32 → (layout shape).fits row ≡ true
fits_row shape row fits low =
    let small : nat_lt row.num (2 ^ 32) ≡ true = grind (arith, nat_tests) in
    cc (fits, small)

pub may_begin : (shape : ShapeValue) (p : Pass) (row : RowValue) → Fits shape.schema row → row.num < 2 ^ 32 → Rests p → (book_of p).over ≡ false
    → IsLawfulStep shape p (take_ticket row) (take_effect shape p row)
may_begin shape p row fits low rest fresh = may_take shape p row (book_of p) (fits_row shape row fits low) rest.one fresh rest.free

pub began : (shape : ShapeValue) (m n : PassValue) (found : ℕ) (row : RowValue) → found < shape.capacity
    → HasStepped shape (take_effect shape m.view row) m found n → n ≡ flying found row 0 m
began shape m n found row low made =
    let small : nat_lt found shape.capacity ≡ true = grind (arith, nat_tests) in
    let b = book_of m.view in
    made.same ∙ (ap (λ (q : Pass). record m { view = q }) made.told.is
    ∙ ap (λ (t : Bool). with_book (cond t (book_with_flight b (fresh_flight found row)) (record b { over = true })) m) small)

-- A pass that holds one book is at rest where no ticket of it is in flight.
pub rests_by : (p : Pass) (b : Book) → p.books ≡ b ∷ [] → b.flight ≡ None → Rests p
rests_by p b one free =
    let is = the_book p b one in
    record { one = one ∙ ap (λ (c : Book). c ∷ []) (sym is); free = ap (λ (c : Book). c.flight) is ∙ free }

pub rests_all : (p : Pass) → Rests p → IsAtRest p
rests_all p rest zero b held =
    (let e : Some (book_of p) ≡ Some b = sym (ap (λ (bs : List Book). slice_get bs 0) rest.one) ∙ held in let same : book_of p ≡ b = cc e in
    ap (λ (c : Book). c.flight) (sym same) ∙ rest.free)
rests_all p rest (suc k) b held = (let e : None ≡ Some b = sym (ap (λ (bs : List Book). slice_get bs (suc k)) rest.one) ∙ held in absurd (cc e))
