-- The books leave one by one.
use Rattle.std.proofs.Common.{◌≡◌, ℕ, ◌==◌, ◌<◌, ◌≤◌, suc, Bool, ap₂, List, [], ◌∷◌, ◌++◌, length, drop, map, get_or, Option, Some, slice_get, sym, ap, subst, ◌∙◌, inl, inr, arith}
use Rattle.std.proofs.Math.Seq.{drop-cons}
use Rattle.std.proofs.lemmas.Bool.{cases_Bool}
use Rattle.std.proofs.lemmas.Option.{slice_get-get_or, slice_get-map}
use Rattle.std.proofs.lemmas.List.{length-map, map-append}
use Rattle.cf_row.proofs.Lists.{get_push_other, get_push_same}
use Rattle.cf_row.proofs.Truths.{eq_from, eq_true}
use Rattle.cf_table.proofs.Calls.{Holding}
use Rattle.cf_law.specs.Passes.{Book}
use Rattle.cf_law.specs.Steps.{new_pass, without}
use Rattle.cf_law.specs.Events.{no_book}
use Rattle.cf_table.specs.declared.pass.Note.{Note}
use Rattle.cf_table.specs.Values.{PassValue, LogValue, IsOf, book_of}
use Rattle.cf_table.specs.Moves.{IsDealt, AreNoted, note_of}

-- the pass once the first i books have left
abbrev pub left_with : PassValue → ℕ → PassValue
left_with m i = record m { view = record m.view { books = drop i (m.view).books } }

abbrev pub book_at : PassValue → ℕ → Book
book_at m i = get_or (m.view).books i (no_book 0)

-- the i-th book is the first then
pub first_left : (m : PassValue) (i : ℕ) → i < length (m.view).books → (drop i (m.view).books ≡ book_at m i ∷ drop (suc i) (m.view).books)
    × (slice_get (m.view).books i ≡ Some (book_at m i))
first_left m i lt = (drop-cons (m.view).books i (no_book 0) lt, slice_get-get_or (m.view).books i (no_book 0) lt)

pub first_is : (m t : PassValue) (i : ℕ) → i < length (m.view).books → t ≡ left_with m i → (book_of t.view ≡ book_at m i)
    × (slice_get (t.view).books 0 ≡ Some (book_at m i)) × (without 0 (t.view).books ≡ drop (suc i) (m.view).books)
unfolding without
first_is m t i lt is =
    let f = first_left m i lt in
    let books : (t.view).books ≡ book_at m i ∷ drop (suc i) (m.view).books = ap (λ (h : PassValue). (h.view).books) is ∙ f.0 in
    (ap (λ (bs : List Book). get_or bs 0 (no_book 0)) books, ap (λ (bs : List Book). slice_get bs 0) books, ap (λ (bs : List Book). without 0 bs) books)

pub noted_at : (notes : List Note) (m : PassValue) (i : ℕ) (note : Note) → AreNoted notes (m.view).books m.nodes → i < length (m.view).books
    → slice_get notes i ≡ Some note → note ≡ note_of (book_at m i)
noted_at notes m i note noted lt at =
    let f = first_left m i lt in
    let e : Some note ≡ Some (note_of (book_at m i)) = sym at
    ∙ (ap (λ (ns : List Note). slice_get ns i) noted.notes_are
    ∙ (slice_get-map note_of (m.view).books i ∙ ap (λ (x : Option Book). Rattle.std.specs.Option.option_map note_of x) f.1)) in
    cc e

pub as_many : (notes : List Note) (m : PassValue) → AreNoted notes (m.view).books m.nodes → length notes ≡ length (m.view).books
as_many notes m noted = ap (λ (ns : List Note). length ns) noted.notes_are ∙ length-map (m.view).books note_of

pub still_of : (log : LogValue) (m t : PassValue) (i : ℕ) → IsOf m log → t ≡ left_with m i → IsOf t log
still_of log m t i is same = record { table = ap (λ (h : PassValue). h.table) same ∙ is.table; nodes = ap (λ (h : PassValue). h.nodes) same ∙ is.nodes }

-- one more is dealt
pub dealt_more : (log : LogValue) (m : PassValue) (i : ℕ) (passes : List PassValue) (h : PassValue) → i < length (m.view).books → length passes ≡ i
    → IsOf h log → h.view ≡ new_pass (book_at m i ∷ []) (m.view).seen
    → ((k : ℕ) (g : PassValue) → slice_get passes k ≡ Some g → IsDealt log m k g) → (k : ℕ) (g : PassValue) → slice_get (passes ++ h ∷ []) k ≡ Some g
    → IsDealt log m k g
dealt_more log m i passes h lt long of view each k g at = elim (cases_Bool (k == i)) [
  | inl t ↦
      let e : k ≡ i = eq_from k i t in
      let here : slice_get (passes ++ h ∷ []) k ≡ Some h = ap (slice_get (passes ++ h ∷ [])) (e ∙ sym long) ∙ get_push_same passes h in
      let same : h ≡ g = cc (here, at) in
      subst (IsDealt log m k) same (record { book = book_at m i; at = ap (slice_get (m.view).books) e ∙ (first_left m i lt).1; of = of; view = view })
  | inr t ↦ each k g (sym (get_push_other passes h k (λ f. absurd (cc (sym t ∙ eq_true k i (f ∙ long))))) ∙ at)
]

pub next_left : (m t n : PassValue) (i : ℕ) → i < length (m.view).books → t ≡ left_with m i
    → n ≡ record t { view = record t.view { books = without 0 (t.view).books } } → n ≡ left_with m (suc i)
next_left m t n i lt is went =
    let f = first_is m t i lt is in
    went ∙ (ap (λ (bs : List Book). record t { view = record t.view { books = bs } }) f.2
    ∙ ap (λ (h : PassValue). record h { view = record h.view { books = drop (suc i) (m.view).books } }) is)

-- one book more is home
pub noted_more : (notes all : List Note) (m n q : PassValue) (writer : ℕ) (over : Bool) (used : ℕ) → AreNoted notes (m.view).books m.nodes
    → Holding writer over used q → q.nodes ≡ m.nodes → n.nodes ≡ m.nodes
    → all ≡ notes ++ record { writer = writer; over = over; used = used } ∷ [] → (n.view).books ≡ (m.view).books ++ (q.view).books
    → AreNoted all (n.view).books n.nodes
noted_more notes all m n q writer over used noted H same nodes is books =
    let W = H.0 in
    let b = W.book in
    let both : (n.view).books ≡ (m.view).books ++ b ∷ [] = books ∙ ap (λ (bs : List Book). (m.view).books ++ bs) W.one in
    let note : note_of b ≡ record { writer = writer; over = over; used = used } = cc (W.writer_is, W.over_is, W.used_is) in
    record {
      notes_are = is
          ∙ (ap₂ (λ (xs : List Note) (x : Note). xs ++ x ∷ []) noted.notes_are (sym note)
          ∙ (sym (map-append note_of (m.view).books (b ∷ [])) ∙ ap (λ (bs : List Book). map note_of bs) (sym both)));
      few = (let f = noted.few in omega (arith, f, nodes));
      bounds = λ k x at. go k x (ap (λ (bs : List Book). slice_get bs k) (sym both) ∙ at);
    }
  where
    go : (k : ℕ) (x : Book) → slice_get ((m.view).books ++ (H.0).book ∷ []) k ≡ Some x → (x.writer < 16) × (length x.used ≤ n.nodes)
    go k x at = elim (cases_Bool (k == length (m.view).books)) [
      | inl t ↦
          let here : slice_get ((m.view).books ++ (H.0).book ∷ []) k ≡ Some (H.0).book =
          ap (slice_get ((m.view).books ++ (H.0).book ∷ [])) (eq_from k (length (m.view).books) t) ∙ get_push_same (m.view).books (H.0).book in
          let e : (H.0).book ≡ x = cc (here, at) in
          let w = ap (λ (c : Book). c.writer) e in
          let u = ap (λ (c : Book). length c.used) e in
          (omega (arith, w, (H.0).writer_is, H.1), omega (arith, u, (H.0).used_is, H.2, same, nodes))
      | inr t ↦ (let old = noted.bounds k x
          (sym (get_push_other (m.view).books (H.0).book k (λ f. absurd (cc (sym t ∙ eq_true k (length (m.view).books) f)))) ∙ at) in
          (old.0, omega (arith, old.1, nodes)))
    ]
