-- The passes come home one by one.
use Rattle.std.proofs.Common.{◌≡◌, ℕ, ◌+◌, ◌<◌, inl, inr, zero, suc, List, [], ◌∷◌, ◌++◌, length, get_or, take, append_assoc, append-nil, Some, None, slice_get, refl, sym, ap, subst, ◌∙◌, arith}
use Rattle.std.proofs.Math.Seq.{take-length}
use Rattle.cf_row.proofs.Lists.{get_back, has_left}
use Rattle.cf_shape.specs.Lanes.{ShapeValue}
use Rattle.cf_law.specs.Passes.{Book, Pass}
use Rattle.cf_law.specs.Steps.{IsAtRest, Holds}
use Rattle.cf_law.specs.Shapes.{layout}
use Rattle.cf_law.specs.Readers.{AtHome, mine_from}
use Rattle.cf_law.proofs.Moves.{at_either}
use Rattle.cf_law.proofs.Fronts.{table_length, table_at}
use Rattle.cf_law.specs.Events.{tabulated, no_book}
use Rattle.std.proofs.lemmas.Option.{slice_get_within, slice_get-get_or}
use Rattle.cf_table.specs.Rule.{root_pass}
use Rattle.cf_table.specs.Values.{PassValue, LogValue, IsOf}
use Rattle.cf_table.specs.Moves.{Begins, HoldsAllBooks, AreDealt, AreAll, HasFolded, Gathers, HasGathered, HasSettled, books_of, told_by}
use Rattle.cf_table.proofs.Settling.{begins_then}
use Rattle.cf_table.proofs.Counting.{all_seen}

-- each is the log's, and at rest
pub record AreHomeward (log : LogValue) (passes : List PassValue) : Type 0 where
  pub of : (k : ℕ) (h : PassValue) → slice_get passes k ≡ Some h → IsOf h log
  pub rest : (k : ℕ) (h : PassValue) → slice_get passes k ≡ Some h → IsAtRest h.view

pub homeward_next : (log : LogValue) (h : PassValue) (hs : List PassValue) → AreHomeward log (h ∷ hs) → AreHomeward log hs
homeward_next log h hs H = record { of = λ k g at. H.of (suc k) g at; rest = λ k g at. H.rest (suc k) g at }

pub still_one : (log : LogValue) (m n : PassValue) → IsOf m log → n ≡ record m { view = n.view } → IsOf n log
still_one log m n is same = record { table = ap (λ (h : PassValue). h.table) same ∙ is.table; nodes = ap (λ (h : PassValue). h.nodes) same ∙ is.nodes }

-- what is known once all have come home
pub record Homes (m n : PassValue) (passes : List PassValue) : Type 0 where
  pub same : n ≡ record m { view = n.view }
  pub books : (n.view).books ≡ (m.view).books ++ books_of passes
  pub tails : (n.view).tails ≡ (m.view).tails
  pub told : (n.view).told ≡ told_by (m.view).told passes
  pub own : Begins (m.view).seen (n.view).seen
  pub others : (k : ℕ) (h : PassValue) → slice_get passes k ≡ Some h → Begins (h.view).seen (n.view).seen

pub homes : (shape : ShapeValue) (m n : PassValue) (passes : List PassValue) → Gathers shape m passes n → Homes m n passes
unfolding Gathers books_of told_by
homes shape m n [] g = record {
  same = g ∙ ap (λ (h : PassValue). record m { view = h.view }) (sym g);
  books = ap (λ (h : PassValue). (h.view).books) g ∙ sym (append-nil (m.view).books);
  tails = ap (λ (h : PassValue). (h.view).tails) g;
  told = ap (λ (h : PassValue). (h.view).told) g;
  own = ap (λ (h : PassValue). take (length (m.view).seen) (h.view).seen) g ∙ take-length (m.view).seen;
  others = λ k h at. absurd (cc at);
}
homes shape m n (h ∷ hs) g =
    let k = g.0 in
    let f = g.1 in
    let r = homes shape k n hs g.2 in record {
      same = r.same ∙ ap (λ (x : PassValue). record x { view = n.view }) f.made.same;
      books = r.books ∙ (ap (λ (bs : List Book). bs ++ books_of hs) f.books ∙ append_assoc (m.view).books (h.view).books (books_of hs));
      tails = r.tails ∙ f.tails;
      told = r.told ∙ ap (λ (ts : List ℕ). told_by ts hs) f.told;
      own = begins_then (m.view).seen (k.view).seen (n.view).seen f.own r.own;
      others = λ i x at. other i x at f.other r.own r.others;
    }
  where
    other : (i : ℕ) (x : PassValue) → slice_get (h ∷ hs) i ≡ Some x → Begins (h.view).seen ((g.0).view).seen → Begins ((g.0).view).seen (n.view).seen
        → ((j : ℕ) (y : PassValue) → slice_get hs j ≡ Some y → Begins (y.view).seen (n.view).seen) → Begins (x.view).seen (n.view).seen
    other zero x at mine on rest = let e : h ≡ x = cc at in
        subst (λ (y : PassValue). Begins (y.view).seen (n.view).seen) e (begins_then (h.view).seen ((g.0).view).seen (n.view).seen mine on)
    other (suc j) x at mine on rest = rest j x at

in_books : (passes : List PassValue) (k j : ℕ) (h : PassValue) (b : Book) → slice_get passes k ≡ Some h → Holds h.view j b → (i : ℕ)
    × (slice_get (books_of passes) i ≡ Some b)
unfolding books_of
in_books [] k j h b at holds = absurd (cc at)
in_books (x ∷ xs) zero j h b at holds =
    let e : x ≡ h = cc at in
    (j, has_left (x.view).books (books_of xs) j b (ap (λ (y : PassValue). slice_get (y.view).books j) e ∙ holds))
in_books (x ∷ xs) (suc k) j h b at holds =
    let r = in_books xs k j h b at holds in
    (length (x.view).books + r.0, get_back (x.view).books (books_of xs) r.0 b r.1)

rest_of : (passes : List PassValue) → ((k : ℕ) (h : PassValue) → slice_get passes k ≡ Some h → IsAtRest h.view) → (i : ℕ) (b : Book)
    → slice_get (books_of passes) i ≡ Some b → b.flight ≡ None
unfolding books_of
rest_of [] each i b at = absurd (cc at)
rest_of (h ∷ hs) each i b at = elim (at_either (h.view).books (books_of hs) i b at) [
  | inl f ↦ each 0 h refl i b f.1
  | inr g ↦ rest_of hs (λ k x there. each (suc k) x there) g.0 b g.2
]

-- all books are held, at rest
pub at_home : (log : LogValue) (passes : List PassValue) (p : Pass) → AreAll log passes → p.books ≡ books_of passes → AtHome (layout log.shape) p
at_home log passes p all is w lt =
    let r = all.writers w lt in
    let i = in_books passes r.0 r.2 r.1 r.3 r.4 r.5 in
    (i.0, r.3, ap (λ (bs : List Book). slice_get bs i.0) is ∙ i.1, r.6, all.rest r.0 r.1 r.4 r.2 r.3 r.5)

pub gathered : (log : LogValue) (m n o : PassValue) (passes : List PassValue) → AreAll log passes → (m.view).books ≡ []
    → length (n.view).books ≡ length passes → Gathers log.shape m passes n → HasSettled log.shape n o → HasGathered log.shape m passes o
gathered log m n o passes all away many g s =
    let r = homes log.shape m n passes g in
    let books : (o.view).books ≡ books_of passes = s.books ∙ (r.books ∙ ap (λ (bs : List Book). bs ++ books_of passes) away) in
    let home : AtHome (layout log.shape) o.view = at_home log passes o.view all books in
    let many_are : length (o.view).books ≡ (log.shape).writers = ap (λ (bs : List Book). length bs) s.books ∙ (many ∙ all.count) in record {
      same = s.same ∙ ap (λ (x : PassValue). record x { view = o.view }) r.same;
      books = books;
      tails = s.tails ∙ r.tails;
      told = s.told ∙ r.told;
      own = begins_then (m.view).seen (n.view).seen (o.view).seen r.own s.longer;
      others = λ k h at. begins_then (h.view).seen (n.view).seen (o.view).seen (r.others k h at) s.longer;
      settled = record {
        home = home;
        rest = λ k b at. rest_of passes all.rest k b (ap (λ (bs : List Book). slice_get bs k) (sym books) ∙ at);
        count = many_are;
        all = s.all home;
      };
      full = s.full home;
      paths = s.paths home;
      bounds = s.bounds;
      fit = s.fit;
      count = all_seen log.shape o.view home many_are (s.all home) (λ k e at. (s.fit k e at).1);
    }

pub gathers_next : (shape : ShapeValue) (m k n : PassValue) (h : PassValue) (hs : List PassValue) → HasFolded shape m h.view k → Gathers shape k hs n
    → Gathers shape m (h ∷ hs) n
unfolding Gathers
gathers_next shape m k n h hs f g = (k, f, g)

pub gathers_none : (shape : ShapeValue) (m : PassValue) (hs : List PassValue) → hs ≡ [] → Gathers shape m hs m
unfolding Gathers
gathers_none shape m hs none = subst (λ (xs : List PassValue). Gathers shape m xs m) (sym none) refl

no_mine : (w : ℕ) → mine_from w 0 [] ≡ []
unfolding mine_from
no_mine w = refl

-- an opened log's root
pub opened : (shape : ShapeValue) → HoldsAllBooks shape (root_pass shape)
opened shape = record {
  home = λ w lt. (w, no_book w, table_at no_book shape.writers w lt, refl, refl);
  rest = λ k b at. (let e = first_book k b at in ap (λ (c : Book). c.flight) (sym e));
  count = table_length no_book shape.writers;
  all = λ k b at. (let e = first_book k b at in ap (λ (c : Book). c.mine) (sym e) ∙ sym (no_mine b.writer));
}
  where
    first_book : (k : ℕ) (b : Book) → slice_get (tabulated no_book shape.writers) k ≡ Some b → no_book k ≡ b
    first_book k b e =
        let lt : k < shape.writers = omega (arith, slice_get_within (tabulated no_book shape.writers) k b e, table_length no_book shape.writers) in
        let f : Some (no_book k) ≡ Some b = sym (table_at no_book shape.writers k lt) ∙ e in cc f

-- passes that were just dealt may come home as they are
pub dealt_all : (log : LogValue) (m n : PassValue) (passes : List PassValue) → HoldsAllBooks log.shape m.view → AreDealt log m passes n → AreAll log passes
dealt_all log m n passes settled dealt = record {
  of = λ k h at. (dealt.each k h at).of;
  rest = λ k h at j b holds. rest k h at j b holds;
  count = dealt.count ∙ settled.count;
  writers = λ w lt. writers w lt;
}
  where
    only : (b c : Book) (j : ℕ) → slice_get (b ∷ []) j ≡ Some c → b ≡ c
    only b c zero e = cc e
    only b c (suc j) e = absurd (cc e)

    rest : (k : ℕ) (h : PassValue) → slice_get passes k ≡ Some h → (j : ℕ) (b : Book) → Holds h.view j b → b.flight ≡ None
    rest k h at j b holds =
        let d = dealt.each k h at in
        let e : d.book ≡ b = only d.book b j (ap (λ (p : Pass). slice_get p.books j) (sym d.view) ∙ holds) in
        ap (λ (c : Book). c.flight) (sym e) ∙ settled.rest k d.book d.at

    writers : (w : ℕ) → w < (log.shape).writers → (k : ℕ) × (h : PassValue) × (j : ℕ) × (b : Book) × (slice_get passes k ≡ Some h) × Holds h.view j b
        × (b.writer ≡ w)
    writers w lt =
        let r = settled.home w lt in
        let k = r.0 in
        let low : k < length passes = omega (arith, slice_get_within (m.view).books k r.1 r.2, dealt.count) in
        let h = get_or passes k m in
        let at : slice_get passes k ≡ Some h = slice_get-get_or passes k m low in
        let d = dealt.each k h at in
        let same : d.book ≡ r.1 = (let f : Some d.book ≡ Some r.1 = sym d.at ∙ r.2 in cc f) in
        (k, h, 0, d.book, at, ap (λ (p : Pass). slice_get p.books 0) d.view, ap (λ (c : Book). c.writer) same ∙ r.3)

-- a place of the list has a pass
pub some_at : (hs : List PassValue) (k : ℕ) → k < length hs → (h : PassValue) × (slice_get hs k ≡ Some h)
some_at [] k lt = absurd (omega (arith, lt))
some_at (h ∷ hs) zero lt = (h, refl)
some_at (h ∷ hs) (suc k) lt = some_at hs k (omega (arith, lt))

-- a pass's book is among those of all
pub book_in : (passes : List PassValue) (k : ℕ) (h : PassValue) (b : Book) → slice_get passes k ≡ Some h → Holds h.view 0 b → (i : ℕ)
    × (slice_get (books_of passes) i ≡ Some b)
unfolding books_of
book_in [] k h b at holds = absurd (cc at)
book_in (x ∷ xs) zero h b at holds =
    let e : x ≡ h = cc at in
    (0, has_left (x.view).books (books_of xs) 0 b (ap (λ (y : PassValue). slice_get (y.view).books 0) e ∙ holds))
book_in (x ∷ xs) (suc k) h b at holds =
    let r = book_in xs k h b at holds in
    (length (x.view).books + r.0, get_back (x.view).books (books_of xs) r.0 b r.1)
