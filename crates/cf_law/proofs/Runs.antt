-- The opening is lawful, and each event keeps the law.
use Rattle.std.proofs.Common.{◌≡◌, ℕ, ◌/◌, ◌%◌, ◌<◌, ◌==◌, zero, suc, List, [], ◌∷◌, length, set, Option, Some, None, slice_get, cond, Bool, true, false, inl, inr, refl, arith, ap, sym, ◌∙◌, subst}
use Rattle.std.proofs.Math.ListN.{replicate}
use Rattle.std.proofs.lemmas.List.{get_or-replicate, get_or_past, length-replicate}
use Rattle.std.proofs.lemmas.Bool.{cases_lt}
use Rattle.std.proofs.lemmas.Option.{slice_get_within}
use Rattle.cf_shape.specs.Places.{Slot, place, word_total}
use Rattle.cf_shape.specs.Places.Slot.{tail, cell, root, body}
use Rattle.cf_law.specs.Words.{Spot, Layout, NodeStock, stock_of, node_at, spare_label, IsWordOf, BodyWord, marked_books}
use Rattle.cf_law.specs.Law.{LayoutLaw}
use Rattle.cf_law.specs.Passes.{Book, Pass}
use Rattle.cf_law.specs.Steps.{new_pass}
use Rattle.cf_law.specs.Lawful.{Base, BaseLaw, mine_in, flight_in, book_at, PassLaw, HoldsAt, Stands, World, Lawful}
use Rattle.cf_law.specs.Events.{tabulated, word_at, no_book, opening, WorldEvent, IsEvent}
use Rattle.cf_law.specs.Events.IsEvent.{steps, parts, meets}
use Rattle.cf_shape.proofs.Slots.{place_within}
use Rattle.cf_law.proofs.Keeps.{made_book}
use Rattle.cf_law.proofs.Fronts.{table_length, table_at, front_take}
use Rattle.cf_law.proofs.Steps.{step_keeps}
use Rattle.cf_law.proofs.Moves.{split_keeps, join_keeps}

abbrev empty_stock : NodeStock
empty_stock = record { used = []; label = 0; over = false }

opening_stock : (n w : ℕ) → stock_of (replicate n empty_stock) w ≡ empty_stock
unfolding stock_of
opening_stock n w = elim (cases_lt w n) [
  | inl lt ↦ get_or-replicate n w empty_stock _ lt
  | inr ge ↦ get_or_past (replicate n empty_stock) w _ (omega (arith, length-replicate n empty_stock))
]

opening_node : (m n k : ℕ) → node_at m (replicate n empty_stock) k ≡ None
unfolding node_at
opening_node m n k = ap (λ (b : NodeStock). slice_get b.used (k % m)) (opening_stock n (k / m))

cond_zero : (b : Bool) → ◌≡◌ {A = ℕ} (cond b 0 0) 0
cond_zero true = refl
cond_zero false = refl

opening_spare : (m n k : ℕ) → spare_label m (replicate n empty_stock) k ≡ 0
unfolding spare_label
opening_spare m n k = ap (λ (b : NodeStock). cond (k % m == length b.used) b.label 0) (opening_stock n (k / m)) ∙ cond_zero (k % m == 0)

opening_marked : (n : ℕ) → marked_books (replicate n empty_stock) ≡ 0
unfolding marked_books
opening_marked zero = refl
opening_marked (suc n) = omega (arith, opening_marked n)

nothing_used : (m n k : ℕ) (s : Spot) → node_at m (replicate n empty_stock) k ≡ Some s → ⊥
nothing_used m n k s e = cc (opening_node m n k, e)

opening_word : (sh : Layout) (t : Slot) → IsWordOf sh (0, 0) [] (replicate sh.sizes.writers empty_stock) t 0
opening_word sh (tail zero) = refl
opening_word sh (tail (suc k)) = refl
opening_word sh (cell o i) = refl
opening_word sh (root l d) = inl (refl, λ n. nothing_used sh.sizes.nodes sh.sizes.writers n _)
opening_word sh (body n j) =
    subst (λ (o : Option Spot). BodyWord sh [] (replicate sh.sizes.writers empty_stock) n j 0 o) (sym (opening_node sh.sizes.nodes sh.sizes.writers n)) (go j)
  where
    go : (j : ℕ) → BodyWord sh [] (replicate sh.sizes.writers empty_stock) n j 0 None
    go zero = sym (opening_spare sh.sizes.nodes sh.sizes.writers n)
    go (suc j) = refl

abbrev opening_base : Layout → Base
opening_base sh = record { words = replicate (word_total sh.sizes) 0; tails = (0, 0); log = []; stocks = replicate sh.sizes.writers empty_stock }

opening_law : (sh : Layout) → BaseLaw sh (opening_base sh)
opening_law sh = let none = nothing_used sh.sizes.nodes sh.sizes.writers in record {
  size = length-replicate (word_total sh.sizes) 0;
  spells = λ t real. subst (λ (v : ℕ). IsWordOf sh (0, 0) [] (replicate sh.sizes.writers empty_stock) t v)
      (sym (get_or-replicate (word_total sh.sizes) (place sh.sizes t) 0 0 (place_within sh.sizes t real))) (opening_word sh t);
  nodes = record {
    writers = length-replicate sh.sizes.writers empty_stock;
    room = λ w. omega (arith, ap (λ (b : NodeStock). length b.used) (opening_stock sh.sizes.writers w));
    unique = λ n k s e f. absurd (none n s e);
    shaped = λ n s e. absurd (none n s e);
    parent = λ n l d e p f. absurd (none n _ f);
  };
  room = omega arith;
  flight = λ o i t u e f same lt. absurd (cc e);
  leaves = λ o t l e h. absurd (cc e);
  full = λ o l t e h. absurd (cc e);
  linked = λ o l t p e d h. absurd (cc e);
  whole = λ o t e d. absurd (cc e);
  marks = omega (arith, opening_marked sh.sizes.writers);
  ends = λ w h. absurd (cc (ap (λ (b : NodeStock). b.over) (opening_stock sh.sizes.writers w), h));
  writers = λ o t e. absurd (cc e);
  fits = λ o t e. absurd (cc e);
  covered = omega arith;
  done = λ o t lt e. absurd (cc e);
}

opening_book : (sh : Layout) (w : ℕ) → no_book w ≡ book_at (opening_base sh) w
unfolding mine_in flight_in
opening_book sh w = made_book (opening_base sh) w [] None empty_stock refl refl (sym (opening_stock sh.sizes.writers w))

opening_held : (sh : Layout) (k : ℕ) (b : Book) → slice_get (tabulated no_book sh.sizes.writers) k ≡ Some b → (k < sh.sizes.writers) × (b ≡ no_book k)
opening_held sh k b e =
    let lt : k < sh.sizes.writers = omega (arith, slice_get_within (tabulated no_book sh.sizes.writers) k b e, table_length (no_book) sh.sizes.writers) in
    let same : no_book k ≡ b = cc (table_at no_book sh.sizes.writers k lt, e) in
    (lt, sym same)

opening_pass : (sh : Layout) → PassLaw sh (opening_base sh) (new_pass (tabulated no_book sh.sizes.writers) [])
opening_pass sh = record {
  within = omega arith;
  seen = front_take [] 0 0 (omega arith);
  olds = λ k old e. absurd (cc e);
  known = λ i x e. absurd (cc e);
  walk = tt;
  look = λ o i lt last word one. absurd (cc one);
  books = λ k b e. let h = opening_held sh k b e in
      let w : b.writer ≡ k = ap (λ (c : Book). c.writer) h.1 in let lt = h.0 in (
        omega (arith, w),
        h.1 ∙ (opening_book sh k ∙ ap (book_at (opening_base sh)) (sym w)),
      );
  ends = λ spent. absurd (cc spent);
}

pub opening_stands : (sh : Layout) → Stands sh (opening_base sh) (opening sh).passes
opening_stands sh = record {
  law = opening_law sh;
  knows = knows;
  held = λ w lt. (
    0,
    w,
    record {
      pass = new_pass (tabulated no_book sh.sizes.writers) [];
      book = no_book w;
      at = refl;
      held = table_at no_book sh.sizes.writers w lt;
      writer = refl;
    },
  );
  once = λ j k h i w x y. let a = place_of j h w x in let b = place_of k i w y in (a.0 ∙ sym b.0, a.1 ∙ sym b.1);
}
  where
    knows : (k : ℕ) (p : Pass) → slice_get (opening sh).passes k ≡ Some p → PassLaw sh (opening_base sh) p
    knows zero p e = let same : new_pass (tabulated no_book sh.sizes.writers) [] ≡ p = cc e in subst (PassLaw sh (opening_base sh)) same (opening_pass sh)
    knows (suc k) p e = absurd (cc e)

    place_of : (j h w : ℕ) → HoldsAt (opening sh).passes j h w → (j ≡ 0) × (h ≡ w)
    place_of zero h w x =
        let same : new_pass (tabulated no_book sh.sizes.writers) [] ≡ x.pass = cc (x.at) in
        let b = opening_held sh h x.book (ap (λ (q : Pass). slice_get q.books h) same ∙ x.held) in
        (refl, sym (ap (λ (c : Book). c.writer) b.1) ∙ x.writer)
    place_of (suc j) h w x = absurd (cc (x.at))

pub opening_lawful : (sh : Layout) → Lawful sh (opening sh).words (opening sh).passes
opening_lawful sh = record { base = opening_base sh; stands = opening_stands sh; spelled = refl }

-- Each event keeps the law.
pub kept : (sh : Layout) (x : World) (k : ℕ) (e : WorldEvent) (y : World) → LayoutLaw sh → Lawful sh x.words x.passes → IsEvent sh x k e y
    → Lawful sh y.words y.passes
kept sh x k e y shaped law (steps p a t f g live step) =
    let words : List ℕ = set x.words (place sh.sizes t) (f (word_at sh x.words t)) in
    let same : words ≡ set law.base.words (place sh.sizes t) (f (word_at sh law.base.words t)) =
    ap (λ (ws : List ℕ). set ws (place sh.sizes t) (f (word_at sh ws t))) (sym law.spelled) in
    let n = step_keeps sh law.base x.passes k p a t f g shaped law.stands live.0 step words same in
    record {
      base = n.0;
      stands = subst (λ (v : ℕ). Stands sh n.0 (set x.passes k (g v (Rattle.cf_law.specs.Events.entries_spelled sh words (word_at sh words (tail 1))))))
          (ap (λ (ws : List ℕ). word_at sh ws t) law.spelled) n.2;
      spelled = n.1 ∙ sym same;
    }
kept sh x k e y shaped law (parts p left right w live split) =
    record { base = law.base; stands = split_keeps sh law.base x.passes k p left right w law.stands live.0 split; spelled = law.spelled }
kept sh x k e y shaped law (meets p q j live other ne rest) =
    record { base = law.base; stands = join_keeps sh law.base x.passes k j p q law.stands live.0 other.0 ne live.1; spelled = law.spelled }
