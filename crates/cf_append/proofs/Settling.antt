-- The read tail is moved over finished records.
use Rattle.std.proofs.Common.{◌≡◌, ◌⊎◌, ℕ, ◌<◌, ◌≤◌, inl, inr, List, length, false, take, slice_get, refl, ap, sym, subst, ◌∙◌, arith}
use Rattle.cf_row.specs.declared.row.Entry.{Entry}
use Rattle.cf_shape.specs.Lanes.{ShapeValue}
use Rattle.cf_law.specs.Words.{Spot}
use Rattle.cf_law.specs.Passes.{Book, Pass, Look}
use Rattle.cf_law.specs.Steps.{Holds, Knows}
use Rattle.cf_law.specs.Shapes.{layout}
use Rattle.cf_law.specs.Readers.{AtHome, IsBounded}
use Rattle.cf_table.specs.Values.{PassValue, book_of}
use Rattle.cf_table.specs.Moves.{Stops}
use Rattle.cf_table.specs.Effects.{HasStepped, tail_effect}
use Rattle.cf_table.proofs.Folds.{sees_told, tail_entries}
use Rattle.cf_table.proofs.Settling.{Moved, begins_then, begins_long, sees_look}
use Rattle.cf_append.specs.Appends.{PassGoesOn, Rests}
use Rattle.cf_law.proofs.Steps.{sees_books, sees_known}

-- the nodes that the pass knows stay known
pub knows_still : (p q : Pass) → q.known ≡ p.known → (s : Spot) (node : ℕ) → Knows p s node → Knows q s node
knows_still p q same s node knows = (knows.0, ap (λ (known : List (Spot × ℕ)). slice_get known knows.0) same ∙ knows.1)

pub goes_on : (m n : PassValue) → Moved m n → (n.view).known ≡ (m.view).known → PassGoesOn m n
goes_on m n moved known = record {
  same = moved.same;
  longer = moved.longer;
  tails = moved.tails;
  told = moved.told;
  knows = knows_still m.view n.view known;
}

-- the read tail was loaded
pub moved_tail : (shape : ShapeValue) (m n : PassValue) (found : ℕ) → HasStepped shape (tail_effect m.view false) m found n → Moved m n
moved_tail shape m n found made =
    let told = made.told in
    let is = told.is in
    let p = m.view in
    record {
      same = made.same;
      books = ap (λ (q : Pass). q.books) is ∙ sees_books found told.entries p;
      tails = ap (λ (q : Pass). q.tails) is;
      told = ap (λ (q : Pass). q.told) is ∙ (sees_told found told.entries p).0;
      longer = ap (λ (es : List Entry). take (length p.seen) es) (tail_entries shape p n.view false found told) ∙ told.goes_on.seen;
    }

pub counts_tail : (shape : ShapeValue) (m n : PassValue) (found : ℕ) → HasStepped shape (tail_effect m.view false) m found n
    → ((m.view).look).count ≤ ((n.view).look).count
counts_tail shape m n found made =
    let told = made.told in
    let same = ap (λ (l : Look). l.count) (sees_look found told.entries m.view) in
    let count = ap (λ (q : Pass). (q.look).count) told.is in
    omega (arith, same, count)

pub known_tail : (shape : ShapeValue) (m n : PassValue) (found : ℕ) → HasStepped shape (tail_effect m.view false) m found n → (n.view).known ≡ (m.view).known
known_tail shape m n found made = ap (λ (q : Pass). q.known) made.told.is ∙ sees_known found made.told.entries m.view

pub goes_then : (m n o : PassValue) → PassGoesOn m n → PassGoesOn n o → PassGoesOn m o
goes_then m n o a b = record {
  same = b.same ∙ ap (λ (h : PassValue). record h { view = o.view }) a.same;
  longer = begins_then (m.view).seen (n.view).seen (o.view).seen a.longer b.longer;
  tails = b.tails ∙ a.tails;
  told = b.told ∙ a.told;
  knows = λ s node k. b.knows s node (a.knows s node k);
}

pub goes_none : (m : PassValue) → PassGoesOn m m
goes_none m = record { same = refl; longer = Rattle.std.proofs.Math.Seq.take-length (m.view).seen; tails = refl; told = refl; knows = λ s node k. k }

-- the one writer's pass at rest has all books
pub home_alone : (shape : ShapeValue) (p : Pass) → shape.writers ≡ 1 → IsBounded (layout shape) p → Rests p → AtHome (layout shape) p
home_alone shape p one bounds rest w lt =
    let held : Holds p 0 (book_of p) = ap (λ (bs : List Book). slice_get bs 0) rest.one in
    let low : (book_of p).writer < shape.writers = bounds.writer 0 (book_of p) held in
    let only : w < shape.writers = lt in
    (0, book_of p, held, omega (arith, low, only, one), rest.free)

-- the tail stops where it did, for one that looked no more often
pub stops_since : (shape : ShapeValue) (p q r : Pass) → (p.look).count ≤ (q.look).count → Stops shape q r → Stops shape p r
stops_since shape p q r le stops = elim stops [
  | inl all ↦ inl all
  | inr u ↦ inr (record { word = u.word; value = u.value; since = (let since = u.since in omega (arith, le, since)); other = u.other })
]

-- and it stops where it is moved to then
pub stops_then : (shape : ShapeValue) (m n o : PassValue) → PassGoesOn n o → Stops shape m.view n.view → Stops shape n.view o.view → Stops shape m.view o.view
stops_then shape m n o goes before after = elim before [
  | inl all ↦ inl (let more = begins_long (n.view).seen (o.view).seen goes.longer in omega (arith, all, more))
  | inr u ↦ stops_since shape m.view n.view o.view (let since = u.since in omega (arith, since)) after
]

pub stops_still : (shape : ShapeValue) (m n o : PassValue) → PassGoesOn n o → Stops shape m.view n.view → (o ≡ n) ⊎ Stops shape n.view o.view
    → Stops shape m.view o.view
stops_still shape m n o goes before after = elim after [
  | inl same ↦ subst (λ (h : PassValue). Stops shape m.view h.view) (sym same) before
  | inr stops ↦ stops_then shape m n o goes before stops
]
