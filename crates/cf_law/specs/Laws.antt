-- The laws, as they are stated of all lawful shapes.
use Rattle.std.specs.Prelude.{ℕ, ◌+◌, ◌<◌, ◌≤◌, ◌≡◌, ◌⊎◌, suc, List, [], ◌∷◌, length, replicate, set, Some, slice_get}
use Rattle.cf_row.specs.declared.row.Entry.{Entry}
use Rattle.cf_shape.specs.Lanes.{ShapeValue, IsShape}
use Rattle.cf_shape.specs.Places.{Slot, place, word_total}
use Rattle.cf_shape.specs.Places.Slot.{tail, cell}
use Rattle.cf_law.specs.Words.{Layout}
use Rattle.cf_law.specs.Passes.{Pass}
use Rattle.cf_law.specs.Steps.{Act, Step}
use Rattle.cf_law.specs.Lawful.{World, Lawful}
use Rattle.cf_law.specs.Events.{WorldEvent, IsEvent, opening, no_book, tabulated, word_at, entries_spelled}
use Rattle.cf_law.specs.Shapes.{layout}
use Rattle.cf_law.specs.Readers.{Tells, StepTells}

-- a list of events, each with its pass: one that is lawful is made, and one that isn't is passed over
abbrev pub Plays : Layout → World → List (ℕ × WorldEvent) → World → Type 0
Plays sh x [] y = y ≡ x
Plays sh x (e ∷ es) y = (z : World) × (IsEvent sh x e.0 e.1 z ⊎ ((z ≡ x) × ((w : World) → IsEvent sh x e.0 e.1 w → ⊥))) × Plays sh z es y

-- From the opening, every list of events keeps the law.
abbrev pub EveryListKeepsTheLaw : Type 0
EveryListKeepsTheLaw = (s : ShapeValue) (es : List (ℕ × WorldEvent)) (y : World) → IsShape s → Plays (layout s) (opening (layout s)) es y
    → Lawful (layout s) y.words y.passes

-- The opening has all words 0, and one pass with all books, which are empty.
pub record OpeningIsEmpty : Type 0 where
  pub words : (s : ShapeValue) → (opening (layout s)).words ≡ replicate (word_total (layout s).sizes) 0
  pub one : (s : ShapeValue) → length (opening (layout s)).passes ≡ 1
  pub root : (s : ShapeValue) (p : Pass) → slice_get (opening (layout s)).passes 0 ≡ Some p → (p.seen ≡ []) × (p.books ≡ tabulated no_book s.writers)
  pub lawful : (s : ShapeValue) → Lawful (layout s) (opening (layout s)).words (opening (layout s)).passes

-- The read tail never passes an unfinished ticket: each place below it has the done word 1.
abbrev pub ReadTailCoversFinished : Type 0
ReadTailCoversFinished = (s : ShapeValue) (words : List ℕ) (passes : List Pass) (o i : ℕ) → IsShape s → Lawful (layout s) words passes
    → o < word_at (layout s) words (tail 1) → suc i ≡ (layout s).sizes.ticket_words
    → word_at (layout s) words (cell o i) ≡ 1

-- The write tail is at most the capacity and the number of writers.
abbrev pub WriteTailIsBounded : Type 0
WriteTailIsBounded = (s : ShapeValue) (words : List ℕ) (passes : List Pass) → IsShape s → Lawful (layout s) words passes
    → word_at (layout s) words (tail 0) ≤ s.capacity + s.writers

-- An entry that any pass has seen is the same to every pass ever after.
abbrev pub SeenNeverChanges : Type 0
SeenNeverChanges = (s : ShapeValue) (x y : World) (es : List (ℕ × WorldEvent)) (j k o : ℕ) (p q : Pass) → IsShape s → Lawful (layout s) x.words x.passes
    → Plays (layout s) x es y
    → slice_get x.passes j ≡ Some p → slice_get y.passes k ≡ Some q → o < length p.seen → o < length q.seen → slice_get p.seen o ≡ slice_get q.seen o

-- What a word tells a pass of what it has seen and holds.
abbrev pub WordsTell : Type 0
WordsTell = (s : ShapeValue) (words : List ℕ) (passes : List Pass) (k : ℕ) (p : Pass) (t : Slot) → IsShape s → Lawful (layout s) words passes
    → slice_get passes k ≡ Some p → Tells (layout s) p t (word_at (layout s) words t)

-- What a step tells its pass.
abbrev pub StepsTell : Type 0
StepsTell = (s : ShapeValue) (words : List ℕ) (passes : List Pass) (k : ℕ) (p : Pass) (a : Act) (t : Slot) (f : ℕ → ℕ) (g : ℕ → List Entry → Pass) → IsShape s
    → Lawful (layout s) words passes → slice_get passes k ≡ Some p → Step (layout s) p a t f g
    → let sh = layout s in let found = word_at sh words t in let words' = set words (place sh.sizes t) (f found) in let p' =
    g found (entries_spelled sh words' (word_at sh words' (tail 1))) in
    Lawful sh words' (set passes k p') × StepTells sh p t g found (f found) p'
