-- The events of a world, and lists of them.
use Rattle.std.specs.Prelude.{ℕ, ◌≡◌, zero, suc, List, [], ◌∷◌, ◌++◌, false, get_or, set, replicate, Option, Some, None, slice_get}
use Rattle.cf_row.specs.declared.row.Entry.{Entry}
use Rattle.cf_shape.specs.Places.{Slot, place, word_total}
use Rattle.cf_shape.specs.Places.Slot.{tail, cell}
use Rattle.cf_law.specs.Words.{Layout}
use Rattle.cf_law.specs.Passes.{Book, Pass}
use Rattle.cf_law.specs.Steps.{Act, Step, Splits, new_pass, joined_pass, spent_pass, IsAtRest}
use Rattle.cf_law.specs.Lawful.{World}

-- what a pass may do: a step; a split, with the number of the writer whose book goes along, or None for no book; a join of another pass,
-- by its number
pub data WorldEvent : Type 0 where
  acts : Act → WorldEvent
  splits : Option ℕ → WorldEvent
  joins : ℕ → WorldEvent

-- the values at 0 .. n - 1
unfoldable pub tabulated : {A : Type 0} → (ℕ → A) → ℕ → List A
tabulated f zero = []
tabulated f (suc n) = tabulated f n ++ f n ∷ []

-- the word at the slot t, or 0 where the list of words ends before it
abbrev pub word_at : Layout → List ℕ → Slot → ℕ
word_at sh words t = get_or words (place sh.sizes t) 0

-- the words of the entry at offset o: those of its attributes and its tag
abbrev pub plain_at : Layout → List ℕ → ℕ → List ℕ
plain_at sh words o = tabulated (λ i. word_at sh words (cell o i)) sh.plain_words

-- the entries that the words of the first n offsets spell
abbrev pub entries_spelled : Layout → List ℕ → ℕ → List Entry
entries_spelled sh words n = tabulated (λ o. sh.reads (plain_at sh words o)) n

-- the word at slot t becomes v, and pass k becomes what g makes of the entries that are then below the read tail
abbrev pub world_after : Layout → World → ℕ → Slot → ℕ → (List Entry → Pass) → World
world_after sh x k t v g = record {
  words = set x.words (place sh.sizes t) v;
  passes = set x.passes k (g (entries_spelled sh (set x.words (place sh.sizes t) v) (word_at sh (set x.words (place sh.sizes t) v) (tail 1))));
}

-- pass number k is p, and was not joined away
abbrev pub IsLive : World → ℕ → Pass → Type 0
IsLive x k p = (slice_get x.passes k ≡ Some p) × (p.spent ≡ false)

-- the empty book of writer w: no tickets, not marked, no used nodes, and no label
abbrev pub no_book : ℕ → Book
no_book w = record { writer = w; mine = []; flight = None; over = false; used = []; label = 0 }

-- the world before all events: all words are 0, and one pass, number 0, holds the empty books of all writers
abbrev pub opening : Layout → World
opening sh = record { words = replicate (word_total sh.sizes) 0; passes = new_pass (tabulated no_book sh.sizes.writers) [] ∷ [] }

-- one event of pass k
pub data IsEvent (sh : Layout) (x : World) (k : ℕ) : WorldEvent → World → Type 0 where
  steps : (p : Pass) (a : Act) (t : Slot) (f : ℕ → ℕ) (g : ℕ → List Entry → Pass) → IsLive x k p → Step sh p a t f g
      → IsEvent sh x k (acts a) (world_after sh x k t (f (word_at sh x.words t)) (g (word_at sh x.words t)))
  parts : (p left right : Pass) (w : Option ℕ) → IsLive x k p → Splits p w left right
      → IsEvent sh x k (splits w) (record { words = x.words; passes = set x.passes k left ++ right ∷ [] })
  meets : (p q : Pass) (j : ℕ) → IsLive x k p → IsLive x j q → (j ≡ k → ⊥) → IsAtRest q
      → IsEvent sh x k (joins j) (record { words = x.words; passes = set (set x.passes k (joined_pass p q)) j spent_pass })
