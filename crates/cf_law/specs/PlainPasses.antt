-- What a lawful world says of its tickets' writers, of its books and of what its passes have seen and know, each clause by itself.
use Rattle.std.specs.Prelude.{ℕ, ◌<◌, ◌≡◌, ◌⊎◌, suc, List, length, get_or, true, take, Some, slice_get}
use Rattle.cf_row.specs.declared.row.Entry.{Entry}
use Rattle.cf_shape.specs.Lanes.{ShapeValue, IsShape}
use Rattle.cf_shape.specs.Places.{place}
use Rattle.cf_shape.specs.Places.Slot.{tail, cell}
use Rattle.cf_law.specs.Words.{Layout, Ticket, entry, has}
use Rattle.cf_law.specs.Law.{IsWhole}
use Rattle.cf_law.specs.Passes.{Cursor, Pass}
use Rattle.cf_law.specs.Lawful.{Base, HoldsAt, IsFilledIn, Lawful, book_at}
use Rattle.cf_law.specs.Events.{word_at}
use Rattle.cf_law.specs.Readers.{IsIn}
use Rattle.cf_law.specs.Shapes.{layout}
use Rattle.cf_law.specs.Plainly.{SaysPlainly}

-- what is so of the tickets' writers, of the books and of what the passes have seen and know, where the words stand for `base`
pub record SaysOfPasses (sh : Layout) (base : Base) (passes : List Pass) : Type 0 where
  -- each ticket is one of the writers', and a finished one is filled
  pub writer : (o : ℕ) (t : Ticket) → slice_get base.log o ≡ Some t → t.writer < sh.sizes.writers
  pub whole : (o : ℕ) (t : Ticket) → slice_get base.log o ≡ Some t → t.is_done ≡ true → IsWhole sh t
  -- each writer's book is held by one pass, once, and is what the log has of that writer
  pub held : (w : ℕ) → w < sh.sizes.writers → (k : ℕ) × (i : ℕ) × HoldsAt passes k i w
  pub one : (j k h i w : ℕ) → HoldsAt passes j h w → HoldsAt passes k i w → (j ≡ k) × (h ≡ i)
  pub book : (k i w : ℕ) (h : HoldsAt passes k i w) → h.book ≡ book_at base w
  -- an entry that was seen is that of a finished ticket below the read tail, and the words of its place spell it
  pub seen : (k o : ℕ) (p : Pass) (e : Entry) → slice_get passes k ≡ Some p → slice_get p.seen o ≡ Some e
      → (o < word_at sh base.words (tail 1)) × (t : Ticket) × (slice_get base.log o ≡ Some t) × (t.is_done ≡ true) × (e ≡ entry t.writer t.row)
  pub spells : (k o i : ℕ) (p : Pass) (e : Entry) → slice_get passes k ≡ Some p → slice_get p.seen o ≡ Some e → i < sh.plain_words
      → word_at sh base.words (cell o i) ≡ get_or (sh.spelled e.row e.writer) i 0
  -- what both sides of the last join had seen begins what is seen now
  pub olds : (k j : ℕ) (p : Pass) (old : List Entry) → slice_get passes k ≡ Some p → slice_get p.olds j ≡ Some old → take (length old) p.seen ≡ old
  -- a done word that the last look found 1 is 1
  pub look : (k o i : ℕ) (p : Pass) → slice_get passes k ≡ Some p → o < sh.sizes.tickets → suc i ≡ sh.sizes.ticket_words
      → (p.look).word ≡ place sh.sizes (cell o i) → (p.look).value ≡ 1 → word_at sh base.words (cell o i) ≡ 1
  -- a place that a cursor names has its cell filled; what was seen of the cursor's writer and leaf stands below that place, or the walk went by it
  pub named : (k o : ℕ) (p : Pass) (c : Cursor) → slice_get passes k ≡ Some p → p.cursor ≡ Some c → c.link ≡ suc o → (t : Ticket)
      × (slice_get base.log o ≡ Some t) × IsFilledIn sh t c.spot.lane
  pub left : (k o : ℕ) (p : Pass) (c : Cursor) (e : Entry) → slice_get passes k ≡ Some p → p.cursor ≡ Some c → slice_get p.seen o ≡ Some e
      → IsIn sh c.writer c.spot e → (o < c.link) ⊎ (has c.gone o ≡ true)

-- all clauses, those of the words and those of the passes, are so in every lawful world of a lawful shape
abbrev pub LawfulSaysAllPlainly : Type 0
LawfulSaysAllPlainly = (s : ShapeValue) (words : List ℕ) (passes : List Pass) → IsShape s → Lawful (layout s) words passes
    → (m : Base) × (m.words ≡ words) × SaysPlainly (layout s) m passes × SaysOfPasses (layout s) m passes
