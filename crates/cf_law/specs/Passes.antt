-- Passes and their books: what a caller holds and knows.
use Rattle.std.specs.Prelude.{ℕ, List, Bool, Option}
use Rattle.cf_row.specs.Row.{RowValue}
use Rattle.cf_row.specs.declared.row.Entry.{Entry}
use Rattle.cf_law.specs.Words.{Spot}

-- a ticket that its writer has finished
pub record Own : Type 0 where
  pub offset : ℕ
  pub row : RowValue

-- a ticket that is not finished: how far its words are filled, and the lanes in which it is linked
pub record Flight : Type 0 where
  pub offset : ℕ
  pub row : RowValue
  pub filled : ℕ
  pub linked : List ℕ

-- a writer's book: its finished tickets in order, the one in flight, the mark, its used nodes in order, and the label that it last stored, or 0
pub record Book : Type 0 where
  pub writer : ℕ
  pub mine : List Own
  pub flight : Option Flight
  pub over : Bool
  pub used : List Spot
  pub label : ℕ

-- the last load: the place of the word, what was found, and how many loads there were
pub record Look : Type 0 where
  pub word : ℕ
  pub value : ℕ
  pub count : ℕ

-- a walk down the chain of a writer in a leaf: the link found last, the offsets that it went by, and those that this walk and
-- the walks before it went by since `seen` last grew, each with its writer
pub record Cursor : Type 0 where
  pub writer : ℕ
  pub spot : Spot
  pub link : ℕ
  pub gone : List ℕ
  pub met : List (ℕ × ℕ)

-- what one caller holds and knows: its books; the entries seen, by offset, and those seen before its last join (`olds`); the tails of its
-- asks and those that joined passes told; its last look; in `known` the lanes and prefixes that it knows to have a node, each with its node's
-- number; its walk, if it has one; and whether it was joined away
pub record Pass : Type 0 where
  pub books : List Book
  pub seen : List Entry
  pub olds : List (List Entry)
  pub tails : List ℕ
  pub told : List ℕ
  pub look : Look
  pub known : List (Spot × ℕ)
  pub cursor : Option Cursor
  pub spent : Bool
