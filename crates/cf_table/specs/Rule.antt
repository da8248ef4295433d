-- The rule of the table, and what a step of it tells.
use Rattle.std.specs.Prelude.{ℕ, zero, suc, ◌≡◌, List, [], Bool}
use Rattle.atomic_table.specs.Table.{State, Me}
use Rattle.cf_row.specs.Row.{RowValue}
use Rattle.cf_row.specs.declared.row.Entry.{Entry}
use Rattle.cf_shape.specs.Lanes.{ShapeValue}
use Rattle.cf_shape.specs.Places.{place, sizes_of, IsReal}
use Rattle.cf_shape.specs.Places.Slot.{tail}
use Rattle.cf_law.specs.Passes.{Pass}
use Rattle.cf_law.specs.Steps.{Act, Step, new_pass, spent_pass}
use Rattle.cf_law.specs.Lawful.{Lawful}
use Rattle.cf_law.specs.Events.{tabulated, no_book}
use Rattle.cf_law.specs.Shapes.{layout}
use Rattle.cf_law.specs.Readers.{StepTells}
use Rattle.cf_table.specs.Effects.{StepEffect, take_effect, tail_effect, advance_effect}

-- what a step sees of its seat of the table: the pass, and the slots that the seat has taken, of which it never has any
abbrev pub SeatView : Type 0
SeatView = Me (Unit {0}) Pass

-- the law, with the table's words as words and the seats' views as passes
abbrev pub IsLawfulState : ShapeValue → State (Unit {0}) Pass → Type 0
IsLawfulState shape s = Lawful (layout shape) s.words s.views

-- the first pass: it holds all books
abbrev pub root_pass : ShapeValue → Pass
root_pass shape = new_pass (tabulated no_book shape.writers) []

-- what a call gives its step
pub record StepGiven : Type 0 where
  pub shape : ShapeValue
  pub effect : StepEffect

-- a shape with nothing in it, for where none was given
abbrev pub no_shape : ShapeValue
no_shape = record { schema = []; lanes = []; capacity = 0; writers = 0; nodes = 0; width = 0 }

-- what a step is given where no call asked for one: the write tail stays, and the pass is spent
abbrev pub nothing_given : StepGiven
nothing_given = record { shape = no_shape; effect = record { slot = tail 0; change = λ n. n; after = λ n es. spent_pass } }

-- the step told as much, and the pass lives on
pub record TellsAll (given : StepGiven) (before : SeatView) (found : ℕ) (after : SeatView) : Type 0 where
  pub told : StepTells (layout given.shape) before.0 given.effect.slot given.effect.after found (given.effect.change found) after.0
  pub bare : after.1 ≡ []
  pub lives : after.0.spent ≡ before.0.spent

-- the step told what it tells of some word found, which is not named
pub record TellsSome (given : StepGiven) (before after : SeatView) : Type 0 where
  pub found : ℕ
  pub all : TellsAll given before found after

-- the step asked for is lawful
pub record AsksLawfully (given : StepGiven) (pass : Pass) : Type 0 where
  pub act : Act
  pub lawful : Step (layout given.shape) pass act given.effect.slot given.effect.change given.effect.after
  pub real : IsReal (sizes_of given.shape) given.effect.slot

-- whatever is found, the pass has seen as much afterwards as before
abbrev pub SeesNoMore : StepEffect → Pass → Type 0
SeesNoMore w p = (n : ℕ) (es : List Entry) → (w.after n es).seen ≡ p.seen

-- whatever is found, the pass has the same books afterwards as before
abbrev pub KeepsBooks : StepEffect → Pass → Type 0
KeepsBooks w p = (n : ℕ) (es : List Entry) → (w.after n es).books ≡ p.books

-- A step is asked for on this word, of which it makes f: it is lawful, and what was seen stays.
pub record AsksOnWord (shape : ShapeValue) (given : StepGiven) (pass : Pass) (word : ℕ) (f : ℕ → ℕ) : Type 0 where
  pub shape_is : given.shape ≡ shape
  pub asks : AsksLawfully given pass
  pub word_is : word ≡ place (sizes_of shape) given.effect.slot
  pub change_is : (n : ℕ) → f n ≡ given.effect.change n
  pub keeps : SeesNoMore given.effect pass

-- what an exchange of 0 for v leaves
abbrev pub value_after_exchange : ℕ → ℕ → ℕ
value_after_exchange v zero = v
value_after_exchange v (suc n) = suc n

-- what a load of the read tail is given; where `asked`, the tail is kept as that of an ask
abbrev pub given_tail : ShapeValue → Pass → Bool → StepGiven
given_tail shape p asked = record { shape = shape; effect = tail_effect p asked }

-- what a move of the read tail from t to t + 1 is given
abbrev pub given_advance : ShapeValue → Pass → ℕ → StepGiven
given_advance shape p t = record { shape = shape; effect = advance_effect p t }

-- what the taking of a ticket for the row r is given
abbrev pub given_take : ShapeValue → Pass → RowValue → StepGiven
given_take shape p r = record { shape = shape; effect = take_effect shape p r }
