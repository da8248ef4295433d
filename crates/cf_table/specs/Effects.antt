-- What each step call does to its word and to its pass.
use Rattle.std.specs.Prelude.{ℕ, suc, List, [], ◌∷◌, Bool, ◌≡◌, ◌==◌, cond}
use Rattle.cf_row.specs.Row.{RowValue}
use Rattle.cf_row.specs.declared.row.Entry.{Entry}
use Rattle.cf_shape.specs.Lanes.{ShapeValue}
use Rattle.cf_shape.specs.Places.{Slot, place, place_of, slot_of, sizes_of, head_slot}
use Rattle.cf_shape.specs.Places.Slot.{tail, cell, body}
use Rattle.cf_shape.specs.Places.WordName.{version, done}
use Rattle.cf_law.specs.Words.{Spot, spot}
use Rattle.cf_law.specs.Passes.{Pass}
use Rattle.cf_law.specs.Steps.{Act, Step, book_with_ticket, book_with_word, book_with_record, book_with_head, book_with_label, pass_with_book, pass_with_look, pass_that_sees, pass_with_tail, pass_with_link, pass_with_child, pass_with_head, pass_with_cell, child_word}
use Rattle.cf_law.specs.Shapes.{layout}
use Rattle.cf_law.specs.Readers.{StepTells}
use Rattle.cf_table.specs.Values.{PassValue, book_of, flight_of}

-- the word's slot, what is left there by what was found, and the pass afterwards, by what was found and by the entries below the read tail
pub record StepEffect : Type 0 where
  pub slot : Slot
  pub change : ℕ → ℕ
  pub after : ℕ → List Entry → Pass

-- the pass may make the act in this way: it is a lawful step
abbrev pub IsLawfulStep : ShapeValue → Pass → Act → StepEffect → Type 0
IsLawfulStep shape p a w = Step (layout shape) p a w.slot w.change w.after

-- the step was made, and found this
pub record HasStepped (shape : ShapeValue) (effect : StepEffect) (before : PassValue) (found : ℕ) (after : PassValue) : Type 0 where
  pub told : StepTells (layout shape) before.view effect.slot effect.after found (effect.change found) after.view
  pub same : after ≡ record before { view = after.view }

-- the step was made; it doesn't say what it found
pub record HasSteppedUnseen (shape : ShapeValue) (effect : StepEffect) (before after : PassValue) : Type 0 where
  pub found : ℕ
  pub made : HasStepped shape effect before found after

-- a ticket is taken for the row r: the write tail grows by 1
abbrev pub take_effect : ShapeValue → Pass → RowValue → StepEffect
take_effect shape p r = record { slot = tail 0; change = λ n. suc n; after = λ n es. record p { books = book_with_ticket (layout shape) r n (book_of p) ∷ [] } }

-- the value is stored in word i of the ticket at that offset, the one in flight
abbrev pub store_effect : Pass → ℕ → ℕ → ℕ → StepEffect
store_effect p offset i value =
    record { slot = cell offset i; change = λ n. value; after = λ n es. pass_with_book 0 (book_with_word i (book_of p) (flight_of p)) p }

-- the done word of the ticket at that offset, the one in flight, becomes 1
abbrev pub finish_effect : ShapeValue → Pass → ℕ → StepEffect
finish_effect shape p offset =
    record { slot = slot_of shape (done offset); change = λ n. 1; after = λ n es. pass_with_book 0 (book_with_record (book_of p) (flight_of p)) p }

-- the read tail goes from t to t + 1, or stays where it was found elsewhere
abbrev pub advance_effect : Pass → ℕ → StepEffect
advance_effect p t = record { slot = tail 1; change = λ n. cond (n == t) (suc t) n; after = λ n es. pass_that_sees (suc t) es p }

-- the read tail is loaded; where `asked`, it is kept as the tail of an ask
abbrev pub tail_effect : Pass → Bool → StepEffect
tail_effect p asked = record { slot = tail 1; change = λ n. n; after = λ n es. pass_with_tail asked n es p }

-- the done word of the ticket at that offset is loaded
abbrev pub done_effect : ShapeValue → Pass → ℕ → StepEffect
done_effect shape p offset = record { slot = slot_of shape (done offset); change = λ n. n; after = λ n es. pass_with_look (place_of shape (done offset)) n p }

-- word i of the ticket at that offset is loaded
abbrev pub word_effect : ShapeValue → Pass → ℕ → ℕ → StepEffect
word_effect shape p offset i = record { slot = cell offset i; change = λ n. n; after = λ n es. pass_with_look (place (sizes_of shape) (cell offset i)) n p }

-- the value is stored as the label of the node, the own least unused one
abbrev pub label_effect : Pass → ℕ → ℕ → StepEffect
label_effect p node value = record { slot = body node 0; change = λ n. value; after = λ n es. pass_with_book 0 (book_with_label value (book_of p)) p }

-- the node is tried as the one for the spot s, whose child word is the slot t
abbrev pub link_effect : Pass → Spot → Slot → ℕ → StepEffect
link_effect p s t node = record { slot = t; change = λ n. child_word node n; after = λ n es. pass_with_link 0 (book_of p) s node p n }

-- the head of nibble d of the node becomes the ticket at that offset, the one in flight, which is then linked in the lane
abbrev pub head_effect : ShapeValue → Pass → ℕ → ℕ → ℕ → ℕ → StepEffect
head_effect shape p lane node d offset = record {
  slot = head_slot (sizes_of shape) node d (book_of p).writer;
  change = λ n. suc offset;
  after = λ n es. pass_with_book 0 (book_with_head lane (book_of p) (flight_of p)) p;
}

-- the child word of the spot s, the slot t, is loaded
abbrev pub child_effect : ShapeValue → Pass → Spot → Slot → StepEffect
child_effect shape p s t = record { slot = t; change = λ n. n; after = λ n es. pass_with_child (place (sizes_of shape) t) s p n }

-- the writer's head of nibble d of the node, which stands for the spot s, is loaded: a walk begins there
abbrev pub walk_effect : ShapeValue → Pass → Spot → ℕ → ℕ → ℕ → StepEffect
walk_effect shape p s node d writer = record {
  slot = head_slot (sizes_of shape) node d writer;
  change = λ n. n;
  after = λ n es. pass_with_head (place (sizes_of shape) (head_slot (sizes_of shape) node d writer)) writer (spot s.lane (d ∷ s.path)) p n;
}

-- word i of the cell of the lane of the ticket at that offset is loaded: a walk that named that cell goes on
abbrev pub cell_effect : ShapeValue → Pass → ℕ → ℕ → ℕ → StepEffect
cell_effect shape p offset lane i = record {
  slot = slot_of shape (version offset lane i);
  change = λ n. n;
  after = λ n es. pass_with_cell (place_of shape (version offset lane i)) offset lane i p n;
}
