-- A world as it is held: its shape, its words and its passes.
use Rattle.std.specs.Prelude.{ℕ, zero, ◌+◌, ◌*◌, ◌%◌, ◌^◌, ◌<◌, ◌≤◌, ◌≡◌, ◌⊎◌, suc, List, [], ◌∷◌, cond, length, map, Some, slice_get, Bool, true, false}
use Rattle.cf_fold.specs.Quads.{QuadValue}
use Rattle.cf_fold.specs.Cells.{halves, measure_word}
use Rattle.cf_row.specs.Words.{AreSpelled, word_count}
use Rattle.cf_shape.specs.Lanes.{ShapeValue, IsShape, lane_at, measure_of}
use Rattle.cf_shape.specs.Uses.{cell_words, use_at}
use Rattle.cf_shape.specs.Uses.Use.{plain, version}
use Rattle.cf_row.specs.Row.{RowValue, Fits}
use Rattle.cf_shape.specs.Places.{Slot, place}
use Rattle.cf_shape.specs.Places.Slot.{root, body}
use Rattle.cf_law.specs.Words.{Spot, spot, Ticket as Taken, has}
use Rattle.cf_law.specs.Law.{Skips}
use Rattle.cf_law.specs.Passes.{Own, Pass}
use Rattle.cf_law.specs.Steps.{IsChild, Knows, label_of}
use Rattle.cf_law.specs.Lawful.{World, Lawful}
use Rattle.cf_law.specs.Steps.Act.{take_ticket, store_cell, finish_record, advance, load_tail, look_done, load_word, label, link, store_head, load_child, load_head, load_cell}
use Rattle.cf_law.specs.Events.{WorldEvent, IsEvent, IsLive, plain_at}
use Rattle.cf_law.specs.Events.WorldEvent.{acts, splits, joins}
use Rattle.cf_core.specs.declared.event.Act.{Act}
use Rattle.cf_core.specs.declared.event.Act.TheVariants.{Ticket, Cell, Done, Advance, LoadTail, LookDone, LoadWord, Label, Link, Head, LoadChild, LoadHead, LoadCell, Split, Join}
use Rattle.cf_law.specs.Shapes.{layout, path_in}

-- a world as contracts see it: its shape, its words by their places and its passes by their numbers
pub record WorldValue : Type 0 where
  pub shape : ShapeValue
  pub words : List ℕ
  pub passes : List Pass

-- the world of the law, which has the words and passes alone
abbrev pub world_of : WorldValue → World
world_of held = record { words = held.words; passes = held.passes }

-- the shape is lawful, and the words and passes keep the law
pub record IsLawfulWorld (held : WorldValue) : Type 0 where
  pub shape : IsShape held.shape
  pub law : Lawful (layout held.shape) held.words held.passes

-- what is left of the world by the answer to an event: the event was made, or no event of that name is lawful and nothing changed
abbrev pub Answers : WorldValue → ℕ → WorldEvent → WorldValue → Bool → Type 0
Answers old k e new true = IsEvent (layout old.shape) (world_of old) k e (world_of new) × (new.shape ≡ old.shape)
Answers old k e new false = (new ≡ old) × ((y : World) → IsEvent (layout old.shape) (world_of old) k e y → ⊥)

-- the event that an act names
abbrev pub event_of : Act → WorldEvent
event_of (Ticket row) = acts (take_ticket row)
event_of (Cell offset i value) = acts (store_cell offset i value)
event_of (Done offset) = acts (finish_record offset)
event_of (Advance t) = acts (advance t)
event_of (LoadTail asked) = acts (load_tail asked)
event_of (LookDone offset) = acts (look_done offset)
event_of (LoadWord offset i) = acts (load_word offset i)
event_of (Label node value) = acts (label node value)
event_of (Link at node) = acts (link at node)
event_of (Head lane node d offset) = acts (store_head lane node d offset)
event_of (LoadChild at) = acts (load_child at)
event_of (LoadHead node d writer) = acts (load_head node d writer)
event_of (LoadCell offset lane i) = acts (load_cell offset lane i)
event_of (Split writer) = splits writer
event_of (Join other) = joins other

-- there is no pass of number k, or it was joined away
abbrev pub NoPass : WorldValue → ℕ → Type 0
NoPass held k = (p : Pass) → IsLive (world_of held) k p → ⊥

-- pass number k is p, and was not joined away
abbrev pub IsLivePass : WorldValue → ℕ → Pass → Type 0
IsLivePass held k p = IsLive (world_of held) k p

-- the words of the first n places spell entries
abbrev pub AreReadable : WorldValue → ℕ → Type 0
AreReadable held n = (o : ℕ) → o < n → AreSpelled held.shape.schema (plain_at (layout held.shape) held.words o)

-- the place is that of child d of the root of lane l
abbrev pub IsRootAt : WorldValue → ℕ → ℕ → ℕ → Type 0
IsRootAt held at l d = (l < length held.shape.lanes) × (d < 16) × (place (layout held.shape).sizes (root l d) ≡ at)

-- at that place stands no child word of a root
abbrev pub NoRootAt : WorldValue → ℕ → Type 0
NoRootAt held at = (l d : ℕ) → IsRootAt held at l d → ⊥

-- the place is that of child d of a known node, which has children
abbrev pub IsChildOf : WorldValue → Spot × ℕ → ℕ → ℕ → Type 0
IsChildOf held x at d = (d < 16) × (suc (length (x.0).path) < (layout held.shape).levels (x.0).lane) × (place (layout held.shape).sizes (body x.1 (suc d)) ≡ at)

-- at that place stands child d of x, a node with its spot, which the pass knows
abbrev pub IsBelow : WorldValue → Pass → ℕ → Spot × ℕ → ℕ → Type 0
IsBelow held p at x d = (i : ℕ) × (slice_get p.known i ≡ Some x) × IsChildOf held x at d

-- at that place stands no child word of a node that the pass knows
abbrev pub NoneBelow : WorldValue → Pass → ℕ → Type 0
NoneBelow held p at = (x : Spot × ℕ) (d : ℕ) → IsBelow held p at x d → ⊥

-- at that place stands the child word of the spot s, which the pass may load, label or link
abbrev pub IsChildAt : WorldValue → Pass → ℕ → Spot → Type 0
IsChildAt held p at s = (t : Slot) × IsChild (layout held.shape) p s t × (place (layout held.shape).sizes t ≡ at)

-- at that place stands no child word that the pass may load, label or link
abbrev pub NoChildAt : WorldValue → Pass → ℕ → Type 0
NoChildAt held p at = (s : Spot) → IsChildAt held p at s → ⊥

-- the node is one, and so are its lane and the levels of its prefix
abbrev pub IsNode : WorldValue → Spot × ℕ → Type 0
IsNode held x = (x.1 < held.shape.writers * held.shape.nodes) × ((x.0).lane < length held.shape.lanes)

-- a node for the spot s is of the last level of its lane: it has heads and no children
abbrev pub IsLeaf : WorldValue → Spot → Type 0
IsLeaf held s = suc (length s.path) ≡ (layout held.shape).levels s.lane

-- the lane is one of the shape, and its cell has a word i
abbrev pub HasCell : ShapeValue → ℕ → ℕ → Type 0
HasCell shape lane i = (lane < length shape.lanes) × (i < cell_words (lane_at shape lane))

-- the label names the child word of that lane and prefix
abbrev pub IsLabelOf : WorldValue → Pass → ℕ → Spot → Type 0
IsLabelOf held p value s = (t : Slot) × IsChild (layout held.shape) p s t × (label_of (layout held.shape) s t ≡ value)

-- the value is the label of no child word that the pass may load, label or link
abbrev pub NoLabel : WorldValue → Pass → ℕ → Type 0
NoLabel held p value = (s : Spot) → IsLabelOf held p value s → ⊥

-- word i of a ticket is word i of the entry
abbrev pub IsPlainUse : ShapeValue → ℕ → Type 0
IsPlainUse shape i = (i < word_count shape.schema + 1) × (use_at shape i ≡ plain i)

-- word i of a ticket is word j of the cell of lane l
abbrev pub IsCellUse : ShapeValue → ℕ → ℕ → ℕ → Type 0
IsCellUse shape i l j = HasCell shape l j × (use_at shape i ≡ version l j)

-- a ticket of the row, whose words below `filled` are filled or passed over; its writer counts for nothing
abbrev pub draft : RowValue → ℕ → Taken
draft row filled = record { writer = 0; row = row; filled = filled; linked = []; is_done = false }

-- word i of a ticket of the row is passed over: it is of the cell of a lane that does not select the row
abbrev pub IsPassed : ShapeValue → RowValue → ℕ → Type 0
IsPassed shape row i = Skips (layout shape) (draft row 0) (use_at shape i)

-- the words of a ticket of the row from `from` up to but without `to` are all passed over
abbrev pub ArePassed : ShapeValue → RowValue → ℕ → ℕ → Type 0
ArePassed shape row from to = (i : ℕ) → from ≤ i → i < to → IsPassed shape row i

-- each lane that selects the row is one of the lanes in `linked`
abbrev pub AllLinked : ShapeValue → RowValue → List ℕ → Type 0
AllLinked shape row linked = (l : ℕ) (q : List ℕ) → path_in shape row l ≡ Some q → has linked l ≡ true

-- what is known of a writer's finished tickets
pub record AreOwn (shape : ShapeValue) (mine : List Own) : Type 0 where
  pub few : length mine ≤ 65536
  pub fits : (i : ℕ) (x : Own) → slice_get mine i ≡ Some x → Fits shape.schema x.row
  pub offset : (i : ℕ) (x : Own) → slice_get mine i ≡ Some x → x.offset < 65536

-- what the lane measures of the row and of the entries of a chain
abbrev pub amounts_with_row : ShapeValue → ℕ → RowValue → List (ℕ × RowValue) → List ℕ
amounts_with_row shape lane row chain = map (λ x. measure_of shape lane x) (row ∷ map (λ x. x.1) chain)

-- word j of a cell with that previous link and that quad
abbrev pub cell_word_of : Bool → ℕ → QuadValue → ℕ → ℕ
cell_word_of measured previous quad zero = halves previous (cond measured quad.count 0)
cell_word_of measured previous quad (suc j) = measure_word j quad

-- nibble d of that known node is the row's leaf in the lane
abbrev pub LeadsTo : WorldValue → Pass → RowValue → ℕ → ℕ → ℕ → Type 0
LeadsTo held p row l node d = (q : List ℕ) × (path_in held.shape row l ≡ Some (d ∷ q)) × Knows p (spot l q) node
