-- Questions that walk the trees and chains of a lane.
use Rattle.std.specs.Prelude.{ℕ, ◌≡◌, ◌+◌, ◌-◌, ◌*◌, List, [], length}
use Rattle.cf_shape.specs.Lanes.{ShapeValue}
use Rattle.cf_shape.specs.Nodes.{levels_of}
use Rattle.cf_plain.specs.declared.ask.Ask.{Ask}
use Rattle.cf_plain.specs.declared.ask.Ask.TheVariants as asks
use Rattle.cf_plain.specs.declared.answer.Body.{Body}
use Rattle.cf_plain.specs.declared.answer.Body.TheVariants as bodies

-- a question for the entries of one key
abbrev pub AsksOne : Ask → Type 0
AsksOne (asks.List expr) = ⊥
AsksOne (asks.Find lane low high) = low ≡ high
AsksOne (asks.Between lane low high) = low ≡ high
AsksOne (asks.Measure lane low high) = ⊥
AsksOne (asks.Fired trigger) = ⊥
AsksOne (asks.Top lane part n) = ⊥
AsksOne (asks.Groups lane) = ⊥
AsksOne (asks.Total attr expr) = ⊥

-- a question for what is measured under one bucket
abbrev pub AsksBucket : Ask → Type 0
AsksBucket (asks.List expr) = ⊥
AsksBucket (asks.Find lane low high) = ⊥
AsksBucket (asks.Between lane low high) = ⊥
AsksBucket (asks.Measure lane low high) = low ≡ high
AsksBucket (asks.Fired trigger) = ⊥
AsksBucket (asks.Top lane part n) = ⊥
AsksBucket (asks.Groups lane) = ⊥
AsksBucket (asks.Total attr expr) = ⊥

-- the lane that a question walks; those that go over all entries walk none
abbrev pub lane_of : Ask → ℕ
lane_of (asks.List expr) = 0
lane_of (asks.Find lane low high) = lane
lane_of (asks.Between lane low high) = lane
lane_of (asks.Measure lane low high) = lane
lane_of (asks.Fired trigger) = trigger.agg
lane_of (asks.Top lane part n) = lane
lane_of (asks.Groups lane) = lane
lane_of (asks.Total attr expr) = 0

-- the places of a body; another kind of body has none
abbrev pub places_in : Body → List ℕ
places_in (bodies.Places places) = places
places_in (bodies.Total total) = []
places_in (bodies.Marks marks) = []
places_in (bodies.Tops marks) = []
places_in (bodies.Groups groups) = []

-- One step for the read tail, one for each level and writer, one for each place found, and one for each place at or past the tail.
abbrev pub steps_of_one : ShapeValue → ℕ → Body → ℕ → ℕ
steps_of_one shape lane body tail = 1 + levels_of shape lane + shape.writers + length (places_in body) + (shape.capacity - tail)

-- One step for the read tail, one for each level, one for each writer's head and three for its newest cell, and one for each place at or past the tail.
abbrev pub steps_of_bucket : ShapeValue → ℕ → ℕ → ℕ
steps_of_bucket shape lane tail = 1 + levels_of shape lane + 4 * shape.writers + (shape.capacity - tail)
