-- How the log of some rows is loaded.
use Rattle.std.specs.Prelude.{◌≡◌, ◌<◌, ◌≤◌, ◌*◌, ℕ, List, length, map}
use Rattle.cf_row.specs.Row.{RowValue}
use Rattle.cf_row.specs.declared.row.Entry.{Entry}
use Rattle.cf_plain.specs.Order.{IsLogOf, order_of}
use Rattle.cf_shape.specs.Lanes.{ShapeValue}
use Rattle.cf_shape.specs.Nodes.{distinct}
use Rattle.cf_setup.specs.Setups.{SetupValue}
use Rattle.cf_plain.specs.Answered.{LoadedValue, answer_on}
use Rattle.cf_plain.specs.declared.finding.Finding.{Finding}
use Rattle.cf_table.specs.Moves.{SealValue}
use Rattle.cf_load.specs.Loading.{HasAnswered}
use Rattle.cf_load.specs.Planned.{asks_of, finding_on, marks_on, tails_of}
use Rattle.cf_load.specs.Tags.{nums_of}
use Rattle.cf_load.specs.declared.plan.LivePlan.{LivePlan}
use Rattle.cf_segments.specs.Blocks.{block}
use Rattle.cf_segments.specs.declared.segments.Sealing.{Sealing}
use Rattle.cf_report.specs.Tags.{bare}
use Rattle.cf_command.specs.declared.words.LogSizes.{LogSizes}
use Rattle.cf_intake.specs.declared.refusal.Halt.{Halt}
use Rattle.cf_intake.specs.declared.refusal.Halt.TheVariants.{Refused, Stopped}
use Rattle.cf_intake.specs.declared.refusal.Refusal.TheVariants as refusals
use Rattle.cf_intake.specs.declared.refusal.Stop.TheVariants as stops
use Rattle.cf_fill.specs.Needs.{NeedsAtMost, NeedsMore}
use Rattle.cf_fill.specs.Seals.{AreSeals, IsClosed}
use Rattle.cf_fill.specs.Work.{shape_for}
use Rattle.cf_fill.specs.declared.log.Unmade.{Unmade}
use Rattle.cf_fill.specs.declared.log.Unmade.TheVariants.{Nodes, Memory}

-- the plan asks what the setup asks, in so many rounds beside each batch
pub record IsPlanOf (setup : SetupValue) (rounds : ℕ) (plan : LivePlan) : Type 0 where
  pub asks : plan.asks.items ≡ setup.asks
  pub triggers : plan.triggers.items ≡ setup.triggers
  pub lives : plan.lives.items ≡ setup.lives
  pub rounds_are : plan.rounds ≡ rounds

-- The entries of a closed log, whose segments have the shape, the seals of its segments, and the answers to a plan: each row stands in it
-- once, the final answers and the marks are those of the whole log, and each live answer, in its turn, that of the entries that it saw.
pub record IsLogClosed (shape : ShapeValue) (plan : LivePlan) (rows : List RowValue) (entries : List Entry) (seals : List SealValue)
    (answered : LoadedValue) : Type 0 where
  pub is : IsLogOf rows shape.writers entries
  pub finals : answered.finals ≡ map (answer_on shape entries) plan.asks.items
  pub alerts : answered.alerts ≡ map (marks_on shape entries) plan.triggers.items
  pub lives : HasAnswered shape plan.asks.items plan.lives.items plan.rounds (length rows) entries answered.lives
  pub seals_are : AreSeals shape.capacity entries (tails_of answered.lives) seals
  pub few_nodes : NeedsAtMost shape (shape.writers * shape.nodes) rows

-- A log of the rows was closed. The numbers and the writers that were read are those of its entries, in their order.
pub record IsLogSealed (shape : ShapeValue) (plan : LivePlan) (rows : List RowValue) (sealing : Sealing) (answered : LoadedValue) : Type 0 where
  pub entries : List Entry
  pub nums : sealing.nums.items ≡ nums_of entries
  pub writers : sealing.writers.items ≡ order_of entries
  pub closed : IsLogClosed shape plan rows entries sealing.seals.items answered

-- The same of a log of a setup, with the answers to all that the setup asks. The tags are the log's entries without the values of their rows.
pub record IsTagged (setup : SetupValue) (capacity writers nodes rounds : ℕ) (rows : List RowValue) (tags : List Entry) (seals : List SealValue)
    (answered : LoadedValue) : Type 0 where
  pub entries : List Entry
  pub tags_are : tags ≡ bare entries
  pub closed : IsClosed setup capacity writers nodes rounds rows entries seals answered

-- A log of the rows was closed, and what the questions and triggers of the plan found in its entries is known, whose numbers and writers
-- were read.
pub record IsLogFound (shape : ShapeValue) (plan : LivePlan) (rows : List RowValue) (sealing : Sealing) (found : List Finding) : Type 0 where
  pub entries : List Entry
  pub nums : sealing.nums.items ≡ nums_of entries
  pub writers : sealing.writers.items ≡ order_of entries
  pub is : IsLogOf rows shape.writers entries
  pub found_are : found ≡ map (finding_on shape entries) (asks_of plan)
  pub few_nodes : (k : ℕ) → distinct shape (block shape.capacity k rows) ≤ shape.writers * shape.nodes

-- the paths of the rows of each segment need no more different nodes than all writers have in it
abbrev pub NodesSuffice : SetupValue → LogSizes → List RowValue → Type 0
NodesSuffice setup sizes rows = NeedsAtMost (shape_for setup sizes) (sizes.writers * sizes.nodes) rows

-- why a log of rows wasn't made: the paths of those in some segment need more different nodes than a writer has in it, or memory ran out
abbrev pub IsUnmade : ShapeValue → List RowValue → Unmade → Type 0
IsUnmade shape rows Nodes = NeedsMore shape shape.nodes rows
IsUnmade shape rows Memory = Unit {0}

-- the same of a log of one segment
abbrev pub IsUnmadeAlone : ShapeValue → List RowValue → Unmade → Type 0
IsUnmadeAlone shape rows Nodes = shape.nodes < distinct shape rows
IsUnmadeAlone shape rows Memory = Unit {0}

-- what the work comes to then
abbrev pub halt_of : ℕ → Unmade → Halt
halt_of nodes Nodes = Refused (refusals.Nodes nodes)
halt_of nodes Memory = Stopped stops.Memory
