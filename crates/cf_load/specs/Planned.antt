-- What is asked of a log that is loaded, and what the reader's pass is after it asked.
use Rattle.std.specs.Prelude.{◌≡◌, ◌<◌, ◌+◌, ℕ, List, ◌++◌, length, map, slice_index_or, All}
use Rattle.cf_row.specs.declared.row.Entry.{Entry}
use Rattle.cf_fold.specs.declared.trigger.Trigger.{Trigger}
use Rattle.cf_shape.specs.Lanes.{ShapeValue}
use Rattle.cf_plain.specs.Asks.{Suits, SuitsTrigger, rows_in, marks_over}
use Rattle.cf_plain.specs.Answered.{no_ask}
use Rattle.cf_plain.specs.Segments.{finding_in}
use Rattle.cf_plain.specs.declared.answer.Answer.{Answer}
use Rattle.cf_plain.specs.declared.answer.Body.{Body}
use Rattle.cf_plain.specs.declared.answer.Body.TheVariants as bodies
use Rattle.cf_plain.specs.declared.answer.Fired.{Fired}
use Rattle.cf_plain.specs.declared.ask.Ask.{Ask}
use Rattle.cf_plain.specs.declared.ask.Ask.TheVariants as asks
use Rattle.cf_plain.specs.declared.finding.Finding.{Finding}
use Rattle.cf_plain.specs.declared.loaded.Live.{Live}
use Rattle.cf_table.specs.Values.{PassValue}
use Rattle.cf_load.specs.declared.plan.LivePlan.{LivePlan}

-- the questions and triggers suit the shape, and each live question is one of them
pub record IsPlan (shape : ShapeValue) (plan : LivePlan) : Type 0 where
  pub asks : All (Suits shape) plan.asks.items
  pub triggers : All (SuitsTrigger shape) plan.triggers.items
  pub lives : All (λ place. place < length plan.asks.items) plan.lives.items

-- the other plan asks the same
pub record IsSamePlan (plan other : LivePlan) : Type 0 where
  pub asks : other.asks.items ≡ plan.asks.items
  pub triggers : other.triggers.items ≡ plan.triggers.items
  pub lives : other.lives.items ≡ plan.lives.items
  pub rounds : other.rounds ≡ plan.rounds

-- all that is asked at the end: each question, and then what each trigger found
abbrev pub asks_of : LivePlan → List Ask
asks_of plan = plan.asks.items ++ map (λ trigger. asks.Fired trigger) plan.triggers.items

-- the marks of a trigger on some entries
abbrev pub marks_on : ShapeValue → List Entry → Trigger → List Fired
marks_on shape entries trigger = marks_over shape trigger (rows_in entries)

-- what an answer says beside its tail, and marks as such
abbrev pub body_of : Answer → Body
body_of answer = answer.body

abbrev pub as_marks : List Fired → Body
as_marks marks = bodies.Marks marks

-- it is an answer about a trigger
abbrev pub IsMarks : Answer → Type 0
IsMarks answer = (marks : List Fired) × (answer.body ≡ as_marks marks)

-- how much of the log each answer saw
abbrev pub tails_of : List Live → List ℕ
tails_of lives = map (λ (live : Live). live.answer.tail) lives

-- what a question finds in some entries
abbrev pub finding_on : ShapeValue → List Entry → Ask → Finding
finding_on shape entries ask = finding_in shape ask (rows_in entries)

-- what each live question of the plan finds in some entries
abbrev pub findings_on : ShapeValue → LivePlan → List Entry → List Finding
findings_on shape plan entries = map (λ place. finding_in shape (slice_index_or plan.asks.items place no_ask) (rows_in entries)) plan.lives.items

-- The pass that asked is as it was but for what it has seen, and notes how much of its own log each answer saw. Before that log's
-- first entry there are as many as the base.
pub record HasRead (base : ℕ) (before after : PassValue) (more : List Live) : Type 0 where
  pub same : after ≡ record before { view = after.view }
  pub books : (after.view).books ≡ (before.view).books
  pub told : (after.view).told ≡ (before.view).told
  pub tails : map (λ tail. base + tail) (after.view).tails ≡ map (λ tail. base + tail) (before.view).tails ++ tails_of more
