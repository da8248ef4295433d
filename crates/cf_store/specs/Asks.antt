-- What comes of asking questions by a reader.
use Rattle.std.specs.Prelude.{◌≡◌, ◌⊎◌, ℕ, ◌+◌, ◌<◌, ◌≤◌, ◌==◌, List, [], ◌∷◌, ◌++◌, Bool, true, false, length, slice_get, Option, Some, None, Result, Ok, Err, Vec, if◌then◌else◌}
use Rattle.std.specs.List.{flat_map, list_any}
use Rattle.std.specs.Global.{Global}
use Rattle.std.specs.Arc.{arc_value}
use Rattle.cf_plain.specs.declared.ask.Ask.{Ask}
use Rattle.cf_plain.specs.declared.ask.Ask.TheVariants as asks
use Rattle.cf_plain.specs.declared.answer.Fired.{Fired}
use Rattle.cf_plain.specs.declared.answer.Body.{Body}
use Rattle.cf_plain.specs.declared.answer.Body.TheVariants as bodies
use Rattle.cf_fold.specs.Quads.{QuadValue}
use Rattle.cf_row.specs.Row.{Fits, RowValue}
use Rattle.cf_shape.specs.Lanes.{ShapeValue, lane_at, has_by}
use Rattle.cf_shape.specs.Uses.{is_measured}
use Rattle.cf_setup.specs.Setups.{SetupValue}
use Rattle.cf_setup.specs.SetupText.{SetupText}
use Rattle.cf_plain.specs.Asks.{Suits, eval, row_at, rows_in}
use Rattle.cf_plain.specs.Groups.{groups, first_key, other_key}
use Rattle.cf_query.specs.Walks.{OnlyWalked}
use Rattle.cf_table.specs.Moves.{OnlyLooked}
use Rattle.cf_table.specs.Values.{PassValue}
use Rattle.cf_query.specs.Asking.{HasAsked}
use Rattle.cf_store.specs.declared.held.Shared.{Shared}
use Rattle.cf_store.specs.declared.held.Reader.{Reader}
use Rattle.cf_store.specs.declared.reader.Told.{Told}
use Rattle.cf_store.specs.Values.{ShowsRow}
use Rattle.cf_store.specs.declared.shown.Head.{Head}
use Rattle.cf_store.specs.declared.shown.ShownValue.{ShownValue}
use Rattle.cf_store.specs.declared.shown.Shown.{Shown}
use Rattle.cf_store.specs.declared.refusals.AskRefusal.{AskRefusal}
use Rattle.cf_store.specs.declared.refusals.AskRefusal.TheVariants.{NoQuestion, Memory}
use Rattle.cf_store.specs.declared.refusals.LineRefusal.{LineRefusal}
use Rattle.cf_store.specs.declared.refusals.LineRefusal.TheVariants as said
use Rattle.cf_store.specs.declared.refusals.LaneRefusal.{LaneRefusal}
use Rattle.cf_store.specs.declared.refusals.LaneRefusal.TheVariants as lanes
use Rattle.cf_store.specs.declared.refusals.RowRefusal.{RowRefusal}
use Rattle.cf_store.specs.declared.refusals.RowRefusal.TheVariants as rows

-- a bucket or key, and then the value that keeps the rows of the bucket apart, if one does
abbrev pub keys_words : ℕ → Option ℕ → List ℕ
keys_words key None = key ∷ []
keys_words key (Some by) = key ∷ by ∷ []

-- a mark as its bucket or key, or as its bucket and key, and then its value
abbrev pub mark_words : Fired → List ℕ
mark_words m = keys_words m.bucket m.key ++ m.value ∷ []

-- a group as its key, or as its bucket and key, and then its quad
abbrev pub group_words : ℕ × QuadValue → List ℕ
group_words g = keys_words (first_key g.0) (other_key g.0) ++ g.1.count ∷ g.1.sum ∷ g.1.least ∷ g.1.greatest ∷ []

-- the words of groups
abbrev pub groups_words : List (ℕ × QuadValue) → List ℕ
groups_words gs = flat_map group_words gs

-- the words of a body: places; or count, sum, least and greatest; or marks; or groups
abbrev pub body_words : Body → List ℕ
body_words (bodies.Places places) = places
body_words (bodies.Total quad) = quad.count ∷ quad.sum ∷ quad.least ∷ quad.greatest ∷ []
body_words (bodies.Marks marks) = flat_map mark_words marks
body_words (bodies.Tops marks) = flat_map mark_words marks
body_words (bodies.Groups groups) = groups_words groups

-- the question is for marks or groups of a lane that keeps the rows of a bucket apart by a key
abbrev pub is_keyed : ShapeValue → Ask → Bool
is_keyed shape (asks.Fired trigger) = has_by (lane_at shape trigger.agg).key
is_keyed shape (asks.Groups lane) = has_by (lane_at shape lane).key
is_keyed shape _ = false

-- the number of a body's kind, by whether its question is so
abbrev pub body_kind : Bool → Body → ℕ
body_kind keyed (bodies.Places places) = 0
body_kind keyed (bodies.Total quad) = 1
body_kind keyed (bodies.Marks marks) = if keyed then 5 else 2
body_kind keyed (bodies.Tops marks) = 3
body_kind keyed (bodies.Groups groups) = if keyed then 6 else 4

-- the question of that number was asked, and the body is its meaning on all that the pass has seen then
pub record IsAnswer (shared : Shared) (question : ℕ) (m n : PassValue) (told : Told) : Type 0 where
  pub ask : Ask
  pub at : slice_get shared.setup.asks question ≡ Some ask
  pub asked : HasAsked shared.log.shape m n
  pub tail : told.answer.tail ≡ length (n.view).seen
  pub body : told.answer.body ≡ eval shared.log.shape ask (n.view).seen
  pub keyed : told.keyed ≡ is_keyed shared.log.shape ask

-- What asking a question of the setup by a pass of the log answers. If there is no such question, nothing is asked. If there is no memory,
-- the pass has asked all the same.
abbrev pub AnswersQuestion : Shared → ℕ → PassValue → PassValue → Result Told AskRefusal → Type 0
AnswersQuestion shared question m n (Ok told) = IsAnswer shared question m n told
AnswersQuestion shared question m n (Err NoQuestion) = (n ≡ m) × (slice_get shared.setup.asks question ≡ None)
AnswersQuestion shared question m n (Err Memory) = HasAsked shared.log.shape m n

-- the text with one line more
abbrev pub with_line : List ℕ → List ℕ → List ℕ
with_line text line = text ++ 10 ∷ line

-- what reading the text with one line more answers
abbrev pub ReadsLine : List ℕ → List ℕ → Result SetupValue LineRefusal → Type 0
ReadsLine text line (Ok longer) = SetupText (with_line text line) (Ok longer)
    × ((other : SetupValue) → SetupText (with_line text line) (Ok other) → other ≡ longer)
ReadsLine text line (Err (said.Setup number code)) = SetupText (with_line text line) (Err (number, code))
    × ((other : SetupValue) → SetupText (with_line text line) (Ok other) → ⊥)
ReadsLine text line (Err said.NoQuestion) = ⊥
ReadsLine text line (Err said.Memory) = Unit {0}

-- the longer setup has this question more, which suits the log
pub record IsNewQuestion (shared : Shared) (longer : SetupValue) (ask : Ask) : Type 0 where
  pub more : length longer.asks ≡ length shared.setup.asks + 1
  pub last : slice_get longer.asks (length shared.setup.asks) ≡ Some ask
  pub suits : Suits shared.log.shape ask

-- The line says a question: it is one line, and behind the text of the log's setup it makes the text of a setup with one question more,
-- which is this one. It suits the log.
pub record SaysQuestion (shared : Shared) (line : List ℕ) (ask : Ask) : Type 0 where
  pub one : list_any (λ b. b == 10) line ≡ false
  pub longer : SetupValue
  pub text : SetupText (with_line shared.text.items line) (Ok longer)
  pub new : IsNewQuestion shared longer ask

-- the question was asked, and the body is its meaning on all that the pass has seen then
pub record IsAnswerTo (shared : Shared) (ask : Ask) (m n : PassValue) (told : Told) : Type 0 where
  pub asked : HasAsked shared.log.shape m n
  pub tail : told.answer.tail ≡ length (n.view).seen
  pub body : told.answer.body ≡ eval shared.log.shape ask (n.view).seen
  pub keyed : told.keyed ≡ is_keyed shared.log.shape ask

-- What asking the question that a line says answers. If the line is faulty behind the setup's text, its code is that of such a text; if it
-- says no question, nothing is asked. If there is no memory, the pass has asked, or all is as it was.
abbrev pub AnswersLine : Shared → List ℕ → PassValue → PassValue → Result Told LineRefusal → Type 0
AnswersLine shared line m n (Ok told) = (ask : Ask) × SaysQuestion shared line ask × IsAnswerTo shared ask m n told
AnswersLine shared line m n (Err (said.Setup number code)) = (n ≡ m) × SetupText (with_line shared.text.items line) (Err (number, code))
AnswersLine shared line m n (Err said.NoQuestion) = (n ≡ m) × ((ask : Ask) → SaysQuestion shared line ask → ⊥)
AnswersLine shared line m n (Err said.Memory) = (n ≡ m) ⊎ HasAsked shared.log.shape m n

-- the question of that number was asked of what the pass had seen, and the body is its meaning on that
pub record IsSeenAnswer (shared : Shared) (question : ℕ) (m n : PassValue) (told : Told) : Type 0 where
  pub ask : Ask
  pub at : slice_get shared.setup.asks question ≡ Some ask
  pub walked : OnlyWalked m n
  pub tail : told.answer.tail ≡ length (m.view).seen
  pub body : told.answer.body ≡ eval shared.log.shape ask (m.view).seen
  pub keyed : told.keyed ≡ is_keyed shared.log.shape ask

-- What asking a question of the setup answers that is asked of what the pass has seen. If there is no memory, the pass has only walked.
abbrev pub AnswersSeen : Shared → ℕ → PassValue → PassValue → Result Told AskRefusal → Type 0
AnswersSeen shared question m n (Ok told) = IsSeenAnswer shared question m n told
AnswersSeen shared question m n (Err NoQuestion) = (n ≡ m) × (slice_get shared.setup.asks question ≡ None)
AnswersSeen shared question m n (Err Memory) = OnlyWalked m n

-- the head and the words of an answer
pub record IsTold (told : Told) (head : Head) (words : List ℕ) : Type 0 where
  pub tail : head.tail ≡ told.answer.tail
  pub kind : head.kind ≡ body_kind told.keyed told.answer.body
  pub count : head.count ≡ length words
  pub words_are : words ≡ body_words told.answer.body

-- The reader stays one of its log. It keeps the words of the answer that its pass was told; refused, those that it had.
abbrev pub Keeps : {E : Type 0} → (PassValue → PassValue → Result Told E → Type 0) → Reader → Reader → Result Head E → Type 0
Keeps Asked m n (Ok head) = (n.of ≡ m.of) × ((told : Told) × Asked m.pass n.pass (Ok told) × IsTold told head n.words.items)
Keeps Asked m n (Err refusal) = (n.of ≡ m.of) × (n.words.items ≡ m.words.items) × Asked m.pass n.pass (Err refusal)

-- a question of the setup, at the tail
abbrev pub AsksAt : ℕ → Reader → Reader → Result Head AskRefusal → Type 0
AsksAt question m n r = Keeps (AnswersQuestion (arc_value m.of) question) m n r

-- the question that a line says, at the tail
abbrev pub AsksLine : List ℕ → Reader → Reader → Result Head LineRefusal → Type 0
AsksLine line m n r = Keeps (AnswersLine (arc_value m.of) line) m n r

-- a question of the setup, of what the reader has seen
abbrev pub AsksSeen : ℕ → Reader → Reader → Result Head AskRefusal → Type 0
AsksSeen question m n r = Keeps (AnswersSeen (arc_value m.of) question) m n r

-- The reader asked how many records are covered. It keeps its words.
pub record AsksTail (m n : Reader) (tail : ℕ) : Type 0 where
  pub of : n.of ≡ m.of
  pub words : n.words.items ≡ m.words.items
  pub asked : HasAsked (arc_value m.of).log.shape m.pass n.pass
  pub tail_is : tail ≡ length (n.pass.view).seen

-- the lane is there, measures something, and does not keep the rows of a bucket apart
pub record IsMeasured (shared : Shared) (lane : ℕ) : Type 0 where
  pub there : lane < length shared.log.shape.lanes
  pub measured : is_measured shared.log.shape lane ≡ true
  pub whole : has_by (lane_at shared.log.shape lane).key ≡ false

-- the head and the words of the lane's groups in what the pass has seen
pub record AreGroups (shared : Shared) (lane : ℕ) (m : PassValue) (head : Head) (words : List ℕ) : Type 0 where
  pub measures : IsMeasured shared lane
  pub words_are : words ≡ groups_words (groups shared.log.shape lane (rows_in (m.view).seen))
  pub tail : head.tail ≡ length (m.view).seen
  pub kind : head.kind ≡ 4
  pub count : head.count ≡ length words

-- What finding the groups of a lane answers, in what the pass has seen.
abbrev pub FindsGroups : Shared → ℕ → PassValue → PassValue → Result (Vec ℕ Global) LaneRefusal → Type 0
FindsGroups shared lane m n (Ok words) =
    OnlyWalked m n × IsMeasured shared lane × (words.items ≡ groups_words (groups shared.log.shape lane (rows_in (m.view).seen)))
FindsGroups shared lane m n (Err lanes.NoLane) = (n ≡ m) × (IsMeasured shared lane → ⊥)
FindsGroups shared lane m n (Err lanes.Memory) = OnlyWalked m n

-- What telling the groups of a lane answers. The reader keeps their words; refused, those that it had.
abbrev pub TellsGroups : ℕ → Reader → Reader → Result Head LaneRefusal → Type 0
TellsGroups lane m n (Ok head) = (n.of ≡ m.of) × OnlyWalked m.pass n.pass × AreGroups (arc_value m.of) lane m.pass head n.words.items
TellsGroups lane m n (Err lanes.NoLane) = (n ≡ m) × (IsMeasured (arc_value m.of) lane → ⊥)
TellsGroups lane m n (Err lanes.Memory) = (n.of ≡ m.of) × (n.words.items ≡ m.words.items) × OnlyWalked m.pass n.pass

-- What reading the row at an offset answers. The reader keeps its words, and has only looked.
abbrev pub ReadsRow : ℕ → Reader → Reader → Result RowValue RowRefusal → Type 0
ReadsRow offset m n (Ok row) = (n.of ≡ m.of) × (n.words.items ≡ m.words.items) × OnlyLooked m.pass n.pass
    × (offset < length (m.pass.view).seen) × (row ≡ row_at (rows_in (m.pass.view).seen) offset)
    × Fits (arc_value m.of).log.shape.schema row
ReadsRow offset m n (Err rows.NoRow) = (n ≡ m) × (length (m.pass.view).seen ≤ offset)
ReadsRow offset m n (Err rows.Memory) = (n.of ≡ m.of) × (n.words.items ≡ m.words.items) × OnlyLooked m.pass n.pass

-- What showing the row at an offset answers. Refused, nothing is shown.
abbrev pub ShowsRowAt : ℕ → Reader → Reader → List ShownValue → List ShownValue → Result Shown RowRefusal → Type 0
ShowsRowAt offset m n before after (Ok shown) =
    (row : RowValue) × ReadsRow offset m n (Ok row) × (shown.number ≡ row.num) × ShowsRow row before after shown.count
ShowsRowAt offset m n before after (Err refusal) = ReadsRow offset m n (Err refusal) × (after ≡ before)
