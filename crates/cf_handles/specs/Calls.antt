-- What calls by handles answer, and what the handles then lead to.
use Rattle.std.specs.Prelude.{◌≡◌, ◌⊎◌, ℕ, ◌<◌, ◌≤◌, List, [], ◌∷◌, ◌++◌, length, Option, Some, None, Result, Ok, Err, Vec}
use Rattle.std.specs.declared.alloc.AllocError.{AllocError}
use Rattle.cf_table.specs.Values.{PassValue, book_of}
use Rattle.cf_handles.specs.declared.code.Code.{Code}
use Rattle.cf_handles.specs.declared.code.Code.TheVariants as codes
use Rattle.cf_store.specs.declared.held.Log.{Log}
use Rattle.cf_store.specs.declared.held.Writer.{Writer}
use Rattle.cf_store.specs.declared.held.Reader.{Reader}
use Rattle.cf_store.specs.declared.shown.Sizes.{Sizes}
use Rattle.cf_store.specs.declared.shown.Fault.{Fault}
use Rattle.cf_store.specs.declared.shown.Head.{Head}
use Rattle.std.specs.Global.{Global}
use Rattle.cf_store.specs.declared.refusals.MergeRefusal.{MergeRefusal}
use Rattle.cf_store.specs.declared.shown.Room.{Room}
use Rattle.cf_store.specs.declared.shown.Framed.{Framed}
use Rattle.cf_store.specs.declared.shown.Shown.{Shown}
use Rattle.cf_store.specs.declared.refusals.LineRefusal.{LineRefusal}
use Rattle.cf_store.specs.declared.refusals.LineRefusal.TheVariants as said
use Rattle.cf_store.specs.declared.refusals.OpenRefusal.{OpenRefusal}
use Rattle.cf_store.specs.declared.refusals.OpenRefusal.TheVariants as opens
use Rattle.cf_handles.specs.Codes.{code_number, line_code, merge_code, open_code, stop_code, take_code}
use Rattle.cf_handles.specs.Copied.{Puts}
use Rattle.cf_store.specs.Opens.{Opens, Takes, Forks}
use Rattle.cf_store.specs.declared.refusals.AppendRefusal.{AppendRefusal}
use Rattle.cf_store.specs.Appends.{AppendsFrames, IsRoomOf}
use Rattle.cf_store.specs.Asks.{AsksLine, AsksTail}

-- the number that a call answers: 0, or that of its code
abbrev pub number_of : {A : Type 0} → Result A Code → ℕ
number_of (Ok a) = 0
number_of (Err code) = code_number code

-- what the call answers stands there, or what stood there before
abbrev pub told_or : {A : Type 0} → Result A Code → A → A
told_or (Ok a) before = a
told_or (Err code) before = before

-- the same answer, with the refusal's code
abbrev pub coded : {A E : Type 0} → (E → Code) → Result A E → Result A Code
coded code (Ok a) = Ok a
coded code (Err e) = Err (code e)

-- it is such an answer, with the refusal's code
abbrev pub IsCoded : {A E : Type 0} → (E → Code) → (Result A E → Type 0) → Result A Code → Type 0
IsCoded {A} {E} code Is r = (made : Result A E) × Is made × (r ≡ coded code made)

-- A call by a handle that leads to nothing is refused, and it leads to nothing still. Else the call is that of what the handle leads to,
-- and it leads to the same, changed so.
abbrev pub ByHandle : {T A : Type 0} → (T → T → Result A Code → Type 0) → Option T → Option T → Result A Code → Type 0
ByHandle Does None after r = (after ≡ None) × (r ≡ Err codes.Nothing)
ByHandle {T} Does (Some m) after r = (n : T) × (after ≡ Some n) × Does m n r

-- A log was opened, and the handle leads to it. Refused, it leads to what it led to.
abbrev pub OpensAt : List ℕ → Sizes → Option Log → Option Log → Result (Unit {0}) OpenRefusal → Type 0
OpensAt text sizes before after (Ok done) = (log : Log) × (after ≡ Some log) × Opens text sizes (Ok log)
OpensAt text sizes before after (Err refusal) = (after ≡ before) × Opens text sizes (Err refusal)

-- the fault of a refused setup, or what stood there before
abbrev pub fault_after : OpenRefusal → Fault → Fault
fault_after opens.Memory before = before
fault_after opens.Sizes before = before
fault_after (opens.Setup line code) before = record { line = line; code = code }

-- the fault of a setup, if it was refused for one, or what stood there before
abbrev pub fault_or : {A : Type 0} → Result A OpenRefusal → Fault → Fault
fault_or (Ok a) before = before
fault_or (Err refusal) before = fault_after refusal before

-- A writer was taken, of that number, and the other handle leads to it. Refused, that leads to what it led to.
abbrev pub TakesTo : Option Writer → Option Writer → Log → Log → Result ℕ Code → Type 0
TakesTo before after m n (Ok number) = (w : Writer) × (after ≡ Some w) × Takes m n (Ok w) × (number ≡ (book_of w.pass.view).writer)
TakesTo before after m n (Err code) = (after ≡ before) × IsCoded take_code (Takes m n) (Err code)

-- A writer was given back, if there was one: its pass was sent home, behind what was sent on its way before.
abbrev pub GivesBack : Option Writer → Option (List PassValue) → Type 0
GivesBack (Some w) sent = sent ≡ Some (w.way ++ w.pass ∷ [])
GivesBack None sent = sent ≡ None

-- A reader was taken, and the other handle leads to it. Refused, that leads to what it led to.
abbrev pub ForksTo : Option Reader → Option Reader → Log → Log → Result (Unit {0}) Code → Type 0
ForksTo before after m n (Ok done) = (r : Reader) × (after ≡ Some r) × Forks m n (Ok r)
ForksTo before after m n (Err code) = (after ≡ before) × (code ≡ codes.Memory) × ((e : AllocError) × Forks m n (Err e))

-- what the log and the writer have room for; the writer is as it was
abbrev pub IsRoom : Writer → Writer → Result Room Code → Type 0
IsRoom m n (Ok room) = (n ≡ m) × IsRoomOf m room
IsRoom m n (Err code) = ⊥

-- how many records are covered
abbrev pub IsTail : Reader → Reader → Result ℕ Code → Type 0
IsTail m n (Ok tail) = AsksTail m n tail
IsTail m n (Err code) = ⊥

-- What a call by a handle answers, with what its out-value is then.
abbrev pub Tells : {T A : Type 0} → (T → T → Result A Code → Type 0) → Option T → Option T → A → A → ℕ → Type 0
Tells {T} {A} Does before after out out' number = (r : Result A Code) × ByHandle Does before after r × (number ≡ number_of r) × (out' ≡ told_or r out)

-- the number of a setup's code, with what the fault is then
abbrev pub TellsFault : {A : Type 0} → Result A OpenRefusal → Fault → Fault → ℕ → Type 0
TellsFault r fault fault' number = (number ≡ number_of (coded open_code r)) × (fault' ≡ fault_or r fault)

-- The question of a line was asked by a handle of a reader, or of nothing.
abbrev pub LineBy : List ℕ → Option Reader → Option Reader → Option (Result Head LineRefusal) → Type 0
LineBy line None after r = (after ≡ None) × (r ≡ None)
LineBy line (Some m) after r = (n : Reader) × (after ≡ Some n) × ((made : Result Head LineRefusal) × (r ≡ Some made) × AsksLine line m n made)

-- the head of its answer, or what stood there before
abbrev pub line_head : Option (Result Head LineRefusal) → Head → Head
line_head (Some (Ok head)) before = head
line_head (Some (Err refusal)) before = before
line_head None before = before

-- the fault of the line, if it was refused for one, or what stood there before
abbrev pub line_fault_after : LineRefusal → Fault → Fault
line_fault_after (said.Setup line code) before = record { line = line; code = code }
line_fault_after said.NoQuestion before = before
line_fault_after said.Memory before = before

abbrev pub line_fault : Option (Result Head LineRefusal) → Fault → Fault
line_fault (Some (Ok head)) before = before
line_fault (Some (Err refusal)) before = line_fault_after refusal before
line_fault None before = before

-- and its number
abbrev pub line_number : Option (Result Head LineRefusal) → ℕ
line_number (Some (Ok head)) = 0
line_number (Some (Err refusal)) = code_number (line_code refusal)
line_number None = code_number codes.Nothing

-- A batch by a writer: with too little room for the offsets nothing is done; else the frames' rows are appended in order, and the code says
-- why it stopped.
abbrev pub AppendsBatch : List ℕ → List Framed → List ℕ → List ℕ → ℕ → Code → Writer → Writer → Type 0
AppendsBatch buffer frames before after done code m n =
    ((length before < length frames) × (n ≡ m) × (after ≡ before) × (done ≡ 0) × (code ≡ codes.Sizes))
    ⊎ ((length frames ≤ length before) × ((stop : Option AppendRefusal) × AppendsFrames buffer frames m n before after done stop × (code ≡ stop_code stop)))

-- the same by a handle of a writer, or of nothing
abbrev pub BatchBy : List ℕ → List Framed → List ℕ → List ℕ → ℕ → Code → Option Writer → Option Writer → Type 0
BatchBy buffer frames before after done code None held = (held ≡ None) × (after ≡ before) × (done ≡ 0) × (code ≡ codes.Nothing)
BatchBy buffer frames before after done code (Some m) held = (n : Writer) × (held ≡ Some n) × AppendsBatch buffer frames before after done code m n

-- what is said of a row that is shown, or what stood there before
abbrev pub number_or : Result Shown Code → ℕ → ℕ
number_or (Ok shown) before = shown.number
number_or (Err code) before = before

abbrev pub count_or : Result Shown Code → ℕ → ℕ
count_or (Ok shown) before = shown.count
count_or (Err code) before = before

-- the merged words were put there, or why not
abbrev pub MergesTo : Result (Vec ℕ Global) MergeRefusal → List ℕ → List ℕ → ℕ → ℕ → Code → Type 0
MergesTo (Ok words) before after count count' code = Puts words.items before after count count' code
MergesTo (Err refusal) before after count count' code = (after ≡ before) × (count' ≡ count) × (code ≡ merge_code refusal)
