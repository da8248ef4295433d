-- What calls by handles tell, where one code and one out-value are not all.
use Rattle.std.specs.Prelude.{◌≡◌, ℕ, IfErr, List, MatchOption, None, Option, Result}
use Rattle.cf_handles.specs.Codes.{append_code, code_number, row_code}
use Rattle.cf_handles.specs.Copied.{Copies}
use Rattle.cf_handles.specs.declared.code.Code.{Code}
use Rattle.cf_store.specs.declared.refusals.LineRefusal.{LineRefusal}
use Rattle.cf_store.specs.declared.refusals.OpenRefusal.{OpenRefusal}
use Rattle.cf_handles.specs.Calls.{BatchBy, ByHandle, ForksTo, IsCoded, LineBy, OpensAt, TakesTo, Tells, TellsFault, count_or, line_fault, line_head, line_number, number_of, number_or}
use Rattle.cf_handles.specs.Ends.{ClosesTo}
use Rattle.cf_handles.specs.Spanned.{SpansTo}
use Rattle.cf_handles.specs.Named.{NamesTo}
use Rattle.cf_store.specs.Appends.{AppendsFrame}
use Rattle.cf_store.specs.Asks.{ShowsRowAt}
use Rattle.cf_store.specs.Spans.{ShowsSpanRow, SpanValue}
use Rattle.cf_store.specs.declared.held.Log.{Log}
use Rattle.cf_store.specs.declared.held.Reader.{Reader}
use Rattle.cf_store.specs.declared.held.Writer.{Writer}
use Rattle.cf_store.specs.declared.shown.Capture.{Capture}
use Rattle.cf_store.specs.declared.shown.Fault.{Fault}
use Rattle.cf_store.specs.declared.shown.Framed.{Framed}
use Rattle.cf_store.specs.declared.shown.Head.{Head}
use Rattle.cf_store.specs.declared.shown.ShownValue.{ShownValue}
use Rattle.cf_store.specs.declared.shown.Shown.{Shown}
use Rattle.cf_store.specs.declared.shown.Sizes.{Sizes}

-- a reader was taken of the log at the first handle, to the second
abbrev pub ForksBy : Option Log × Option Reader → Option Log × Option Reader → ℕ → Type 0
ForksBy held after number = (r : Result (Unit {0}) Code) × ByHandle (ForksTo held.1 after.1) held.0 after.0 r × (number ≡ number_of r)

-- a writer was taken of the log at the first handle, to the second, and its number is told
abbrev pub TakesBy : Option Log × Option Writer → Option Log × Option Writer → ℕ → ℕ → ℕ → Type 0
TakesBy held after number number' answer = Tells (TakesTo held.1 after.1) held.0 after.0 number number' answer

-- the log at the first handle was closed, to a reader at the second
abbrev pub ClosesBy : Option Log × Option Reader → Option Log × Option Reader → ℕ → Type 0
ClosesBy held after number = (r : Result (Unit {0}) Code) × ClosesTo held.1 after.1 held.0 after.0 r × (number ≡ number_of r)

-- a log was opened of a setup's text, or the text's fault is shown
abbrev pub OpensBy : List ℕ → Sizes → Fault → Fault → Option Log → Option Log → ℕ → Type 0
OpensBy text sizes fault fault' held after number =
    (r : Result (Unit {0}) OpenRefusal) × OpensAt text sizes held after r × TellsFault r fault fault' number

-- a name was copied, and how long it is; by a handle that leads to nothing, none was
abbrev pub NamesBy : ℕ → ℕ → List ℕ → List ℕ → ℕ → ℕ → Option Log → Option Log → ℕ → Type 0
NamesBy sort number name name' count count' held after answer =
    Tells (NamesTo sort number name name') held after count count' answer × (held ≡ None → name' ≡ name)

-- the question of a line was asked: its answer's head, or the line's fault
abbrev pub AsksBy : List ℕ → Head → Head → Fault → Fault → Option Reader → Option Reader → ℕ → Type 0
AsksBy line head head' fault fault' held after number =
    (r : Option (Result Head LineRefusal)) × LineBy line held after r × (head' ≡ line_head r head) × (fault' ≡ line_fault r fault) × (number ≡ line_number r)

-- the row of a captured frame was appended, and its offset is told
abbrev pub FrameBy : Capture → List ℕ → ℕ → ℕ → Option Writer → Option Writer → ℕ → Type 0
FrameBy capture bytes offset offset' held after number =
    Tells (λ m n. IsCoded append_code (AppendsFrame capture bytes m n)) held after offset offset' number

-- the rows of frames were appended, and the code says why no more were
abbrev pub BatchTold : List ℕ → List Framed → List ℕ → List ℕ → ℕ → Option Writer → Option Writer → ℕ → Type 0
BatchTold bytes frames offsets offsets' done held after number =
    (code : Code) × BatchBy bytes frames offsets offsets' done code held after × (number ≡ code_number code)

-- a row was shown: its number, its values as far as there is room, and how many they are
abbrev pub RowBy : ℕ → List ShownValue → List ShownValue → ℕ → ℕ → ℕ → ℕ → Option Reader → Option Reader → ℕ → Type 0
RowBy offset values values' number number' count count' held after answer =
    (r : Result Shown Code) × ByHandle (λ m n. IsCoded row_code (ShowsRowAt offset m n values values')) held after r
    × IfErr r (λ _. values' ≡ values) × (answer ≡ number_of r) × (number' ≡ number_or r number) × (count' ≡ count_or r count)

-- words of the last answer were copied; by a handle that leads to nothing, none were
abbrev pub WordsBy : ℕ → List ℕ → List ℕ → Option Reader → ℕ → Type 0
WordsBy from out out' held count = MatchOption held ((count ≡ 0) × (out' ≡ out)) (λ reader. Copies reader.words.items from out out' count)

-- a span was made of the reader at the first handle, to the second
abbrev pub SpansBy : Option Reader × Option SpanValue → Option Reader × Option SpanValue → ℕ → Type 0
SpansBy held after number = (r : Result (Unit {0}) Code) × SpansTo held.1 after.1 held.0 after.0 r × (number ≡ number_of r)

-- a row was shown that a span has seen: its number, its values as far as there is room, and how many they are
abbrev pub SpanRowBy : ℕ → List ShownValue → List ShownValue → ℕ → ℕ → ℕ → ℕ → Option SpanValue → Option SpanValue → ℕ → Type 0
SpanRowBy offset values values' number number' count count' held after answer =
    (r : Result Shown Code) × ByHandle (λ m n. IsCoded row_code (ShowsSpanRow offset m n values values')) held after r
    × IfErr r (λ _. values' ≡ values) × (answer ≡ number_of r) × (number' ≡ number_or r number) × (count' ≡ count_or r count)
