-- What calls by a handle of a span answer, and what the handles then lead to.
use Rattle.std.specs.Prelude.{◌≡◌, ℕ, List, [], length, MatchOption, Option, Some, None, Result, Ok, Err, true, false}
use Rattle.cf_handles.specs.Calls.{ByHandle, number_of}
use Rattle.cf_handles.specs.Codes.{add_code}
use Rattle.cf_handles.specs.Copied.{Copies}
use Rattle.cf_handles.specs.Ends.{ReportsBy}
use Rattle.cf_handles.specs.declared.code.Code.{Code}
use Rattle.cf_handles.specs.declared.code.Code.TheVariants as codes
use Rattle.cf_store.specs.Spans.{AddsReader, AsksTails, DropsFirst, ReportsSpan, SpanValue, seen_by, span_of}
use Rattle.cf_store.specs.declared.refusals.AddRefusal.{AddRefusal}
use Rattle.cf_store.specs.declared.held.Reader.{Reader}

-- A span was made of the reader, whose handle leads to nothing then, and the other handle leads to the span. Refused, that leads to what it
-- led to, and the reader's handle to a reader of a log with the same setup and shape, which has the same pass and words.
abbrev pub SpansTo : Option SpanValue → Option SpanValue → Option Reader → Option Reader → Result (Unit {0}) Code → Type 0
SpansTo before after None held r = (held ≡ None) × (after ≡ before) × (r ≡ Err codes.Nothing)
SpansTo before after (Some m) held (Ok done) = (held ≡ None) × (after ≡ Some (span_of m []))
SpansTo before after (Some m) held (Err code) = (after ≡ before) × (code ≡ codes.Memory)
    × ((n : Reader) × (held ≡ Some n) × (span_of n [] ≡ span_of m []))

-- The reader was added to the span, and its handle leads to nothing then. Refused, the handle leads to the same reader.
abbrev pub AddsTo : Option Reader → Option Reader → SpanValue → SpanValue → Result (Unit {0}) Code → Type 0
AddsTo None after m n r = (after ≡ None) × (n ≡ m) × (r ≡ Err codes.Nothing)
AddsTo (Some reader) after m n (Ok done) = (after ≡ None) × AddsReader reader m n (Ok tt)
AddsTo (Some reader) after m n (Err code) =
    (back : Reader) × (refusal : AddRefusal) × (after ≡ Some back) × AddsReader reader m n (Err (back, refusal)) × (code ≡ add_code refusal)

-- the same by a handle of a span, or of nothing: then the reader stays
abbrev pub AddsBy : Option SpanValue × Option Reader → Option SpanValue × Option Reader → ℕ → Type 0
AddsBy held after number = (r : Result (Unit {0}) Code) × ByHandle (AddsTo held.1 after.1) held.0 after.0 r
    × (held.0 ≡ None → after.1 ≡ held.1) × (number ≡ number_of r)

-- the first log was let go; or it is the only one, and stays
abbrev pub DropsTo : SpanValue → SpanValue → Result (Unit {0}) Code → Type 0
DropsTo m n (Ok done) = DropsFirst m n true
DropsTo m n (Err code) = DropsFirst m n false × (code ≡ codes.OneLog)

-- the same by a handle
abbrev pub DropsBy : Option SpanValue → Option SpanValue → ℕ → Type 0
DropsBy held after number = (r : Result (Unit {0}) Code) × ByHandle DropsTo held after r × (number ≡ number_of r)

-- how many logs the span has, which is as it was
abbrev pub CountsLogs : SpanValue → SpanValue → Result ℕ Code → Type 0
CountsLogs m n (Ok count) = (n ≡ m) × (count ≡ length m.passes)
CountsLogs m n (Err code) = ⊥

-- how many records are seen now
abbrev pub IsSpanTail : SpanValue → SpanValue → Result ℕ Code → Type 0
IsSpanTail m n (Ok tail) = AsksTails m n × (tail ≡ length (seen_by n))
IsSpanTail m n (Err code) = ⊥

-- words of the last answer were copied; by a handle that leads to nothing, none were
abbrev pub SpanWordsBy : ℕ → List ℕ → List ℕ → Option SpanValue → ℕ → Type 0
SpanWordsBy from out out' held count = MatchOption held ((count ≡ 0) × (out' ≡ out)) (λ span. Copies span.words from out out' count)

-- a report of what the span has seen was made, and its text copied as far as there is room
abbrev pub ReportsSpanTo : List ℕ → List ℕ → SpanValue → SpanValue → Result ℕ Code → Type 0
ReportsSpanTo = ReportsBy ReportsSpan
