-- What closing a log by its handle answers, and a report by a reader's.
use Rattle.std.specs.Prelude.{◌≡◌, ℕ, List, length, Option, Some, None, Result, Ok, Err, Vec}
use Rattle.std.specs.Global.{Global}
use Rattle.std.specs.declared.alloc.AllocError.{AllocError}
use Rattle.cf_handles.specs.Codes.{close_code}
use Rattle.cf_handles.specs.Copied.{Copies}
use Rattle.cf_handles.specs.declared.code.Code.{Code}
use Rattle.cf_handles.specs.declared.code.Code.TheVariants as codes
use Rattle.cf_store.specs.declared.refusals.CloseRefusal.{CloseRefusal}
use Rattle.cf_store.specs.Closes.{Closes, IsClosed}
use Rattle.cf_store.specs.Reports.{Reports}
use Rattle.cf_store.specs.declared.held.Log.{Log}
use Rattle.cf_store.specs.declared.held.Reader.{Reader}

-- A log was closed: its handle leads to nothing, and the reader's to one that has seen all of it. Refused, the log is as it was, but for
-- passes that came home, and the reader's handle leads to what it led to.
abbrev pub ClosesTo : Option Reader → Option Reader → Option Log → Option Log → Result (Unit {0}) Code → Type 0
ClosesTo before after None held r = (held ≡ None) × (after ≡ before) × (r ≡ Err codes.Nothing)
ClosesTo before after (Some m) held (Ok done) = (held ≡ None) × ((reader : Reader) × (after ≡ Some reader) × IsClosed m reader)
ClosesTo before after (Some m) held (Err code) = (after ≡ before)
    × ((n : Log) × (refusal : CloseRefusal) × (held ≡ Some n) × Closes m (Err (n, refusal)) × (code ≡ close_code refusal))

-- The text that was made was copied as far as there is room, and is so long; or there was no memory for one.
abbrev pub CopiesText : Result (Vec ℕ Global) AllocError → List ℕ → List ℕ → Result ℕ Code → Type 0
CopiesText (Ok text) before after (Ok long) = ((copied : ℕ) × Copies text.items 0 before after copied) × (long ≡ length text.items)
CopiesText (Ok text) before after (Err code) = ⊥
CopiesText (Err e) before after (Ok long) = ⊥
CopiesText (Err e) before after (Err code) = (after ≡ before) × (code ≡ codes.Memory)

-- a report was made, and its text copied so
abbrev pub ReportsBy : {T : Type 0} → (T → T → Result (Vec ℕ Global) AllocError → Type 0) → List ℕ → List ℕ → T → T → Result ℕ Code → Type 0
ReportsBy Made before after m n r = (made : Result (Vec ℕ Global) AllocError) × Made m n made × CopiesText made before after r

-- that of what the reader has seen
abbrev pub ReportsTo : List ℕ → List ℕ → Reader → Reader → Result ℕ Code → Type 0
ReportsTo = ReportsBy Reports
