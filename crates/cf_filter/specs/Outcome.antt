-- What is answered to the text of an expression.
use Rattle.std.specs.Prelude.{◌≡◌, ℕ, List, Result, Ok, Err}
use Rattle.cf_row.specs.declared.expr.Atom.{Atom}
use Rattle.cf_filter.specs.declared.fault.OffenceAt.{OffenceAt}
use Rattle.cf_filter.specs.declared.fault.FilterFault.{FilterFault}
use Rattle.cf_filter.specs.declared.fault.FilterFault.TheVariants.{Syntax, UnknownName, BadOperator, ValueRange, TooLong, Memory}
use Rattle.cf_filter.specs.Exprs.{fault_at}

-- the fault is that of a text of len bytes
abbrev pub IsFault : ℕ → FilterFault → Result (List (List Atom)) OffenceAt → Type 0
IsFault len fault read = (stop : OffenceAt) × (read ≡ Err stop) × (fault ≡ fault_at len stop)

-- want of memory says nothing of the text
abbrev pub Faults : ℕ → FilterFault → Result (List (List Atom)) OffenceAt → Type 0
Faults len Memory read = Unit {0}
Faults len (Syntax place) read = IsFault len (Syntax place) read
Faults len (UnknownName place) read = IsFault len (UnknownName place) read
Faults len (BadOperator place) read = IsFault len (BadOperator place) read
Faults len (ValueRange place) read = IsFault len (ValueRange place) read
Faults len TooLong read = IsFault len TooLong read

-- the answer to a text of len bytes that is read so
abbrev pub Answers : ℕ → Result (List (List Atom)) FilterFault → Result (List (List Atom)) OffenceAt → Type 0
Answers len (Ok expr) read = read ≡ Ok expr
Answers len (Err fault) read = Faults len fault read
