-- Reading a whole expression.
use Rattle.std.specs.Prelude.{ℕ, zero, suc, ◌-◌, ◌==◌, List, [], ◌∷◌, length, codes, Option, Some, None, Result, Ok, Err, if◌then◌else◌}
use Rattle.cf_row.specs.declared.schema.Attr.{Attr}
use Rattle.cf_row.specs.declared.expr.Atom.{Atom}
use Rattle.cf_filter.specs.declared.fault.Offence.TheVariants.{Syntax, UnknownName, BadOperator, ValueRange, TooLong}
use Rattle.cf_filter.specs.declared.fault.OffenceAt.{OffenceAt}
use Rattle.cf_filter.specs.declared.fault.FilterFault.{FilterFault}
use Rattle.cf_filter.specs.declared.fault.FilterFault.TheVariants as faults
use Rattle.cf_filter.specs.declared.fault.Offence.{Offence}
use Rattle.cf_filter.specs.declared.atom.Joint.{Joint}
use Rattle.cf_filter.specs.declared.atom.Joint.TheVariants.{End, And, Or}
use Rattle.cf_filter.specs.Tokens.{unspaced, strip_at}
use Rattle.cf_filter.specs.Reading.{◌>>=◌, seen_by, stop_at, atom_at, joint_at}

-- the atom at the front of the first conjunction
abbrev pub with_atom : Atom → List (List Atom) → List (List Atom)
with_atom atom [] = (atom ∷ []) ∷ []
with_atom atom (atoms ∷ others) = (atom ∷ atoms) ∷ others

-- what follows a connective joins the conjunctions of the atom before it
abbrev pub joined_by : Atom → Joint → Result (List (List Atom)) OffenceAt → Result (List (List Atom)) OffenceAt
joined_by atom End later = Ok ((atom ∷ []) ∷ [])
joined_by atom And later = seen_by (with_atom atom) later
joined_by atom Or later = seen_by (λ others. (atom ∷ []) ∷ others) later

-- conjunctions of at most n atoms in all
unfoldable pub conjunctions_at : List Attr → ℕ → List ℕ → Result (List (List Atom)) OffenceAt
conjunctions_at attrs zero text = Err (stop_at TooLong (unspaced text))
conjunctions_at attrs (suc n) text = do
  atom ← atom_at attrs text
  joint ← joint_at atom.1
  joined_by atom.0 joint.0 (conjunctions_at attrs n joint.1)

-- nothing follows a star
abbrev pub star_in : List ℕ → Result (List (List Atom)) OffenceAt
star_in text = if length text == 0 then Ok ([] ∷ []) else Err (stop_at Syntax text)

-- what follows a star
abbrev pub star_at : List ℕ → Result (List (List Atom)) OffenceAt
star_at text = star_in (unspaced text)

-- a star alone, or conjunctions
abbrev pub expr_in : List Attr → List ℕ → Option (List ℕ) → Result (List (List Atom)) OffenceAt
expr_in attrs text None = conjunctions_at attrs 32 text
expr_in attrs text (Some rest) = star_at rest

-- the expression that a text is one of, or its first offending token
abbrev pub expr_at : List Attr → List ℕ → Result (List (List Atom)) OffenceAt
expr_at attrs text = expr_in attrs text (strip_at (codes "*") (unspaced text))

-- the fault of that offence at that place
abbrev pub fault_by : Offence → ℕ → FilterFault
fault_by Syntax place = faults.Syntax place
fault_by UnknownName place = faults.UnknownName place
fault_by BadOperator place = faults.BadOperator place
fault_by ValueRange place = faults.ValueRange place
fault_by TooLong place = faults.TooLong

-- The fault in a text of that many bytes. Its place counts the bytes before the offending token.
abbrev pub fault_at : ℕ → OffenceAt → FilterFault
fault_at len stop = fault_by stop.offence (len - stop.left)
