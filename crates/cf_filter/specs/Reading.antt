-- Reading an expression from the left, with the first offending token.
use Rattle.std.specs.Prelude.{ℕ, ◌+◌, Bool, false, ◌==◌, ◌&&◌, List, [], ◌∷◌, length, codes, Option, Some, None, Result, Ok, Err, if◌then◌else◌}
use Rattle.std.specs.Str.{bytes_eq}
use Rattle.cf_row.specs.declared.schema.Attr.{Attr}
use Rattle.cf_row.specs.declared.schema.Kind.{Kind}
use Rattle.cf_row.specs.declared.row.Value.{Value}
use Rattle.cf_row.specs.declared.expr.Atom.{Atom}
use Rattle.cf_row.specs.declared.expr.Op.{Op}
use Rattle.cf_row.specs.declared.expr.Op.TheVariants.{Eq, Ne, Lt, Le, Gt, Ge, Within, Outside}
use Rattle.cf_row.specs.Expr.{suits_kind}
use Rattle.cf_filter.specs.declared.bytes.Class.{Class}
use Rattle.cf_filter.specs.declared.bytes.Class.TheVariants as classes
use Rattle.cf_filter.specs.declared.fault.Offence.{Offence}
use Rattle.cf_filter.specs.declared.fault.Offence.TheVariants.{Syntax, UnknownName, BadOperator}
use Rattle.cf_filter.specs.declared.fault.OffenceAt.{OffenceAt}
use Rattle.cf_filter.specs.declared.atom.Joint.{Joint}
use Rattle.cf_filter.specs.declared.atom.Joint.TheVariants.{End, And, Or}
use Rattle.cf_filter.specs.Tokens.{passes, run, past, unspaced, strip_at}
use Rattle.cf_filter.specs.Ranges.{bounds_at}

infixl 10 ◌>>=◌
-- the first part, and then the next
abbrev pub ◌>>=◌ : {A B : Type 0} → Result A OffenceAt → (A → Result B OffenceAt) → Result B OffenceAt
(Ok x) >>= f = f x
(Err e) >>= f = Err e

-- what is read, seen by a view
abbrev pub seen_by : {A B : Type 0} → (A → B) → Result A OffenceAt → Result B OffenceAt
seen_by view (Ok x) = Ok (view x)
seen_by view (Err stop) = Err stop

-- the offending token stands at the front of this text
abbrev pub stop_at : Offence → List ℕ → OffenceAt
stop_at offence text = record { offence = offence; left = length text }

-- the first byte is of the class
abbrev pub begins_with : Class → List ℕ → Bool
begins_with class [] = false
begins_with class (b ∷ bs) = passes class b

-- the place and the kind of the first attribute of that name, counted from i
abbrev pub attr_from : ℕ → List Attr → List ℕ → Option (ℕ × Kind)
attr_from i [] name = None
attr_from i (attr ∷ attrs) name = if bytes_eq attr.name name then Some (i, attr.kind) else attr_from (i + 1) attrs name

-- the place and the kind of the first attribute of that name
abbrev pub attr_named : List Attr → List ℕ → Option (ℕ × Kind)
attr_named attrs name = attr_from 0 attrs name

-- it is an attribute, or its name is unknown
abbrev pub known_or : List ℕ → Option (ℕ × Kind) → Result ((ℕ × Kind) × List ℕ) OffenceAt
known_or text None = Err (stop_at UnknownName text)
known_or text (Some attr) = Ok (attr, past classes.Name text)

-- a name at the front
abbrev pub name_in : List Attr → List ℕ → Result ((ℕ × Kind) × List ℕ) OffenceAt
name_in attrs text = if begins_with classes.Letter text then known_or text (attr_named attrs (run classes.Name text)) else Err (stop_at Syntax text)

-- a name after spaces
abbrev pub name_at : List Attr → List ℕ → Result ((ℕ × Kind) × List ℕ) OffenceAt
name_at attrs text = name_in attrs (unspaced text)

-- the operator that is this word
abbrev pub op_named : List ℕ → Option Op
op_named word =
    if bytes_eq word (codes "==") then Some Eq else (
    if bytes_eq word (codes "!=") then Some Ne else (
    if bytes_eq word (codes "<") then Some Lt else (
    if bytes_eq word (codes "<=") then Some Le else (
    if bytes_eq word (codes ">") then Some Gt else (
    if bytes_eq word (codes ">=") then Some Ge else (
    if bytes_eq word (codes "in") then Some Within else None))))))

-- the word where an operator is wanted, and what follows it
abbrev pub token_at : List ℕ → List ℕ × List ℕ
token_at text =
    if begins_with classes.Letter text then (run classes.Name text, past classes.Name text) else (run classes.Operator text, past classes.Operator text)

-- it is an operator that suits the kind, or it is a bad one
abbrev pub suited_or : Kind → List ℕ → List ℕ → Option Op → Result (Op × List ℕ) OffenceAt
suited_or kind text rest None = Err (stop_at BadOperator text)
suited_or kind text rest (Some op) = if suits_kind kind op then Ok (op, rest) else Err (stop_at BadOperator text)

-- behind `not` the word is `in`, or it is a bad operator
abbrev pub outside_in : List ℕ → List ℕ × List ℕ → Result (Op × List ℕ) OffenceAt
outside_in text word =
    if length word.0 == 0 then Err (stop_at Syntax text) else (
    if bytes_eq word.0 (codes "in") then Ok (Outside, word.1) else Err (stop_at BadOperator text))

-- what is behind `not`, after spaces
abbrev pub outside_at : List ℕ → Result (Op × List ℕ) OffenceAt
outside_at text = outside_in (unspaced text) (token_at (unspaced text))

-- an operator at the front
abbrev pub op_in : Kind → List ℕ → List ℕ × List ℕ → Result (Op × List ℕ) OffenceAt
op_in kind text word =
    if length word.0 == 0 then Err (stop_at Syntax text) else (
    if bytes_eq word.0 (codes "not") && suits_kind kind Outside then outside_at word.1 else suited_or kind text word.1 (op_named word.0))

-- an operator after spaces
abbrev pub op_at : Kind → List ℕ → Result (Op × List ℕ) OffenceAt
op_at kind text = op_in kind (unspaced text) (token_at (unspaced text))

-- what follows the value or range, or its offence here
abbrev pub ends_or : List ℕ → Result (Value × Value) Offence → Result ((Value × Value) × List ℕ) OffenceAt
ends_or text (Ok ends) = Ok (ends, past classes.Value text)
ends_or text (Err offence) = Err (stop_at offence text)

-- a value or range after spaces
abbrev pub bounds_from : Kind → Op → List ℕ → Result ((Value × Value) × List ℕ) OffenceAt
bounds_from kind op text = ends_or (unspaced text) (bounds_at kind op (run classes.Value (unspaced text)))

-- a name, an operator, and a value or range
unfoldable pub atom_at : List Attr → List ℕ → Result (Atom × List ℕ) OffenceAt
atom_at attrs text = do
  name ← name_at attrs text
  op ← op_at name.0.1 name.1
  ends ← bounds_from name.0.1 op.0 op.1
  Ok (record { attr = name.0.0; op = op.0; low = ends.0.0; high = ends.0.1 }, ends.1)

-- the other connective, or neither
abbrev pub or_at : List ℕ → Option (List ℕ) → Result (Joint × List ℕ) OffenceAt
or_at text None = Err (stop_at Syntax text)
or_at text (Some rest) = Ok (Or, rest)

-- a connective at the front
abbrev pub and_at : List ℕ → Option (List ℕ) → Result (Joint × List ℕ) OffenceAt
and_at text None = or_at text (strip_at (codes "||") text)
and_at text (Some rest) = Ok (And, rest)

-- the end or a connective at the front
abbrev pub joint_in : List ℕ → Result (Joint × List ℕ) OffenceAt
joint_in text = if length text == 0 then Ok (End, text) else and_at text (strip_at (codes "&&") text)

-- the connective or the end of the text at the front, and what follows it
abbrev pub joint_at : List ℕ → Result (Joint × List ℕ) OffenceAt
joint_at text = joint_in (unspaced text)
