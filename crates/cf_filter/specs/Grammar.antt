-- The grammar of values and expressions, and the first offending token.
use Rattle.std.specs.Prelude.{◌≡◌, ◌⊎◌, ℕ, zero, suc, ◌≤◌, ◌+◌, ◌*◌, true, false, List, [], ◌∷◌, ◌++◌, length, codes, Some, None, Result, Ok, Err}
use Rattle.cf_row.specs.declared.schema.Attr.{Attr}
use Rattle.cf_row.specs.declared.schema.Kind.{Kind}
use Rattle.cf_row.specs.declared.schema.Kind.TheVariants.{U32, Bytes}
use Rattle.cf_row.specs.declared.row.Value.{Value}
use Rattle.cf_row.specs.declared.row.Value.TheVariants.{Num, Raw}
use Rattle.cf_row.specs.declared.expr.Atom.{Atom}
use Rattle.cf_row.specs.declared.expr.Op.{Op}
use Rattle.cf_row.specs.declared.expr.Op.TheVariants.{Eq, Ne, Lt, Le, Gt, Ge, Within, Outside}
use Rattle.cf_row.specs.Row.{is_of_kind}
use Rattle.cf_row.specs.Expr.{number_of, suits_kind}
use Rattle.cf_filter.specs.declared.bytes.Class.TheVariants as classes
use Rattle.cf_filter.specs.declared.fault.Offence.{Offence}
use Rattle.cf_filter.specs.declared.fault.Offence.TheVariants.{Syntax, UnknownName, BadOperator, ValueRange, TooLong}
use Rattle.cf_filter.specs.declared.fault.OffenceAt.{OffenceAt}
use Rattle.cf_filter.specs.declared.atom.Joint.{Joint}
use Rattle.cf_filter.specs.declared.atom.Joint.TheVariants.{End, And, Or}
use Rattle.cf_filter.specs.declared.value.ValueForm.{ValueForm}
use Rattle.cf_filter.specs.Tokens.{IsRun, IsAfterSpaces}
use Rattle.cf_filter.specs.Values.{HasForm, AreParts, is_run_of, number_at, pairs}
use Rattle.cf_filter.specs.Ranges.{dots_len, net_from}
use Rattle.cf_filter.specs.Reading.{begins_with, attr_named, stop_at, seen_by}
use Rattle.cf_filter.specs.Exprs.{with_atom}

-- no part of a dotted text is above 255
pub record AreBytes (a b c d : List ℕ) : Type 0 where
  pub first : number_at 10 a ≤ 255
  pub second : number_at 10 b ≤ 255
  pub third : number_at 10 c ≤ 255
  pub fourth : number_at 10 d ≤ 255

-- the number of a dotted text: its parts are the bytes of a big-endian number (RFC 791)
abbrev pub address_of : List ℕ → List ℕ → List ℕ → List ℕ → ℕ
address_of a b c d = ((number_at 10 a * 256 + number_at 10 b) * 256 + number_at 10 c) * 256 + number_at 10 d

-- the lawful values of a kind, as texts
pub data ValueText (kind : Kind) (text : List ℕ) (value : Value) : Type 0 where
  decimal : is_run_of classes.Digit 1 20 text ≡ true → value ≡ Num (number_at 10 text) → is_of_kind kind value ≡ true → ValueText kind text value
  hexadecimal : (digits : List ℕ) → text ≡ codes "0x" ++ digits → is_run_of classes.Hex 1 16 digits ≡ true → value ≡ Num (number_at 16 digits)
      → is_of_kind kind value ≡ true → ValueText kind text value
  dotted : (a b c d : List ℕ) → AreParts text a b c d → AreBytes a b c d → kind ≡ U32 → value ≡ Num (address_of a b c d) → ValueText kind text value
  bytes : (len : ℕ) (digits : List ℕ) → kind ≡ Bytes len → text ≡ codes "0x" ++ digits → is_run_of classes.Hex 1 32 digits ≡ true → length digits ≡ 2 * len
      → value ≡ Raw len (pairs 16 digits) → ValueText kind text value

-- a text that is cut at the first two dots, or a dotted text and a number of bits
pub data HasRangeForm (text : List ℕ) : Type 0 where
  ends : (low high : List ℕ) (low_form high_form : ValueForm) → text ≡ low ++ codes ".." ++ high → dots_len text ≡ length low → HasForm low low_form
      → HasForm high high_form → HasRangeForm text
  net : (a b c d front bits : List ℕ) → text ≡ front ++ codes "/" ++ bits → AreParts front a b c d → is_run_of classes.Digit 1 20 bits ≡ true
      → HasRangeForm text

-- the lawful ranges of a kind
pub data RangeText (kind : Kind) (text : List ℕ) (range : Value × Value) : Type 0 where
  ends : (low high : List ℕ) → text ≡ low ++ codes ".." ++ high → dots_len text ≡ length low → ValueText kind low range.0 → ValueText kind high range.1
      → number_of range.0 ≤ number_of range.1 → RangeText kind text range
  net : (a b c d front bits : List ℕ) → text ≡ front ++ codes "/" ++ bits → AreParts front a b c d → AreBytes a b c d
      → is_run_of classes.Digit 1 20 bits ≡ true → number_at 10 bits ≤ 32 → kind ≡ U32 → range ≡ net_from (address_of a b c d) (number_at 10 bits)
      → RangeText kind text range

-- in no form: Syntax; in a form, but not lawful: ValueRange
abbrev pub Judged : {A : Type 0} → Type 0 → (A → Type 0) → Result A Offence → Type 0
Judged form lawful (Ok x) = lawful x
Judged {A} form lawful (Err Syntax) = form → ⊥
Judged {A} form lawful (Err ValueRange) = form × ((x : A) → lawful x → ⊥)
Judged form lawful (Err UnknownName) = ⊥
Judged form lawful (Err BadOperator) = ⊥
Judged form lawful (Err TooLong) = ⊥

-- written as a value may be, for whatever kind
abbrev pub IsForm : List ℕ → Type 0
IsForm text = (form : ValueForm) × HasForm text form

-- a value of the kind
abbrev pub ValueRead : Kind → List ℕ → Result Value Offence → Type 0
ValueRead kind text = Judged (IsForm text) (ValueText kind text)

-- a value, which is both ends
abbrev pub TwiceRead : Kind → List ℕ → Result (Value × Value) Offence → Type 0
TwiceRead kind text = Judged (IsForm text) (λ range. ValueText kind text range.0 × (range.1 ≡ range.0))

-- after `in` and `not in` a range, after another operator a value
abbrev pub BoundsRead : Kind → Op → List ℕ → Result (Value × Value) Offence → Type 0
BoundsRead kind Within text = Judged (HasRangeForm text) (RangeText kind text)
BoundsRead kind Outside text = Judged (HasRangeForm text) (RangeText kind text)
BoundsRead kind Eq text = TwiceRead kind text
BoundsRead kind Ne text = TwiceRead kind text
BoundsRead kind Lt text = TwiceRead kind text
BoundsRead kind Le text = TwiceRead kind text
BoundsRead kind Gt text = TwiceRead kind text
BoundsRead kind Ge text = TwiceRead kind text

-- The first part is read, and then the next from what the first gives. The first fault decides.
abbrev pub Then : {A B : Type 0} → (Result A OffenceAt → Type 0) → (A → Result B OffenceAt → Type 0) → Result B OffenceAt → Type 0
Then {A} First Next (Ok y) = (x : A) × First (Ok x) × Next x (Ok y)
Then {A} First Next (Err stop) = First (Err stop) ⊎ ((x : A) × First (Ok x) × Next x (Err stop))

-- where the attribute's name is wanted
abbrev pub NameFault : List Attr → List ℕ → Offence → Type 0
NameFault attrs here Syntax = begins_with classes.Letter here ≡ false
NameFault attrs here UnknownName = (word rest : List ℕ) × (begins_with classes.Letter here ≡ true) × IsRun classes.Name here word rest
    × (attr_named attrs word ≡ None)
NameFault attrs here BadOperator = ⊥
NameFault attrs here ValueRange = ⊥
NameFault attrs here TooLong = ⊥

-- an attribute's name, after spaces
abbrev pub NameRead : List Attr → List ℕ → Result ((ℕ × Kind) × List ℕ) OffenceAt → Type 0
NameRead attrs text (Ok found) = (here word : List ℕ) × IsAfterSpaces text here × (begins_with classes.Letter here ≡ true)
    × IsRun classes.Name here word found.1 × (attr_named attrs word ≡ Some found.0)
NameRead attrs text (Err stop) = (here : List ℕ) × IsAfterSpaces text here × (stop.left ≡ length here) × NameFault attrs here stop.offence

-- the word that an operator begins with, which is all of it but for `not in`
abbrev pub op_word : Op → List ℕ
op_word Eq = codes "=="
op_word Ne = codes "!="
op_word Lt = codes "<"
op_word Le = codes "<="
op_word Gt = codes ">"
op_word Ge = codes ">="
op_word Within = codes "in"
op_word Outside = codes "not"

-- the word where an operator is wanted: a name, or a run of operator characters
pub data IsOpWord (here word rest : List ℕ) : Type 0 where
  name : begins_with classes.Letter here ≡ true → IsRun classes.Name here word rest → IsOpWord here word rest
  sign : begins_with classes.Operator here ≡ true → IsRun classes.Operator here word rest → IsOpWord here word rest

-- how an operator is written
abbrev pub OpText : Op → List ℕ → List ℕ → Type 0
OpText Outside here rest = (after there : List ℕ) × IsOpWord here (codes "not") after × IsAfterSpaces after there × IsOpWord there (codes "in") rest
OpText Eq here rest = IsOpWord here (op_word Eq) rest
OpText Ne here rest = IsOpWord here (op_word Ne) rest
OpText Lt here rest = IsOpWord here (op_word Lt) rest
OpText Le here rest = IsOpWord here (op_word Le) rest
OpText Gt here rest = IsOpWord here (op_word Gt) rest
OpText Ge here rest = IsOpWord here (op_word Ge) rest
OpText Within here rest = IsOpWord here (op_word Within) rest

-- an operator of the kind begins with the word
abbrev pub BeginsOp : Kind → List ℕ → Type 0
BeginsOp kind word = (op : Op) × (word ≡ op_word op) × (suits_kind kind op ≡ true)

-- where one of the wanted words should be
abbrev pub WordFault : (List ℕ → Type 0) → List ℕ → Offence → Type 0
WordFault Wanted here Syntax = (begins_with classes.Letter here ≡ false) × (begins_with classes.Operator here ≡ false)
WordFault Wanted here BadOperator = (word rest : List ℕ) × IsOpWord here word rest × (Wanted word → ⊥)
WordFault Wanted here UnknownName = ⊥
WordFault Wanted here ValueRange = ⊥
WordFault Wanted here TooLong = ⊥

-- where an operator of the kind should be: it does not begin, or `not`, which begins one, is not followed by `in`
pub data OpFault (kind : Kind) (here : List ℕ) (stop : OffenceAt) : Type 0 where
  first : stop.left ≡ length here → WordFault (BeginsOp kind) here stop.offence → OpFault kind here stop
  second : (after there : List ℕ) → IsOpWord here (codes "not") after → suits_kind kind Outside ≡ true → IsAfterSpaces after there
      → stop.left ≡ length there → WordFault (λ word. word ≡ codes "in") there stop.offence → OpFault kind here stop

-- an operator that suits the kind, after spaces
abbrev pub OpRead : Kind → List ℕ → Result (Op × List ℕ) OffenceAt → Type 0
OpRead kind text (Ok found) = (here : List ℕ) × IsAfterSpaces text here × OpText found.0 here found.1 × (suits_kind kind found.0 ≡ true)
OpRead kind text (Err stop) = (here : List ℕ) × IsAfterSpaces text here × OpFault kind here stop

-- The word where a value or a range is wanted may be empty, which is in no form.
abbrev pub EndsRead : Kind → Op → List ℕ → Result ((Value × Value) × List ℕ) OffenceAt → Type 0
EndsRead kind op text (Ok found) = (here word : List ℕ) × IsAfterSpaces text here × IsRun classes.Value here word found.1 × BoundsRead kind op word (Ok found.0)
EndsRead kind op text (Err stop) = (here word rest : List ℕ) × IsAfterSpaces text here × IsRun classes.Value here word rest × (stop.left ≡ length here)
    × BoundsRead kind op word (Err stop.offence)

-- a name, an operator that suits its kind, and a value or a range of that kind
abbrev pub AtomRead : List Attr → List ℕ → Result (Atom × List ℕ) OffenceAt → Type 0
AtomRead attrs text =
    Then (NameRead attrs text) (λ name.
    Then (OpRead name.0.1 name.1) (λ op.
    Then (EndsRead name.0.1 op.0 op.1) (λ ends atom.
    atom ≡ Ok (record { attr = name.0.0; op = op.0; low = ends.0.0; high = ends.0.1 }, ends.1))))

-- the end, or how a connective is written
abbrev pub JointText : Joint → List ℕ → List ℕ → Type 0
JointText End here rest = (here ≡ []) × (rest ≡ [])
JointText And here rest = here ≡ codes "&&" ++ rest
JointText Or here rest = here ≡ codes "||" ++ rest

-- the end of the text, or a connective
abbrev pub JointRead : List ℕ → Result (Joint × List ℕ) OffenceAt → Type 0
JointRead text (Ok found) = (here : List ℕ) × IsAfterSpaces text here × JointText found.0 here found.1
JointRead text (Err stop) = (here : List ℕ) × IsAfterSpaces text here × (stop ≡ stop_at Syntax here)
    × ((joint : Joint) (rest : List ℕ) → JointText joint here rest → ⊥)

-- and what comes after a connective
abbrev pub JoinedRead : Atom → Joint → (Result (List (List Atom)) OffenceAt → Type 0) → Result (List (List Atom)) OffenceAt → Type 0
JoinedRead atom End Later read = read ≡ Ok ((atom ∷ []) ∷ [])
JoinedRead atom And Later read = (later : Result (List (List Atom)) OffenceAt) × Later later × (read ≡ seen_by (with_atom atom) later)
JoinedRead atom Or Later read = (later : Result (List (List Atom)) OffenceAt) × Later later × (read ≡ seen_by (λ others. (atom ∷ []) ∷ others) later)

-- conjunctions of at most n atoms in all
abbrev pub ConjunctionsRead : List Attr → ℕ → List ℕ → Result (List (List Atom)) OffenceAt → Type 0
ConjunctionsRead attrs zero text read = (here : List ℕ) × IsAfterSpaces text here × (read ≡ Err (stop_at TooLong here))
ConjunctionsRead attrs (suc n) text read =
    Then (AtomRead attrs text) (λ atom.
    Then (JointRead atom.1) (λ joint.
    JoinedRead atom.0 joint.0 (ConjunctionsRead attrs n joint.1))) read

-- after a star nothing is wanted
abbrev pub StarRead : List ℕ → Result (List (List Atom)) OffenceAt → Type 0
StarRead text (Ok expr) = IsAfterSpaces text [] × (expr ≡ [] ∷ [])
StarRead text (Err stop) = (here : List ℕ) × IsAfterSpaces text here × (here ≡ [] → ⊥) × (stop ≡ stop_at Syntax here)

-- what a text is, as an expression or by its first offending token
pub data ExprRead (attrs : List Attr) (text : List ℕ) (read : Result (List (List Atom)) OffenceAt) : Type 0 where
  star : (rest : List ℕ) → IsAfterSpaces text (codes "*" ++ rest) → StarRead rest read → ExprRead attrs text read
  conjunctions : (here : List ℕ) → IsAfterSpaces text here → ((rest : List ℕ) → here ≡ codes "*" ++ rest → ⊥) → ConjunctionsRead attrs 32 text read
      → ExprRead attrs text read

-- a relation that holds of just one outcome
pub record Only {A : Type 0} (P : A → Type 0) (x : A) : Type 0 where
  pub holds : P x
  pub only : (y : A) → P y → y ≡ x
