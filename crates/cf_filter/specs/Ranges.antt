-- Values and ranges, with what is wrong with them.
use Rattle.std.specs.Prelude.{ℕ, ◌+◌, ◌-◌, ◌^◌, ◌%◌, Bool, true, false, nat_le, nat_lt, List, [], ◌∷◌, take, drop, codes, Option, Some, None, Result, Ok, Err, if◌then◌else◌, is_some}
use Rattle.std.specs.Option.{option_map}
use Rattle.cf_row.specs.declared.schema.Kind.{Kind}
use Rattle.cf_row.specs.declared.schema.Kind.TheVariants.{U8, U16, U32, U64, Bytes}
use Rattle.cf_row.specs.declared.row.Value.{Value}
use Rattle.cf_row.specs.declared.row.Value.TheVariants.{Num}
use Rattle.cf_row.specs.declared.expr.Op.{Op}
use Rattle.cf_row.specs.declared.expr.Op.TheVariants.{Eq, Ne, Lt, Le, Gt, Ge, Within, Outside}
use Rattle.cf_row.specs.Expr.{number_of}
use Rattle.cf_filter.specs.declared.bytes.Class.TheVariants as classes
use Rattle.cf_filter.specs.declared.fault.Offence.{Offence}
use Rattle.cf_filter.specs.declared.fault.Offence.TheVariants.{Syntax, ValueRange}
use Rattle.cf_filter.specs.Tokens.{run, past, strip_at}
use Rattle.cf_filter.specs.Values.{value_form_at, lawful, parts_at, address_at, is_run_of, number_at}

-- what is found, or this offence
abbrev pub found_or : {A : Type 0} → Offence → Option A → Result A Offence
found_or offence None = Err offence
found_or offence (Some x) = Ok x

infixl 10 ◌>>=◌
-- the first part, and then the next
abbrev pub ◌>>=◌ : {A B : Type 0} → Result A Offence → (A → Result B Offence) → Result B Offence
(Ok x) >>= f = f x
(Err e) >>= f = Err e

-- the value of a text: no value's form is Syntax, an unlawful value is ValueRange
abbrev pub sized_at : Kind → List ℕ → Result Value Offence
sized_at kind text = do
  form ← found_or Syntax (value_form_at text)
  found_or ValueRange (lawful kind form text)

-- two dots stand at the front
abbrev pub are_dots : List ℕ → Bool
are_dots text = is_some (strip_at (codes "..") text)

-- how many bytes stand before the first two dots
abbrev pub dots_len : List ℕ → ℕ
dots_len [] = 0
dots_len (b ∷ bs) = if are_dots (b ∷ bs) then 0 else 1 + dots_len bs

-- what stands before the first two dots
abbrev pub before_dots : List ℕ → List ℕ
before_dots text = take (dots_len text) text

-- what stands before the first two dots and what stands after them
abbrev pub cut_at : List ℕ → Option (List ℕ × List ℕ)
cut_at text = option_map (λ high. (before_dots text, high)) (strip_at (codes "..") (drop (dots_len text) text))

-- the low end is not above the high one
abbrev pub in_order : Value → Value → Result (Value × Value) Offence
in_order low high = if nat_lt (number_of high) (number_of low) then Err ValueRange else Ok (low, high)

-- both ends of a range that is cut: forms first, then values, then their order
abbrev pub between_at : Kind → List ℕ → List ℕ → Result (Value × Value) Offence
between_at kind low high = do
  low_form ← found_or Syntax (value_form_at low)
  high_form ← found_or Syntax (value_form_at high)
  first ← found_or ValueRange (lawful kind low_form low)
  last ← found_or ValueRange (lawful kind high_form high)
  in_order first last

-- the addresses that share their first bits with this one
abbrev pub net_from : ℕ → ℕ → Value × Value
net_from address bits = (Num (address - address % 2 ^ (32 - bits)), Num ((address - address % 2 ^ (32 - bits)) + (2 ^ (32 - bits) - 1)))

-- addresses are numbers of four bytes
abbrev pub is_address_kind : Kind → Bool
is_address_kind U8 = false
is_address_kind U16 = false
is_address_kind U32 = true
is_address_kind U64 = false
is_address_kind (Bytes len) = false

-- go on where the test holds, else this offence
abbrev pub test_or : Offence → Bool → Result Bool Offence
test_or offence false = Err offence
test_or offence true = Ok true

-- an address and how many of its first bits are shared (RFC 4632)
abbrev pub net_at : Kind → List ℕ → Result (Value × Value) Offence
net_at kind text = do
  bits ← found_or Syntax (strip_at (codes "/") (past (classes.Except 47) text))
  dotted ← test_or Syntax (is_some (parts_at (run (classes.Except 47) text)))
  decimal ← test_or Syntax (is_run_of classes.Digit 1 20 bits)
  kind_fits ← test_or ValueRange (is_address_kind kind)
  address ← found_or ValueRange (address_at (run (classes.Except 47) text))
  small ← test_or ValueRange (nat_le (number_at 10 bits) 32)
  Ok (net_from address (number_at 10 bits))

-- a range that is cut, or an address with a number of bits
abbrev pub range_by : Kind → List ℕ → Option (List ℕ × List ℕ) → Result (Value × Value) Offence
range_by kind text None = net_at kind text
range_by kind text (Some ends) = between_at kind ends.0 ends.1

-- the ends of a range
abbrev pub range_at : Kind → List ℕ → Result (Value × Value) Offence
range_at kind text = range_by kind text (cut_at text)

-- a value as both ends
abbrev pub twice_at : Kind → List ℕ → Result (Value × Value) Offence
twice_at kind text = do
  value ← sized_at kind text
  Ok (value, value)

-- a value twice, or after `in` and `not in` the ends of a range
abbrev pub bounds_at : Kind → Op → List ℕ → Result (Value × Value) Offence
bounds_at kind Within text = range_at kind text
bounds_at kind Outside text = range_at kind text
bounds_at kind Eq text = twice_at kind text
bounds_at kind Ne text = twice_at kind text
bounds_at kind Lt text = twice_at kind text
bounds_at kind Le text = twice_at kind text
bounds_at kind Gt text = twice_at kind text
bounds_at kind Ge text = twice_at kind text
