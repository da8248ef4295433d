-- Values as texts.
use Rattle.std.specs.Prelude.{◌≡◌, ℕ, ◌+◌, ◌*◌, ◌-◌, Bool, true, false, ◌&&◌, nat_le, nat_lt, ◌==◌, List, [], ◌∷◌, ◌++◌, length, codes, Option, Some, None, if◌then◌else◌, is_some, slice_index, zero, suc}
use Rattle.std.specs.List.{list_all}
use Rattle.std.specs.Option.{option_and_then, option_map, option_map_or}
use Rattle.cf_row.specs.declared.schema.Kind.{Kind}
use Rattle.cf_row.specs.declared.schema.Kind.TheVariants.{U8, U16, U32, U64, Bytes}
use Rattle.cf_row.specs.declared.row.Value.{Value}
use Rattle.cf_row.specs.declared.row.Value.TheVariants.{Num, Raw}
use Rattle.cf_row.specs.Row.{is_of_kind}
use Rattle.cf_filter.specs.declared.bytes.Class.{Class}
use Rattle.cf_filter.specs.declared.bytes.Class.TheVariants as classes
use Rattle.cf_filter.specs.declared.value.ValueForm.{ValueForm}
use Rattle.cf_filter.specs.declared.value.ValueForm.TheVariants.{Decimal, Hex, Dotted}
use Rattle.cf_filter.specs.Tokens.{passes, run, past, strip_at, is_digit, is_between}

-- what a digit stands for
abbrev pub digit_of : ℕ → ℕ
digit_of b = if is_digit b then b - 48 else (if is_between 65 70 b then b - 55 else (if is_between 97 102 b then b - 87 else 0))

-- the number that digits write
abbrev pub number_after : ℕ → ℕ → List ℕ → ℕ
number_after base n [] = n
number_after base n (b ∷ bs) = number_after base (n * base + digit_of b) bs

-- the number that digits of that base write
abbrev pub number_at : ℕ → List ℕ → ℕ
number_at base digits = number_after base 0 digits

-- from low to high bytes, all of the class
abbrev pub is_run_of : Class → ℕ → ℕ → List ℕ → Bool
is_run_of class low high text = (nat_le low (length text) && nat_le (length text) high) && list_all (passes class) text

-- what follows 0x
abbrev pub hex_digits : List ℕ → Option (List ℕ)
hex_digits text = strip_at (codes "0x") text

-- 0x and one to 32 hexadecimal digits
abbrev pub is_hex_text : List ℕ → Bool
is_hex_text text = option_map_or (is_run_of classes.Hex 1 32) (hex_digits text) false

infixl 10 ◌>>=◌
-- the first part, and then the next
abbrev pub ◌>>=◌ : {A B : Type 0} → Option A → (A → Option B) → Option B
o >>= f = option_and_then f o

-- one to three digits at the front, and what follows them
abbrev pub part_at : List ℕ → Option (List ℕ × List ℕ)
part_at text = if is_run_of classes.Digit 1 3 (run classes.Digit text) then Some (run classes.Digit text, past classes.Digit text) else None

-- four parts with dots between them
unfoldable pub parts_at : List ℕ → Option (List ℕ × List ℕ × List ℕ × List ℕ)
parts_at text = do
  a ← part_at text
  second ← strip_at (codes ".") a.1
  b ← part_at second
  third ← strip_at (codes ".") b.1
  c ← part_at third
  fourth ← strip_at (codes ".") c.1
  d ← part_at fourth
  if length d.1 == 0 then Some (a.0, b.0, c.0, d.0) else None

-- how a text is written, if it is written as a value
abbrev pub value_form_at : List ℕ → Option ValueForm
value_form_at text =
    if is_run_of classes.Digit 1 20 text then Some Decimal else (if is_hex_text text then Some Hex else (if is_some (parts_at text) then Some Dotted else None))

-- a number of at most 255
abbrev pub byte_at : List ℕ → Option ℕ
byte_at digits = if nat_le (number_at 10 digits) 255 then Some (number_at 10 digits) else None

-- the number of a dotted text, if no part is above 255
unfoldable pub address_at : List ℕ → Option ℕ
address_at text = do
  p ← parts_at text
  a ← byte_at p.0
  b ← byte_at p.1
  c ← byte_at p.2
  d ← byte_at p.3
  Some (((a * 256 + b) * 256 + c) * 256 + d)

-- the number as a value of the kind
abbrev pub of_kind : Kind → ℕ → Option Value
of_kind kind n = if is_of_kind kind (Num n) then Some (Num n) else None

-- what the digit at that place stands for
abbrev pub digit_from : List ℕ → ℕ → ℕ
digit_from digits i = digit_of (slice_index digits i)

-- the byte that the pair of digits number i writes, 0 where there is none
abbrev pub pair_at : List ℕ → ℕ → ℕ
pair_at digits i = if nat_lt (2 * i + 1) (length digits) then digit_from digits (2 * i) * 16 + digit_from digits (2 * i + 1) else 0

-- the first n of these bytes
unfoldable pub pairs : ℕ → List ℕ → List ℕ
pairs zero digits = []
pairs (suc n) digits = pairs n digits ++ pair_at digits n ∷ []

-- the digits as the value of a byte string of that length
abbrev pub raw_of : ℕ → Option (List ℕ) → Option Value
raw_of len None = None
raw_of len (Some digits) = if length digits == 2 * len then Some (Raw len (pairs 16 digits)) else None

-- at most 16 digits as a number of the kind
abbrev pub hex_number : Kind → Option (List ℕ) → Option Value
hex_number kind None = None
hex_number kind (Some digits) = if nat_le (length digits) 16 then of_kind kind (number_at 16 digits) else None

-- the value of a text of this form, if it is lawful for the kind
abbrev pub lawful : Kind → ValueForm → List ℕ → Option Value
lawful (Bytes len) Decimal text = None
lawful (Bytes len) Hex text = raw_of len (hex_digits text)
lawful (Bytes len) Dotted text = None
lawful U8 Decimal text = of_kind U8 (number_at 10 text)
lawful U16 Decimal text = of_kind U16 (number_at 10 text)
lawful U32 Decimal text = of_kind U32 (number_at 10 text)
lawful U64 Decimal text = of_kind U64 (number_at 10 text)
lawful U8 Hex text = hex_number U8 (hex_digits text)
lawful U16 Hex text = hex_number U16 (hex_digits text)
lawful U32 Hex text = hex_number U32 (hex_digits text)
lawful U64 Hex text = hex_number U64 (hex_digits text)
lawful U8 Dotted text = None
lawful U16 Dotted text = None
lawful U32 Dotted text = option_map Num (address_at text)
lawful U64 Dotted text = None

-- the value of the kind that a text is one of
abbrev pub value_at : Kind → List ℕ → Option Value
value_at kind text = option_and_then (λ form. lawful kind form text) (value_form_at text)

-- the four parts of a dotted text, each of one to three digits
pub record AreParts (text a b c d : List ℕ) : Type 0 where
  pub whole : text ≡ a ++ 46 ∷ (b ++ 46 ∷ (c ++ 46 ∷ d))
  pub first : is_run_of classes.Digit 1 3 a ≡ true
  pub second : is_run_of classes.Digit 1 3 b ≡ true
  pub third : is_run_of classes.Digit 1 3 c ≡ true
  pub fourth : is_run_of classes.Digit 1 3 d ≡ true

-- how a value may be written: decimal digits; 0x and hexadecimal digits; four parts with dots between them
abbrev pub HasForm : List ℕ → ValueForm → Type 0
HasForm text Decimal = is_run_of classes.Digit 1 20 text ≡ true
HasForm text Hex = (digits : List ℕ) × (text ≡ codes "0x" ++ digits) × (is_run_of classes.Hex 1 32 digits ≡ true)
HasForm text Dotted = (a b c d : List ℕ) × AreParts text a b c d
