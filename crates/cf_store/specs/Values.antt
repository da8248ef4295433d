-- Values as C lays them out, and rows of them.
use Rattle.std.specs.Prelude.{◌≡◌, ℕ, ◌==◌, ◌&&◌, ◌||◌, nat_le, if◌then◌else◌, Bool, List, ◌++◌, length, map, min, take, drop, replicate}
use Rattle.cf_row.specs.declared.row.Value.{Value}
use Rattle.cf_row.specs.declared.row.Value.TheVariants.{Num, Raw}
use Rattle.cf_row.specs.Row.{RowValue}
use Rattle.cf_store.specs.declared.shown.ShownValue.{ShownValue}

-- it states a value: a number, or a string of at most 16 bytes
abbrev pub is_value : ShownValue → Bool
is_value v = (v.kind == 0) || ((v.kind == 1) && nat_le v.length 16)

-- the value that it states
abbrev pub value_of : ShownValue → Value
value_of v = if v.kind == 0 then Num v.number else Raw v.length v.bytes

-- a row of such values
abbrev pub plain_row : ℕ → List ShownValue → RowValue
plain_row number values = record { num = number; values = map value_of values }

-- the value, laid out so
abbrev pub plain_of : Value → ShownValue
plain_of (Num n) = record { number = n; kind = 0; length = 0; bytes = replicate 16 0 }
plain_of (Raw len bytes) = record { number = 0; kind = 1; length = len; bytes = bytes }

-- the values of the row stand at the front of a list in place of what was there, as far as there is room, and so many it has
pub record ShowsRow (row : RowValue) (before after : List ShownValue) (count : ℕ) : Type 0 where
  pub count_is : count ≡ length row.values
  pub after_is : after ≡ take (min count (length before)) (map plain_of row.values) ++ drop (min count (length before)) before
