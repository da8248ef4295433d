-- How a row keeps its values.
use Rattle.std.specs.Prelude.{◌≡◌, ℕ, ◌≤◌, zero, suc, Bool, ◌&&◌, nat_le, true, List, [], length, map, take}
use Rattle.std.specs.List.{list_all}
use Rattle.cf_row.specs.declared.schema.TheConstants.{MOST_ATTRS}
use Rattle.cf_row.specs.declared.schema.Attr.{Attr}
use Rattle.cf_row.specs.declared.schema.Kind.{Kind}
use Rattle.cf_row.specs.declared.schema.Kind.TheVariants.{U8, U16, U32, U64, Bytes}
use Rattle.cf_row.specs.declared.row.Value.{Value}
use Rattle.cf_row.specs.declared.row.Value.TheVariants.{Num, Raw}
use Rattle.cf_row.specs.declared.values.Values.{Values}
use Rattle.cf_row.specs.declared.values.Values.TheVariants.{Listed, Spelled}
use Rattle.cf_row.specs.declared.values.Words.{Words}
use Rattle.cf_row.specs.declared.values.Words.TheVariants.{Few, Many}
use Rattle.cf_row.specs.Schema.{has_good_size}
use Rattle.cf_row.specs.Row.{is_of_kind}
use Rattle.cf_row.specs.Words.{word_count, values_words, values_read, words_fit}

-- the bytes of a string of the kind, 0 for a number
abbrev pub len_of : Kind → ℕ
len_of U8 = 0
len_of U16 = 0
len_of U32 = 0
len_of U64 = 0
len_of (Bytes k) = k

-- the kind that is kept for that length: numbers of all sizes are kept alike
abbrev pub kind_of : ℕ → Kind
kind_of zero = U64
kind_of (suc k) = Bytes (suc k)

-- attributes of these lengths, whose names don't matter
abbrev pub attrs_of : List ℕ → List Attr
attrs_of lens = map (λ len. record { name = []; kind = kind_of len }) lens

-- the values of these lengths that the words spell
abbrev pub values_kept : List ℕ → List ℕ → List Value
values_kept lens words = values_read (attrs_of lens) words

-- the words are those of values of these lengths
pub record AreKept (lens words : List ℕ) : Type 0 where
  pub few : length lens ≤ MOST_ATTRS
  pub sized : list_all (λ attr. has_good_size attr.kind) (attrs_of lens) ≡ true
  pub long : length words ≡ word_count (attrs_of lens)
  pub fits : words_fit (attrs_of lens) words ≡ true

-- the words that a row keeps, as a list
abbrev pub words_in : Words → List ℕ
words_in (Few words count) = take count words
words_in (Many words) = words.items

-- the words lie within the row, and are so many
abbrev pub AreWithin : ℕ → Words → Type 0
AreWithin n (Few words count) = count ≡ n
AreWithin n (Many words) = ⊥

-- the values that a row keeps, as a list
abbrev pub values_of : Values → List Value
values_of (Listed values) = values.items
values_of (Spelled values) = values

-- the length that is kept for a value: that of a string, 0 for a number
abbrev pub len_of_value : Value → ℕ
len_of_value (Num n) = 0
len_of_value (Raw len bytes) = len

-- the value is a number, or a string of 1 to 16 bytes whose unused bytes are 0
abbrev pub can_be_kept : Value → Bool
can_be_kept value = is_of_kind (kind_of (len_of_value value)) value

-- the values have room within a row: there are at most 32 of them, each can be kept, and all take at most 32 words
abbrev pub lie_within : List Value → Bool
lie_within values = nat_le (length values) MOST_ATTRS && list_all can_be_kept values && nat_le (length (values_words values)) MOST_ATTRS
