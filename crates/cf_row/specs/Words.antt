-- The words that spell an entry: those of its values in the schema's order, and then the tag.
use Rattle.std.specs.Prelude.{◌≡◌, ℕ, ◌+◌, ◌-◌, ◌*◌, ◌/◌, ◌%◌, ◌^◌, ◌<◌, Bool, ◌&&◌, nat_lt, zero, suc, List, [], ◌∷◌, ◌++◌, length, take, drop, replicate, slice_index_or, if◌then◌else◌}
use Rattle.cf_row.specs.declared.schema.Attr.{Attr}
use Rattle.cf_row.specs.declared.schema.Kind.{Kind}
use Rattle.cf_row.specs.declared.schema.Kind.TheVariants.{U8, U16, U32, U64, Bytes}
use Rattle.cf_row.specs.declared.row.Value.{Value}
use Rattle.cf_row.specs.declared.row.Value.TheVariants.{Num, Raw}
use Rattle.cf_row.specs.declared.row.Entry.{Entry}
use Rattle.cf_row.specs.Row.{Fits}

-- how many words the values of a kind take: one for a number or up to 8 bytes, else two
abbrev pub words_of_kind : Kind → ℕ
words_of_kind U8 = 1
words_of_kind U16 = 1
words_of_kind U32 = 1
words_of_kind U64 = 1
words_of_kind (Bytes k) = if nat_lt 8 k then 2 else 1

-- the number of attribute words
unfoldable pub word_count : List Attr → ℕ
word_count [] = 0
word_count (attr ∷ attrs) = words_of_kind attr.kind + word_count attrs

-- bytes as a number, the first the highest
unfoldable pub big_number : List ℕ → ℕ
big_number [] = 0
big_number (x ∷ xs) = x * 256 ^ length xs + big_number xs

-- the n bytes of a number, the first the highest
unfoldable pub big_bytes : ℕ → ℕ → List ℕ
big_bytes zero x = []
big_bytes (suc n) x = x / 256 ^ n ∷ big_bytes n (x % 256 ^ n)

-- of more than 8 bytes the first word has the first 8, and the second the rest
abbrev pub raw_words : ℕ → List ℕ → List ℕ
raw_words len bytes =
    if nat_lt 8 len
    then big_number (take 8 bytes) ∷ big_number (take (len - 8) (drop 8 bytes)) ∷ []
    else big_number (take len bytes) ∷ []

-- the words that spell a value: the number itself, or one or two words of bytes
abbrev pub value_words : Value → List ℕ
value_words (Num n) = n ∷ []
value_words (Raw len bytes) = raw_words len bytes

-- the words that spell the values, in order
unfoldable pub values_words : List Value → List ℕ
values_words [] = []
values_words (value ∷ values) = value_words value ++ values_words values

-- the number of the row, and the writer
abbrev pub tag_of : Entry → ℕ
tag_of entry = entry.row.num * 16 + entry.writer

-- the words of an entry
abbrev pub spelled : Entry → List ℕ
spelled entry = values_words entry.row.values ++ tag_of entry ∷ []

-- an entry of the schema: its row fits, with a number of 32 bits, and its writer takes 4 bits
pub record IsEntry (attrs : List Attr) (entry : Entry) : Type 0 where
  pub fits : Fits attrs entry.row
  pub num : entry.row.num < 2 ^ 32
  pub writer : entry.writer < 16

-- the k bytes of a string, from the one word at the front that spells them, or from two where k is above 8
abbrev pub raw_read : ℕ → List ℕ → List ℕ
raw_read k words =
    if nat_lt 8 k
    then big_bytes 8 (slice_index_or words 0 0) ++ big_bytes (k - 8) (slice_index_or words 1 0)
    else big_bytes k (slice_index_or words 0 0)

-- the value of a kind that the words at the front spell; a byte string is filled to 16 bytes with 0
abbrev pub value_read : Kind → List ℕ → Value
value_read U8 words = Num (slice_index_or words 0 0)
value_read U16 words = Num (slice_index_or words 0 0)
value_read U32 words = Num (slice_index_or words 0 0)
value_read U64 words = Num (slice_index_or words 0 0)
value_read (Bytes k) words = Raw k (raw_read k words ++ replicate (16 - k) 0)

-- the values of these attributes, in order, that the words spell
unfoldable pub values_read : List Attr → List ℕ → List Value
values_read [] words = []
values_read (attr ∷ attrs) words = value_read attr.kind words ∷ values_read attrs (drop (words_of_kind attr.kind) words)

-- the entry that the words spell
abbrev pub entry_read : List Attr → List ℕ → Entry
entry_read attrs words = record {
  writer = slice_index_or words (word_count attrs) 0 % 16;
  row = record { num = slice_index_or words (word_count attrs) 0 / 16; values = values_read attrs words };
}

-- these words are those of an entry of the schema
pub record AreSpelled (attrs : List Attr) (words : List ℕ) : Type 0 where
  pub entry : Entry
  pub lawful : IsEntry attrs entry
  pub spells : words ≡ spelled entry

-- the words of a value are in the range of its kind
abbrev pub word_fits : Kind → List ℕ → Bool
word_fits U8 words = nat_lt (slice_index_or words 0 0) (256 ^ 1)
word_fits U16 words = nat_lt (slice_index_or words 0 0) (256 ^ 2)
word_fits U32 words = nat_lt (slice_index_or words 0 0) (256 ^ 4)
word_fits U64 words = nat_lt (slice_index_or words 0 0) (256 ^ 8)
word_fits (Bytes k) words =
    if nat_lt 8 k
    then nat_lt (slice_index_or words 0 0) (256 ^ 8) && nat_lt (slice_index_or words 1 0) (256 ^ (k - 8))
    else nat_lt (slice_index_or words 0 0) (256 ^ k)

-- all words are in range, and the tag is that of a number of 32 bits
unfoldable pub words_fit : List Attr → List ℕ → Bool
words_fit [] words = nat_lt (slice_index_or words 0 0) (2 ^ 36)
words_fit (attr ∷ attrs) words = word_fits attr.kind words && words_fit attrs (drop (words_of_kind attr.kind) words)
