-- The text of a dump. Numbers are decimal, and a line ends with byte 10.
use Rattle.std.specs.Prelude.{◌≡◌, ℕ, ◌/◌, ◌%◌, ◌^◌, Bool, false, ◌||◌, List, [], ◌∷◌, ◌++◌, length, take, codes, decimal, slice_index_or, string_bytes, if◌then◌else◌}
use Rattle.std.specs.List.{flat_map, range_with_len}
use Rattle.std.specs.Fmt.{digit_glyph}
use Rattle.std.specs.Int.{w64, to_be_bytes}
use Rattle.cf_row.specs.Row.{RowValue, value_at}
use Rattle.cf_row.specs.Schema.{is_named}
use Rattle.cf_row.specs.declared.row.Value.{Value}
use Rattle.cf_row.specs.declared.row.Value.TheVariants.{Num, Raw}
use Rattle.cf_row.specs.declared.schema.Attr.{Attr}
use Rattle.cf_row.specs.declared.schema.Kind.TheVariants.{U8}
use Rattle.cf_report.specs.declared.listing.Listing.{Listing}

-- the addresses of IPv4
abbrev pub is_address : Attr → Bool
is_address attr = is_named (codes "src") attr || is_named (codes "dst") attr

-- the halves of the addresses of IPv6
abbrev pub is_half : Attr → Bool
is_half attr = is_named (codes "src6") attr || is_named (codes "src6_low") attr || is_named (codes "dst6") attr || is_named (codes "dst6_low") attr

-- the four bytes of an IPv4 address (RFC 791), the highest first, with dots between them
abbrev pub dotted : ℕ → List ℕ
dotted n =
    decimal (n / 2 ^ 24) ++ (codes "." ++ (decimal (n / 2 ^ 16 % 2 ^ 8) ++ (codes "." ++ (decimal (n / 2 ^ 8 % 2 ^ 8) ++ (codes "." ++ decimal (n % 2 ^ 8))))))

-- two digits, lower-case and hexadecimal
abbrev pub byte_text : ℕ → List ℕ
byte_text byte = digit_glyph false (byte / 16) ∷ digit_glyph false (byte % 16) ∷ []

-- `0x` and the sixteen digits of eight bytes, the highest first
abbrev pub half_text : ℕ → List ℕ
half_text n = codes "0x" ++ flat_map byte_text (to_be_bytes w64 n)

-- the text of an attribute's value: `src` and `dst` dotted, the halves of IPv6 addresses in sixteen digits, other numbers decimal, byte
-- strings `0x` and two digits for each byte
abbrev pub value_text : Attr → Value → List ℕ
value_text attr (Num n) = if is_address attr then dotted n else (if is_half attr then half_text n else decimal n)
value_text attr (Raw len bytes) = codes "0x" ++ flat_map byte_text (take len bytes)

-- stands where an attribute doesn't exist: it has no name, and is a number of one byte
abbrev pub no_attr : Attr
no_attr = record { name = []; kind = U8 }

-- the attribute at that place of the schema, from 0
abbrev pub attr_at : List Attr → ℕ → Attr
attr_at attrs place = slice_index_or attrs place no_attr

-- ` NAME=VALUE`
abbrev pub field_text : Attr → Value → List ℕ
field_text attr value = codes " " ++ (attr.name ++ (codes "=" ++ value_text attr value))

-- the text of the row's field at that place of the schema, from 0
abbrev pub field_at : List Attr → RowValue → ℕ → List ℕ
field_at attrs row place = field_text (attr_at attrs place) (value_at row place)

-- the row's number, and its value of each attribute in order
abbrev pub row_line : List Attr → RowValue → List ℕ
row_line attrs row = decimal row.num ++ (flat_map (field_at attrs row) (range_with_len 0 (length attrs)) ++ 10 ∷ [])

-- how many rows there are, and a line for each
abbrev pub dump_text : List Attr → List RowValue → List ℕ
dump_text attrs rows = codes "records " ++ (decimal (length rows) ++ (10 ∷ [] ++ flat_map (row_line attrs) rows))

-- the lines of these rows, and how many they are
pub record IsListing (attrs : List Attr) (rows : List RowValue) (listing : Listing) : Type 0 where
  pub lines : string_bytes listing.lines ≡ flat_map (row_line attrs) rows
  pub count : listing.count ≡ length rows
