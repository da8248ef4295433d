-- The list of a schema's attributes as a text.
use Rattle.std.specs.Prelude.{◌≡◌, ℕ, zero, suc, ◌+◌, ◌-◌, ◌≤◌, Bool, true, ◌&&◌, not, nat_le, nat_lt, ◌==◌, List, [], ◌∷◌, ◌++◌, length, map, drop, codes, Option, Some, None, if◌then◌else◌}
use Rattle.std.specs.List.{list_all, list_any, join_with_byte}
use Rattle.std.specs.Option.{option_map}
use Rattle.std.specs.Str.{bytes_eq}
use Rattle.cf_row.specs.declared.schema.Attr.{Attr}
use Rattle.cf_row.specs.declared.schema.Kind.{Kind}
use Rattle.cf_row.specs.declared.schema.Kind.TheVariants.{U8, U16, U32, U64, Bytes}
use Rattle.cf_row.specs.declared.schema.TheConstants.{MOST_GIVEN}
use Rattle.cf_row.specs.Schema.{IsSchema, has_name_twice, is_time_stamp, has_good_size}
use Rattle.cf_filter.specs.declared.bytes.Class.TheVariants as classes
use Rattle.cf_filter.specs.Tokens.{run, past, strip_at, is_between}
use Rattle.cf_filter.specs.Values.{◌>>=◌}
use Rattle.cf_lines.specs.Lines.{is_name}

-- 1 to 16 in decimal
abbrev pub size_text : ℕ → List ℕ
size_text len = if nat_lt len 10 then (48 + len) ∷ [] else 49 ∷ (38 + len) ∷ []

-- how a kind is written
abbrev pub kind_text : Kind → List ℕ
kind_text U8 = codes "u8"
kind_text U16 = codes "u16"
kind_text U32 = codes "u32"
kind_text U64 = codes "u64"
kind_text (Bytes len) = codes "b" ++ size_text len

-- NAME:KIND
abbrev pub member_text : Attr → List ℕ
member_text attr = attr.name ++ 58 ∷ kind_text attr.kind

-- an attribute's name has at most 16 bytes
abbrev pub is_spelled : Attr → Bool
is_spelled attr = is_name 16 attr.name

-- the attributes of a schema that is given, with commas between them
pub record ListText (list : List ℕ) (attrs : List Attr) : Type 0 where
  pub written : list ≡ join_with_byte 44 (map member_text attrs)
  pub spelled : list_all is_spelled attrs ≡ true
  pub schema : IsSchema attrs
  pub few : length attrs ≤ MOST_GIVEN

-- 1 to 9, and 10 to 16
abbrev pub size_at : List ℕ → Option ℕ
size_at [] = None
size_at (a ∷ []) = if is_between 49 57 a then Some (a - 48) else None
size_at (a ∷ b ∷ []) = if (a == 49) && is_between 48 54 b then Some (b - 38) else None
size_at (a ∷ b ∷ c ∷ more) = None

-- the kind that is written so
abbrev pub kind_named : List ℕ → Option Kind
kind_named text =
    if bytes_eq text (codes "u8") then Some U8 else (
    if bytes_eq text (codes "u16") then Some U16 else (
    if bytes_eq text (codes "u32") then Some U32 else (
    if bytes_eq text (codes "u64") then Some U64 else
    option_map Bytes (strip_at (codes "b") text >>= size_at))))

-- the attribute of that name and kind
abbrev pub spelled_as : List ℕ → Kind → Option Attr
spelled_as name kind = if is_name 16 name then Some (record { name = name; kind = kind }) else None

-- the attribute that a member states
unfoldable pub member_at : List ℕ → Option Attr
member_at member = do
  text ← strip_at (codes ":") (past (classes.Except 58) member)
  kind ← kind_named text
  spelled_as (run (classes.Except 58) member) kind

-- what follows the first member is nothing, or a comma and more members
abbrev pub more_at : Attr → List ℕ → Option (List Attr) → Option (List Attr)
more_at attr rest more = if length rest == 0 then Some (attr ∷ []) else option_map (λ attrs. attr ∷ attrs) more

-- the attributes of a list of at most n members
unfoldable pub attrs_at : ℕ → List ℕ → Option (List Attr)
attrs_at zero list = None
attrs_at (suc n) list = do
  attr ← member_at (run (classes.Except 44) list)
  more_at attr (past (classes.Except 44) list) (attrs_at n (drop 1 (past (classes.Except 44) list)))

-- the attributes are of a schema
abbrev pub is_schema : List Attr → Bool
is_schema attrs =
    ((nat_le (length attrs) MOST_GIVEN && not (has_name_twice attrs)) && list_any is_time_stamp attrs)
    && list_all (λ attr. has_good_size attr.kind) attrs

-- the schema that a list states
abbrev pub schema_at : List ℕ → Option (List Attr)
schema_at list = do
  attrs ← attrs_at MOST_GIVEN list
  if is_schema attrs then Some attrs else None
