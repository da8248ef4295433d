-- Kinds of bytes, and the longest runs of them.
use Rattle.std.specs.Prelude.{◌≡◌, ℕ, Bool, true, ◌&&◌, ◌||◌, not, nat_le, ◌==◌, List, ◌++◌, length, take, drop, Option, Some, None, if◌then◌else◌}
use Rattle.std.specs.List.{prefix_len, list_all}
use Rattle.std.specs.Str.{bytes_eq}
use Rattle.cf_filter.specs.declared.bytes.Class.{Class}
use Rattle.cf_filter.specs.declared.bytes.Class.TheVariants.{Space, Letter, Name, Operator, Value, Digit, Hex, Text, Except}

-- from low to high, both taken in
abbrev pub is_between : ℕ → ℕ → ℕ → Bool
is_between low high b = nat_le low b && nat_le b high

-- the byte is a small letter a to z (ASCII)
abbrev pub is_small : ℕ → Bool
is_small b = is_between 97 122 b

-- the byte is a capital A to Z (ASCII)
abbrev pub is_capital : ℕ → Bool
is_capital b = is_between 65 90 b

-- the byte is a digit 0 to 9 (ASCII)
abbrev pub is_digit : ℕ → Bool
is_digit b = is_between 48 57 b

-- the bytes of each class
abbrev pub passes : Class → ℕ → Bool
passes Space b = b == 32
passes Letter b = is_small b
passes Name b = (is_small b || is_digit b) || b == 95
passes Operator b = ((b == 61 || b == 33) || b == 60) || b == 62
passes Value b = (((is_digit b || is_small b) || is_capital b) || b == 46) || b == 47
passes Digit b = is_digit b
passes Hex b = (is_digit b || is_between 97 102 b) || is_between 65 70 b
passes Text b = is_between 32 126 b
passes (Except other) b = not (b == other)

-- the longest run of a class at the front
abbrev pub run : Class → List ℕ → List ℕ
run class text = take (prefix_len (passes class) text) text

-- what follows the longest run of a class at the front
abbrev pub past : Class → List ℕ → List ℕ
past class text = drop (prefix_len (passes class) text) text

-- what comes after the spaces at the front
abbrev pub unspaced : List ℕ → List ℕ
unspaced text = past Space text

-- what comes after the prefix
abbrev pub strip_at : List ℕ → List ℕ → Option (List ℕ)
strip_at prefix text = if bytes_eq (take (length prefix) text) prefix then Some (drop (length prefix) text) else None

-- word is the longest run of the class at the front of the text, and rest is what follows it
pub record IsRun (class : Class) (text word rest : List ℕ) : Type 0 where
  pub whole : text ≡ word ++ rest
  pub within : list_all (passes class) word ≡ true
  pub ends : prefix_len (passes class) rest ≡ 0

-- after spaces, if any, the text goes on with rest, which begins with no space
abbrev pub IsAfterSpaces : List ℕ → List ℕ → Type 0
IsAfterSpaces text rest = (spaces : List ℕ) × IsRun Space text spaces rest
