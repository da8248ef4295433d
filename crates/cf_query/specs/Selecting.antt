-- The entries of a log that an expression selects, by the words that it compares.
use Rattle.std.specs.Prelude.{ℕ, ◌≡◌, ◌<◌, Bool, true, false, ◌&&◌, List, length, take, slice_index_or}
use Rattle.std.specs.List.{list_all}
use Rattle.cf_row.specs.declared.schema.Attr.{Attr}
use Rattle.cf_row.specs.declared.row.Value.{Value}
use Rattle.cf_row.specs.declared.row.Value.TheVariants.{Num, Raw}
use Rattle.cf_row.specs.declared.expr.Atom.{Atom}
use Rattle.cf_row.specs.Expr.{atom_suits}
use Rattle.cf_row.specs.Words.{word_count}
use Rattle.cf_table.specs.Values.{LogValue}

-- the log, and the expression that selects entries of it
pub record SelectionValue : Type 0 where
  pub log : LogValue
  pub expr : List (List Atom)

-- Number k of the list is the place of the first word of attribute k among the words of an entry: so many words come before it.
abbrev pub ArePlaces : List Attr → List ℕ → Type 0
ArePlaces attrs places = (k : ℕ) → k < length attrs → slice_index_or places k 0 ≡ word_count (take k attrs)

-- the value is a number, and no string of bytes
abbrev pub is_plain : Value → Bool
is_plain (Num n) = true
is_plain (Raw len bytes) = false

-- the atom suits its attribute, and compares a number
abbrev pub compares_number : List Attr → Atom → Bool
compares_number attrs atom = atom_suits attrs atom && is_plain atom.low

-- so does each atom of these conjunctions
abbrev pub compare_numbers : List Attr → List (List Atom) → Bool
compare_numbers attrs expr = list_all (list_all (compares_number attrs)) expr
