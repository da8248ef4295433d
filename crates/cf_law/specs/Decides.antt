-- Tests for the conditions that speak of all words or lanes.
use Rattle.std.specs.Prelude.{ℕ, zero, suc, List, Bool, true, false, cond, Option, Some, None}
use Rattle.cf_shape.specs.Uses.{Use}
use Rattle.cf_law.specs.Words.{Layout, Ticket, has}
use Rattle.cf_shape.specs.Uses.Use.{plain, version}

-- whether there is no value
abbrev pub is_none : {A : Type 0} → Option A → Bool
is_none None = true
is_none (Some a) = false

-- whether a lane is done with: it doesn't select the row, whose path in it is then None, or the ticket is linked there, as the second says
abbrev pub linked_if : Option (List ℕ) → Bool → Bool
linked_if None b = true
linked_if (Some q) b = b

-- whether a word of this use is passed over: it is of the cell of a lane that doesn't select the ticket's row
abbrev pub skips : Layout → Ticket → Use → Bool
skips layout t (plain i) = false
skips layout t (version l j) = is_none (layout.path t.row l)

-- whether the n words from word k on are all passed over
unfoldable pub skips_all : Layout → Ticket → ℕ → ℕ → Bool
skips_all layout t k zero = true
skips_all layout t k (suc n) = cond (skips layout t (layout.use_of k)) (skips_all layout t (suc k) n) false

-- whether the ticket is linked in each of the lanes below n that selects it
unfoldable pub linked_all : Layout → Ticket → ℕ → Bool
linked_all layout t zero = true
linked_all layout t (suc n) = cond (linked_if (layout.path t.row n) (has t.linked n)) (linked_all layout t n) false
