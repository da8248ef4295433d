-- Paths of rows in lanes, and the words of tickets that are passed over.
use Rattle.std.proofs.Common.{◌≡◌, ℕ, List, cond, Bool, true, false, Option, Some, None, inl, inr, ap, sym, ◌∙◌}
use Rattle.std.proofs.lemmas.Bool.{cases_Bool}
use Rattle.cf_row.specs.Row.{RowValue}
use Rattle.cf_shape.specs.Lanes.{ShapeValue, selected_by, key_of}
use Rattle.cf_shape.specs.Nodes.{levels_of}
use Rattle.cf_shape.specs.Uses.{Use}
use Rattle.cf_shape.specs.Uses.Use.{plain, version}
use Rattle.cf_law.specs.Words.{Layout, Ticket}
use Rattle.cf_law.specs.Law.{Skips}
use Rattle.cf_law.specs.Nibbles.{nibbles}
use Rattle.cf_law.specs.Shapes.{path_in}

pub path_none : (s : ShapeValue) (row : RowValue) (l : ℕ) → selected_by s l row ≡ false → path_in s row l ≡ None
path_none s row l e = ap (λ (b : Bool). cond {A = Option (List ℕ)} b (Some (nibbles (levels_of s l) (key_of s l row))) None) e

pub path_some : (s : ShapeValue) (row : RowValue) (l : ℕ) → selected_by s l row ≡ true → path_in s row l ≡ Some (nibbles (levels_of s l) (key_of s l row))
path_some s row l e = ap (λ (b : Bool). cond {A = Option (List ℕ)} b (Some (nibbles (levels_of s l) (key_of s l row))) None) e

pub some_path : (s : ShapeValue) (row : RowValue) (l : ℕ) (q : List ℕ) → path_in s row l ≡ Some q → selected_by s l row ≡ true
some_path s row l q h = elim (cases_Bool (selected_by s l row)) [
  | inl e ↦ e
  | inr e ↦ absurd (cc (sym (path_none s row l e) ∙ h))
]

-- a word is passed over by the row alone
pub skips_any : (sh : Layout) (t u : Ticket) (x : Use) → t.row ≡ u.row → Skips sh t x → Skips sh u x
skips_any sh t u (plain i) e h = h
skips_any sh t u (version l j) e h = ap (λ (r : RowValue). sh.path r l) (sym e) ∙ h
