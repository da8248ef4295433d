-- Passes that may take their first ticket.
use Rattle.std.specs.Prelude.{ℕ, ◌≡◌, List, [], ◌∷◌, Some, None, slice_get, false}
use Rattle.cf_law.specs.Passes.{Book}
use Rattle.cf_table.specs.Values.{PassValue, LogValue, IsOf}

-- the pass has one book, which isn't marked and has no ticket in flight
pub record IsFresh (log : LogValue) (pass : PassValue) : Type 0 where
  pub of : IsOf pass log
  pub book : Book
  pub one : (pass.view).books ≡ book ∷ []
  pub free : book.over ≡ false
  pub rests : book.flight ≡ None

-- each of the passes may take its first ticket in the log
abbrev pub AreFresh : LogValue → List PassValue → Type 0
AreFresh log hs = (k : ℕ) (h : PassValue) → slice_get hs k ≡ Some h → IsFresh log h
