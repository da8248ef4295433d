-- What an ask does to the pass that makes it.
use Rattle.std.specs.Prelude.{ℕ, ◌≡◌, ◌≤◌, [], ◌∷◌, ◌++◌, length}
use Rattle.cf_shape.specs.Lanes.{ShapeValue}
use Rattle.cf_law.specs.Words.{Spot}
use Rattle.cf_law.specs.Steps.{Knows}
use Rattle.cf_table.specs.Values.{PassValue}
use Rattle.cf_table.specs.Moves.{Begins, HoldsAllBooks, AreFit, SeenFirst}

-- The pass asked once: the read tail was loaded for an ask, and as many entries are seen then, with those seen before as
-- their beginning. All else that it holds is as it was, it knows each node that it knew, and while all books are home no
-- entry is new.
pub record HasAsked (shape : ShapeValue) (before after : PassValue) : Type 0 where
  pub same : after ≡ record before { view = after.view }
  pub tails : (after.view).tails ≡ (before.view).tails ++ length (after.view).seen ∷ []
  pub longer : Begins (before.view).seen (after.view).seen
  pub books : (after.view).books ≡ (before.view).books
  pub told : (after.view).told ≡ (before.view).told
  pub stays : HoldsAllBooks shape before.view → (after.view).seen ≡ (before.view).seen
  pub few : length (after.view).seen ≤ shape.capacity
  pub fit : AreFit shape after.view
  pub first : SeenFirst after.view
  pub knows : (s : Spot) (node : ℕ) → Knows before.view s node → Knows after.view s node
