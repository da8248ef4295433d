-- What a writer wrote, of the entries that were seen.
use Rattle.std.proofs.Common.{◌≡◌, ℕ, suc, ◌<◌, ◌==◌, List, [], ◌∷◌, map, Some, slice_get, refl, ap, inl, inr}
use Rattle.std.proofs.lemmas.Bool.{cases_Bool}
use Rattle.std.specs.List.{AllByRecursion}
use Rattle.cf_row.specs.declared.row.Entry.{Entry}
use Rattle.cf_plain.specs.Order.{written_by}
use Rattle.cf_law.specs.Passes.{Own}
use Rattle.cf_law.specs.Readers.{mine_from}

-- the rows of a book's tickets are what its writer wrote
pub mine_rows : (w k : ℕ) (es : List Entry) → map (λ (own : Own). own.row) (mine_from w k es) ≡ written_by w es
unfolding mine_from
mine_rows w k [] = refl
mine_rows w k (e ∷ es) = elim (cases_Bool (e.writer == w)) [
  | inl own ↦ rw own (ap (λ rs. e.row ∷ rs) (mine_rows w (suc k) es))
  | inr other ↦ rw other (mine_rows w (suc k) es)
]

-- each entry that was seen is of a writer
pub fit_exist : (writers : ℕ) (es : List Entry) → ((o : ℕ) (e : Entry) → slice_get es o ≡ Some e → e.writer < writers)
    → AllByRecursion (λ e. e.writer < writers) es
fit_exist writers [] each = tt
fit_exist writers (e ∷ es) each = (each 0 e refl, fit_exist writers es (λ o x at. each (suc o) x at))
