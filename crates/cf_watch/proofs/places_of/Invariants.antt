use Rattle.std.proofs.Common.{◌≡◌, ℕ, take, Option}
use Rattle.std.specs.List.{list_any}
use Rattle.std.specs.BTreeSet.{contains}
use Rattle.cf_watch.specs.New.{is_on, place_cmp}
use Rattle.cf_watch.proofs.places_of.Given as goal

abbrev pub invariant-loop-mark : goal.invariant-loop-mark
invariant-loop-mark l = (q : ℕ × Option ℕ) → contains place_cmp l.places q ≡ list_any (is_on q) (take l.mark-index l.marks)
