-- Questions that go over all entries, asked of a stretch of them.
use Rattle.std.specs.Prelude.{ℕ, ◌≤◌, ◌-◌, Bool, true, false, List, length, take, drop}
use Rattle.cf_plain.specs.declared.ask.Ask.{Ask}
use Rattle.cf_plain.specs.declared.ask.Ask.TheVariants as asks

-- a list or a total, which no lane answers
abbrev pub goes_over_all : Ask → Bool
goes_over_all (asks.List expr) = true
goes_over_all (asks.Find lane low high) = false
goes_over_all (asks.Between lane low high) = false
goes_over_all (asks.Measure lane low high) = false
goes_over_all (asks.Fired trigger) = false
goes_over_all (asks.Top lane part n) = false
goes_over_all (asks.Groups lane) = false
goes_over_all (asks.Total attr expr) = true

-- the elements from the first place up to the second, without that
abbrev pub stretch : {X : Type 0} → ℕ → ℕ → List X → List X
stretch from to xs = take (to - from) (drop from xs)

-- such a stretch lies within the list
pub record IsStretch {X : Type 0} (from to : ℕ) (xs : List X) : Type 0 where
  pub ends : from ≤ to
  pub within : to ≤ length xs
