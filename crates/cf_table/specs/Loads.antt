-- How many words a pass loads.
use Rattle.std.specs.Prelude.{ℕ, ◌+◌, ◌≤◌}
use Rattle.cf_table.specs.Values.{PassValue}

-- No word was loaded beside the steps: the pass made no more loads than the steps grew by.
abbrev pub CountsLoads : PassValue → PassValue → ℕ → ℕ → Type 0
CountsLoads m n before after = ((n.view).look).count + before ≤ ((m.view).look).count + after
