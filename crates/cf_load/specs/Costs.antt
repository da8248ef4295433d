-- What questions cost in logs that stand one behind the other.
use Rattle.std.specs.Prelude.{ℕ, ◌+◌, ◌≤◌, List, length}
use Rattle.std.specs.List.{sum_by}
use Rattle.cf_row.specs.declared.row.Entry.{Entry}
use Rattle.cf_plain.specs.Asks.{eval}
use Rattle.cf_plain.specs.declared.ask.Ask.{Ask}
use Rattle.cf_query.specs.Walking.{lane_of, steps_of_one, steps_of_bucket}
use Rattle.cf_shape.specs.Lanes.{ShapeValue}
use Rattle.cf_table.specs.Values.{PassValue}

-- the most steps of a question for the entries of one key, in a log of these entries: its answer is that on them alone
abbrev pub key_steps : ShapeValue → Ask → List Entry → ℕ
key_steps shape ask entries = steps_of_one shape (lane_of ask) (eval shape ask entries) (length entries)

-- the most steps of a question for what is measured under one bucket, in a log of these entries
abbrev pub bucket_steps : ShapeValue → Ask → List Entry → ℕ
bucket_steps shape ask entries = steps_of_bucket shape (lane_of ask) (length entries)

-- the same of passes over several logs, each asked once of what it has seen
abbrev pub key_steps_in : ShapeValue → Ask → List PassValue → ℕ
key_steps_in shape ask passes = sum_by (λ (pass : PassValue). key_steps shape ask (pass.view).seen) passes

abbrev pub bucket_steps_in : ShapeValue → Ask → List PassValue → ℕ
bucket_steps_in shape ask passes = sum_by (λ (pass : PassValue). bucket_steps shape ask (pass.view).seen) passes

-- how many words a pass has loaded
abbrev pub loads_of : PassValue → ℕ
loads_of pass = ((pass.view).look).count

-- No word was loaded beside the steps: the passes made no more loads than the steps grew by.
abbrev pub CountLoads : List PassValue → List PassValue → ℕ → ℕ → Type 0
CountLoads old new before after = sum_by loads_of new + before ≤ sum_by loads_of old + after
