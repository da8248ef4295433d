-- Which calls of a device in memory fail.
use Rattle.std.specs.Prelude.{ℕ, ◌==◌, Bool, List, if◌then◌else◌}
use Rattle.std.specs.List.{list_any}
use Rattle.cf_outside.specs.Causes.{count_up}

-- the calls made so far, the numbers of those that are to fail, and how many failed
pub record ScriptValue : Type 0 where
  pub calls : ℕ
  pub failing : List ℕ
  pub faults : ℕ

-- before the first call
abbrev pub script_of : List ℕ → ScriptValue
script_of failing = record { calls = 0; failing = failing; faults = 0 }

-- whether the next call is to fail; calls are numbered from 1
abbrev pub fails_next : ScriptValue → Bool
fails_next script = list_any (λ number. number == count_up script.calls) script.failing

-- after one more call, which failed or not
abbrev pub after_call : Bool → ScriptValue → ScriptValue
after_call failed script = record {
  calls = count_up script.calls;
  failing = script.failing;
  faults = if failed then count_up script.faults else script.faults;
}
