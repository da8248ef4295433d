-- When a device may say that it failed: only where its count of faults rose.
use Rattle.std.specs.Prelude.{◌≡◌, ℕ, ◌+◌, ◌-◌, ◌^◌, ◌<◌, ◌≤◌, min, Bool, true, false, List, length, Result, Ok, Err, OnErr, IfOk}
use Rattle.cf_outside.specs.declared.shelf.OpenFault.{OpenFault}
use Rattle.cf_outside.specs.declared.shelf.OpenFault.TheVariants.{Missing, Failed, Memory}

-- the next number of a counter, which stops at its last value
abbrev pub count_up : ℕ → ℕ
count_up count = min (count + 1) (2 ^ 64 - 1)

-- the count rose, or stands at its last value
abbrev pub Rose : ℕ → ℕ → Type 0
Rose before now = count_up before ≤ now

-- of a call whose every error is a failure of the device: the count never falls, and rose if the call failed
pub record HasCause {T E : Type 0} (before now : ℕ) (result : Result T E) : Type 0 where
  pub later : before ≤ now
  pub failed : OnErr result (Rose before now)

-- of a call that can fail otherwise too: the count never falls, and rose if the call failed so
pub record HasCauseWhen {T E : Type 0} (failure : E) (before now : ℕ) (result : Result T E) : Type 0 where
  pub later : before ≤ now
  pub failed : result ≡ Err failure → Rose before now

-- as an `open`
abbrev pub HasOpenCause : ℕ → ℕ → Result (Unit {0}) OpenFault → Type 0
HasOpenCause before now result = HasCauseWhen Failed before now result

-- whether an `open` was refused because the device failed
abbrev pub is_failed : Result (Unit {0}) OpenFault → Bool
is_failed (Ok done) = false
is_failed (Err Missing) = false
is_failed (Err Failed) = true
is_failed (Err Memory) = false

-- a device takes at most what it was given, and something of it unless it was given nothing
abbrev pub TakesSome : {E : Type 0} → Result ℕ E → List ℕ → Type 0
TakesSome result piece = IfOk result (λ n. (n ≤ length piece) × (0 < length piece → 0 < n))
