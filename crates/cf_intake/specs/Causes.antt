-- A device's fault is reported only if the device failed: its count of faults never falls, and rose then.
use Rattle.std.specs.Prelude.{ℕ, Result}
use Rattle.cf_outside.specs.Causes.{HasCauseWhen}
use Rattle.cf_intake.specs.declared.devices.ReadError.{ReadError}
use Rattle.cf_intake.specs.declared.devices.ReadError.TheVariants.{Failed}
use Rattle.cf_intake.specs.declared.refusal.Halt.{Halt}
use Rattle.cf_intake.specs.declared.refusal.Halt.TheVariants.{Stopped}
use Rattle.cf_intake.specs.declared.refusal.Stop.{Stop}
use Rattle.cf_intake.specs.declared.refusal.Stop.TheVariants.{ReadFault}

-- of a call that reads a file,
abbrev pub HasReadCause : {T : Type 0} → ℕ → ℕ → Result T ReadError → Type 0
HasReadCause before now result = HasCauseWhen Failed before now result

-- of one that ends with a stop,
abbrev pub HasStopCause : {T : Type 0} → ℕ → ℕ → Result T Stop → Type 0
HasStopCause before now result = HasCauseWhen ReadFault before now result

-- and of one that refuses or stops
abbrev pub HasHaltCause : {T : Type 0} → ℕ → ℕ → Result T Halt → Type 0
HasHaltCause before now result = HasCauseWhen (Stopped ReadFault) before now result
