-- What comes of two calls that ran at the same time: rows were taken, and others were read.
use Rattle.std.specs.Prelude.{◌≡◌, Result, Ok, Err}
use Rattle.cf_intake.specs.declared.refusal.Halt.{Halt}
use Rattle.cf_intake.specs.declared.refusal.Halt.TheVariants.{Stopped}
use Rattle.cf_intake.specs.declared.refusal.Stop.{Stop}
use Rattle.cf_intake.specs.declared.refusal.Stop.TheVariants.{Memory}

-- The rows that were read, if both calls succeeded. Else why the reading stopped, if it did, and then that memory ran out.
abbrev pub GivesBoth : {A B E : Type 0} → (taken : Result A E) (given : Result B Stop) → Result B Halt → Type 0
GivesBoth taken (Err stop) result = result ≡ Err (Stopped stop)
GivesBoth (Err error) (Ok rows) result = result ≡ Err (Stopped Memory)
GivesBoth (Ok done) (Ok rows) result = result ≡ Ok rows
