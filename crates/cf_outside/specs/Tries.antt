-- What the real devices make of std's answers.
use Rattle.std.specs.Prelude.{◌≡◌, ℕ, ◌↔◌, List, Some, None, Option, Result, Ok, Err}
use Rattle.std.specs.IoError.{error_kind}
use Rattle.std.specs.declared.io.Error.{Error}
use Rattle.std.specs.declared.io.ErrorKind.{ErrorKind}
use Rattle.std.specs.declared.io.ErrorKind.TheVariants as kinds
use Rattle.cf_outside.specs.declared.shelf.Failed.{Failed as DeviceFailed}
use Rattle.cf_outside.specs.declared.shelf.OpenFault.{OpenFault}
use Rattle.cf_outside.specs.declared.shelf.OpenFault.TheVariants.{Missing, Memory}

-- what an error of that kind means at an open: there is no such file, memory ran out, or else the device has failed
pub record Means (kind : ErrorKind) (fault : OpenFault) : Type 0 where
  pub missing : (fault ≡ Missing) ↔ (kind ≡ kinds.NotFound)
  pub memory : (fault ≡ Memory) ↔ (kind ≡ kinds.OutOfMemory)

-- What a try comes to: nothing where a signal interrupted it, and else what it did, or a failure.
abbrev pub Settles : {T : Type 0} → Result T Error → Option (Result T DeviceFailed) → Type 0
Settles (Ok done) settled = settled ≡ Some (Ok done)
Settles (Err error) None = error_kind error ≡ kinds.Interrupted
Settles (Err error) (Some (Ok done)) = ⊥
Settles (Err error) (Some (Err failed)) = error_kind error ≡ kinds.Interrupted → ⊥

-- What an answer of the system to an open comes to, where a file has so much left: the file is what is read next. After an error, which means
-- a fault, what is left stays.
abbrev pub TakesOpened : {F : Type 0} → (F → Option (List ℕ)) → Result F Error → Option (List ℕ) → Option (List ℕ) → Result (Unit {0}) OpenFault → Type 0
TakesOpened remaining (Ok file) before now (Ok done) = now ≡ remaining file
TakesOpened remaining (Ok file) before now (Err fault) = ⊥
TakesOpened remaining (Err error) before now (Ok done) = ⊥
TakesOpened remaining (Err error) before now (Err fault) = Means (error_kind error) fault × (now ≡ before)
