-- With which number the program ends, and what that says of the work.
use Rattle.std.specs.Prelude.{◌≡◌, ◌⊎◌, ℕ, List, [], Some, None, Option, IfSome}
use Rattle.std.specs.Io.KnownBytes.{Appends}
use Rattle.cf_command.specs.Call.{Call}
use Rattle.cf_outside.specs.Files.{File}
use Rattle.cf_table.specs.Moves.{SealValue}
use Rattle.cf_run.specs.Answers.{RunAnswers, Yields, IsDecided, IsByCall, number_of}
use Rattle.cf_intake.specs.Devices.{WritesFront}
use Rattle.cf_run.specs.Due.{IsLawful}
use Rattle.cf_intake.specs.Refusals.{line_of}
use Rattle.cf_intake.specs.declared.refusal.Refusal.TheVariants as refusals
use Rattle.cf_run.specs.declared.status.Status.{Status}
use Rattle.cf_run.specs.declared.status.Status.TheVariants.{Done, Words, WriteFault}

-- The number is that of a status to which a run of this call came, with some seals: what `run` says of the status and the seals of its
-- outcome holds of them.
pub record HasExited (told : Option (List File)) (call : Option Call) (held now before after : Option (List ℕ)) (number : ℕ) : Type 0 where
  pub status : Status
  pub seals : List SealValue
  pub number_is : number ≡ number_of status
  pub written : RunAnswers told call status seals held now before after
  pub by_command : IsByCall call status seals
  pub no_seals : (status ≡ Done → ⊥) → seals ≡ []
  pub decided : IfSome told (λ files. IsDecided files call status)
  pub complete : IfSome told (λ files. IsLawful (Some files) call → (status ≡ Done) ⊎ Yields status)
  pub words : status ≡ Words → (call ≡ None) × Appends held now (line_of refusals.Words)
  pub no_words_front : call ≡ None → status ≡ WriteFault → WritesFront held now (line_of refusals.Words)

-- the number is that of a status to which the call may come, whatever the files are
abbrev pub EndsBy : Option Call → ℕ → Type 0
EndsBy call number = (status : Status) × (seals : List SealValue) × (number ≡ number_of status) × IsByCall call status seals
