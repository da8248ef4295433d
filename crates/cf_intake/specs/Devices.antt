-- Files read and texts written over devices.
use Rattle.std.specs.Prelude.{◌≡◌, ◌⊎◌, ℕ, ◌≤◌, List, [], ◌++◌, length, Some, None, Option, Result, Ok, Err, Vec}
use Rattle.std.specs.Io.KnownBytes.{Appends, Consumes, IsAtEnd}
use Rattle.std.specs.declared.alloc.Global.{Global}
use Rattle.cf_outside.specs.Files.{File}
use Rattle.cf_intake.specs.Files.{HasFile, HasLeft, IsStopped}
use Rattle.cf_intake.specs.declared.devices.ReadError.{ReadError}
use Rattle.cf_intake.specs.declared.devices.ReadError.TheVariants as errors

-- these bytes were taken, at most that many: all up to the end, or just as many
pub record TakesUpTo (before now : Option (List ℕ)) (limit : ℕ) (bytes : List ℕ) : Type 0 where
  pub taken : Consumes before now bytes
  pub most : length bytes ≤ limit
  pub whole : IsAtEnd now ⊎ (length bytes ≡ limit)

-- some bytes were taken, at most that many
pub record TakesAtMost (before now : Option (List ℕ)) (limit : ℕ) : Type 0 where
  pub bytes : List ℕ
  pub taken : Consumes before now bytes
  pub most : length bytes ≤ limit

-- the file of that name begins with these bytes: they are all of it, or that many
pub record IsFileRead (told : Option (List File)) (name : List ℕ) (limit : ℕ) (now : Option (List ℕ)) (bytes : List ℕ) : Type 0 where
  pub rest : List ℕ
  pub file_is : HasFile told name (Some (bytes ++ rest))
  pub left : HasLeft told now (Some rest)
  pub most : length bytes ≤ limit
  pub whole : (rest ≡ []) ⊎ (length bytes ≡ limit)

-- what reading the file of that name answers
abbrev pub ReadsFile : Option (List File) → List ℕ → ℕ → Option (List ℕ) → Option (List ℕ) → Result (Vec ℕ Global) ReadError → Type 0
ReadsFile told name limit before now (Ok bytes) = IsFileRead told name limit now bytes.items
ReadsFile told name limit before now (Err errors.Missing) = HasFile told name None × HasLeft told now before
ReadsFile told name limit before now (Err errors.Failed) = IsStopped told name limit before now
ReadsFile told name limit before now (Err errors.Memory) = IsStopped told name limit before now

-- a front of the text is written
pub record WritesFront (before now : Option (List ℕ)) (text : List ℕ) : Type 0 where
  pub front : List ℕ
  pub rest : List ℕ
  pub text_is : text ≡ front ++ rest
  pub written : Appends before now front
