-- Files by name.
use Rattle.std.specs.Prelude.{◌≡◌, ℕ, List, [], ◌∷◌, drop, if◌then◌else◌, Result, Ok, Err, OnErr, MatchResult}
use Rattle.std.specs.Io.KnownBytes.{Appends, Keeps}
use Rattle.std.specs.Str.{bytes_eq}
use Rattle.std.specs.declared.option.Option.{Option}
use Rattle.std.specs.declared.option.Option.TheVariants.{Some, None}
use Rattle.cf_outside.specs.declared.shelf.OpenFault.{OpenFault}
use Rattle.cf_outside.specs.declared.shelf.OpenFault.TheVariants.{Missing, Failed, Memory}

-- a file as contracts see it
pub record File : Type 0 where
  pub name : List ℕ
  pub bytes : List ℕ

-- the bytes of the file of that name; the newest comes first
abbrev pub file_named : List File → List ℕ → Option (List ℕ)
file_named [] name = None
file_named (file ∷ files) name = if bytes_eq file.name name then Some file.bytes else file_named files name

-- Ok: the name has a file, and its bytes are now what is left. Missing: it has none. What is left stays after a refusal.
abbrev pub OpensIn : List File → List ℕ → Option (List ℕ) → Option (List ℕ) → Result (Unit {0}) OpenFault → Type 0
OpensIn files name before now (Ok done) = (bytes : List ℕ) × (file_named files name ≡ Some bytes) × (now ≡ Some bytes)
OpensIn files name before now (Err Missing) = (file_named files name ≡ None) × (now ≡ before)
OpensIn files name before now (Err Failed) = now ≡ before
OpensIn files name before now (Err Memory) = now ≡ before

-- the same where the files are told; where they are not, what is left still stays after a refusal
abbrev pub Opens : Option (List File) → List ℕ → Option (List ℕ) → Option (List ℕ) → Result (Unit {0}) OpenFault → Type 0
Opens None name before now result = OnErr result (now ≡ before)
Opens (Some files) name before now result = OpensIn files name before now result

-- the files of a shelf in memory, and what is left of the opened one
pub record PileValue : Type 0 where
  pub files : List File
  pub rest : List ℕ

-- what is left of a file from a place on
abbrev pub rest_from : Option File → ℕ → List ℕ
rest_from None at = []
rest_from (Some file) at = drop at file.bytes

-- A call of `read` is noted: how many bytes it moved stands behind what earlier ones moved. One that failed is not.
abbrev pub Notes : {E : Type 0} → (before now : Option (List ℕ)) → Result ℕ E → Type 0
Notes before now result = MatchResult result (λ n. Appends before now (n ∷ [])) (λ _. Keeps before now)

-- what a shelf tells of its reads: what is left of the opened file, and how many bytes each call of `read` has moved
pub record ShelfView : Type 0 where
  pub rest : Option (List ℕ)
  pub moved : Option (List ℕ)
