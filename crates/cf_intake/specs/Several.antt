-- Several files that are read one after another, each to its end, as far as the first that says nothing.
use Rattle.std.specs.Prelude.{◌⊎◌, ℕ, List, [], ◌∷◌, map, Some, Option}
use Rattle.std.specs.Borrow.{Bor}
use Rattle.cf_outside.specs.Files.{File}
use Rattle.cf_intake.specs.Files.{HasLeft, IsStopped, Grammar, IsFileAs, IsFileRefused}
use Rattle.cf_intake.specs.declared.refusal.Halt.{Halt}
use Rattle.cf_intake.specs.declared.refusal.Halt.TheVariants.{Refused, Stopped}
use Rattle.cf_intake.specs.declared.refusal.Refusal.{Refusal}

-- the names behind a list of references
abbrev pub names_in : List (Bor (List ℕ)) → List (List ℕ)
names_in names = map (λ name. name.now) names

-- the files of these names say this, in their order
abbrev pub AreFilesAs : {A : Type 0} → Grammar A → Option (List File) → List (List ℕ) → List A → Type 0
AreFilesAs g told [] [] = Unit {0}
AreFilesAs g told [] (what ∷ whats) = ⊥
AreFilesAs g told (name ∷ names) [] = ⊥
AreFilesAs g told (name ∷ names) (what ∷ whats) = IsFileAs g told name what × AreFilesAs g told names whats

-- why the first file that says nothing says nothing; each before it was read to its end
abbrev pub AreFilesRefused : {A : Type 0} → Grammar A → Option (List File) → List (List ℕ) → Option (List ℕ) → Option (List ℕ) → Refusal → Type 0
AreFilesRefused g told [] before now why = ⊥
AreFilesRefused {A} g told (name ∷ names) before now why = IsFileRefused g told name before now why
    ⊎ ((what : A) × IsFileAs g told name what × AreFilesRefused g told names (Some []) now why)

-- What is left after a stop in the file that is read: each before it was read to its end. It may be that all were.
abbrev pub AreStopped : {A : Type 0} → Grammar A → Option (List File) → List (List ℕ) → Option (List ℕ) → Option (List ℕ) → Type 0
AreStopped g told [] before now = HasLeft told now before
AreStopped {A} g told (name ∷ names) before now = IsStopped told name g.limit before now
    ⊎ ((what : A) × IsFileAs g told name what × AreStopped g told names (Some []) now)

-- the files were read to their ends, after another that was, and say this
abbrev pub AreReadAs : {A : Type 0} → Grammar A → Option (List File) → List (List ℕ) → Option (List ℕ) → List A → Type 0
AreReadAs g told names now whats = AreFilesAs g told names whats × HasLeft told now (Some [])

-- why reading them has no result
abbrev pub AreHalted : {A : Type 0} → Grammar A → Option (List File) → List (List ℕ) → Option (List ℕ) → Option (List ℕ) → Halt → Type 0
AreHalted g told names before now (Refused why) = AreFilesRefused g told names before now why
AreHalted g told names before now (Stopped stop) = AreStopped g told names before now
