-- What a file says by a grammar, and what is left of it when it was read.
use Rattle.std.specs.Prelude.{◌≡◌, ◌⊎◌, ℕ, ◌≤◌, Bool, List, [], drop, length, Some, None, Ok, Err, Option}
use Rattle.cf_row.specs.declared.schema.Attr.{Attr}
use Rattle.cf_outside.specs.Files.{File, file_named}
use Rattle.cf_setup.specs.declared.source.Source.{Source}
use Rattle.cf_setup.specs.Setups.{SetupValue}
use Rattle.cf_setup.specs.SetupText.{SetupText}
use Rattle.cf_intake.specs.Faults.{HasFaultTo}
use Rattle.cf_intake.specs.Rows.{CaptureValue, AreRowsTo, limit_by}
use Rattle.cf_intake.specs.declared.refusal.Halt.{Halt}
use Rattle.cf_intake.specs.declared.refusal.Halt.TheVariants.{Refused, Stopped}
use Rattle.cf_intake.specs.declared.refusal.Refusal.{Refusal}
use Rattle.cf_intake.specs.declared.refusal.Refusal.TheVariants.{NoFile, Setup, Capture}

-- where the shelf tells its files: the file of that name is this, or there is none
abbrev pub HasFile : Option (List File) → List ℕ → Option (List ℕ) → Type 0
HasFile None name file = Unit {0}
HasFile (Some files) name file = file_named files name ≡ file

-- where the shelf tells its files: this is what is left of the opened one
abbrev pub HasLeft : Option (List File) → Option (List ℕ) → Option (List ℕ) → Type 0
HasLeft None now left = Unit {0}
HasLeft (Some files) now left = now ≡ left

-- at most that many bytes of a file were taken, and the others are left
pub record IsTakenFrom (told : Option (List File)) (file : List ℕ) (limit : ℕ) (now : Option (List ℕ)) : Type 0 where
  pub count : ℕ
  pub most : count ≤ limit
  pub left : HasLeft told now (Some (drop count file))

-- what is left after a stop: as before, or some of the named file was taken
abbrev pub IsStopped : Option (List File) → List ℕ → ℕ → Option (List ℕ) → Option (List ℕ) → Type 0
IsStopped told name limit before now = HasLeft told now before ⊎ ((file : List ℕ) × HasFile told name (Some file) × IsTakenFrom told file limit now)

-- A grammar of files: what their bytes say, or at which place they break it, by which rule, and how that is told. No more bytes are
-- read than the limit.
pub record Grammar (A : Type 0) : Type 1 where
  pub limit : ℕ
  pub Says : List ℕ → A → Type 0
  pub Breaks : List ℕ → ℕ → ℕ → Type 0
  pub refusal : ℕ → ℕ → Refusal

-- setups: a fault is told with its line and its code
abbrev pub setups : Grammar SetupValue
setups = record {
  limit = 65537;
  Says = λ bytes setup. SetupText bytes (Ok setup);
  Breaks = λ bytes line code. SetupText bytes (Err (line, code));
  refusal = Setup;
}

-- captures of packets, which may be truncated or not, or files of records of these attributes: a fault is told with its record and its code
abbrev pub captures : (source : Source) (truncated : Bool) → List Attr → Grammar CaptureValue
captures source truncated attrs = record {
  limit = limit_by source;
  Says = λ bytes what. AreRowsTo source truncated attrs bytes what.rows what.cut;
  Breaks = HasFaultTo source truncated attrs;
  refusal = Capture;
}

-- the file of that name says this
pub record IsFileAs {A : Type 0} (g : Grammar A) (told : Option (List File)) (name : List ℕ) (what : A) : Type 0 where
  pub bytes : List ℕ
  pub file : HasFile told name (Some bytes)
  pub says : g.Says bytes what
  pub few : length bytes ≤ g.limit

-- Why the file of that name says nothing: there is none, and nothing was opened, or it breaks the grammar, and was read as far as the
-- limit.
pub data IsFileRefused {A : Type 0} (g : Grammar A) (told : Option (List File)) (name : List ℕ) (before now : Option (List ℕ)) (why : Refusal) : Type 0 where
  missing : HasFile told name None → HasLeft told now before → why ≡ NoFile → IsFileRefused g told name before now why
  broken : (bytes : List ℕ) (place code : ℕ) → HasFile told name (Some bytes) → g.Breaks bytes place code → HasLeft told now (Some (drop g.limit bytes))
      → why ≡ g.refusal place code → IsFileRefused g told name before now why

-- the file was read to its end, and says this
abbrev pub IsReadAs : {A : Type 0} → Grammar A → Option (List File) → List ℕ → Option (List ℕ) → A → Type 0
IsReadAs g told name now what = IsFileAs g told name what × HasLeft told now (Some [])

-- why reading it has no result
abbrev pub Halts : {A : Type 0} → Grammar A → Option (List File) → List ℕ → Option (List ℕ) → Option (List ℕ) → Halt → Type 0
Halts g told name before now (Refused why) = IsFileRefused g told name before now why
Halts g told name before now (Stopped stop) = IsStopped told name g.limit before now
