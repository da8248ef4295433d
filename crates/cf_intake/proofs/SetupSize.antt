-- A setup that was read as far as the limit.
use Rattle.std.proofs.Common.{◌≡◌, ◌⊎◌, ℕ, ◌+◌, ◌≤◌, ◌<◌, List, [], ◌++◌, length, Option, Result, Ok, Err, refl, sym, ap, ◌∙◌, subst, inl, inr, arith, append-nil, length-append}
use Rattle.cf_outside.specs.Files.{File}
use Rattle.cf_setup.proofs.SetupReads.{setup_only}
use Rattle.cf_setup.specs.declared.parse.SetupFault.{SetupFault}
use Rattle.cf_setup.specs.declared.parse.SetupFault.TheVariants as setup_faults
use Rattle.cf_setup.specs.Reading.{Answers}
use Rattle.cf_setup.specs.Setups.{SetupValue}
use Rattle.cf_setup.specs.SetupText.{SetupText}
use Rattle.cf_setup.specs.SetupText.SetupText.{whole, faulty, empty, large}
use Rattle.cf_intake.specs.Devices.{IsFileRead}
use Rattle.cf_intake.specs.Files.{setups, IsReadAs, Halts}
use Rattle.cf_intake.specs.Refusals.{unset}
use Rattle.cf_intake.proofs.Loading.{Ends, read_as, read_broken}
use Rattle.cf_intake.proofs.Taking.{stopped_read}

pub ok_no_err : (setup : SetupValue) (fault : ℕ × ℕ) → ◌≡◌ {A = Result SetupValue (ℕ × ℕ)} (Ok setup) (Err fault) → ⊥
ok_no_err setup fault h = cc

-- no setup is long
pub setup_short : (bytes : List ℕ) (setup : SetupValue) → SetupText bytes (Ok setup) → length bytes ≤ 65536
setup_short bytes setup (whole stated attrs few said schema is) = few
setup_short bytes setup (faulty front rest line before code few lines said bad is) = few
setup_short bytes setup (empty stated few said schema is) = few
setup_short bytes setup (large many is) = absurd (ok_no_err setup (0, 9) is)

setups_end : Ends setups
setups_end bytes setup text = let short : length bytes ≤ 65536 = setup_short bytes setup text in omega (arith, short)

-- one text, one outcome
pub one_text : (bytes : List ℕ) (a b : Result SetupValue (ℕ × ℕ)) → SetupText bytes a → SetupText bytes b → a ≡ b
one_text bytes a b p q = (setup_only bytes).only a p ∙ sym ((setup_only bytes).only b q)

-- a text that is read as far as the limit has the fault of the whole
fault_longer : (bytes rest : List ℕ) (line code : ℕ) → (rest ≡ []) ⊎ (length bytes ≡ 65537) → SetupText bytes (Err (line, code))
    → SetupText (bytes ++ rest) (Err (line, code))
fault_longer bytes rest line code all text = elim all [
  | inl end ↦ let same : bytes ≡ bytes ++ rest = sym (ap (λ xs. bytes ++ xs) end ∙ append-nil bytes) in
      subst (λ (xs : List ℕ). SetupText xs (Err (line, code))) same text
  | inr more ↦
      let many : 65536 < length bytes = omega (arith, more) in
      let len : length (bytes ++ rest) ≡ length bytes + length rest = length-append bytes rest in
      let same : ◌≡◌ {A = Result SetupValue (ℕ × ℕ)} (Err (line, code)) (Err (0, 9)) = one_text bytes (Err (line, code)) (Err (0, 9)) text (large many refl) in
      subst (λ (read : Result SetupValue (ℕ × ℕ)). SetupText (bytes ++ rest) read) (sym same) (large (omega (arith, more, len)) refl)
]

-- the text of a parsed setup
pub text_of_ok : (bytes : List ℕ) (setup : SetupValue) → (read : Result SetupValue (ℕ × ℕ)) × SetupText bytes read × Answers (Ok setup) read
    → SetupText bytes (Ok setup)
text_of_ok bytes setup found = subst (λ (read : Result SetupValue (ℕ × ℕ)). SetupText bytes read) found.2 found.1

pub text_of_err : (bytes : List ℕ) (line code : ℕ) → (read : Result SetupValue (ℕ × ℕ)) × SetupText bytes read
    × Answers (Err (setup_faults.Bad line code)) read → SetupText bytes (Err (line, code))
text_of_err bytes line code found = subst (λ (read : Result SetupValue (ℕ × ℕ)). SetupText bytes read) found.2 found.1

-- a setup that was read
pub setup_read : (told : Option (List File)) (name bytes : List ℕ) (now : Option (List ℕ)) (setup : SetupValue) → IsFileRead told name 65537 now bytes
    → SetupText bytes (Ok setup) → IsReadAs setups told name now setup
setup_read told name bytes now setup read text = read_as setups setups_end told name bytes now setup read text

-- what is no setup
pub setup_halts : (told : Option (List File)) (name bytes : List ℕ) (before now : Option (List ℕ)) (fault : SetupFault) → IsFileRead told name 65537 now bytes
    → (read : Result SetupValue (ℕ × ℕ)) × SetupText bytes read × Answers (Err fault) read → Halts setups told name before now (unset fault)
setup_halts told name bytes before now (setup_faults.Bad line code) read found =
    read_broken setups fault_longer told name bytes before now line code read (text_of_err bytes line code found)
setup_halts told name bytes before now setup_faults.Memory read found = stopped_read told name 65537 before now bytes read
