-- The text of a setup with one line more was read.
use Rattle.std.proofs.Common.{◌≡◌, ℕ, List, Result, Ok, Err, inl, refl, subst}
use Rattle.cf_setup.specs.Setups.{SetupValue}
use Rattle.cf_setup.specs.SetupText.{SetupText}
use Rattle.cf_setup.specs.Reading.{Answers}
use Rattle.cf_setup.specs.declared.parse.SetupFault.{SetupFault}
use Rattle.cf_setup.specs.declared.parse.SetupFault.TheVariants.{Bad}
use Rattle.cf_plain.specs.declared.ask.Ask.{Ask}
use Rattle.cf_table.specs.Values.{PassValue}
use Rattle.cf_store.specs.declared.held.Shared.{Shared}
use Rattle.cf_store.specs.Asks.{AnswersLine, IsNewQuestion, ReadsLine, SaysQuestion, with_line}
use Rattle.cf_store.specs.declared.refusals.LineRefusal.{LineRefusal}
use Rattle.cf_store.specs.declared.refusals.LineRefusal.TheVariants.{Setup, NoQuestion, Memory}
use Rattle.cf_store.proofs.Opened.{lawful}

-- what is found of a text, and nothing else is
abbrev Found : List ℕ → Result SetupValue SetupFault → Type 0
Found bytes r = (read : Result SetupValue (ℕ × ℕ)) × SetupText bytes read × Answers r read

abbrev Only : List ℕ → Result SetupValue SetupFault → Type 0
Only bytes r = (read : Result SetupValue (ℕ × ℕ)) → SetupText bytes read → Answers r read

only_setup : (bytes : List ℕ) (setup other : SetupValue) (r : Result SetupValue SetupFault) → Only bytes r → r ≡ Ok setup → SetupText bytes (Ok other)
    → other ≡ setup
only_setup bytes setup other r only is at =
    let a : Answers (Ok setup) (Ok other) = subst (λ (x : Result SetupValue SetupFault). Answers x (Ok other)) is (only (Ok other) at) in cc a

only_fault : (bytes : List ℕ) (number code : ℕ) (other : SetupValue) (r : Result SetupValue SetupFault) → Only bytes r → r ≡ Err (Bad number code)
    → SetupText bytes (Ok other) → ⊥
only_fault bytes number code other r only is at =
    let a : Answers (Err (Bad number code)) (Ok other) = subst (λ (x : Result SetupValue SetupFault). Answers x (Ok other)) is (only (Ok other) at) in
    absurd (cc a)

fault_found : (bytes : List ℕ) (number code : ℕ) (r : Result SetupValue SetupFault) → Found bytes r → r ≡ Err (Bad number code)
    → SetupText bytes (Err (number, code))
fault_found bytes number code r found is =
    let a : Answers (Err (Bad number code)) found.0 = subst (λ (x : Result SetupValue SetupFault). Answers x found.0) is found.2 in
    subst (SetupText bytes) a found.1

pub line_lawful : (text line bytes : List ℕ) (setup : SetupValue) (r : Result SetupValue SetupFault) → bytes ≡ with_line text line → Found bytes r
    → Only bytes r → r ≡ Ok setup
    → ReadsLine text line (Ok setup)
line_lawful text line bytes setup r same found only is =
    subst (λ (b : List ℕ). SetupText b (Ok setup) × ((other : SetupValue) → SetupText b (Ok other) → other ≡ setup)) same
    (lawful bytes setup r found is, λ other at. only_setup bytes setup other r only is at)

pub line_faulty : (text line bytes : List ℕ) (number code : ℕ) (r : Result SetupValue SetupFault) → bytes ≡ with_line text line → Found bytes r
    → Only bytes r → r ≡ Err (Bad number code)
    → ReadsLine text line (Err (Setup number code))
line_faulty text line bytes number code r same found only is =
    subst (λ (b : List ℕ). SetupText b (Err (number, code)) × ((other : SetupValue) → SetupText b (Ok other) → ⊥)) same
    (fault_found bytes number code r found is, λ other at. only_fault bytes number code other r only is at)

-- a line that is refused, before anything is asked
pub refused_line : (shared : Shared) (line : List ℕ) (m : PassValue) (refusal : LineRefusal) → ReadsLine shared.text.items line (Err refusal)
    → AnswersLine shared line m m (Err refusal)
refused_line shared line m (Setup number code) read = (refl, read.0)
refused_line shared line m NoQuestion read = absurd read
refused_line shared line m Memory read = inl refl

-- a line behind which there is no new question says none
pub none_said : (shared : Shared) (line : List ℕ) (longer : SetupValue) → ReadsLine shared.text.items line (Ok longer)
    → ((ask : Ask) → IsNewQuestion shared longer ask → ⊥) → (ask : Ask) → SaysQuestion shared line ask → ⊥
none_said shared line longer read none ask says =
    none ask (subst (λ (s : SetupValue). IsNewQuestion shared s ask) (read.1 says.longer says.text) says.new)
