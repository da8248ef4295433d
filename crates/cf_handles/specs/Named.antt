-- What calls answer about the setup of a log, which stays as it was.
use Rattle.std.specs.Prelude.{◌≡◌, ℕ, List, length, Option, Some, None, Result, Ok, Err}
use Rattle.std.specs.Arc.{arc_value}
use Rattle.cf_setup.specs.Setups.{SetupValue}
use Rattle.cf_setup.specs.Named.{place_in}
use Rattle.cf_handles.specs.declared.abouts.About.{About}
use Rattle.cf_handles.specs.Abouts.{about_of}
use Rattle.cf_handles.specs.Names.{name_of}
use Rattle.cf_store.specs.declared.held.Log.{Log}
use Rattle.cf_handles.specs.declared.code.Code.{Code}
use Rattle.cf_handles.specs.declared.code.Code.TheVariants as codes
use Rattle.cf_handles.specs.Copied.{Copies}

-- the name was copied as far as there is room, and is so long; or there is none
abbrev pub CopiesName : SetupValue → ℕ → ℕ → List ℕ → List ℕ → Option ℕ → Type 0
CopiesName setup sort number before after (Some long) =
    (name : List ℕ) × (name_of setup sort number ≡ Some name) × ((copied : ℕ) × Copies name 0 before after copied) × (long ≡ length name)
CopiesName setup sort number before after None = (name_of setup sort number ≡ None) × (after ≡ before)

abbrev pub NamesTo : ℕ → ℕ → List ℕ → List ℕ → Log → Log → Result ℕ Code → Type 0
NamesTo sort number before after m n (Ok long) = (n ≡ m) × CopiesName (arc_value m.of).setup sort number before after (Some long)
NamesTo sort number before after m n (Err code) = (n ≡ m) × CopiesName (arc_value m.of).setup sort number before after None × (code ≡ codes.NoName)

-- what the setup says of it, or that there is nothing
abbrev pub IsAbout : ℕ → ℕ → Log → Log → Result About Code → Type 0
IsAbout sort number m n (Ok about) = (n ≡ m) × (about_of (arc_value m.of).setup sort number ≡ Some about)
IsAbout sort number m n (Err code) = (n ≡ m) × (about_of (arc_value m.of).setup sort number ≡ None) × (code ≡ codes.NoName)

-- the number of the question of that name, or that there is none
abbrev pub IsQuestion : List ℕ → Log → Log → Result ℕ Code → Type 0
IsQuestion name m n (Ok number) = (n ≡ m) × (place_in (arc_value m.of).setup.ask_names name ≡ Some number)
IsQuestion name m n (Err code) = (n ≡ m) × (place_in (arc_value m.of).setup.ask_names name ≡ None) × (code ≡ codes.NoQuestion)

-- the width of a bucket
abbrev pub IsWidth : Log → Log → Result ℕ Code → Type 0
IsWidth m n (Ok width) = (n ≡ m) × (width ≡ (arc_value m.of).setup.width)
IsWidth m n (Err code) = ⊥
