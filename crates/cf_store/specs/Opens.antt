-- How a log is opened, and how its writers and readers are taken.
use Rattle.std.specs.Prelude.{◌≡◌, ◌≢◌, ℕ, ◌*◌, ◌<◌, ◌≤◌, List, [], ◌∷◌, length, Option, Some, None, set, slice_get, Result, Ok, Err}
use Rattle.std.specs.declared.alloc.AllocError.{AllocError}
use Rattle.std.specs.Arc.{arc_value}
use Rattle.std.specs.List.{AllZip}
use Rattle.cf_shape.specs.Lanes.{ShapeValue}
use Rattle.cf_shape.specs.Places.{sizes_of, word_total}
use Rattle.cf_setup.specs.Setups.{SetupValue, shaped}
use Rattle.cf_setup.specs.SetupText.{SetupText}
use Rattle.cf_setup.specs.declared.parse.SetupFault.{SetupFault}
use Rattle.cf_setup.specs.declared.parse.SetupFault.TheVariants as faults
use Rattle.cf_law.specs.Steps.{new_pass}
use Rattle.cf_law.specs.Events.{no_book}
use Rattle.cf_table.specs.Values.{PassValue}
use Rattle.cf_store.specs.Homes.{AreAway, Comes, IsAway, IsHomeAt, Keeps, PlaceValue, at_home, taken_home}
use Rattle.cf_store.specs.declared.held.Log.{Log}
use Rattle.cf_store.specs.declared.held.Writer.{Writer}
use Rattle.cf_store.specs.declared.held.Reader.{Reader}
use Rattle.cf_store.specs.declared.shown.Sizes.{Sizes as SizesValue}
use Rattle.cf_store.specs.declared.refusals.OpenRefusal.{OpenRefusal}
use Rattle.cf_store.specs.declared.refusals.OpenRefusal.TheVariants.{Setup, Sizes, Memory}
use Rattle.cf_store.specs.declared.refusals.TakeRefusal.{TakeRefusal}
use Rattle.cf_store.specs.declared.refusals.TakeRefusal.TheVariants as takes

-- the sizes that a log may have
pub record AreSizes (sizes : SizesValue) : Type 0 where
  pub some : 1 ≤ sizes.capacity
  pub capacity_low : sizes.capacity ≤ 65536
  pub one : 1 ≤ sizes.writers
  pub writers_low : sizes.writers ≤ 15
  pub nodes_low : sizes.nodes ≤ 65536
  pub nothing_reserved : sizes.reserved ≡ 0

-- the shape of a log of the setup that is so large
abbrev pub sized : SetupValue → SizesValue → ShapeValue
sized setup sizes = shaped setup sizes.capacity sizes.writers sizes.nodes

-- A log of that setup, whose text these bytes are, that nobody has used: its root and all its writers have seen nothing, the k-th place has
-- the pass of writer k, with neither records nor used nodes.
pub record IsNew (text : List ℕ) (setup : SetupValue) (sizes : SizesValue) (log : Log) : Type 0 where
  pub setup_is : (arc_value log.of).setup ≡ setup
  pub text_is : (arc_value log.of).text.items ≡ text
  pub shape : (arc_value log.of).log.shape ≡ sized setup sizes
  pub root : log.root.view ≡ new_pass [] []
  pub all : length log.places.items ≡ sizes.writers
  pub each : (k : ℕ) (place : PlaceValue) → slice_get log.places.items k ≡ Some place
      → (pass : PassValue) × (place ≡ at_home pass) × (pass.view ≡ new_pass (no_book k ∷ []) [])

-- What a call answers that takes a setup's text and sizes: what it is for, of the setup that the bytes are the text of; or their first
-- faulty line with its code; or the setup is lawful and a size is out of range; or there was no memory.
abbrev pub BySetup : {A : Type 0} → (SetupValue → A → Type 0) → List ℕ → SizesValue → Result A OpenRefusal → Type 0
BySetup Is text sizes (Ok a) = (setup : SetupValue) × SetupText text (Ok setup) × AreSizes sizes × Is setup a
BySetup Is text sizes (Err (Setup line code)) = SetupText text (Err (line, code))
BySetup Is text sizes (Err Sizes) = ((setup : SetupValue) × SetupText text (Ok setup)) × (AreSizes sizes → ⊥)
BySetup Is text sizes (Err Memory) = Unit {0}

-- a new log of the setup
abbrev pub Opens : List ℕ → SizesValue → Result Log OpenRefusal → Type 0
Opens text sizes = BySetup (λ setup log. IsNew text setup sizes log) text sizes

-- how many bytes the words of such a log take
abbrev pub Measures : List ℕ → SizesValue → Result ℕ OpenRefusal → Type 0
Measures text sizes = BySetup (λ setup bytes. bytes ≡ 8 * word_total (sizes_of (sized setup sizes))) text sizes

-- why a setup with that fault is not taken
abbrev pub refusal_by : SetupFault → OpenRefusal
refusal_by (faults.Bad line code) = Setup line code
refusal_by faults.Memory = Memory

-- the log is the same but for its places
pub record IsLogWith (places : List PlaceValue) (before after : Log) : Type 0 where
  pub of : after.of ≡ before.of
  pub root : after.root ≡ before.root
  pub places_are : after.places.items ≡ places

-- The pass was taken from the k-th place, where it was at home or came home: it is away from there, and none behind it is at home, nor was on
-- its way. At each
-- other place all is as it was, or a pass came home.
pub record IsTakenFrom (before after : List PlaceValue) (k : ℕ) (pass : PassValue) : Type 0 where
  pub place : PlaceValue
  pub at : slice_get before k ≡ Some place
  pub comes : Comes place pass
  pub away : slice_get after k ≡ Some (taken_home pass)
  pub long : length after ≡ length before
  pub others : (j : ℕ) (m n : PlaceValue) → j ≢ k → slice_get before j ≡ Some m → slice_get after j ≡ Some n → Keeps m n
  pub last : (j : ℕ) (other : PlaceValue) → k < j → slice_get after j ≡ Some other → IsAway other

-- The writer of that place was taken; or there was no memory, and its pass stays at home.
abbrev pub TakesAt : ℕ → Log → Log → Option Writer → Type 0
TakesAt k m n (Some w) = IsLogWith n.places.items m n × (arc_value w.of ≡ arc_value m.of) × (w.way ≡ w.pass ∷ [])
    × ((place : PlaceValue) × (slice_get m.places.items k ≡ Some place) × (place.home ≡ Some w.pass)
    × (n.places.items ≡ set m.places.items k (taken_home w.pass)))
TakesAt k m n None = IsLogWith n.places.items m n × ((place after : PlaceValue) × (slice_get m.places.items k ≡ Some place)
    × (after.home ≡ place.home) × (n.places.items ≡ set m.places.items k after))

-- A writer was taken, from the last place whose pass is at home; or none is, nor was on its way; or one is, and there was no memory. Refused, passes may have
-- come home.
abbrev pub Takes : Log → Log → Result Writer TakeRefusal → Type 0
Takes m n (Ok w) = IsLogWith n.places.items m n × (arc_value w.of ≡ arc_value m.of) × (w.way ≡ w.pass ∷ [])
    × ((k : ℕ) × IsTakenFrom m.places.items n.places.items k w.pass)
Takes m n (Err takes.NoWriter) = IsLogWith n.places.items m n × AllZip Keeps m.places.items n.places.items × AreAway n.places.items
Takes m n (Err takes.Memory) =
    IsLogWith n.places.items m n × AllZip Keeps m.places.items n.places.items × ((k : ℕ) × IsHomeAt n.places.items k)

-- A reader was forked, which has seen what the root has, and has no words of an answer; or there was no memory. The log is as it was.
abbrev pub Forks : Log → Log → Result Reader AllocError → Type 0
Forks m n (Ok r) =
    IsLogWith m.places.items m n × (arc_value r.of ≡ arc_value m.of) × (r.pass.view ≡ new_pass [] (m.root.view).seen) × (r.words.items ≡ [])
Forks m n (Err e) = IsLogWith m.places.items m n
