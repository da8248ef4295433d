-- Passes that leave the places of a log's writers, and come home.
use Rattle.std.specs.Prelude.{◌≡◌, ◌⊎◌, ℕ, ◌<◌, List, [], ◌∷◌, ◌++◌, Option, Some, None, true, length, map, take, slice_get}
use Rattle.std.specs.Option.{is_some}
use Rattle.std.specs.List.{AllZip}
use Rattle.rtrb.specs.declared.consumer.Consumer.{Consumer}
use Rattle.rtrb.specs.Ring.{known_items, received}
use Rattle.cf_table.specs.Values.{PassValue, book_of}
use Rattle.cf_table.specs.Moves.{Begins}
use Rattle.cf_append.specs.Appends.{Rests}

-- the second list begins with the first
abbrev pub IsFront : {X : Type 0} → List X → List X → Type 0
IsFront xs ys = take (length xs) ys ≡ xs

-- The pass is one of the same table and the same writer as the first, at rest. Its rows and its used nodes are those of the first, and then
-- perhaps more, and it has seen no less.
pub record IsSuccessor (first pass : PassValue) : Type 0 where
  pub table : pass.table ≡ first.table
  pub nodes : pass.nodes ≡ first.nodes
  pub writer : (book_of pass.view).writer ≡ (book_of first.view).writer
  pub rows : IsFront (book_of first.view).mine (book_of pass.view).mine
  pub used : IsFront (book_of first.view).used (book_of pass.view).used
  pub seen : Begins (first.view).seen (pass.view).seen
  pub rest : Rests pass.view

-- a pass that comes home follows the one that was taken
abbrev pub MayCome : List PassValue → PassValue → Type 0
MayCome came pass = (first : PassValue) → slice_get came 0 ≡ Some first → IsSuccessor first pass

-- the pass that is at home; those that came by the last way, the first of which is the one that was taken; and those that the last look at
-- the way found on it, behind the one that it took
pub record PlaceValue : Type 0 where
  pub home : Option PassValue
  pub came : List PassValue
  pub known : List PassValue

-- the place of a pass that was never taken
abbrev pub at_home : PassValue → PlaceValue
at_home pass = record { home = Some pass; came = []; known = [] }

-- the place of a pass that was just taken
abbrev pub taken_home : PassValue → PlaceValue
taken_home pass = record { home = None; came = pass ∷ []; known = [] }

module _ {A P : Type 0} where
  abbrev pub came_by : Option (Consumer PassValue A P) → List PassValue
  came_by None = []
  came_by (Some way) = received way

  abbrev pub known_by : Option (Consumer PassValue A P) → List PassValue
  known_by None = []
  known_by (Some way) = known_items way

-- The pass that was away came home; or all is as it was, but for what is known of the way.
abbrev pub HasLooked : PlaceValue → PlaceValue → Type 0
HasLooked m n =
    (n ≡ record m { known = n.known })
    ⊎ ((m.home ≡ None)
    × ((pass : PassValue) × (n ≡ record { home = Some pass; came = m.came ++ pass ∷ []; known = n.known }) × MayCome m.came pass))

-- the pass is away, and the way was empty when it was looked at
pub record IsAway (place : PlaceValue) : Type 0 where
  pub none : place.home ≡ None
  pub empty : place.known ≡ []

-- at each place the pass came home that was on its way, or all is as it was
abbrev pub HaveLooked : List PlaceValue → List PlaceValue → Type 0
HaveLooked = AllZip HasLooked

-- no pass is at home, and none was on its way
abbrev pub AreAway : List PlaceValue → Type 0
AreAway places = (k : ℕ) (place : PlaceValue) → slice_get places k ≡ Some place → IsAway place

-- the pass of that place is at home, and none behind it is, nor was on its way
pub record IsHomeAt (places : List PlaceValue) (k : ℕ) : Type 0 where
  pub place : PlaceValue
  pub pass : PassValue
  pub at : slice_get places k ≡ Some place
  pub home : place.home ≡ Some pass
  pub behind : (j : ℕ) (other : PlaceValue) → k < j → slice_get places j ≡ Some other → IsAway other

-- the pass is at home, or comes home
abbrev pub Comes : PlaceValue → PassValue → Type 0
Comes place pass = (place.home ≡ Some pass) ⊎ ((place.home ≡ None) × MayCome place.came pass)

-- All is as it was, but for what is known of the way; or a pass is at home, which was so or came home.
abbrev pub Keeps : PlaceValue → PlaceValue → Type 0
Keeps m n = (n ≡ record m { known = n.known }) ⊎ ((pass : PassValue) × Comes m pass × (n.home ≡ Some pass))

-- The pass was taken from the place, with its way home; or it stays there, since there was no memory.
abbrev pub Takes : PlaceValue → PlaceValue → Option (PassValue × List PassValue) → Type 0
Takes m n (Some taken) = (m.home ≡ Some taken.0) × (taken.1 ≡ taken.0 ∷ []) × (n ≡ taken_home taken.0)
Takes m n None = n ≡ m

-- the pass is at home
abbrev pub IsHome : PlaceValue → Type 0
IsHome place = is_some place.home ≡ true

-- the pass of that place is away
abbrev pub IsAwayAt : List PlaceValue → ℕ → Type 0
IsAwayAt places k = (place : PlaceValue) × (slice_get places k ≡ Some place) × IsAway place

-- what is at home at a place
abbrev pub home_at : PlaceValue → Option PassValue
home_at place = place.home

-- that is this pass
abbrev pub some_pass : PassValue → Option PassValue
some_pass pass = Some pass

-- these passes are at home, place by place
abbrev pub AreAtHome : List PlaceValue → List PassValue → Type 0
AreAtHome places passes = map home_at places ≡ map some_pass passes
