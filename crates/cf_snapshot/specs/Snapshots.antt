-- What a coordinator and its hosts hold, and what each event does.
use Rattle.std.specs.Prelude.{◌≡◌, ℕ, ◌+◌, ◌^◌, Bool, true, false, ◌&&◌, not, nat_lt, List, length, replicate, set, fold, slice_index_or, if◌then◌else◌}
use Rattle.std.specs.List.{list_all}
use Rattle.std.specs.declared.option.Option.{Option}
use Rattle.std.specs.declared.option.Option.TheVariants.{Some, None}
use Rattle.cf_snapshot.specs.declared.event.SnapEvent.{SnapEvent}
use Rattle.cf_snapshot.specs.declared.event.SnapEvent.TheVariants.{Cover, Begin, Freeze, Reply, Release, Thaw}

-- of each host how many records it has covered, which is its tail, and whether it is frozen; of the coordinator the tail
-- that each host has replied, which is 0 before, and whether it has replied
pub record SnapValue : Type 0 where
  pub tails : List ℕ
  pub frozen : List Bool
  pub replies : List ℕ
  pub replied : List Bool
  pub has_begun : Bool
  pub is_released : Bool

-- what a coordinator and its hosts hold, of the lists and marks that they keep
abbrev pub snapshot_of : List ℕ → List Bool → List ℕ → List Bool → Bool → Bool → SnapValue
snapshot_of tails frozen replies replied has_begun is_released = record {
  tails = tails;
  frozen = frozen;
  replies = replies;
  replied = replied;
  has_begun = has_begun;
  is_released = is_released;
}

-- so many hosts before anything has happened
abbrev pub at_start : ℕ → SnapValue
at_start hosts = record {
  tails = replicate hosts 0;
  frozen = replicate hosts false;
  replies = replicate hosts 0;
  replied = replicate hosts false;
  has_begun = false;
  is_released = false;
}

-- there is a host of that number
abbrev pub is_host : SnapValue → ℕ → Bool
is_host s h = nat_lt h (length s.tails)

-- how many records the host has covered
abbrev pub tail_of : SnapValue → ℕ → ℕ
tail_of s h = slice_index_or s.tails h 0

-- the host is frozen
abbrev pub is_frozen : SnapValue → ℕ → Bool
is_frozen s h = slice_index_or s.frozen h false

-- the coordinator has the tail of each host
abbrev pub have_all_replied : SnapValue → Bool
have_all_replied s = list_all (λ replied. replied) s.replied

-- begun, and not yet released
abbrev pub is_under_way : SnapValue → Bool
is_under_way s = s.has_begun && not s.is_released

-- when each event is lawful
abbrev pub is_lawful : SnapValue → SnapEvent → Bool
is_lawful s (Cover h) = is_host s h && not (is_frozen s h) && nat_lt (tail_of s h) (2 ^ 20)
is_lawful s Begin = not s.has_begun
is_lawful s (Freeze h) = is_host s h && is_under_way s && not (is_frozen s h)
is_lawful s (Reply h) = is_host s h && is_under_way s && is_frozen s h
is_lawful s Release = is_under_way s && have_all_replied s
is_lawful s (Thaw h) = is_host s h && s.is_released && is_frozen s h

-- what each lawful event does
abbrev pub changed : SnapValue → SnapEvent → SnapValue
changed s (Cover h) = record s { tails = set s.tails h (tail_of s h + 1) }
changed s Begin = record s { has_begun = true }
changed s (Freeze h) = record s { frozen = set s.frozen h true }
changed s (Reply h) = record s { replies = set s.replies h (tail_of s h); replied = set s.replied h true }
changed s Release = record s { is_released = true }
changed s (Thaw h) = record s { frozen = set s.frozen h false }

-- an event that isn't lawful is passed over
abbrev pub after : SnapValue → SnapEvent → SnapValue
after s event = if is_lawful s event then changed s event else s

-- the state after a list of events
abbrev pub state_after : ℕ → List SnapEvent → SnapValue
state_after hosts events = fold after (at_start hosts) events

-- the tails that the coordinator has, once it has released
abbrev pub cut_of : SnapValue → Option (List ℕ)
cut_of s = if s.is_released then Some s.replies else None

-- each list has so many hosts
pub record IsOf (hosts : ℕ) (s : SnapValue) : Type 0 where
  pub tails : length s.tails ≡ hosts
  pub frozen : length s.frozen ≡ hosts
  pub replies : length s.replies ≡ hosts
  pub replied : length s.replied ≡ hosts

-- what is true of each snapshot
abbrev pub IsSnapshot : SnapValue → Type 0
IsSnapshot s = IsOf (length s.tails) s
