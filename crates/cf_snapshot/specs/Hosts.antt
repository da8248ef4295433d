-- What contracts see of a host, what its calls do, and which event of a snapshot each of them is.
use Rattle.std.specs.Prelude.{◌≡◌, ℕ, Bool, true, false, List, [], length}
use Rattle.cf_row.specs.declared.row.Entry.{Entry}
use Rattle.cf_alone.specs.Solos.{SoloValue, AreEnough}
use Rattle.cf_shape.specs.Lanes.{ShapeValue}
use Rattle.cf_law.specs.Words.{Spot}
use Rattle.cf_snapshot.specs.declared.event.SnapEvent.{SnapEvent}
use Rattle.cf_snapshot.specs.Snapshots.{SnapValue, IsSnapshot, is_host, tail_of, is_frozen, is_lawful, after}

-- the shape of its log, the entries that are covered, in order, the lanes and prefixes for which its nodes are used, in order, and
-- whether it is frozen
pub record HostValue : Type 0 where
  pub shape : ShapeValue
  pub entries : List Entry
  pub used : List Spot
  pub is_frozen : Bool

-- the host of such a log
abbrev pub host_of : SoloValue → Bool → HostValue
host_of solo is_frozen = record { shape = solo.shape; entries = solo.entries; used = solo.used; is_frozen = is_frozen }

-- a host that has covered nothing
abbrev pub empty_host : ShapeValue → HostValue
empty_host shape = record { shape = shape; entries = []; used = []; is_frozen = false }

-- its rows need no more different nodes than there are, if no node is used but for them
abbrev pub HasEnough : HostValue → Type 0
HasEnough host = AreEnough host.shape host.entries host.used

-- host h of the snapshot has covered as many records, and is frozen where that one is
pub record StandsFor (s : SnapValue) (h : ℕ) (host : HostValue) : Type 0 where
  pub exists : is_host s h ≡ true
  pub tail : tail_of s h ≡ length host.entries
  pub frozen : is_frozen s h ≡ host.is_frozen

-- The call is that event: in each snapshot that has the host, and is in a state for it, the event is lawful, and after it the host is
-- what the call made of it.
abbrev pub IsEvent : (ℕ → SnapEvent) → (SnapValue → Bool) → HostValue → HostValue → Type 0
IsEvent event is_time m n = (s : SnapValue) (h : ℕ) → IsSnapshot s → StandsFor s h m → is_time s ≡ true → (is_lawful s (event h) ≡ true)
    × StandsFor (after s (event h)) h n
