-- The laws of cuts, for every list of events.
use Rattle.std.specs.Prelude.{◌≡◌, ℕ, ◌+◌, ◌<◌, ◌↔◌, true, List, length, take, slice_get, slice_index_or, Some, IsSome}
use Rattle.cf_snapshot.specs.Snapshots.{SnapValue, tail_of, is_frozen, is_lawful, state_after, cut_of}
use Rattle.cf_snapshot.specs.declared.event.SnapEvent.{SnapEvent}
use Rattle.cf_snapshot.specs.declared.event.SnapEvent.TheVariants.{Cover, Freeze, Release}

-- the state before the event at a position
abbrev pub state_at : ℕ → List SnapEvent → ℕ → SnapValue
state_at hosts events i = state_after hosts (take i events)

-- this event stands at that position, and is lawful there
pub record Happens (hosts : ℕ) (events : List SnapEvent) (i : ℕ) (event : SnapEvent) : Type 0 where
  pub stands : slice_get events i ≡ Some event
  pub lawful : is_lawful (state_at hosts events i) event ≡ true

-- a host is frozen at that position, and none at a later one
pub record IsLastFreeze (hosts : ℕ) (events : List SnapEvent) (i : ℕ) : Type 0 where
  pub host : ℕ
  pub freezes : Happens hosts events i (Freeze host)
  pub last : (j h : ℕ) → i < j → Happens hosts events j (Freeze h) → ⊥

-- every host is frozen
abbrev pub AllFrozen : SnapValue → Type 0
AllFrozen s = (h : ℕ) → h < length s.tails → is_frozen s h ≡ true

-- the list of events leaves that cut
abbrev pub HasCut : ℕ → List SnapEvent → List ℕ → Type 0
HasCut hosts events cut = cut_of (state_after hosts events) ≡ Some cut

-- Where there is a cut, it is the list of all hosts' tails right after the last lawful Freeze, and all hosts are frozen there.
abbrev pub CutsAreOfOneMoment : Type 0
CutsAreOfOneMoment = (hosts : ℕ) (events : List SnapEvent) (cut : List ℕ) → 0 < hosts → HasCut hosts events cut
    → (i : ℕ) × IsLastFreeze hosts events i × (cut ≡ (state_at hosts events (i + 1)).tails) × AllFrozen (state_at hosts events (i + 1))

-- There is a cut exactly once a lawful Release was taken.
abbrev pub CutsComeByRelease : Type 0
CutsComeByRelease = (hosts : ℕ) (events : List SnapEvent) → 0 < hosts → IsSome (cut_of (state_after hosts events)) ↔ ((i : ℕ) × Happens hosts events i Release)

-- the record that host h covers at position i is in the cut: its number, from 0, is below the host's tail there
abbrev pub IsInCut : ℕ → List SnapEvent → List ℕ → ℕ → ℕ → Type 0
IsInCut hosts events cut i h = tail_of (state_at hosts events i) h < slice_index_or cut h 0

-- A record is in the cut exactly where its Cover comes before the last lawful Freeze.
abbrev pub CutsEndAtTheLastFreeze : Type 0
CutsEndAtTheLastFreeze = (hosts : ℕ) (events : List SnapEvent) (cut : List ℕ) (last i h : ℕ) → 0 < hosts → HasCut hosts events cut
    → IsLastFreeze hosts events last → Happens hosts events i (Cover h)
    → IsInCut hosts events cut i h ↔ (i < last)

-- So, if a record's Cover comes before that of a record in the cut, of whichever host, it is in the cut too.
abbrev pub CutsHaveAllEarlier : Type 0
CutsHaveAllEarlier = (hosts : ℕ) (events : List SnapEvent) (cut : List ℕ) (i j h k : ℕ) → 0 < hosts → HasCut hosts events cut
    → Happens hosts events i (Cover h) → Happens hosts events j (Cover k)
    → i < j → IsInCut hosts events cut j k → IsInCut hosts events cut i h
