-- Hosts that cover their rows in turns, and are frozen one after another: the events, and the cut.
use Rattle.std.specs.Prelude.{ℕ, ◌+◌, ◌-◌, ◌*◌, ◌/◌, ◌%◌, ◌^◌, ◌<◌, ◌≤◌, min, List, ◌∷◌, ◌++◌, length, map, replicate, slice_index_or}
use Rattle.std.specs.List.{flat_map, range_with_len, All}
use Rattle.cf_snapshot.specs.Laws.{HasCut}
use Rattle.cf_snapshot.specs.declared.event.SnapEvent.{SnapEvent}
use Rattle.cf_snapshot.specs.declared.event.SnapEvent.TheVariants.{Cover, Begin, Freeze, Reply, Release, Thaw}

-- how many rows a host has
abbrev pub rows_at : List ℕ → ℕ → ℕ
rows_at counts host = slice_index_or counts host 0

-- how many of its rows a host has covered after so many turns: in each the next `turn` rows, or what is left
abbrev pub covered_after : ℕ → List ℕ → ℕ → ℕ → ℕ
covered_after turn counts host turns = min (rows_at counts host) (turn * turns)

-- the turn of a host that had so many before
abbrev pub turn_of_host : ℕ → List ℕ → ℕ → ℕ → List SnapEvent
turn_of_host turn counts host turns = replicate (covered_after turn counts host (turns + 1) - covered_after turn counts host turns) (Cover host)

-- so many turns, which go round the hosts
abbrev pub turns_round : ℕ → List ℕ → ℕ → List SnapEvent
turns_round turn counts turns = flat_map (λ j. turn_of_host turn counts (j % length counts) (j / length counts)) (range_with_len 0 turns)

-- how many of these are of that host
abbrev pub turns_of_host : ℕ → ℕ → ℕ → ℕ
turns_of_host hosts turns host = (turns + (hosts - 1 - host)) / hosts

-- a host is frozen, and each host above it takes one more turn
abbrev pub freeze_host : ℕ → List ℕ → ℕ → ℕ → List SnapEvent
freeze_host turn counts turns host =
    Freeze host ∷ flat_map (λ above. turn_of_host turn counts above (turns_of_host (length counts) turns above + host))
    (range_with_len (host + 1) (length counts - 1 - host))

-- freezing begins, and the hosts are frozen one after another
abbrev pub freezing : ℕ → List ℕ → ℕ → List SnapEvent
freezing turn counts turns = Begin ∷ flat_map (freeze_host turn counts turns) (range_with_len 0 (length counts))

-- each host replies, the coordinator releases them, and each is free again
abbrev pub releasing : ℕ → List SnapEvent
releasing hosts = map Reply (range_with_len 0 hosts) ++ (Release ∷ map Thaw (range_with_len 0 hosts))

-- how many rows of a host are in the cut: it had a turn more for each host below it
abbrev pub in_cut : ℕ → List ℕ → ℕ → ℕ → ℕ
in_cut turn counts turns host = covered_after turn counts host (turns_of_host (length counts) turns host + host)

-- at last each host covers the rows that it has left
abbrev pub cover_left : ℕ → List ℕ → ℕ → ℕ → List SnapEvent
cover_left turn counts turns host = replicate (rows_at counts host - in_cut turn counts turns host) (Cover host)

-- so many turns, the freezing, the release, and all that is left
abbrev pub events_of : ℕ → List ℕ → ℕ → List SnapEvent
events_of turn counts turns =
    turns_round turn counts turns ++
    (freezing turn counts turns ++ (releasing (length counts) ++ flat_map (cover_left turn counts turns) (range_with_len 0 (length counts))))

-- the same of all hosts
abbrev pub cut_by : ℕ → List ℕ → ℕ → List ℕ
cut_by turn counts turns = map (in_cut turn counts turns) (range_with_len 0 (length counts))

-- each list of these events has that cut
abbrev pub PlansHaveCuts : Type 0
PlansHaveCuts = (turn : ℕ) (counts : List ℕ) (turns : ℕ) → 0 < length counts → All (λ count. count ≤ 2 ^ 20) counts
    → HasCut (length counts) (events_of turn counts turns) (cut_by turn counts turns)
