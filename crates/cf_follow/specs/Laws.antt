-- One ending alone is due.
use Rattle.std.specs.Prelude.{◌≡◌, ℕ, Bool, List, Some}
use Rattle.cf_outside.specs.Files.{ShelfView}
use Rattle.cf_row.specs.declared.packet6.PacketSchema.{PacketSchema}
use Rattle.cf_rounds.specs.Held.{RoundsValue}
use Rattle.cf_intake.specs.declared.refusal.Stop.TheVariants.{ReadFault}
use Rattle.cf_follow.specs.Followed.{IsDueOfStream}
use Rattle.cf_follow.specs.declared.ending.Ending.{Ending}
use Rattle.cf_follow.specs.declared.ending.Ending.TheVariants.{Stopped}

-- Unless the shelf fails, the opened file alone says which ending is due, however reads cut it.
abbrev pub OneEndingIsDue : Type 0
OneEndingIsDue =
    (schema : PacketSchema) (begun : RoundsValue) (truncated : Bool) (file : List ℕ) (before now : ShelfView) (ending : Ending) (said text : List ℕ)
    (before' now' : ShelfView) (other : Ending) (said' text' : List ℕ) → before.rest ≡ Some file → before'.rest ≡ Some file
    → IsDueOfStream schema begun truncated before now ending said text → IsDueOfStream schema begun truncated before' now' other said' text'
    → (ending ≡ Stopped ReadFault → ⊥) → (other ≡ Stopped ReadFault → ⊥) → ending ≡ other
