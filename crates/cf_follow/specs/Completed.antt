-- Which captures are followed to their end.
use Rattle.std.specs.Prelude.{◌≡◌, ◌⊎◌, ℕ, ◌≤◌, Bool, true, List, length, All}
use Rattle.cf_row.specs.Row.{RowValue}
use Rattle.cf_row.specs.declared.packet6.PacketSchema.{PacketSchema}
use Rattle.cf_pcap.specs.declared.limit.Length.TheVariants.{Any}
use Rattle.cf_intake.specs.Rows.{CaptureValue, ArePacketsTo}
use Rattle.cf_intake.specs.declared.refusal.Stop.TheVariants as stops
use Rattle.cf_rounds.specs.Held.{RoundsValue}
use Rattle.cf_window.specs.Windows.{is_small}
use Rattle.cf_follow.specs.declared.ending.Ending.{Ending}
use Rattle.cf_follow.specs.declared.ending.Ending.TheVariants.{Stopped, Unwritten}

-- The file is a capture, which may be truncated or not. It has no more records than there may be, and each of them alone needs no more nodes
-- than a segment has.
pub record IsWatchable (schema : PacketSchema) (begun : RoundsValue) (truncated : Bool) (file : List ℕ) : Type 0 where
  pub what : CaptureValue
  pub says : ArePacketsTo Any schema truncated file what.rows what.cut
  pub few : length what.rows ≤ begun.limit
  pub small : All (λ (row : RowValue). is_small (begun.terms).shape row ≡ true) what.rows

-- the endings that a capture doesn't decide
abbrev pub Yields : Ending → Type 0
Yields ending = (ending ≡ Stopped stops.Memory) ⊎ (ending ≡ Stopped stops.ReadFault) ⊎ (ending ≡ Unwritten)
