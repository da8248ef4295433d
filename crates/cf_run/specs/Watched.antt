-- What is written of a capture that is watched.
use Rattle.std.specs.Prelude.{◌≡◌, ℕ, ◌-◌, ◌^◌, List, Some, None, Option}
use Rattle.cf_command.specs.Call.{Call, WatchCall}
use Rattle.cf_command.specs.Call.Call.{run, synth, dump, snapshot, watch, long}
use Rattle.cf_follow.specs.Followed.{IsFollowed, begun_with}
use Rattle.cf_follow.specs.declared.ending.Ending.{Ending}
use Rattle.cf_intake.specs.Files.{HasFile, HasLeft, IsFileAs, setups}
use Rattle.cf_intake.specs.Reads.{view_by}
use Rattle.cf_outside.specs.Files.{File}
use Rattle.cf_row.specs.declared.packet6.PacketSchema.{PacketSchema}
use Rattle.cf_follow.specs.Held.{RoundsValue}
use Rattle.cf_setup.specs.Setups.{SetupValue}
use Rattle.cf_setup.specs.declared.source.Source.TheVariants.{Packets}
use Rattle.cf_run.specs.Refusals.{ending_status}
use Rattle.cf_run.specs.declared.status.Status.{Status}

-- the rounds that a watch begins with: of the setup, on a window of its sizes, for at most 2^53 - 1 records
abbrev pub begun_for : WatchCall → SetupValue → RoundsValue
begun_for call setup = begun_with setup call.sizes.capacity call.sizes.segments call.sizes.nodes call.every call.beat (2 ^ 53 - 1)

-- where the shelf tells its files: what is left is the whole file of that name
abbrev pub IsOpened : Option (List File) → List ℕ → Option (List ℕ) → Type 0
IsOpened told name now = (file : List ℕ) × HasFile told name (Some file) × HasLeft told now (Some file)

-- A setup over packets was read, the capture was opened, and followed by the setup, from what was opened to what is left. With `Done` all
-- of it was read, and the text of the rounds was written, for some way in which reads cut it: see `IsFollowed`. That they are the reads
-- of the shelf is said by the call that follows (`followed`).
pub record IsWatched (told : Option (List File)) (call : WatchCall) (status : Status) (held now after : Option (List ℕ)) : Type 0 where
  pub setup : SetupValue
  pub schema : PacketSchema
  pub opened : Option (List ℕ)
  pub ending : Ending
  pub set : IsFileAs setups told call.setup setup
  pub kind : setup.source ≡ Packets schema
  pub opens : IsOpened told call.capture opened
  pub moved : Option (List ℕ)
  pub moved_then : Option (List ℕ)
  pub followed : IsFollowed schema (begun_for call setup) call.truncated (view_by opened moved) (view_by after moved_then) held now ending
  pub status_is : status ≡ ending_status ending

-- the call is no watch, so all its text is made before the first write
abbrev pub IsNoWatch : Option Call → Type 0
IsNoWatch None = Unit {0}
IsNoWatch (Some (run call)) = Unit {0}
IsNoWatch (Some (synth call)) = Unit {0}
IsNoWatch (Some (dump call)) = Unit {0}
IsNoWatch (Some (snapshot call)) = Unit {0}
IsNoWatch (Some (watch call)) = ⊥
IsNoWatch (Some (long call)) = Unit {0}

-- the call is neither a watch nor a run over captures of any length
abbrev pub HasProduct : Option Call → Type 0
HasProduct None = Unit {0}
HasProduct (Some (run call)) = Unit {0}
HasProduct (Some (synth call)) = Unit {0}
HasProduct (Some (dump call)) = Unit {0}
HasProduct (Some (snapshot call)) = Unit {0}
HasProduct (Some (watch call)) = ⊥
HasProduct (Some (long call)) = ⊥
