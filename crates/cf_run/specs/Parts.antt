-- What the parts of the work answer.
use Rattle.std.specs.Prelude.{◌≡◌, ◌⊎◌, ℕ, List, [], map, Some, None, Option, Result, Ok, Err}
use Rattle.std.specs.Io.KnownBytes.{Appends, Keeps}
use Rattle.cf_outside.specs.Files.{File}
use Rattle.cf_command.specs.Call.{Call, LongCall, WatchCall}
use Rattle.cf_command.specs.Call.Call.{long, watch}
use Rattle.cf_follow.specs.Followed.{IsReady}
use Rattle.cf_follow.specs.declared.watch.Watch.{Watch}
use Rattle.cf_intake.specs.Files.{HasFile, HasLeft, IsFileAs, setups}
use Rattle.cf_intake.specs.Devices.{WritesFront}
use Rattle.cf_row.specs.Schema6.{attrs_by}
use Rattle.cf_row.specs.declared.packet6.PacketSchema.{PacketSchema}
use Rattle.cf_setup.specs.Setups.{SetupValue}
use Rattle.cf_setup.specs.declared.source.Source.{Source}
use Rattle.cf_setup.specs.declared.source.Source.TheVariants.{Packets, Records}
use Rattle.cf_table.specs.Moves.{SealValue}
use Rattle.cf_run.specs.Due.{IsDue, StopsAt}
use Rattle.cf_run.specs.Watched.{IsOpened, begun_for}
use Rattle.cf_long.specs.Kept.{IsLongFor}
use Rattle.cf_intake.specs.Parts.{IsSetupRead}
use Rattle.cf_run.specs.declared.long_run.LongWork.{LongWork}
use Rattle.cf_intake.specs.Refusals.{line_of}
use Rattle.cf_intake.specs.declared.refusal.Refusal.{Refusal}
use Rattle.cf_intake.specs.declared.refusal.Refusal.TheVariants as refusals
use Rattle.cf_run.specs.Refusals.{status_of}
use Rattle.cf_run.specs.declared.reply.WorkReply.{WorkReply}
use Rattle.cf_run.specs.declared.reply.WorkReply.TheVariants as replies
use Rattle.cf_fill.specs.declared.log.Product.{Product}
use Rattle.cf_intake.specs.declared.rows.Captured.{Captured}
use Rattle.cf_intake.specs.declared.refusal.Halt.{Halt}
use Rattle.cf_intake.specs.declared.refusal.Halt.TheVariants.{Refused, Stopped}
use Rattle.cf_intake.specs.declared.refusal.Stop.{Stop}
use Rattle.cf_run.specs.declared.status.Status.{Status}
use Rattle.cf_run.specs.declared.status.Status.TheVariants.{Done, Memory, WriteFault}

-- within which record the capture of each host ends, if it does
abbrev pub ends_each : List Captured → List (Option ℕ)
ends_each hosts = map (λ host. host.cut) hosts

-- a call's product is due, or the line of its refusal, or it was stopped
abbrev pub EndsWith : Option (List File) → Option Call → Option (List ℕ) → Option (List ℕ) → Result Product Halt → Type 0
EndsWith told call before now (Ok product) = IsDue told call before now Done product.text.items product.seals.items
EndsWith told call before now (Err (Refused why)) = IsDue told call before now (status_of why) (line_of why) []
EndsWith told call before now (Err (Stopped stop)) = StopsAt told call stop before now

-- the status that a reply ends with
abbrev pub reply_status : WorkReply → Status
reply_status (replies.Done text seals) = Done
reply_status (replies.Refused why text) = status_of why

-- the text that it writes
abbrev pub reply_text : WorkReply → List ℕ
reply_text (replies.Done text seals) = text.items
reply_text (replies.Refused why text) = text.items

-- the seals of what it tells
abbrev pub reply_seals : WorkReply → List SealValue
reply_seals (replies.Done text seals) = seals.items
reply_seals (replies.Refused why text) = []

-- a reply is due, or the work was stopped
abbrev pub IsPrepared : Option (List File) → Option Call → Option (List ℕ) → Option (List ℕ) → Result WorkReply Stop → Type 0
IsPrepared told call before now (Ok reply) = IsDue told call before now (reply_status reply) (reply_text reply) (reply_seals reply)
IsPrepared told call before now (Err stop) = StopsAt told call stop before now

-- the schema of the packets that a setup is over, or its refusal, whose schema is in that line
abbrev pub packets_from : Source → ℕ → Result PacketSchema Halt
packets_from (Packets schema) line = Ok schema
packets_from Records line = Err (Refused (refusals.Setup line 4))

-- the capture of that name is not opened, and what is left stays: there is none, or the shelf failed, or memory ran out
abbrev pub IsUnopened : Option (List File) → List ℕ → Option (List ℕ) → Option (List ℕ) → Halt → Type 0
IsUnopened told name before now (Refused why) = HasFile told name None × HasLeft told now before × (why ≡ refusals.NoFile)
IsUnopened told name before now (Stopped stop) = HasLeft told now before

-- the setup over packets of a watch was read, its capture is open, and it is to be followed from the first record on
pub record IsBegun (told : Option (List File)) (call : WatchCall) (now : Option (List ℕ)) (watching : Watch) : Type 0 where
  pub setup : SetupValue
  pub set : IsFileAs setups told call.setup setup
  pub kind : setup.source ≡ Packets watching.reads.schema
  pub opens : IsOpened told call.capture now
  pub truncated : watching.truncated ≡ call.truncated
  pub ready : IsReady (begun_for call setup) watching.rounds watching.left watching.reads
  pub packets : (watching.left).schema ≡ attrs_by watching.reads.schema

-- a watch has begun, or the line of its refusal is due, or it was stopped
abbrev pub WatchBegins : Option (List File) → WatchCall → Option (List ℕ) → Option (List ℕ) → Result Watch Halt → Type 0
WatchBegins told call before now (Ok watching) = IsBegun told call now watching
WatchBegins told call before now (Err (Refused why)) = IsDue told (Some (watch call)) before now (status_of why) (line_of why) []
WatchBegins told call before now (Err (Stopped stop)) = StopsAt told (Some (watch call)) stop before now

-- The line of a refusal was written, and the status is its own. Or the sink failed within it, or memory ran out.
abbrev pub Refuses : Refusal → (held now : Option (List ℕ)) → Status → Type 0
Refuses why held now status =
    ((status ≡ status_of why) × Appends held now (line_of why)) ⊎ ((status ≡ WriteFault) × WritesFront held now (line_of why))
    ⊎ ((status ≡ Memory) × Keeps held now)

-- The setup over packets of a run over captures of any length was read, and there is a log for it with no row. No file is open.
pub record IsLongBegun (told : Option (List File)) (call : LongCall) (now : Option (List ℕ)) (work : LongWork) : Type 0 where
  pub set : IsFileAs setups told call.setup work.setup
  pub kind : (work.setup).source ≡ Packets work.schema
  pub read : IsSetupRead work.setup
  pub left : HasLeft told now (Some [])
  pub is : IsLongFor work.setup call.sizes.capacity call.sizes.writers call.sizes.nodes work.long []

-- a run over captures of any length has begun, or the line of its refusal is due, or it was stopped
abbrev pub LongBegins : Option (List File) → LongCall → Option (List ℕ) → Option (List ℕ) → Result LongWork Halt → Type 0
LongBegins told call before now (Ok work) = IsLongBegun told call now work
LongBegins told call before now (Err (Refused why)) = IsDue told (Some (long call)) before now (status_of why) (line_of why) []
LongBegins told call before now (Err (Stopped stop)) = StopsAt told (Some (long call)) stop before now

-- a reply is the work's text, with no seal
pub record IsTold (reply : WorkReply) (text : List ℕ) : Type 0 where
  pub status : reply_status reply ≡ Done
  pub text_is : reply_text reply ≡ text
  pub none : reply_seals reply ≡ []

-- a reply is a refusal, by that line
pub record IsRefusedBy (why : Refusal) (line : List ℕ) (reply : WorkReply) : Type 0 where
  pub status : reply_status reply ≡ status_of why
  pub text_is : reply_text reply ≡ line
  pub none : reply_seals reply ≡ []
