-- With which status work ends that has no result, and the following of a capture.
use Rattle.cf_follow.specs.declared.ending.Ending.{Ending}
use Rattle.cf_follow.specs.declared.ending.Ending.TheVariants as endings
use Rattle.cf_intake.specs.declared.refusal.Refusal.{Refusal}
use Rattle.cf_intake.specs.declared.refusal.Refusal.TheVariants.{Words, NoFile, Setup, Capture, Full, Nodes}
use Rattle.cf_intake.specs.declared.refusal.Stop.{Stop}
use Rattle.cf_intake.specs.declared.refusal.Stop.TheVariants.{ReadFault, Memory}
use Rattle.cf_run.specs.declared.status.Status.{Status}
use Rattle.cf_run.specs.declared.status.Status.TheVariants as statuses

-- the status of a refusal
abbrev pub status_of : Refusal → Status
status_of Words = statuses.Words
status_of NoFile = statuses.NoFile
status_of (Setup line code) = statuses.Setup line code
status_of (Capture at code) = statuses.Capture at code
status_of (Full most) = statuses.Full
status_of (Nodes nodes) = statuses.Nodes

-- the status of a stop
abbrev pub stop_status : Stop → Status
stop_status ReadFault = statuses.ReadFault
stop_status Memory = statuses.Memory

-- the status with which the following of a capture ends
abbrev pub ending_status : Ending → Status
ending_status endings.Done = statuses.Done
ending_status (endings.Refused why) = status_of why
ending_status (endings.Stopped stop) = stop_status stop
ending_status endings.Unwritten = statuses.WriteFault
