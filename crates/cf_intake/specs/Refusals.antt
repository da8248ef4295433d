-- Why work has no result, and what is written then.
use Rattle.std.specs.Prelude.{ℕ, List, [], ◌∷◌, ◌++◌, codes, decimal}
use Rattle.cf_outside.specs.declared.shelf.OpenFault.{OpenFault}
use Rattle.cf_outside.specs.declared.shelf.OpenFault.TheVariants as opens
use Rattle.cf_intake.specs.declared.devices.ReadError.{ReadError}
use Rattle.cf_intake.specs.declared.devices.ReadError.TheVariants as errors
use Rattle.cf_intake.specs.declared.refusal.Halt.{Halt}
use Rattle.cf_intake.specs.declared.refusal.Halt.TheVariants.{Refused, Stopped}
use Rattle.cf_intake.specs.declared.refusal.Refusal.{Refusal}
use Rattle.cf_intake.specs.declared.refusal.Refusal.TheVariants.{Words, NoFile, Setup, Capture, Full, Nodes}
use Rattle.cf_intake.specs.declared.refusal.Stop.TheVariants.{ReadFault, Memory}
use Rattle.cf_setup.specs.declared.parse.SetupFault.{SetupFault}
use Rattle.cf_setup.specs.declared.parse.SetupFault.TheVariants as setup_faults

-- the line of a refusal
abbrev pub line_of : Refusal → List ℕ
line_of Words = codes "words: not a command" ++ 10 ∷ []
line_of NoFile = codes "file: none of that name" ++ 10 ∷ []
line_of (Setup line code) = codes "setup: line " ++ (decimal line ++ (codes " code " ++ (decimal code ++ 10 ∷ [])))
line_of (Capture at code) = codes "capture: record " ++ (decimal at ++ (codes " code " ++ (decimal code ++ 10 ∷ [])))
line_of (Full most) = codes "full: more than " ++ (decimal most ++ (codes " records" ++ 10 ∷ []))
line_of (Nodes nodes) = codes "nodes: more than " ++ (decimal nodes ++ (codes " nodes" ++ 10 ∷ []))

-- the line of what refuses a capture that is at that place of several, the first being at place 1; what refuses no capture has its own
abbrev pub line_at : ℕ → Refusal → List ℕ
line_at place Words = line_of Words
line_at place NoFile = codes "capture " ++ (decimal place ++ (codes ": none of that name" ++ 10 ∷ []))
line_at place (Setup line code) = line_of (Setup line code)
line_at place (Capture at code) = codes "capture " ++ (decimal place ++ (codes ": record " ++ (decimal at ++ (codes " code " ++ (decimal code ++ 10 ∷ [])))))
line_at place (Full most) = line_of (Full most)
line_at place (Nodes nodes) = line_of (Nodes nodes)

-- a file that is not opened is not read
abbrev pub unopened : OpenFault → ReadError
unopened opens.Missing = errors.Missing
unopened opens.Failed = errors.Failed
unopened opens.Memory = errors.Memory

-- a file that is not read
abbrev pub unread : ReadError → Halt
unread errors.Missing = Refused NoFile
unread errors.Failed = Stopped ReadFault
unread errors.Memory = Stopped Memory

-- a text that is no setup, or was not read as one
abbrev pub unset : SetupFault → Halt
unset (setup_faults.Bad line code) = Refused (Setup line code)
unset setup_faults.Memory = Stopped Memory
