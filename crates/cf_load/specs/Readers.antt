-- The passes by which questions are asked of what the segments' roots have seen.
use Rattle.std.specs.Prelude.{◌≡◌, ◌<◌, ◌≤◌, ◌*◌, ◌^◌, ℕ, true, List, length, map, slice_index_or, All}
use Rattle.std.specs.List.{flat_map, AllZip}
use denote.Ref.{Bor}
use Rattle.cf_row.specs.declared.row.Entry.{Entry}
use Rattle.cf_shape.specs.Lanes.{ShapeValue}
use Rattle.cf_plain.specs.Asks.{Suits}
use Rattle.cf_plain.specs.Answered.{answer_on}
use Rattle.cf_plain.specs.declared.answer.Answer.{Answer}
use Rattle.cf_plain.specs.declared.ask.Ask.{Ask}
use Rattle.cf_plain.specs.declared.finding.Finding.{Finding}
use Rattle.cf_table.specs.Values.{PassValue, LogValue}
use Rattle.cf_table.specs.Moves.{IsReading}
use Rattle.cf_query.specs.Stretches.{goes_over_all}
use Rattle.cf_scan.specs.Parts.{IsPart, behind, entries_in}
use Rattle.cf_scan.specs.declared.parts.Part.{Part}
use Rattle.cf_segments.specs.Readers.{ArePartsOf, Reads}
use Rattle.cf_segments.specs.Segments.{SegmentsValue, all_of}
use Rattle.cf_load.specs.Planned.{finding_on}
use Rattle.cf_load.specs.Priors.{HasFound}
use Rattle.cf_load.specs.declared.finals.Found.{Found}
use Rattle.cf_load.specs.declared.finals.Question.{Question}
use Rattle.cf_load.specs.declared.finals.Question.TheVariants as questions

-- the entries that a pass has seen
abbrev pub seen_by : PassValue → List Entry
seen_by pass = (pass.view).seen

-- Each pass reads the log of the shape that stands at its place, and the logs have numbers of 20 bits for their places.
pub record AreReaders (shape : ShapeValue) (logs : List (Bor LogValue)) (passes : List PassValue) : Type 0 where
  pub many : length passes ≤ length logs
  pub few : shape.capacity * length passes ≤ 2 ^ 20
  pub shapes : (k : ℕ) (log : Bor LogValue) → k < length passes → ((slice_index_or logs k log).now).shape ≡ shape
  pub each : (k : ℕ) (log : Bor LogValue) (pass : PassValue) → k < length passes
      → IsReading (slice_index_or logs k log).now (slice_index_or passes k pass)

-- A list or a total can be asked of these parts of the logs.
pub record CanScan (shape : ShapeValue) (logs : List (Bor LogValue)) (ask : Ask) (parts : List Part) : Type 0 where
  pub all : goes_over_all ask ≡ true
  pub suits : Suits shape ask
  pub each : All (IsPart shape (map behind logs)) parts
  pub few : length (flat_map entries_in parts) ≤ 2 ^ 20

-- the question can be asked by its passes of these logs
abbrev pub CanBeAsked : ShapeValue → List (Bor LogValue) → Question → Type 0
CanBeAsked shape logs (questions.Walk ask readers) = Suits shape ask × AreReaders shape logs readers.items
CanBeAsked shape logs (questions.Scan ask parts) = CanScan shape logs ask parts.items

-- its answer on what they have seen
abbrev pub answer_by : ShapeValue → Question → Answer
answer_by shape (questions.Walk ask readers) = answer_on shape (flat_map seen_by readers.items) ask
answer_by shape (questions.Scan ask parts) = answer_on shape (flat_map entries_in parts.items) ask

-- what it finds in what they have seen
abbrev pub finding_by : ShapeValue → Question → Finding
finding_by shape (questions.Walk ask readers) = finding_on shape (flat_map seen_by readers.items) ask
finding_by shape (questions.Scan ask parts) = finding_on shape (flat_map entries_in parts.items) ask

-- that is what was found by them, with the question and the number of entries
abbrev pub IsFoundBy : ShapeValue → Question → Found → Type 0
IsFoundBy shape (questions.Walk ask readers) found =
    (found.ask ≡ ask) × HasFound shape ask (flat_map seen_by readers.items) found.tail found.finding
IsFoundBy shape (questions.Scan ask parts) found =
    (found.ask ≡ ask) × HasFound shape ask (flat_map entries_in parts.items) found.tail found.finding

-- It is that question, with a pass for each segment. One that goes over all entries has a pass for each part of them.
abbrev pub IsQuestion : SegmentsValue → Ask → Question → Type 0
IsQuestion s ask (questions.Walk own readers) = (own ≡ ask) × AllZip Reads (all_of s) readers.items
IsQuestion s ask (questions.Scan own parts) = (own ≡ ask) × (goes_over_all ask ≡ true) × ArePartsOf s parts.items
