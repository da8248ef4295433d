-- What the live questions found before a log's first entry.
use Rattle.std.specs.Prelude.{◌≡◌, ◌+◌, ◌<◌, ◌≤◌, ◌^◌, ℕ, List, length}
use Rattle.std.specs.List.{flat_map}
use Rattle.cf_row.specs.declared.row.Entry.{Entry}
use Rattle.cf_plain.specs.Asks.{rows_in}
use Rattle.cf_plain.specs.Segments.{finding_in}
use Rattle.cf_plain.specs.declared.ask.Ask.{Ask}
use Rattle.cf_plain.specs.declared.finding.Finding.{Finding}
use Rattle.cf_shape.specs.Lanes.{ShapeValue}
use Rattle.cf_load.specs.declared.plan.LivePlan.{LivePlan}
use Rattle.cf_load.specs.declared.prior.FoundBefore.{FoundBefore}
use Rattle.cf_load.specs.Planned.{findings_on}
use Rattle.cf_segments.specs.Segments.{SegmentsValue, base_of, seen_of}

-- the entries before the log's first one
abbrev pub entries_before : FoundBefore → List Entry
entries_before prior = flat_map seen_of prior.closed.value.items

-- there are so many entries, and the question found that in them
pub record HasFound (shape : ShapeValue) (ask : Ask) (entries : List Entry) (count : ℕ) (finding : Finding) : Type 0 where
  pub count_is : count ≡ length entries
  pub finding_is : finding ≡ finding_in shape ask (rows_in entries)

-- The base and the findings are those of the entries before the log's first one, and places in the log and before have numbers of 20
-- bits. Where no round is made, nothing was asked.
pub record IsFoundBefore (shape : ShapeValue) (plan : LivePlan) (prior : FoundBefore) : Type 0 where
  pub base_is : prior.base ≡ length (entries_before prior)
  pub found : 0 < plan.rounds → prior.findings.items ≡ findings_on shape plan (entries_before prior)
  pub few : prior.base + shape.capacity ≤ 2 ^ 20

-- it is what they found in the closed segments
pub record KnowsBefore (s : SegmentsValue) (plan : LivePlan) (prior : FoundBefore) : Type 0 where
  pub is : IsFoundBefore s.shape plan prior
  pub base : prior.base ≡ base_of s
  pub entries : entries_before prior ≡ flat_map seen_of s.closed
