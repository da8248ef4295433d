-- Parts of logs that stand end to end, each with a pass that reads it.
use Rattle.std.specs.Prelude.{◌≡◌, List, Some, slice_get}
use Rattle.std.specs.Option.{IfSome}
use denote.Ref.{Bor}
use Rattle.cf_row.specs.declared.row.Entry.{Entry}
use Rattle.cf_shape.specs.Lanes.{ShapeValue}
use Rattle.cf_plain.specs.Asks.{rows_in}
use Rattle.cf_plain.specs.Segments.{finding_in}
use Rattle.cf_plain.specs.declared.ask.Ask.{Ask}
use Rattle.cf_table.specs.Values.{LogValue}
use Rattle.cf_table.specs.Moves.{IsReading}
use Rattle.cf_query.specs.Stretches.{IsStretch, stretch}
use Rattle.cf_scan.specs.declared.parts.Part.{Part}

-- the log behind a reference
abbrev pub behind : Bor LogValue → LogValue
behind log = log.now

-- the entries of a part
abbrev pub entries_in : Part → List Entry
entries_in part = stretch part.from part.to (part.reader.view).seen

-- it is a part of the log of the shape that stands at its place, and its pass has seen it
pub record IsPart (shape : ShapeValue) (logs : List LogValue) (part : Part) : Type 0 where
  pub log : LogValue
  pub at : slice_get logs part.place ≡ Some log
  pub shape_is : log.shape ≡ shape
  pub reads : IsReading log part.reader
  pub within : IsStretch part.from part.to (part.reader.view).seen

-- What was found in the part, if anything was, is what the question finds in its entries.
pub record IsScanned (shape : ShapeValue) (ask : Ask) (part : Part) : Type 0 where
  pub within : IsStretch part.from part.to (part.reader.view).seen
  pub found : IfSome part.found (λ finding. finding ≡ finding_in shape ask (rows_in (entries_in part)))

-- the part was scanned, and its entries are as they were
pub record HasScanned (shape : ShapeValue) (ask : Ask) (before after : Part) : Type 0 where
  pub is : IsScanned shape ask after
  pub entries : entries_in after ≡ entries_in before
