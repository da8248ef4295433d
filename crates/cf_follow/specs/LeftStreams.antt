-- What is left of a stream where only some attributes of its records are kept: a mark for each place says whether its attribute is.
use Rattle.std.specs.Prelude.{Bool, List, map}
use Rattle.cf_row.specs.Row.{RowValue}
use Rattle.cf_shape.specs.Lanes.{IsShape}
use Rattle.cf_project.specs.Named.{KeepsAsks, KeepsShape}
use Rattle.cf_project.specs.Projected.{row_kept, shape_kept}
use Rattle.cf_project.specs.Setups.{setup_kept}
use Rattle.cf_rounds.specs.Streams.{Standing, Stream, Terms}

-- what is left of some records
abbrev pub rows_left : List Bool → List RowValue → List RowValue
rows_left marks rows = map (row_kept marks) rows

-- the same of each read, or of each segment of a window
abbrev pub reads_left : List Bool → List (List RowValue) → List (List RowValue)
reads_left marks reads = map (rows_left marks) reads

-- the terms of a stream of them: the setup and the shape of what is left; all else stays
abbrev pub terms_left : List Bool → Terms → Terms
terms_left marks terms = record terms { setup = setup_kept marks terms.setup; shape = shape_kept marks terms.shape }

-- where a stream of them stands: its window has what is left of the records; what is kept of the lanes are numbers, which stay
abbrev pub standing_left : List Bool → Standing → Standing
standing_left marks now = record now { segments = reads_left marks now.segments }

-- the stream itself, with the same rounds and the same text
abbrev pub stream_left : List Bool → Stream → Stream
stream_left marks stream = record stream { now = standing_left marks stream.now }

-- All is kept that the lanes and the questions name, and `ts`.
pub record KeepsTerms (marks : List Bool) (terms : Terms) : Type 0 where
  pub lawful : IsShape terms.shape
  pub shape : KeepsShape marks terms.shape
  pub asks : KeepsAsks marks (terms.setup).asks
