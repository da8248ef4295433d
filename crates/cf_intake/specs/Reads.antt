-- A capture is read by single reads: how far they have come, and which records end within them.
use Rattle.std.specs.Prelude.{◌≡◌, ℕ, suc, ◌+◌, ◌<◌, ◌≤◌, Bool, true, false, List, [], ◌∷◌, ◌++◌, length, slice_get, Option, Some, None, Result, MatchResult}
use Rattle.std.specs.Io.KnownBytes.{Appends, Consumes, IsAtEnd, Keeps}
use Rattle.cf_outside.specs.Files.{ShelfView}
use Rattle.cf_row.specs.Row.{RowValue}
use Rattle.cf_row.specs.declared.packet6.PacketSchema.{PacketSchema}
use Rattle.cf_pcap.specs.Capture.{FrameValue}
use Rattle.cf_pcap.specs.declared.scope.Scope.{Scope}
use Rattle.cf_pcap.specs.Stream as pcap
use Rattle.cf_pcapng.specs.File.{pcapng}
use Rattle.cf_pcap.specs.Limits.{num_of}
use Rattle.cf_pcap.specs.Streams as streams
use Rattle.cf_pcap.specs.declared.limit.Length.TheVariants.{Any}
use Rattle.cf_intake.specs.Faults.{HasPacketFaultTo, ShowNoFault, ShowsFault}
use Rattle.cf_intake.specs.Formats.{begins_section}
use Rattle.cf_intake.specs.Parts.{IsBad}
use Rattle.cf_intake.specs.Reading.{IsReaderAt, reads_blocks, reads_scope}
use Rattle.cf_intake.specs.Rows.{ArePacketsTo, packet_rows, scope_by}
use Rattle.cf_intake.specs.declared.reader.Reader.{Reader}
use Rattle.cf_intake.specs.declared.reads.Reads.{Reads}
use Rattle.cf_intake.specs.declared.refusal.Halt.{Halt}
use Rattle.cf_intake.specs.declared.refusal.Refusal.{Refusal}
use Rattle.cf_intake.specs.declared.refusal.Refusal.TheVariants.{Capture}

-- the frames whose last byte lies in the bytes and before any fault, by blocks in pcapng, by records in pcap otherwise
abbrev pub AreFramesGiven : Scope → Bool → List ℕ → List FrameValue → Type 0
AreFramesGiven scope true bytes frames = streams.AreGiven (pcapng scope) bytes frames
AreFramesGiven scope false bytes frames = pcap.AreGiven scope bytes frames

-- the rows of those frames by a schema, in the format that the bytes begin as
pub record AreRowsGiven (schema : PacketSchema) (bytes : List ℕ) (rows : List RowValue) : Type 0 where
  pub frames : List FrameValue
  pub given : AreFramesGiven (scope_by Any schema) (begins_section bytes) bytes frames
  pub rows_are : rows ≡ packet_rows schema frames

-- the rows are numbered one by one from this number on, up to 2^32 - 1
abbrev pub AreNumberedFrom : ℕ → List RowValue → Type 0
AreNumberedFrom from rows = (place : ℕ) (row : RowValue) → slice_get rows place ≡ Some row → row.num ≡ num_of Any (from + place)

-- the rows, numbered one by one from this number on, up to 2^32 - 1
abbrev pub numbered_on : ℕ → List RowValue → List RowValue
numbered_on first [] = []
numbered_on first (row ∷ rows) = record row { num = num_of Any first } ∷ numbered_on (suc first) rows

-- Before four bytes have come, which tell the format, all are kept, and no record has ended.
pub record IsOpening (held bytes : List ℕ) (rows : List RowValue) : Type 0 where
  pub kept : held ≡ bytes
  pub short : length bytes < 4
  pub none : rows ≡ []

-- Then a reader is after the bytes, and the rows are those of the frames that it has given.
pub record IsUnderWay (schema : PacketSchema) (reader : Reader) (bytes : List ℕ) (rows : List RowValue) : Type 0 where
  pub frames : List FrameValue
  pub at : IsReaderAt reader bytes frames
  pub rows_are : rows ≡ packet_rows schema frames
  pub blocks : reads_blocks reader ≡ begins_section bytes
  pub scope : reads_scope reader ≡ scope_by Any schema
  pub long : 4 ≤ length bytes

abbrev pub AreReadBy : PacketSchema → Option Reader → List ℕ → List ℕ → List RowValue → Type 0
AreReadBy schema None held bytes rows = IsOpening held bytes rows
AreReadBy schema (Some reader) held bytes rows = IsUnderWay schema reader bytes rows

-- the most bytes that one read moves
abbrev pub most_moved : Reads → ℕ
most_moved reads = length reads.buf.items

-- These bytes were read, and the records of these rows end in them.
pub record HaveRead (reads : Reads) (bytes : List ℕ) (rows : List RowValue) : Type 0 where
  pub by : AreReadBy reads.schema reads.reader reads.held.items bytes rows
  pub size : 0 < most_moved reads

-- what a shelf tells
abbrev pub view_by : (rest moved : Option (List ℕ)) → ShelfView
view_by rest moved = record { rest = rest; moved = moved }

-- One call of `read` moved these bytes: no more than it may, and some.
pub record MovesPiece (most : ℕ) (before now : ShelfView) (piece : List ℕ) : Type 0 where
  pub taken : Consumes before.rest now.rest piece
  pub noted : Appends before.moved now.moved (length piece ∷ [])
  pub some : 0 < length piece
  pub short : length piece ≤ most

-- One call found the end of the file,
pub record FindsEnd (before now : ShelfView) : Type 0 where
  pub taken : Consumes before.rest now.rest []
  pub noted : Appends before.moved now.moved (0 ∷ [])
  pub end : IsAtEnd now.rest

-- or failed.
pub record FailsToRead (before now : ShelfView) : Type 0 where
  pub kept : Keeps before.rest now.rest
  pub unnoted : Keeps before.moved now.moved

-- A read moved a piece: wherever the reading was, it is there with the piece, and these are the rows of the records that the piece ended.
pub record MovesOn (old new : Reads) (before now : ShelfView) (given : List RowValue) : Type 0 where
  pub piece : List ℕ
  pub moved : 0 < most_moved old → MovesPiece (most_moved old) before now piece
  pub kind : new.schema ≡ old.schema
  pub size : most_moved new ≡ most_moved old
  pub read : (bytes : List ℕ) (rows : List RowValue) → HaveRead old bytes rows → HaveRead new (bytes ++ piece) (rows ++ given)

-- the next read: the end, or a piece
abbrev pub HasNext : Reads → Reads → (before now : ShelfView) → Option (List RowValue) → Type 0
HasNext old new before now None =
    ((bytes : List ℕ) (rows : List RowValue) → HaveRead old bytes rows → HaveRead new bytes rows × FindsEnd before now) × (new.schema ≡ old.schema)
    × (most_moved new ≡ most_moved old)
HasNext old new before now (Some given) = MovesOn old new before now given

-- the same with rows that are numbered from this number on
abbrev pub HasNextFrom : ℕ → Reads → Reads → (before now : ShelfView) → Option (List RowValue) → Type 0
HasNextFrom first old new before now None = HasNext old new before now None
HasNextFrom first old new before now (Some given) = (more : List RowValue) × (given ≡ numbered_on first more) × HasNext old new before now (Some more)

-- what is said of a reading that has begun
abbrev pub WhileReading : Reads → Type 0 → Type 0
WhileReading reads P = (bytes : List ℕ) (rows : List RowValue) → HaveRead reads bytes rows → P

-- what the end of the bytes says: the rows are those of a capture, which may be truncated or not, or the bytes have a fault
abbrev pub HasEndedAs : Bool → Reads → Result (Option ℕ) Halt → Type 0
HasEndedAs truncated reads result =
    (bytes : List ℕ) (rows : List RowValue) → HaveRead reads bytes rows
    → MatchResult result (ArePacketsTo Any reads.schema truncated bytes rows) (IsBad (HasPacketFaultTo Any reads.schema truncated bytes))

-- the bytes show a fault, and have it whatever follows, which is told so
abbrev pub IsBroken : PacketSchema → List ℕ → Refusal → Type 0
IsBroken schema bytes why =
    (at : ℕ) × (code : ℕ) × (why ≡ Capture at code) × ((truncated : Bool) (more : List ℕ) → HasPacketFaultTo Any schema truncated (bytes ++ more) at code)
    × ShowsFault schema bytes at code

-- the same of the bytes that were read
abbrev pub HasBroken : Reads → Refusal → Type 0
HasBroken reads why = (bytes : List ℕ) (rows : List RowValue) → HaveRead reads bytes rows → IsBroken reads.schema bytes why

-- or they show none
abbrev pub HasNotBroken : Reads → Type 0
HasNotBroken reads = (bytes : List ℕ) (rows : List RowValue) → HaveRead reads bytes rows → ShowNoFault reads.schema bytes
