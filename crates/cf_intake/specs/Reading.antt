-- How a capture is read in pieces.
use Rattle.std.specs.Prelude.{◌≡◌, ◌⊎◌, ℕ, ◌+◌, ◌-◌, ◌*◌, ◌^◌, ◌≤◌, ◌<◌, Bool, true, false, List, ◌++◌, length, Option, Some, None, Result, Ok, Err, MatchResult}
use Rattle.std.specs.Io.KnownBytes.{Consumes, IsAtEnd}
use Rattle.cf_outside.specs.Files.{File}
use Rattle.cf_row.specs.Row.{RowValue}
use Rattle.cf_row.specs.declared.schema.Attr.{Attr}
use Rattle.cf_pcap.specs.Capture.{FrameValue}
use Rattle.cf_pcap.specs.declared.scope.Scope.{Scope}
use Rattle.cf_pcap.specs.declared.limit.Length.TheVariants.{Limited}
use Rattle.cf_pcap.specs.Stream as pcap
use Rattle.cf_pcapng.specs.File.{pcapng}
use Rattle.cf_pcapng.specs.Reader as ng
use Rattle.cf_pcap.specs.Limits.{number_of}
use Rattle.cf_pcap.specs.Streams as streams
use Rattle.cf_intake.specs.Devices.{TakesUpTo, TakesAtMost}
use Rattle.cf_row.specs.declared.packet6.PacketSchema.{PacketSchema}
use Rattle.cf_row.specs.Schema6.{attrs_by}
use Rattle.cf_setup.specs.declared.source.Source.{Source}
use Rattle.cf_setup.specs.declared.source.Source.TheVariants.{Packets}
use Rattle.cf_intake.specs.Faults.{HasFaultIn, HasFaultTo, ShowNoFaultIn, ShowsFaultIn}
use Rattle.cf_intake.specs.Files.{captures, IsReadAs, Halts}
use Rattle.cf_intake.specs.Formats.{begins_section}
use Rattle.cf_intake.specs.Parts.{IsBad}
use Rattle.cf_intake.specs.Rows.{CaptureValue, AreFramesBy, AreFramesBefore, AreRowsTo, packet_rows, scope_by}
use Rattle.cf_intake.specs.declared.pieces.Pieces.{Pieces}
use Rattle.cf_intake.specs.declared.reader.Reader.{Reader}
use Rattle.cf_intake.specs.declared.reader.Reader.TheVariants.{Pcap, PcapNg}
use Rattle.cf_intake.specs.declared.refusal.Halt.{Halt}
use Rattle.cf_intake.specs.declared.refusal.Halt.TheVariants.{Refused, Stopped}
use Rattle.cf_intake.specs.declared.refusal.Refusal.{Refusal}
use Rattle.cf_intake.specs.declared.refusal.Refusal.TheVariants.{Capture}

-- whether a reader is one of blocks
abbrev pub reads_blocks : Reader → Bool
reads_blocks (Pcap reader) = false
reads_blocks (PcapNg reader) = true

-- the scope that it reads
abbrev pub reads_scope : Reader → Scope
reads_scope (Pcap reader) = reader.scope
reads_scope (PcapNg reader) = reader.scope

-- the reader's state is that after this stream, of which it has given these frames
abbrev pub IsReaderAt : Reader → List ℕ → List FrameValue → Type 0
IsReaderAt (Pcap reader) stream frames = pcap.IsStateOf reader stream × pcap.AreGiven reader.scope stream frames
IsReaderAt (PcapNg reader) stream frames = ng.IsStateOf reader stream × streams.AreGiven (pcapng reader.scope) stream frames

-- a piece brings a reader from the one state to the other, and gives these frames
abbrev pub Feeds : Reader → Reader → List ℕ → List FrameValue → Type 0
Feeds old new piece given = (stream : List ℕ) (frames : List FrameValue) → IsReaderAt old stream frames → IsReaderAt new (stream ++ piece) (frames ++ given)

-- where a stream may be truncated: it ends within record or block k, after these frames
abbrev pub IsCutAt : (truncated : Bool) → Scope → Bool → List ℕ → List FrameValue → ℕ → Type 0
IsCutAt false scope blocks stream frames k = ⊥
IsCutAt true scope blocks stream frames k = AreFramesBefore scope blocks stream frames × (k ≡ number_of scope.length (length frames))

-- these are its frames, up to its end or to a record or block within which it ends
abbrev pub AreFramesTo : (truncated : Bool) → Scope → Bool → List ℕ → List FrameValue → Option ℕ → Type 0
AreFramesTo truncated scope blocks stream frames None = AreFramesBy scope blocks stream frames
AreFramesTo truncated scope blocks stream frames (Some k) = IsCutAt truncated scope blocks stream frames k

-- it has a fault, and is not truncated where it may be
abbrev pub HasFaultUncut : (truncated : Bool) → Scope → Bool → List ℕ → ℕ → ℕ → Type 0
HasFaultUncut truncated scope blocks stream at code = HasFaultIn scope blocks stream at code
    × ((frames : List FrameValue) (k : ℕ) → IsCutAt truncated scope blocks stream frames k → ⊥)

-- what the reader says at the end of a stream: the frames are those of a capture, or the stream has a fault
abbrev pub Finishes : (truncated : Bool) → Reader → Result (Option ℕ) Halt → Type 0
Finishes truncated reader result =
    (stream : List ℕ) (frames : List FrameValue) → IsReaderAt reader stream frames
    → MatchResult result (AreFramesTo truncated (reads_scope reader) (reads_blocks reader) stream frames)
    (IsBad (HasFaultUncut truncated (reads_scope reader) (reads_blocks reader) stream))

-- such a stream shows a fault, and has it whatever follows, which is told so
abbrev pub IsBrokenIn : Scope → Bool → List ℕ → Refusal → Type 0
IsBrokenIn scope blocks stream why =
    (at : ℕ) × (code : ℕ) × (why ≡ Capture at code) × ((truncated : Bool) (more : List ℕ) → HasFaultUncut truncated scope blocks (stream ++ more) at code)
    × ShowsFaultIn scope blocks stream at code

-- the same of the stream that a reader is after
abbrev pub IsBrokenFor : Reader → Refusal → Type 0
IsBrokenFor reader why =
    (stream : List ℕ) (frames : List FrameValue) → IsReaderAt reader stream frames → IsBrokenIn (reads_scope reader) (reads_blocks reader) stream why

-- the stream that a reader is after shows no fault
abbrev pub IsUnbrokenFor : Reader → Type 0
IsUnbrokenFor reader =
    (stream : List ℕ) (frames : List FrameValue) → IsReaderAt reader stream frames → ShowNoFaultIn (reads_scope reader) (reads_blocks reader) stream

-- of a reader that is after some stream
abbrev pub IfReaderAt : Reader → Type 0 → Type 0
IfReaderAt reader P = (stream : List ℕ) (frames : List FrameValue) → IsReaderAt reader stream frames → P

-- a piece adds few to a list: each frame takes 16 bytes at least, and only the first of them may begin before the piece
abbrev pub AddsFew : {A : Type 0} → List ℕ → List A → List A → Type 0
AddsFew piece old new = 16 * length new ≤ 16 * length old + length piece + 15

-- Of the opened file so many pieces were read, and the last of them lies in the buffer. The rows are those of the frames that end in them.
pub record IsReadOn (pieces : Pieces) (before now : Option (List ℕ)) (rows : List RowValue) : Type 0 where
  pub stream : List ℕ
  pub frames : List FrameValue
  pub taken : Consumes before now stream
  pub at : IsReaderAt pieces.reader stream frames
  pub rows_are : rows ≡ packet_rows pieces.schema frames
  pub blocks : reads_blocks pieces.reader ≡ begins_section stream
  pub scope : reads_scope pieces.reader ≡ scope_by Limited pieces.schema
  pub size : length pieces.buf.items ≡ 65536
  pub long : length stream + 65536 ≡ 65536 * pieces.number + pieces.count
  pub some : 1 ≤ pieces.number
  pub short : pieces.count ≤ 65536
  pub few : pieces.number ≤ 65536
  pub whole : IsAtEnd now ⊎ (pieces.count ≡ 65536)

-- of a capture of which pieces were read, so that this is left
abbrev pub IfReadOn : Pieces → Option (List ℕ) → Type 0 → Type 0
IfReadOn pieces now P = (before : Option (List ℕ)) (rows : List RowValue) → IsReadOn pieces before now rows → P

-- more pieces were read: they leave the file so, and give these rows
abbrev pub ReadsOn : Pieces → Pieces → Option (List ℕ) → Option (List ℕ) → List RowValue → Type 0
ReadsOn old new mid now given = (before : Option (List ℕ)) (rows : List RowValue) → IsReadOn old before mid rows → IsReadOn new before now (rows ++ given)

-- reading on stopped, and leaves the file so
abbrev pub StopsOn : Pieces → Option (List ℕ) → Option (List ℕ) → Type 0
StopsOn pieces mid now = (before : Option (List ℕ)) (rows : List RowValue) → IsReadOn pieces before mid rows → TakesAtMost before now (2 ^ 32)

-- there may be more pieces: the last one filled the buffer, and no more were read than a capture has
abbrev pub HasMore : Pieces → Type 0
HasMore pieces = (pieces.count ≡ 65536) × (pieces.number < 65536)

-- there are none
abbrev pub IsLast : Pieces → Type 0
IsLast pieces = pieces.count ≡ 65536 → 65536 ≤ pieces.number

-- how many pieces may still be read
abbrev pub pieces_left : Pieces → ℕ
pieces_left pieces = 65536 - pieces.number

-- What taking the rows of the opened file answers. The file was read as far as the limit, and its bytes say the rows that were taken, or
-- break the grammar. After a stop some of it was read.
abbrev pub TakesRows : {A : Type 0} (limit : ℕ) (Says : List ℕ → CaptureValue → Type 0) (Breaks : List ℕ → ℕ → ℕ → Type 0) (Took : A → CaptureValue → Type 0)
    (before now : Option (List ℕ)) → Result A Halt → Type 0
TakesRows limit Says Breaks Took before now (Ok taken) = (bytes : List ℕ) × (what : CaptureValue) × TakesUpTo before now limit bytes × Says bytes what
    × Took taken what
TakesRows limit Says Breaks Took before now (Err (Refused why)) = (bytes : List ℕ) × TakesUpTo before now limit bytes × IsBad (Breaks bytes) (Refused why)
TakesRows limit Says Breaks Took before now (Err (Stopped stop)) = TakesAtMost before now limit

-- what handing on the rows of the file of that name answers: it says the rows that were taken, or why it does not
abbrev pub ReadsRows : (source : Source) (truncated : Bool) (attrs : List Attr) (Took : List RowValue → Type 0) (told : Option (List File)) (name : List ℕ)
    (before now : Option (List ℕ)) → Result (Option ℕ) Halt → Type 0
ReadsRows source truncated attrs Took told name before now result =
    MatchResult result
    (λ cut. (rows : List RowValue) × IsReadAs (captures source truncated attrs) told name now (record { rows = rows; cut = cut }) × Took rows)
    (Halts (captures source truncated attrs) told name before now)

-- of the packets of an opened capture, which may be truncated or not
abbrev pub TakesPackets : {A : Type 0} (schema : PacketSchema) (truncated : Bool) (Took : A → CaptureValue → Type 0) (before now : Option (List ℕ))
    → Result A Halt → Type 0
TakesPackets schema truncated Took before now result =
    TakesRows (2 ^ 32) (λ bytes what. AreRowsTo (Packets schema) truncated (attrs_by schema) bytes what.rows what.cut)
    (HasFaultTo (Packets schema) truncated (attrs_by schema)) Took before now result
