-- What comes of appending rows by a writer.
use Rattle.std.specs.Prelude.{◌≡◌, ℕ, ◌+◌, ◌<◌, ◌≤◌, ◌^◌, Bool, Option, List, true, length, map, take, drop, Result, Ok, Err}
use Rattle.std.specs.Arc.{arc_value}
use Rattle.std.specs.List.{list_all}
use Rattle.cf_row.specs.declared.row.Value.TheVariants.{Num}
use Rattle.cf_row.specs.Row.{Fits, RowValue}
use Rattle.cf_pcap.specs.Capture.{FrameValue}
use Rattle.cf_pcap.specs.Links.{is_link}
use Rattle.cf_pcap.specs.declared.links.LinkSet.TheVariants.{Basic, All}
use Rattle.cf_row.specs.declared.packet6.PacketSchema.{PacketSchema}
use Rattle.cf_row.specs.declared.packet6.PacketSchema.TheVariants.{Packet, Packet6}
use Rattle.cf_headers.specs.Packet.{packet_row_of}
use Rattle.cf_headers.specs.Packet6.{packet6_row_of}
use Rattle.cf_setup.specs.declared.source.Source.{Source}
use Rattle.cf_setup.specs.declared.source.Source.TheVariants.{Packets, Records}
use Rattle.cf_table.specs.Values.{book_of}
use Rattle.cf_log.specs.Chains.{AreDoneUpTo}
use Rattle.cf_append.specs.Appends.{HasAppended}
use Rattle.cf_append.specs.declared.appends.AppendFault.{AppendFault}
use Rattle.cf_append.specs.declared.appends.AppendFault.TheVariants as faults
use Rattle.cf_store.specs.Values.{is_value, plain_row}
use Rattle.cf_store.specs.declared.held.Writer.{Writer}
use Rattle.cf_store.specs.declared.shown.Capture.{Capture}
use Rattle.cf_store.specs.declared.shown.Framed.{Framed}
use Rattle.cf_store.specs.declared.shown.ShownValue.{ShownValue}
use Rattle.cf_store.specs.declared.shown.Room.{Room}
use Rattle.cf_store.specs.declared.refusals.AppendRefusal.{AppendRefusal}
use Rattle.cf_store.specs.declared.refusals.AppendRefusal.TheVariants.{Full, Nodes, Unfit, Frame, Memory}

-- a row of numbers
abbrev pub numbers_row : ℕ → List ℕ → RowValue
numbers_row number values = record { num = number; values = map (λ n. Num n) values }

-- the links of frames that a schema of packets reads: those of the captures that are read by it
abbrev pub reads_link : PacketSchema → ℕ → Bool
reads_link Packet link = is_link Basic link
reads_link Packet6 link = is_link All link

-- a frame that is not too long, of a link that the schema reads
pub record IsFrame (schema : PacketSchema) (capture : Capture) (bytes : List ℕ) : Type 0 where
  pub few : length bytes < 2 ^ 32
  pub link : capture.link < 2 ^ 16
  pub is_read : reads_link schema capture.link ≡ true
  pub nothing_reserved : capture.reserved ≡ 0

-- the frame of these bytes, which is captured whole as far as they go
abbrev pub frame_of : Capture → List ℕ → FrameValue
frame_of capture bytes =
    record { num = capture.number; ts = capture.ns; caplen = length bytes; len = capture.length; link = capture.link; bytes = bytes }

-- the row of a frame by the schema
abbrev pub row_by : PacketSchema → FrameValue → RowValue
row_by Packet = packet_row_of
row_by Packet6 = packet6_row_of

-- The row was appended by a writer, which stays one of its log, with its way home, or why it was not.
abbrev pub HasWritten : RowValue → Writer → Writer → Result ℕ AppendFault → Type 0
HasWritten row m n r = (n.of ≡ m.of) × (n.way ≡ m.way) × HasAppended (arc_value m.of).log.shape row m.pass n.pass r

-- What appending a row answers: its offset; or the log or the writer's nodes are full; or the row does not fit the schema, and then the
-- writer is as it was.
abbrev pub AppendsRow : RowValue → Writer → Writer → Result ℕ AppendRefusal → Type 0
AppendsRow row m n (Ok o) = HasWritten row m n (Ok o)
AppendsRow row m n (Err Full) = HasWritten row m n (Err faults.Full)
AppendsRow row m n (Err Nodes) = HasWritten row m n (Err faults.NodesFull)
AppendsRow row m n (Err Unfit) = (n ≡ m) × (Fits (arc_value m.of).log.shape.schema row → ⊥)
AppendsRow row m n (Err Frame) = ⊥
AppendsRow row m n (Err Memory) = ⊥

-- What appending the row that a frame has by the schema answers. Before that the frame may be refused. No memory is needed.
abbrev pub AppendsPacket : PacketSchema → Capture → List ℕ → Writer → Writer → Result ℕ AppendRefusal → Type 0
AppendsPacket schema capture bytes m n (Err Frame) = (n ≡ m) × (IsFrame schema capture bytes → ⊥)
AppendsPacket schema capture bytes m n (Err Memory) = ⊥
AppendsPacket schema capture bytes m n (Err Full) = IsFrame schema capture bytes × AppendsRow (row_by schema (frame_of capture bytes)) m n (Err Full)
AppendsPacket schema capture bytes m n (Err Nodes) = IsFrame schema capture bytes × AppendsRow (row_by schema (frame_of capture bytes)) m n (Err Nodes)
AppendsPacket schema capture bytes m n (Err Unfit) = IsFrame schema capture bytes × AppendsRow (row_by schema (frame_of capture bytes)) m n (Err Unfit)
AppendsPacket schema capture bytes m n (Ok o) = IsFrame schema capture bytes × AppendsRow (row_by schema (frame_of capture bytes)) m n (Ok o)

-- What appending a frame's row answers: a log of packets appends the row that it has by the schema; in a log of records no frame fits.
abbrev pub AppendsBy : Source → Capture → List ℕ → Writer → Writer → Result ℕ AppendRefusal → Type 0
AppendsBy (Packets schema) capture bytes m n r = AppendsPacket schema capture bytes m n r
AppendsBy Records capture bytes m n r = (n ≡ m) × (r ≡ Err Unfit)

abbrev pub AppendsFrame : Capture → List ℕ → Writer → Writer → Result ℕ AppendRefusal → Type 0
AppendsFrame capture bytes m n r = AppendsBy (arc_value m.of).setup.source capture bytes m n r

-- all bytes of the frame stand in the buffer
abbrev pub StandsIn : List ℕ → Framed → Type 0
StandsIn buffer f = f.from + f.count ≤ length buffer

-- they are these
abbrev pub bytes_in : List ℕ → Framed → List ℕ
bytes_in buffer f = take f.count (drop f.from buffer)

-- What appending the row of a frame of a batch answers: what appending its bytes does, which all stand in the buffer; or they do not.
abbrev pub AppendsPart : PacketSchema → List ℕ → Framed → Writer → Writer → Result ℕ AppendRefusal → Type 0
AppendsPart schema buffer f m n (Err Frame) = (n ≡ m) × (StandsIn buffer f → IsFrame schema f.capture (bytes_in buffer f) → ⊥)
AppendsPart schema buffer f m n (Err Full) = StandsIn buffer f × AppendsPacket schema f.capture (bytes_in buffer f) m n (Err Full)
AppendsPart schema buffer f m n (Err Nodes) = StandsIn buffer f × AppendsPacket schema f.capture (bytes_in buffer f) m n (Err Nodes)
AppendsPart schema buffer f m n (Err Unfit) = StandsIn buffer f × AppendsPacket schema f.capture (bytes_in buffer f) m n (Err Unfit)
AppendsPart schema buffer f m n (Err Memory) = ⊥
AppendsPart schema buffer f m n (Ok o) = StandsIn buffer f × AppendsPacket schema f.capture (bytes_in buffer f) m n (Ok o)

-- In a log of records no frame fits.
abbrev pub FramedBy : Source → List ℕ → Framed → Writer → Writer → Result ℕ AppendRefusal → Type 0
FramedBy (Packets schema) buffer f m n r = AppendsPart schema buffer f m n r
FramedBy Records buffer f m n r = (n ≡ m) × (r ≡ Err Unfit)

abbrev pub AppendsFramed : List ℕ → Framed → Writer → Writer → Result ℕ AppendRefusal → Type 0
AppendsFramed buffer f m n r = FramedBy (arc_value m.of).setup.source buffer f m n r

-- The rows of the frames were appended in order, up to one that was refused, and their offsets stand at the front of the list.
abbrev pub AppendsFrames : List ℕ → List Framed → Writer → Writer → List ℕ → List ℕ → ℕ → Option AppendRefusal → Type 0
AppendsFrames buffer = AreDoneUpTo (λ f m n o. AppendsFramed buffer f m n (Ok o)) (λ f m n e. AppendsFramed buffer f m n (Err e))

-- What appending a row of such values answers. It does not fit either if one of them states none. There may be no memory for a row whose
-- values all do.
abbrev pub AppendsPlain : ℕ → List ShownValue → Writer → Writer → Result ℕ AppendRefusal → Type 0
AppendsPlain number values m n (Err Memory) = (n ≡ m) × (list_all is_value values ≡ true)
AppendsPlain number values m n (Err Frame) = ⊥
AppendsPlain number values m n (Err Full) = (list_all is_value values ≡ true) × AppendsRow (plain_row number values) m n (Err Full)
AppendsPlain number values m n (Err Nodes) = (list_all is_value values ≡ true) × AppendsRow (plain_row number values) m n (Err Nodes)
AppendsPlain number values m n (Err Unfit) =
    (n ≡ m) × (list_all is_value values ≡ true → Fits (arc_value m.of).log.shape.schema (plain_row number values) → ⊥)
AppendsPlain number values m n (Ok o) = (list_all is_value values ≡ true) × AppendsRow (plain_row number values) m n (Ok o)

-- What appending a row of numbers answers. There may be no memory for a row that fits.
abbrev pub AppendsValues : ℕ → List ℕ → Writer → Writer → Result ℕ AppendRefusal → Type 0
AppendsValues number values m n (Err Memory) = (n ≡ m) × Fits (arc_value m.of).log.shape.schema (numbers_row number values)
AppendsValues number values m n (Err Frame) = AppendsRow (numbers_row number values) m n (Err Frame)
AppendsValues number values m n (Err Full) = AppendsRow (numbers_row number values) m n (Err Full)
AppendsValues number values m n (Err Nodes) = AppendsRow (numbers_row number values) m n (Err Nodes)
AppendsValues number values m n (Err Unfit) = AppendsRow (numbers_row number values) m n (Err Unfit)
AppendsValues number values m n (Ok o) = AppendsRow (numbers_row number values) m n (Ok o)

-- the places of the writer's log, how many of its records the writer has seen, and how many nodes it has left
pub record IsRoomOf (writer : Writer) (room : Room) : Type 0 where
  pub capacity : room.capacity ≡ (arc_value writer.of).log.shape.capacity
  pub covered : room.covered ≡ length (writer.pass.view).seen
  pub nodes : room.nodes_left + length (book_of writer.pass.view).used ≡ (arc_value writer.of).log.shape.nodes
  pub reserved : room.reserved ≡ 0
