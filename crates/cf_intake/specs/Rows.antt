-- The rows of captures.
use Rattle.std.specs.Prelude.{◌≡◌, ℕ, ◌^◌, Bool, true, false, List, length, map, Option, Some, None}
use Rattle.cf_row.specs.Row.{RowValue}
use Rattle.cf_row.specs.declared.schema.Attr.{Attr}
use Rattle.cf_headers.specs.Packet.{packet_row_of}
use Rattle.cf_headers.specs.Packet6.{packet6_row_of}
use Rattle.cf_row.specs.declared.packet6.PacketSchema.{PacketSchema}
use Rattle.cf_row.specs.declared.packet6.PacketSchema.TheVariants.{Packet, Packet6}
use Rattle.cf_records.specs.Records.{IsRecordFile}
use Rattle.cf_pcap.specs.Capture.{FrameValue, IsCapture}
use Rattle.cf_pcap.specs.declared.links.LinkSet.{LinkSet}
use Rattle.cf_pcap.specs.declared.scope.Scope.{Scope}
use Rattle.cf_pcap.specs.Limits.{number_of}
use Rattle.cf_pcap.specs.declared.limit.Length.{Length}
use Rattle.cf_pcap.specs.declared.limit.Length.TheVariants.{Limited}
use Rattle.cf_pcap.specs.declared.links.LinkSet.TheVariants.{Basic, All}
use Rattle.cf_pcap.specs.Truncated as records
use Rattle.cf_pcapng.specs.Rules.{IsFileOf}
use Rattle.cf_pcapng.specs.Truncated as blocks
use Rattle.cf_setup.specs.declared.source.Source.{Source}
use Rattle.cf_setup.specs.declared.source.Source.TheVariants.{Packets, Records}
use Rattle.cf_intake.specs.Formats.{begins_section}

-- the row of a captured packet by a schema of packets
abbrev pub row_by : PacketSchema → FrameValue → RowValue
row_by Packet = packet_row_of
row_by Packet6 = packet6_row_of

-- the links that are read under it
abbrev pub links_by : PacketSchema → LinkSet
links_by Packet = Basic
links_by Packet6 = All

-- the captures of that length that are read under it
abbrev pub scope_by : Length → PacketSchema → Scope
scope_by longest schema = record { links = links_by schema; length = longest }

-- the rows of captured packets
abbrev pub packet_rows : PacketSchema → List FrameValue → List RowValue
packet_rows schema frames = map (row_by schema) frames

-- the frames of a capture: of blocks in pcapng where it begins as such a file, of records in pcap otherwise
abbrev pub AreFramesBy : Scope → Bool → List ℕ → List FrameValue → Type 0
AreFramesBy scope true bytes frames = IsFileOf scope bytes frames
AreFramesBy scope false bytes frames = IsCapture scope bytes frames

-- the rows of a capture of packets
pub record ArePackets (longest : Length) (schema : PacketSchema) (bytes : List ℕ) (rows : List RowValue) : Type 0 where
  pub frames : List FrameValue
  pub frames_are : AreFramesBy (scope_by longest schema) (begins_section bytes) bytes frames
  pub rows_are : rows ≡ packet_rows schema frames

-- by what the setup's rows are read from: packets, or other records
abbrev pub AreRowsBy : Source → List Attr → List ℕ → List RowValue → Type 0
AreRowsBy (Packets schema) attrs bytes rows = ArePackets Limited schema bytes rows
AreRowsBy Records attrs bytes rows = IsRecordFile attrs bytes rows

-- the frames of a capture that ends within a block or a record: those before it
abbrev pub AreFramesBefore : Scope → Bool → List ℕ → List FrameValue → Type 0
AreFramesBefore scope true bytes frames = blocks.IsTruncated scope bytes frames
AreFramesBefore scope false bytes frames = records.IsTruncated scope bytes frames

-- the rows of such a capture of packets
pub record ArePacketsBefore (longest : Length) (schema : PacketSchema) (bytes : List ℕ) (rows : List RowValue) : Type 0 where
  pub frames : List FrameValue
  pub frames_are : AreFramesBefore (scope_by longest schema) (begins_section bytes) bytes frames
  pub rows_are : rows ≡ packet_rows schema frames

-- The rows of a capture of packets of that length, up to its end, or to record k within which it ends, if it may be truncated.
abbrev pub ArePacketsTo : Length → PacketSchema → (truncated : Bool) → List ℕ → List RowValue → Option ℕ → Type 0
ArePacketsTo longest schema truncated bytes rows None = ArePackets longest schema bytes rows
ArePacketsTo longest schema true bytes rows (Some k) = ArePacketsBefore longest schema bytes rows × (k ≡ number_of longest (length rows))
ArePacketsTo longest schema false bytes rows (Some k) = ⊥

-- By what the rows are read from, and where a capture of packets may be truncated: it ends within record k, after these rows. A file of other
-- records is never truncated.
abbrev pub IsTruncatedAt : (source : Source) (truncated : Bool) → List ℕ → List RowValue → ℕ → Type 0
IsTruncatedAt Records truncated bytes rows k = ⊥
IsTruncatedAt (Packets schema) false bytes rows k = ⊥
IsTruncatedAt (Packets schema) true bytes rows k = ArePacketsBefore Limited schema bytes rows × (k ≡ length rows)

-- what a capture says: its rows, and the record within which it ends, if it does
pub record CaptureValue : Type 0 where
  pub rows : List RowValue
  pub cut : Option ℕ

-- these are its rows, up to its end or to a record within which it ends
abbrev pub AreRowsTo : (source : Source) (truncated : Bool) → List Attr → List ℕ → List RowValue → Option ℕ → Type 0
AreRowsTo source truncated attrs bytes rows None = AreRowsBy source attrs bytes rows
AreRowsTo source truncated attrs bytes rows (Some k) = IsTruncatedAt source truncated bytes rows k

-- a file is read no further than its longest lawful form
abbrev pub limit_by : Source → ℕ
limit_by (Packets schema) = 2 ^ 32
limit_by Records = 2 ^ 24
