-- The row of a frame was appended, and so the frame was.
use Rattle.std.proofs.Common.{◌≡◌, ◌∙◌, ℕ, List, true, Result, Ok, Err, ap, refl, subst, sym}
use Rattle.std.specs.List.{list_all}
use Rattle.cf_store.specs.Values.{is_value, plain_row}
use Rattle.std.specs.Arc.{arc_value}
use Rattle.cf_row.specs.Row.{RowValue}
use Rattle.cf_row.specs.declared.packet6.PacketSchema.{PacketSchema}
use Rattle.cf_setup.specs.declared.source.Source.{Source}
use Rattle.cf_setup.specs.declared.source.Source.TheVariants.{Packets, Records}
use Rattle.cf_store.specs.declared.held.Shared.{Shared}
use Rattle.cf_store.specs.declared.held.Writer.{Writer}
use Rattle.cf_store.specs.declared.shown.Capture.{Capture}
use Rattle.cf_store.specs.declared.shown.Framed.{Framed}
use Rattle.cf_store.specs.declared.shown.ShownValue.{ShownValue}
use Rattle.cf_store.specs.declared.refusals.AppendRefusal.{AppendRefusal}
use Rattle.cf_store.specs.declared.refusals.AppendRefusal.TheVariants.{Full, Nodes, Unfit, Frame, Memory}
use Rattle.cf_store.specs.Appends.{AppendsBy, AppendsFrame, AppendsFramed, AppendsPacket, AppendsPart, AppendsPlain, AppendsRow, AppendsValues, FramedBy, IsFrame, StandsIn, bytes_in, frame_of, numbers_row, row_by}

of_row : (schema : PacketSchema) (capture : Capture) (bytes : List ℕ) (m n : Writer) (r : Result ℕ AppendRefusal) → IsFrame schema capture bytes
    → AppendsRow (row_by schema (frame_of capture bytes)) m n r → AppendsPacket schema capture bytes m n r
of_row schema capture bytes m n (Ok o) frame did = (frame, did)
of_row schema capture bytes m n (Err Full) frame did = (frame, did)
of_row schema capture bytes m n (Err Nodes) frame did = (frame, did)
of_row schema capture bytes m n (Err Unfit) frame did = (frame, did)
of_row schema capture bytes m n (Err Frame) frame did = absurd did
of_row schema capture bytes m n (Err Memory) frame did = absurd did

source_of : (shared : Shared) (m : Writer) (source : Source) → shared ≡ arc_value m.of → shared.setup.source ≡ source
    → source ≡ (arc_value m.of).setup.source
source_of shared m source is of = sym of ∙ ap (λ (x : Shared). x.setup.source) is

-- A log of packets appends the row of a frame by its schema; one of records refuses it. `shared` is the writer's log and setup, as they were read.
pub packet_by : (shared : Shared) (schema : PacketSchema) (capture : Capture) (bytes : List ℕ) (m n : Writer) (r : Result ℕ AppendRefusal)
    → shared ≡ arc_value m.of → shared.setup.source ≡ Packets schema → AppendsPacket schema capture bytes m n r → AppendsFrame capture bytes m n r
packet_by shared schema capture bytes m n r is of did =
    subst (λ (s : Source). AppendsBy s capture bytes m n r) (source_of shared m (Packets schema) is of) did

pub record_by : (shared : Shared) (capture : Capture) (bytes : List ℕ) (m : Writer) → shared ≡ arc_value m.of → shared.setup.source ≡ Records
    → AppendsFrame capture bytes m m (Err Unfit)
record_by shared capture bytes m is of = subst (λ (s : Source). AppendsBy s capture bytes m m (Err Unfit)) (source_of shared m Records is of) (refl, refl)

pub frame_appended : (capture : Capture) (bytes : List ℕ) (m n : Writer) (shared : Shared) (schema : PacketSchema) (row : RowValue)
    (r : Result ℕ AppendRefusal) → shared ≡ arc_value m.of → shared.setup.source ≡ Packets schema → IsFrame schema capture bytes
    → row ≡ row_by schema (frame_of capture bytes) → AppendsRow row m n r → AppendsFrame capture bytes m n r
frame_appended capture bytes m n shared schema row r is of frame row_is did =
    packet_by shared schema capture bytes m n r is of (of_row schema capture bytes m n r frame (subst (λ (x : RowValue). AppendsRow x m n r) row_is did))

-- the same of a frame of a batch
pub part_by : (shared : Shared) (schema : PacketSchema) (buffer : List ℕ) (f : Framed) (m n : Writer) (r : Result ℕ AppendRefusal)
    → shared ≡ arc_value m.of → shared.setup.source ≡ Packets schema → AppendsPart schema buffer f m n r → AppendsFramed buffer f m n r
part_by shared schema buffer f m n r is of did =
    subst (λ (s : Source). FramedBy s buffer f m n r) (source_of shared m (Packets schema) is of) did

pub record_part_by : (shared : Shared) (buffer : List ℕ) (f : Framed) (m : Writer) → shared ≡ arc_value m.of → shared.setup.source ≡ Records
    → AppendsFramed buffer f m m (Err Unfit)
record_part_by shared buffer f m is of = subst (λ (s : Source). FramedBy s buffer f m m (Err Unfit)) (source_of shared m Records is of) (refl, refl)

of_packet : (schema : PacketSchema) (buffer : List ℕ) (f : Framed) (m n : Writer) (r : Result ℕ AppendRefusal) → StandsIn buffer f
    → AppendsPacket schema f.capture (bytes_in buffer f) m n r → AppendsPart schema buffer f m n r
of_packet schema buffer f m n (Ok o) stands did = (stands, did)
of_packet schema buffer f m n (Err Full) stands did = (stands, did)
of_packet schema buffer f m n (Err Nodes) stands did = (stands, did)
of_packet schema buffer f m n (Err Unfit) stands did = (stands, did)
of_packet schema buffer f m n (Err Frame) stands did = (did.0, λ there. did.1)
of_packet schema buffer f m n (Err Memory) stands did = did

pub framed_appended : (buffer bytes : List ℕ) (f : Framed) (m n : Writer) (shared : Shared) (schema : PacketSchema) (r : Result ℕ AppendRefusal)
    → shared ≡ arc_value m.of → shared.setup.source ≡ Packets schema → StandsIn buffer f → bytes ≡ bytes_in buffer f
    → AppendsFrame f.capture bytes m n r → AppendsFramed buffer f m n r
framed_appended buffer bytes f m n shared schema r is of stands bytes_are did =
    part_by shared schema buffer f m n r is of
    (of_packet schema buffer f m n r stands
    (subst (λ (s : Source). AppendsBy s f.capture (bytes_in buffer f) m n r) (sym (source_of shared m (Packets schema) is of))
    (subst (λ (bs : List ℕ). AppendsFrame f.capture bs m n r) bytes_are did)))

-- a writer that has appended a frame of a batch is one of the same log
same_by : (source : Source) (buffer : List ℕ) (f : Framed) (m n : Writer) (o : ℕ) → FramedBy source buffer f m n (Ok o) → n.of ≡ m.of
same_by (Packets schema) buffer f m n o did = did.1.1.0
same_by Records buffer f m n o did = absurd (cc did.1)

pub framed_same : (buffer : List ℕ) (f : Framed) (m n : Writer) (o : ℕ) → AppendsFramed buffer f m n (Ok o) → n.of ≡ m.of
framed_same buffer f m n o did = same_by (arc_value m.of).setup.source buffer f m n o did

of_values : (number : ℕ) (values : List ℕ) (m n : Writer) (r : Result ℕ AppendRefusal) → AppendsRow (numbers_row number values) m n r
    → AppendsValues number values m n r
of_values number values m n (Ok o) did = did
of_values number values m n (Err Full) did = did
of_values number values m n (Err Nodes) did = did
of_values number values m n (Err Unfit) did = did
of_values number values m n (Err Frame) did = did
of_values number values m n (Err Memory) did = absurd did

pub values_appended : (number : ℕ) (values : List ℕ) (m n : Writer) (row : RowValue) (r : Result ℕ AppendRefusal) → row ≡ numbers_row number values
    → AppendsRow row m n r
    → AppendsValues number values m n r
values_appended number values m n row r is did = of_values number values m n r (subst (λ (x : RowValue). AppendsRow x m n r) is did)

of_plain : (number : ℕ) (values : List ShownValue) (m n : Writer) (r : Result ℕ AppendRefusal) → list_all is_value values ≡ true
    → AppendsRow (plain_row number values) m n r → AppendsPlain number values m n r
of_plain number values m n (Ok o) all did = (all, did)
of_plain number values m n (Err Full) all did = (all, did)
of_plain number values m n (Err Nodes) all did = (all, did)
of_plain number values m n (Err Unfit) all did = (did.0, λ also. did.1)
of_plain number values m n (Err Frame) all did = did
of_plain number values m n (Err Memory) all did = absurd did

pub plain_appended : (number : ℕ) (values : List ShownValue) (m n : Writer) (row : RowValue) (r : Result ℕ AppendRefusal)
    → list_all is_value values ≡ true → row ≡ plain_row number values → AppendsRow row m n r → AppendsPlain number values m n r
plain_appended number values m n row r all is did = of_plain number values m n r all (subst (λ (x : RowValue). AppendsRow x m n r) is did)

-- stands in for a frame where there is none
abbrev pub no_frame : Framed
no_frame = record { capture = record { ns = 0; number = 0; length = 0; link = 0; reserved = 0 }; from = 0; count = 0 }
