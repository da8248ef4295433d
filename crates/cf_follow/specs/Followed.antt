-- What is written while a capture is followed, and how that ends.
use Rattle.std.specs.Prelude.{◌≡◌, ◌⊎◌, ℕ, ◌+◌, ◌-◌, ◌^◌, ◌<◌, ◌≤◌, Bool, true, false, List, [], ◌∷◌, ◌++◌, length, map, take, All, Option, Some, None, Result, Ok, Err, codes, decimal}
use Rattle.std.specs.Io.KnownBytes.{Appends, Consumes}
use Rattle.cf_outside.specs.Files.{ShelfView}
use Rattle.cf_row.specs.Row.{RowValue}
use Rattle.cf_shape.specs.Lanes.{ShapeValue}
use Rattle.cf_row.specs.declared.packet6.PacketSchema.{PacketSchema}
use Rattle.cf_row.specs.Schema6.{attrs_by}
use Rattle.cf_pcap.specs.declared.limit.Length.TheVariants.{Any}
use Rattle.cf_intake.specs.Devices.{WritesFront}
use Rattle.cf_intake.specs.Faults.{HasPacketFaultTo, ShowNoFault, ShowsFault}
use Rattle.cf_intake.specs.Reads.{AreRowsGiven, FailsToRead, FindsEnd, HasNext, HaveRead, MovesPiece, most_moved}
use Rattle.cf_intake.specs.Refusals.{line_of}
use Rattle.cf_intake.specs.Rows.{ArePacketsTo}
use Rattle.cf_intake.specs.declared.reads.Reads.{Reads}
use Rattle.cf_intake.specs.declared.refusal.Refusal.{Refusal}
use Rattle.cf_intake.specs.declared.refusal.Refusal.TheVariants as refusals
use Rattle.cf_intake.specs.declared.refusal.Stop.TheVariants as stops
use Rattle.cf_project.specs.Keeping.{keep}
use Rattle.cf_follow.specs.LeftStreams.{KeepsTerms, rows_left, stream_left, terms_left}
use Rattle.cf_rounds.specs.Held.{IsAt, RoundsValue, begun_on}
use Rattle.cf_rounds.specs.Streams.{Stream, Terms, after_reads, begun as begun_stream, forces, halted_text, through, watch_text, with_round}
use Rattle.cf_setup.specs.Setups.{SetupValue, shaped}
use Rattle.cf_window.specs.Watched.{AreCut, AreEnded, bytes_in_all}
use Rattle.cf_window.specs.Windows.{after_row, is_refused, rows_in_all, window}
use Rattle.cf_follow.specs.declared.ending.Ending.{Ending}
use Rattle.cf_follow.specs.declared.left.Left.{Left}
use Rattle.cf_follow.specs.declared.ending.Ending.TheVariants.{Done, Refused, Stopped, Unwritten}

-- the most bytes that one read moves
abbrev pub most_read : ℕ
most_read = 65536

-- Reads have moved these bytes, in some pieces, and each ended these records. Each piece is what one call of the shelf's `read` moved. No
-- call was made behind bytes that show a fault. No read ended more than 4,097 records, so no more come between two rounds.
pub record AreRead (schema : PacketSchema) (before now : ShelfView) (bytes : List ℕ) (reads : List (List RowValue)) : Type 0 where
  pub pieces : List (List ℕ)
  pub cut : AreCut bytes pieces
  pub ended : AreEnded (AreRowsGiven schema) pieces reads
  pub taken : Consumes before.rest now.rest bytes
  pub noted : Appends before.moved now.moved (map (λ piece. length piece) pieces)
  pub unbroken : (k : ℕ) → k < length pieces → ShowNoFault schema (bytes_in_all (take k pieces))
  pub few : All (λ rows. length rows ≤ 4096) reads

-- What a call of `read` more has come to, where one was made: it is made only behind bytes that show no fault.
pub data IsAhead (schema : PacketSchema) (bytes : List ℕ) (before now : ShelfView) : Type 0 where
  uncalled : now ≡ before → IsAhead schema bytes before now
  moved : (piece : List ℕ) → ShowNoFault schema bytes → MovesPiece most_read before now piece → IsAhead schema bytes before now
  ended : ShowNoFault schema bytes → FindsEnd before now → IsAhead schema bytes before now
  failed : ShowNoFault schema bytes → FailsToRead before now → IsAhead schema bytes before now

-- From a window on, each of these records is taken as it comes.
abbrev pub AreTakenFrom : ShapeValue → ℕ → List (List RowValue) → List RowValue → Type 0
AreTakenFrom shape most segments [] = Unit {0}
AreTakenFrom shape most segments (row ∷ rows) =
    (is_refused shape segments row ≡ false) × AreTakenFrom shape most (after_row shape most segments row) rows

-- The records of a stream were taken: there are no more than there may be, and none needs more nodes than a segment has.
pub record AreTaken (begun : RoundsValue) (rows : List RowValue) : Type 0 where
  pub few : length rows ≤ begun.limit
  pub each : AreTakenFrom (begun.terms).shape (begun.terms).most [] rows

-- The stream after these reads and the first records of another.
abbrev pub behind : RoundsValue → List (List RowValue) → List RowValue → Stream
behind begun reads front = through begun.terms (after_reads begun.terms reads) front

-- What rounds that began so have said after these reads.
abbrev pub spoken : RoundsValue → List (List RowValue) → List ℕ
spoken begun reads = (after_reads begun.terms reads).text

-- the text of a stream that ends without a fault
abbrev pub whole : RoundsValue → List (List RowValue) → List ℕ
whole begun reads = watch_text begun.terms reads

-- the text of one that ends with a fault of this line
abbrev pub halted : RoundsValue → Stream → List ℕ → List ℕ
halted begun stream fault = halted_text begun.terms stream fault

-- `truncated: record K`, where a capture ends within that record, and no line where it ends well
abbrev pub truncated_line : Option ℕ → List ℕ
truncated_line None = []
truncated_line (Some k) = codes "truncated: record " ++ (decimal k ++ 10 ∷ [])

-- Why a record doesn't go in behind these: there are as many as there may be; or else it needs more nodes than a segment has.
pub data IsTurnedAway (begun : RoundsValue) (rows : List RowValue) (row : RowValue) (why : Refusal) : Type 0 where
  full : length rows ≡ begun.limit → why ≡ refusals.Full begun.limit → IsTurnedAway begun rows row why
  nodes : length rows < begun.limit → is_refused (begun.terms).shape (window (begun.terms).shape (begun.terms).most rows) row ≡ true
      → why ≡ refusals.Nodes ((begun.terms).shape).nodes → IsTurnedAway begun rows row why

-- The capture has this fault: its end shows it, or what was read does, whatever follows. No call is made behind bytes that show one.
abbrev pub HasBrokenOff : PacketSchema → (truncated : Bool) → (before now : ShelfView) → List ℕ → ℕ → ℕ → Type 0
HasBrokenOff schema truncated before now bytes at code =
    (FindsEnd before now × ShowNoFault schema bytes × HasPacketFaultTo Any schema truncated bytes at code)
    ⊎ ((now ≡ before) × ShowsFault schema bytes at code × ((more : List ℕ) → HasPacketFaultTo Any schema truncated (bytes ++ more) at code))

-- With which text the following of a capture ends so, from what the shelf told to what it tells, and what rounds said before the last of
-- them. All records before the end were taken. The whole capture was read, and says its rows, or it has a fault. Or a record is turned
-- away: those before it in its read have gone in. Or the shelf failed.
pub data IsDueOfStream (schema : PacketSchema) (begun : RoundsValue) (truncated : Bool) (before now : ShelfView) (ending : Ending)
    (said text : List ℕ) : Type 0 where
  done : (mid : ShelfView) (bytes : List ℕ) (reads : List (List RowValue)) (cut : Option ℕ) → AreRead schema before mid bytes reads → FindsEnd mid now
      → AreTaken begun (rows_in_all reads) → ArePacketsTo Any schema truncated bytes (rows_in_all reads) cut → ending ≡ Done → said ≡ spoken begun reads
      → text ≡ whole begun reads ++ truncated_line cut → IsDueOfStream schema begun truncated before now ending said text
  broken : (mid : ShelfView) (bytes : List ℕ) (reads : List (List RowValue)) (at code : ℕ) → AreRead schema before mid bytes reads
      → HasBrokenOff schema truncated mid now bytes at code → AreTaken begun (rows_in_all reads) → ending ≡ Refused (refusals.Capture at code)
      → said ≡ spoken begun reads → text ≡ halted begun (after_reads begun.terms reads) (line_of (refusals.Capture at code))
      → IsDueOfStream schema begun truncated before now ending said text
  refused : (bytes : List ℕ) (reads : List (List RowValue)) (front rest : List RowValue) (row : RowValue) (why : Refusal)
      → AreRead schema before now bytes (reads ++ (front ++ row ∷ rest) ∷ []) → AreTaken begun (rows_in_all reads ++ front)
      → IsTurnedAway begun (rows_in_all reads ++ front) row why → ending ≡ Refused why → said ≡ (behind begun reads front).text
      → text ≡ halted begun (behind begun reads front) (line_of why) → IsDueOfStream schema begun truncated before now ending said text
  unread : (mid : ShelfView) (bytes : List ℕ) (reads : List (List RowValue)) → AreRead schema before mid bytes reads → FailsToRead mid now
      → ShowNoFault schema bytes → AreTaken begun (rows_in_all reads) → ending ≡ Stopped stops.ReadFault → said ≡ spoken begun reads
      → text ≡ halted begun (after_reads begun.terms reads) [] → IsDueOfStream schema begun truncated before now ending said text

-- A front of the text is written, with all of what was said before.
pub record WritesPast (held kept : Option (List ℕ)) (said text : List ℕ) : Type 0 where
  pub told : Option (List ℕ)
  pub more : List ℕ
  pub text_is : text ≡ said ++ more
  pub before : Appends held told said
  pub front : WritesFront told kept more

-- What a stream has said when memory ran out before some records of a read: what its rounds said, the one among them that the first of
-- these records forced, or none.
abbrev pub HasSaidBefore : Terms → Stream → List RowValue → List ℕ → Type 0
HasSaidBefore terms stream [] text = text ≡ stream.text
HasSaidBefore terms stream (row ∷ rest) text =
    (text ≡ stream.text) ⊎ ((forces terms stream.now row ≡ true) × (text ≡ (with_round terms false stream).text))

-- What was written, from what the sink held to what it holds. The text that is due is written whole. Or the sink failed within it, or within
-- what a round said that a record forced, or one after a read: then what rounds said before is written whole, and nothing is read behind it.
-- Or memory ran out, between two reads or within the records of one, and what the rounds said before stays.
pub data IsFollowed (schema : PacketSchema) (begun : RoundsValue) (truncated : Bool) (before now : ShelfView) (held kept : Option (List ℕ))
    (ending : Ending) : Type 0 where
  wrote : (said text : List ℕ) → IsDueOfStream schema begun truncated before now ending said text → Appends held kept text
      → IsFollowed schema begun truncated before now held kept ending
  cut : (due : Ending) (said text : List ℕ) → ending ≡ Unwritten → IsDueOfStream schema begun truncated before now due said text
      → WritesPast held kept said text → IsFollowed schema begun truncated before now held kept ending
  cut_round : (bytes : List ℕ) (reads : List (List RowValue)) (last : List RowValue) → ending ≡ Unwritten
      → AreRead schema before now bytes (reads ++ last ∷ []) → AreTaken begun (rows_in_all reads ++ last)
      → WritesPast held kept (behind begun reads last).text (spoken begun (reads ++ last ∷ []))
      → IsFollowed schema begun truncated before now held kept ending
  cut_forced : (bytes : List ℕ) (reads : List (List RowValue)) (front rest : List RowValue) (row : RowValue) → ending ≡ Unwritten
      → AreRead schema before now bytes (reads ++ (front ++ row ∷ rest) ∷ []) → AreTaken begun (rows_in_all reads ++ front)
      → forces begun.terms (behind begun reads front).now row ≡ true
      → WritesPast held kept (behind begun reads front).text (with_round begun.terms false (behind begun reads front)).text
      → IsFollowed schema begun truncated before now held kept ending
  out : (mid : ShelfView) (bytes : List ℕ) (reads : List (List RowValue)) → ending ≡ Stopped stops.Memory → AreRead schema before mid bytes reads
      → IsAhead schema bytes mid now → AreTaken begun (rows_in_all reads) → Appends held kept (spoken begun reads)
      → IsFollowed schema begun truncated before now held kept ending
  out_within : (bytes : List ℕ) (reads : List (List RowValue)) (front rest : List RowValue) (said : List ℕ) → ending ≡ Stopped stops.Memory
      → AreRead schema before now bytes (reads ++ (front ++ rest) ∷ []) → AreTaken begun (rows_in_all reads ++ front)
      → HasSaidBefore begun.terms (behind begun reads front) rest said → Appends held kept said
      → IsFollowed schema begun truncated before now held kept ending

-- the rounds of a setup on a window of so many segments of that capacity and with so many nodes, before the first record
abbrev pub begun_with : SetupValue → (capacity segments most_nodes every beat limit : ℕ) → RoundsValue
begun_with setup capacity segments most_nodes every beat limit =
    begun_on (record { setup = setup; shape = shaped setup capacity 1 most_nodes; most = segments; every = every; beat = beat }) limit

-- The rounds are on what is left of the records that rounds that began so would have, with all else the same.
pub record IsSetBy (marks : List Bool) (begun rounds : RoundsValue) : Type 0 where
  pub terms : rounds.terms ≡ terms_left marks begun.terms
  pub limit : rounds.limit ≡ begun.limit

-- A reading's rows are whole rows of the schema of which something is left, and the rounds are on what is left of them.
pub record IsLeftOf (left : Left) (rounds : RoundsValue) (kind : PacketSchema) : Type 0 where
  pub packets : left.schema ≡ attrs_by kind
  pub marks : length left.kept.items ≡ length left.schema
  pub shaped : ((rounds.terms).shape).schema ≡ keep left.kept.items left.schema

-- what is left of the rows of the next read
abbrev pub HasNextLeft : List Bool → Reads → Reads → (before now : ShelfView) → Option (List RowValue) → Type 0
HasNextLeft marks old new before now None = HasNext old new before now None
HasNextLeft marks old new before now (Some given) =
    (rows : List RowValue) × (given ≡ rows_left marks rows) × HasNext old new before now (Some rows)

-- No record has come, no round was made, and nothing was read. The rounds are to say what rounds on whole records would that begin so: all
-- is kept that these name.
pub record IsReady (begun rounds : RoundsValue) (left : Left) (reading : Reads) : Type 0 where
  pub keeps : KeepsTerms left.kept.items begun.terms
  pub whole : left.schema ≡ ((begun.terms).shape).schema
  pub set : IsSetBy left.kept.items begun rounds
  pub at : IsAt rounds [] (stream_left left.kept.items (begun_stream begun.terms))
  pub unspent : rounds.is_spent ≡ false
  pub have : HaveRead reading [] []
  pub size : most_moved reading ≡ most_read

-- The following of a capture goes on: these reads were made, what is left of their records has gone in, and what rounds on the whole ones
-- say is written.
pub record IsGoingOn (schema : PacketSchema) (begun : RoundsValue) (marks : List Bool) (rounds : RoundsValue) (reading : Reads)
    (before now : ShelfView) (held kept : Option (List ℕ)) : Type 0 where
  pub bytes : List ℕ
  pub reads : List (List RowValue)
  pub read : AreRead schema before now bytes reads
  pub have : HaveRead reading bytes (rows_in_all reads)
  pub size : most_moved reading ≡ most_read
  pub kind : reading.schema ≡ schema
  pub keeps : KeepsTerms marks begun.terms
  pub set : IsSetBy marks begun rounds
  pub at : IsAt rounds (rows_left marks (rows_in_all reads)) (stream_left marks (after_reads begun.terms reads))
  pub took : AreTaken begun (rows_in_all reads)
  pub unspent : rounds.is_spent ≡ false
  pub within : (rounds.now).count ≤ rounds.limit
  pub written : Appends held kept (spoken begun reads)

-- The end of the capture is found, behind bytes that show no fault.
pub record IsAtLast (schema : PacketSchema) (begun : RoundsValue) (marks : List Bool) (rounds : RoundsValue) (reading : Reads)
    (before now : ShelfView) (held kept : Option (List ℕ)) : Type 0 where
  pub mid : ShelfView
  pub on : IsGoingOn schema begun marks rounds reading before mid held kept
  pub end : FindsEnd mid now
  pub sound : ShowNoFault schema on.bytes

-- What a read comes to behind so many: the following goes on with one more, or the end of the capture is found, or it has ended.
abbrev pub ReadComesTo : PacketSchema → RoundsValue → List Bool → RoundsValue → Reads → (made : ℕ) → (before now : ShelfView)
    → (held kept : Option (List ℕ)) → Result Bool Ending → Type 0
ReadComesTo schema begun marks rounds reading made before now held kept (Ok true) =
    (on : IsGoingOn schema begun marks rounds reading before now held kept) × (length on.reads ≡ made + 1)
ReadComesTo schema begun marks rounds reading made before now held kept (Ok false) = IsAtLast schema begun marks rounds reading before now held kept
ReadComesTo schema begun marks rounds reading made before now held kept (Err ending) =
    (truncated : Bool) → IsFollowed schema begun truncated before now held kept ending

-- What all reads come to: the end of the capture is found; or as many were made as are counted; or the following has ended.
abbrev pub ReadsComeTo : PacketSchema → RoundsValue → List Bool → RoundsValue → Reads → (before now : ShelfView) → (held kept : Option (List ℕ))
    → Result Bool Ending → Type 0
ReadsComeTo schema begun marks rounds reading before now held kept (Ok true) = IsAtLast schema begun marks rounds reading before now held kept
ReadsComeTo schema begun marks rounds reading before now held kept (Ok false) =
    (on : IsGoingOn schema begun marks rounds reading before now held kept) × (2 ^ 64 - 1 ≤ length on.reads)
ReadsComeTo schema begun marks rounds reading before now held kept (Err ending) =
    (truncated : Bool) → IsFollowed schema begun truncated before now held kept ending
