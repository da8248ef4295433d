-- Files of typed records: a record with the schema's names, and then records with a value of each attribute.
use Rattle.std.specs.Prelude.{◌≡◌, ◌≢◌, Bool, true, false, ℕ, ◌+◌, ◌<◌, ◌≤◌, ◌^◌, ⊤, List, [], ◌∷◌, ◌++◌, length, map, take, All, Some, Result, Ok, Err, slice_get}
use Rattle.std.specs.Borrow.{Bor}
use Rattle.csv.specs.Reading.{AreRecords, Reached, Ready, default_config, strip_bom, source_of, reader_trim, reader_config, reader_state}
use Rattle.csv.specs.declared.parser.State.TheVariants as st
use Rattle.csv.specs.declared.reader.Trim.TheVariants as trim
use Rattle.csv.specs.declared.reader.Reader.{Reader}
use Rattle.cf_row.specs.declared.schema.Attr.{Attr}
use Rattle.cf_row.specs.declared.row.Value.{Value}
use Rattle.cf_row.specs.Row.{Fits, RowValue}
use Rattle.cf_filter.specs.Grammar.{ValueText}
use Rattle.cf_records.specs.declared.fault.RecordFault.{RecordFault}
use Rattle.cf_records.specs.declared.fault.RecordFault.TheVariants.{NoHeader, BadHeader, BadCount, BadValue, TooManyBytes, Memory}

-- These are the records of a text, as csv reads it by default: fields with commas between them, quotes round a field and doubled
-- within, CR, LF or both at the end of a record (RFC 4180); empty lines are none, and a mark of the byte order is passed over.
unfoldable pub AreRead : List ℕ → List (List (List ℕ)) → Type 0
AreRead text records = AreRecords default_config st.StartRecord (strip_bom text) records

-- the names of the attributes in order, as the first record of a file has to have them
abbrev pub names_of : List Attr → List (List ℕ)
names_of attrs = map (λ (attr : Attr). attr.name) attrs

-- each field is the text of its attribute's value
abbrev pub HaveValues : List Attr → List (List ℕ) → List Value → Type 0
HaveValues [] [] [] = ⊤
HaveValues [] [] (value ∷ values) = ⊥
HaveValues [] (field ∷ fields) values = ⊥
HaveValues (attr ∷ attrs) [] values = ⊥
HaveValues (attr ∷ attrs) (field ∷ fields) [] = ⊥
HaveValues (attr ∷ attrs) (field ∷ fields) (value ∷ values) = ValueText attr.kind field value × HaveValues attrs fields values

-- the records are rows, numbered from that number on
abbrev pub AreRows : List Attr → ℕ → List (List (List ℕ)) → List RowValue → Type 0
AreRows attrs num [] [] = ⊤
AreRows attrs num [] (row ∷ rows) = ⊥
AreRows attrs num (fields ∷ records) [] = ⊥
AreRows attrs num (fields ∷ records) (row ∷ rows) = (row.num ≡ num) × HaveValues attrs fields row.values × AreRows attrs (num + 1) records rows

-- the field of that column is the first that is no lawful value of its attribute
pub record HasBadField (attrs : List Attr) (fields : List (List ℕ)) (column : ℕ) : Type 0 where
  pub values : List Value
  pub before : HaveValues (take column attrs) (take column fields) values
  pub attr : Attr
  pub attr_is : slice_get attrs column ≡ Some attr
  pub field : List ℕ
  pub field_is : slice_get fields column ≡ Some field
  pub none : (value : Value) → ValueText attr.kind field value → ⊥

-- what is wrong with the record of that number: the number of its fields, or else a field
abbrev pub HasRecordFault : List Attr → List (List ℕ) → ℕ → RecordFault → Type 0
HasRecordFault attrs fields num (BadCount k) = (k ≡ num) × (length fields ≢ length attrs)
HasRecordFault attrs fields num (BadValue k column) = (k ≡ num) × (length fields ≡ length attrs) × HasBadField attrs fields column
HasRecordFault attrs fields num NoHeader = ⊥
HasRecordFault attrs fields num BadHeader = ⊥
HasRecordFault attrs fields num TooManyBytes = ⊥
HasRecordFault attrs fields num Memory = ⊥

-- a text of rows
pub record IsRecordFile (attrs : List Attr) (text : List ℕ) (rows : List RowValue) : Type 0 where
  pub small : length text < 2 ^ 24
  pub records : List (List (List ℕ))
  pub read : AreRead text (names_of attrs ∷ records)
  pub rows_are : AreRows attrs 0 records rows

-- the first rows of such a text, so many of them at most
pub record AreFirst (attrs : List Attr) (text : List ℕ) (most : ℕ) (first : List RowValue) : Type 0 where
  pub rows : List RowValue
  pub file : IsRecordFile attrs text rows
  pub fit : All (Fits attrs) rows
  pub first_are : first ≡ take most rows

-- the first faulty record
pub record HasFaultyRecord (attrs : List Attr) (text : List ℕ) (fault : RecordFault) : Type 0 where
  pub small : length text < 2 ^ 24
  pub before : List (List (List ℕ))
  pub fields : List (List ℕ)
  pub after : List (List (List ℕ))
  pub read : AreRead text (names_of attrs ∷ (before ++ (fields ∷ after)))
  pub rows : List RowValue
  pub rows_are : AreRows attrs 0 before rows
  pub fault_is : HasRecordFault attrs fields (length before) fault

-- a text below 2^24 bytes whose first record isn't the names of the attributes
pub record HasOtherHeader (attrs : List Attr) (text : List ℕ) : Type 0 where
  pub small : length text < 2 ^ 24
  pub header : List (List ℕ)
  pub records : List (List (List ℕ))
  pub read : AreRead text (header ∷ records)
  pub other : header ≢ names_of attrs

-- why a text is no file of records; a record and a column are told by their numbers, from 0, and a header is no numbered record
abbrev pub HasRecordsFault : List Attr → List ℕ → RecordFault → Type 0
HasRecordsFault attrs text NoHeader = (length text < 2 ^ 24) × AreRead text []
HasRecordsFault attrs text BadHeader = HasOtherHeader attrs text
HasRecordsFault attrs text (BadCount k) = HasFaultyRecord attrs text (BadCount k)
HasRecordsFault attrs text (BadValue k column) = HasFaultyRecord attrs text (BadValue k column)
HasRecordsFault attrs text TooManyBytes = 2 ^ 24 ≤ length text
HasRecordsFault attrs text Memory = ⊥

-- what a text is: rows, or its first fault
abbrev pub RecordsText : List Attr → List ℕ → Result (List RowValue) RecordFault → Type 0
RecordsText attrs text (Ok rows) = IsRecordFile attrs text rows
RecordsText attrs text (Err fault) = HasRecordsFault attrs text fault

-- a reader that has read these records of a text, and reads on
pub record HasRead (text : List ℕ) (records : List (List (List ℕ))) (reader : Reader (Bor (List ℕ))) : Type 0 where
  pub trim_is : reader_trim reader ≡ trim.None
  pub ready : Ready reader
  pub config : reader_config reader ≡ default_config
  pub left : List ℕ
  pub source : source_of (λ s. Some s.now) reader ≡ Some left
  pub reached : Reached default_config st.StartRecord (strip_bom text) records (reader_state reader) left

-- with one more record, or at the end
abbrev pub ReadsOn : List ℕ → List (List (List ℕ)) → Reader (Bor (List ℕ)) → List (List ℕ) → Bool → Type 0
ReadsOn text records reader fields true = HasRead text (records ++ (fields ∷ [])) reader
ReadsOn text records reader fields false = AreRead text records
