-- Each file has one meaning, by what a setup's rows are read from: as a capture of packets, which may be truncated or not, or as a file of other records.
use Rattle.std.specs.Prelude.{◌≡◌, ◌⊎◌, ℕ, Bool, List, Some}
use Rattle.cf_outside.specs.Files.{File}
use Rattle.cf_row.specs.declared.packet6.PacketSchema.{PacketSchema}
use Rattle.cf_row.specs.Row.{RowValue}
use Rattle.cf_row.specs.declared.schema.Attr.{Attr}
use Rattle.cf_setup.specs.declared.source.Source.{Source}
use Rattle.cf_intake.specs.Faults.{HasFaultTo}
use Rattle.cf_intake.specs.Rows.{CaptureValue, AreRowsTo}
use Rattle.cf_intake.specs.Series.{AreEndToEnd, SeriesEnd}

-- In the format that the schema asks for, and of the two formats of packets in the one that it begins as, a file has one list
-- of rows or has a fault, never both, and the fault is at one record by one code alone. Where it may be truncated, it is whole or ends within
-- one record.
pub record OneCase (source : Source) (truncated : Bool) (attrs : List Attr) (bytes : List ℕ) : Type 0 where
  pub some : ((what : CaptureValue) × AreRowsTo source truncated attrs bytes what.rows what.cut)
      ⊎ ((record_at : ℕ) × (code : ℕ) × HasFaultTo source truncated attrs bytes record_at code)
  pub either : (what : CaptureValue) (record_at code : ℕ) → AreRowsTo source truncated attrs bytes what.rows what.cut
      → HasFaultTo source truncated attrs bytes record_at code → ⊥
  pub one : (a b : CaptureValue) → AreRowsTo source truncated attrs bytes a.rows a.cut → AreRowsTo source truncated attrs bytes b.rows b.cut → a ≡ b
  pub one_fault : (record_at code other other_code : ℕ) → HasFaultTo source truncated attrs bytes record_at code
      → HasFaultTo source truncated attrs bytes other other_code
      → (record_at ≡ other) × (code ≡ other_code)

-- Captures of packets, of any length, that are read one after another have one list of records, end to end, and one end, if the files are
-- told.
pub record OneSeries (schema : PacketSchema) (truncated : Bool) (files : List File) (names : List (List ℕ)) : Type 0 where
  pub some : (rows : List RowValue) × (end : SeriesEnd) × AreEndToEnd schema truncated (Some files) 1 names rows end
  pub one : (a b : List RowValue) (end other : SeriesEnd) → AreEndToEnd schema truncated (Some files) 1 names a end
      → AreEndToEnd schema truncated (Some files) 1 names b other → (a ≡ b) × (end ≡ other)
