-- A file of records is in just one case too.
use Rattle.std.proofs.Common.{◌≡◌, ◌⊎◌, inl, inr, ℕ, Bool, false, List, Option, Some, None, Result, Ok, Err, refl, ap, sym, ◌∙◌}
use Rattle.cf_row.specs.Row.{RowValue}
use Rattle.cf_row.specs.declared.schema.Attr.{Attr}
use Rattle.cf_records.specs.Records.{RecordsText}
use Rattle.cf_records.specs.declared.fault.RecordFault.{RecordFault}
use Rattle.cf_records.proofs.OneOutcome.{one_records}
use Rattle.cf_records.proofs.SomeOutcome.{some_records}
use Rattle.cf_intake.specs.Faults.{HasFaultTo, code_of, record_of}
use Rattle.cf_setup.specs.declared.source.Source.{Source}
use Rattle.cf_setup.specs.declared.source.Source.TheVariants.{Packets, Records}
use Rattle.cf_intake.specs.declared.faults.Fault.TheVariants.{Lines}
use Rattle.cf_intake.specs.Laws.{OneCase}
use Rattle.cf_intake.specs.Rows.{CaptureValue, AreRowsTo}
use Rattle.cf_intake.proofs.Capturing.{one_packet_case}

some_of : (attrs : List Attr) (bytes : List ℕ) (answer : Result (List RowValue) RecordFault) → RecordsText attrs bytes answer
    → ((what : CaptureValue) × AreRowsTo Records false attrs bytes what.rows what.cut)
    ⊎ ((record_at : ℕ) × (code : ℕ) × HasFaultTo Records false attrs bytes record_at code)
some_of attrs bytes (Ok rows) is = inl (record { rows = rows; cut = None }, is)
some_of attrs bytes (Err fault) is =
    inr (record_of (Lines fault), code_of (Lines fault), (record { fault = fault; fault_is = is; record_is = refl; code_is = refl }, λ rows k none. none))

same_rows : (a b : List RowValue) → ◌≡◌ {A = Result (List RowValue) RecordFault} (Ok a) (Ok b) → a ≡ b
same_rows a b e = cc e

same_fault : (a b : RecordFault) → ◌≡◌ {A = Result (List RowValue) RecordFault} (Err a) (Err b) → a ≡ b
same_fault a b e = cc e

not_both : (rows : List RowValue) (fault : RecordFault) → ◌≡◌ {A = Result (List RowValue) RecordFault} (Ok rows) (Err fault) → ⊥
not_both rows fault e = absurd (cc e)

lines_same : (attrs : List Attr) (bytes : List ℕ) (a b : List RowValue) (cut other : Option ℕ) → AreRowsTo Records false attrs bytes a cut
    → AreRowsTo Records false attrs bytes b other → ◌≡◌ {A = CaptureValue} (record { rows = a; cut = cut }) (record { rows = b; cut = other })
lines_same attrs bytes a b None None p q =
    ap (λ (rows : List RowValue). record { rows = rows; cut = None }) (same_rows a b (one_records attrs bytes (Ok a) (Ok b) p q))
lines_same attrs bytes a b None (Some j) p q = absurd q
lines_same attrs bytes a b (Some k) other p q = absurd p

lines_either : (attrs : List Attr) (bytes : List ℕ) (rows : List RowValue) (cut : Option ℕ) (at code : ℕ) → AreRowsTo Records false attrs bytes rows cut
    → HasFaultTo Records false attrs bytes at code → ⊥
lines_either attrs bytes rows None at code are has = not_both rows has.0.fault (one_records attrs bytes (Ok rows) (Err has.0.fault) are has.0.fault_is)
lines_either attrs bytes rows (Some k) at code are has = are

one_record_case : (attrs : List Attr) (bytes : List ℕ) → OneCase Records false attrs bytes
one_record_case attrs bytes = record {
  some = (let s = some_records attrs bytes in some_of attrs bytes s.0 s.1);
  either = λ what at code are has. lines_either attrs bytes what.rows what.cut at code are has;
  one = λ a b p q. lines_same attrs bytes a.rows b.rows a.cut b.cut p q;
  one_fault = λ record_at code other other_code x y. (
      let e = same_fault x.0.fault y.0.fault (one_records attrs bytes (Err x.0.fault) (Err y.0.fault) x.0.fault_is y.0.fault_is) in
      (x.0.record_is ∙ (ap (λ f. record_of (Lines f)) e ∙ sym y.0.record_is), x.0.code_is ∙ (ap (λ f. code_of (Lines f)) e ∙ sym y.0.code_is)));
}

pub one_case : (source : Source) (truncated : Bool) (attrs : List Attr) (bytes : List ℕ) → OneCase source truncated attrs bytes
one_case (Packets schema) truncated attrs bytes = one_packet_case schema truncated attrs bytes
one_case Records truncated attrs bytes = record {
  some = (one_record_case attrs bytes).some;
  either = (one_record_case attrs bytes).either;
  one = (one_record_case attrs bytes).one;
  one_fault = (one_record_case attrs bytes).one_fault;
}
