-- What the records that were read make of a text.
use Rattle.std.proofs.Common.{List, ℕ, zero, suc, ◌≡◌, ◌≢◌, ◌<◌, ◌+◌, ◌^◌, ◌∙◌, sym, refl, [], ◌∷◌, ◌++◌, length, arith, subst, append_assoc, Bor, All, length-append}
use Rattle.std.proofs.lemmas.List.Elements.{All-append, All-nil}
use Rattle.csv.specs.declared.reader.Reader.{Reader}
use Rattle.cf_row.specs.declared.schema.Attr.{Attr}
use Rattle.cf_row.specs.Row.{RowValue, Fits}
use Rattle.cf_records.specs.declared.fault.RecordFault.{RecordFault}
use Rattle.cf_records.specs.declared.fault.RecordFault.TheVariants.{NoHeader, BadHeader, BadCount, BadValue, TooManyBytes, Memory}
use Rattle.cf_records.specs.Records.{AreRead, names_of, HaveValues, AreRows, HasRecordFault, HasFaultyRecord, HasOtherHeader, HasRecordsFault, HasRead}
use Rattle.cf_records.proofs.Reading.{read_to_end}

abbrev Records : Type 0
Records = List (List (List ℕ))

-- one more row
pub rows_more : (attrs : List Attr) (num : ℕ) (records : Records) (rows : List RowValue) (fields : List (List ℕ)) (row : RowValue)
    → AreRows attrs num records rows → row.num ≡ num + length records → HaveValues attrs fields row.values
    → AreRows attrs num (records ++ (fields ∷ [])) (rows ++ (row ∷ []))
rows_more attrs num [] [] fields row are same have = (same ∙ (omega arith), have, tt)
rows_more attrs num [] (r ∷ rows) fields row are same have = absurd are
rows_more attrs num (f ∷ records) [] fields row are same have = absurd are
rows_more attrs num (f ∷ records) (r ∷ rows) fields row are same have =
    (are.0, are.1, rows_more attrs (num + 1) records rows fields row are.2 (omega (arith, same)) have)

module _ (attrs : List Attr) (text : List ℕ) (small : length text < 2 ^ 24) where
  pub misnamed : (header : List (List ℕ)) (reader : Reader (Bor (List ℕ))) → HasRead text (header ∷ []) reader → header ≢ names_of attrs
      → HasOtherHeader attrs text
  misnamed header reader has other =
      let rest = read_to_end text _ has.left (header ∷ []) has.reached in
      record { small = small; header = header; records = rest.0; read = rest.1; other = other }

  faulty : (records : Records) (rows : List RowValue) (fields : List (List ℕ)) (reader : Reader (Bor (List ℕ))) (fault : RecordFault)
      → HasRead text ((names_of attrs ∷ records) ++ (fields ∷ [])) reader → AreRows attrs 0 records rows → HasRecordFault attrs fields (length records) fault
      → HasFaultyRecord attrs text fault
  faulty records rows fields reader fault has are wrong =
      let rest = read_to_end text _ has.left ((names_of attrs ∷ records) ++ (fields ∷ [])) has.reached in
      let same : ((names_of attrs ∷ records) ++ (fields ∷ [])) ++ rest.0 ≡ names_of attrs ∷ (records ++ (fields ∷ rest.0)) =
      append_assoc (names_of attrs ∷ records) (fields ∷ []) rest.0 in
      record {
        small = small;
        before = records;
        fields = fields;
        after = rest.0;
        read = subst (λ (rs : Records). AreRead text rs) same rest.1;
        rows = rows;
        rows_are = are;
        fault_is = wrong;
      }

  pub first_fault : (records : Records) (rows : List RowValue) (fields : List (List ℕ)) (reader : Reader (Bor (List ℕ))) (fault : RecordFault)
      → HasRead text ((names_of attrs ∷ records) ++ (fields ∷ [])) reader → AreRows attrs 0 records rows → HasRecordFault attrs fields (length records) fault
      → HasRecordsFault attrs text fault
  first_fault records rows fields reader (BadCount k) has are wrong = faulty records rows fields reader (BadCount k) has are wrong
  first_fault records rows fields reader (BadValue k column) has are wrong = faulty records rows fields reader (BadValue k column) has are wrong
  first_fault records rows fields reader NoHeader has are wrong = absurd wrong
  first_fault records rows fields reader BadHeader has are wrong = absurd wrong
  first_fault records rows fields reader TooManyBytes has are wrong = absurd wrong
  first_fault records rows fields reader Memory has are wrong = absurd wrong

pub lines_more : (records : Records) (fields : List (List ℕ)) (n : ℕ) → length records ≡ n → length (records ++ (fields ∷ [])) ≡ n + 1
lines_more records fields n same =
    let sum : length (records ++ (fields ∷ [])) ≡ length records + length (fields ∷ []) = length-append records (fields ∷ []) in
    let one : length (fields ∷ []) ≡ 1 = refl in
    omega (arith, same, sum, one)

one_fits : (attrs : List Attr) (row : RowValue) → Fits attrs row → All (Fits attrs) (row ∷ [])
one_fits attrs row fits zero other lt = fits
one_fits attrs row fits (suc k) other lt = absurd (omega (arith, lt))

pub none_fit : (attrs : List Attr) (rows : List RowValue) → rows ≡ [] → All (Fits attrs) rows
none_fit attrs rows none = subst (λ (rs : List RowValue). All (Fits attrs) rs) (sym none) (All-nil (Fits attrs))

pub all_fit : (attrs : List Attr) (rows now : List RowValue) (row : RowValue) → All (Fits attrs) rows → Fits attrs row → now ≡ rows ++ (row ∷ [])
    → All (Fits attrs) now
all_fit attrs rows now row fit fits grown =
    subst (λ (rs : List RowValue). All (Fits attrs) rs) (sym grown) (All-append (Fits attrs) rows (row ∷ []) fit (one_fits attrs row fits))

pub no_rows : (attrs : List Attr) (rows : List RowValue) → rows ≡ [] → AreRows attrs 0 [] rows
no_rows attrs rows none = subst (λ (rs : List RowValue). AreRows attrs 0 [] rs) (sym none) tt
