-- A text is something: its rows, or one first fault.
use Rattle.std.proofs.Common.{List, ℕ, suc, ◌≡◌, ◌≢◌, ◌<◌, ◌≤◌, ◌+◌, ◌^◌, ◌⊎◌, ◌∙◌, refl, ap, ap₂, [], ◌∷◌, ◌++◌, length, arith, subst, Option, Some, None, Result, Ok, Err, inl, inr}
use Rattle.std.proofs.lemmas.Bool.{cases_lt, cases_eq}
use Rattle.cf_row.specs.declared.schema.Attr.{Attr}
use Rattle.cf_row.specs.declared.schema.Kind.{Kind}
use Rattle.cf_row.specs.declared.row.Value.{Value}
use Rattle.cf_row.specs.Row.{RowValue}
use Rattle.cf_filter.specs.Grammar.{ValueText}
use Rattle.cf_filter.specs.Values.{value_at}
use Rattle.cf_filter.proofs.ValueLaws.{value_only, value_found}
use Rattle.cf_records.specs.declared.fault.RecordFault.{RecordFault}
use Rattle.cf_records.specs.declared.fault.RecordFault.TheVariants.{NoHeader, BadHeader, BadCount, BadValue, TooManyBytes, Memory}
use Rattle.cf_records.specs.Records.{AreRead, names_of, HaveValues, AreRows, HasBadField, HasRecordFault, HasFaultyRecord, HasRecordsFault, RecordsText}
use Rattle.cf_records.proofs.Reading.{some_read}

abbrev Records : Type 0
Records = List (List (List ℕ))

-- two values are one, or not
abbrev IsOneOrNot : {A : Type 0} → A → A → Type 0
IsOneOrNot a b = (a ≡ b) ⊎ (a ≢ b)

first_of_both : {A : Type 0} (x y : A) (xs ys : List A) → x ∷ xs ≡ y ∷ ys → x ≡ y
first_of_both x y xs ys e = cc

rest_of_both : {A : Type 0} (x y : A) (xs ys : List A) → x ∷ xs ≡ y ∷ ys → xs ≡ ys
rest_of_both x y xs ys e = cc

list_or_not : {A : Type 0} → ((a b : A) → IsOneOrNot a b) → (xs ys : List A) → IsOneOrNot xs ys
list_or_not either [] [] = inl refl
list_or_not either [] (y ∷ ys) = inr (λ e. cc e)
list_or_not either (x ∷ xs) [] = inr (λ e. cc e)
list_or_not either (x ∷ xs) (y ∷ ys) = elim (either x y) [
  | inl same ↦ elim (list_or_not either xs ys) [
    | inl rest ↦ inl (ap₂ ◌∷◌ same rest)
    | inr other ↦ inr (λ e. other (rest_of_both x y xs ys e))
  ]
  | inr other ↦ inr (λ e. other (first_of_both x y xs ys e))
]

names_or_not : (a b : List (List ℕ)) → IsOneOrNot a b
names_or_not a b = list_or_not (list_or_not cases_eq) a b

-- a field is the text of a value, or of none
abbrev IsValued : Kind → List ℕ → Type 0
IsValued kind field = ((value : Value) × ValueText kind field value) ⊎ ((value : Value) → ValueText kind field value → ⊥)

none_some : {A : Type 0} (found : Option A) (a : A) → found ≡ None → found ≡ Some a → ⊥
none_some found a e f = cc

valued_by : (kind : Kind) (field : List ℕ) (found : Option Value) → value_at kind field ≡ found → IsValued kind field
valued_by kind field None e = inr (λ value h. none_some (value_at kind field) value e (value_only kind field value h))
valued_by kind field (Some value) e = inl (value, value_found kind field value e)

-- a record has a value of each attribute, or a first bad field
abbrev IsFilled : List Attr → List (List ℕ) → Type 0
IsFilled attrs fields = ((values : List Value) × HaveValues attrs fields values) ⊎ ((column : ℕ) × HasBadField attrs fields column)

bad_first : (attr : Attr) (attrs : List Attr) (field : List ℕ) (fields : List (List ℕ)) → ((value : Value) → ValueText attr.kind field value → ⊥)
    → HasBadField (attr ∷ attrs) (field ∷ fields) 0
bad_first attr attrs field fields none = record { values = []; before = tt; attr = attr; attr_is = refl; field = field; field_is = refl; none = none }

bad_later : (attr : Attr) (attrs : List Attr) (field : List ℕ) (fields : List (List ℕ)) (value : Value) (column : ℕ) → ValueText attr.kind field value
    → HasBadField attrs fields column → HasBadField (attr ∷ attrs) (field ∷ fields) (suc column)
bad_later attr attrs field fields value column is bad = record {
  values = value ∷ bad.values;
  before = (is, bad.before);
  attr = bad.attr;
  attr_is = bad.attr_is;
  field = bad.field;
  field_is = bad.field_is;
  none = bad.none;
}

filled : (attrs : List Attr) (fields : List (List ℕ)) → length fields ≡ length attrs → IsFilled attrs fields
filled [] [] same = inl ([], tt)
filled [] (field ∷ fields) same = absurd (omega (arith, same))
filled (attr ∷ attrs) [] same = absurd (omega (arith, same))
filled (attr ∷ attrs) (field ∷ fields) same = elim (valued_by attr.kind field (value_at attr.kind field) refl) [
  | inl value ↦ elim (filled attrs fields (omega (arith, same))) [
    | inl values ↦ inl (value.0 ∷ values.0, (value.1, values.1))
    | inr bad ↦ inr (suc bad.0, bad_later attr attrs field fields value.0 bad.0 value.1 bad.1)
  ]
  | inr none ↦ inr (0, bad_first attr attrs field fields none)
]

-- the record of that number has a value of each attribute, or a fault
abbrev IsJudged : List Attr → List (List ℕ) → ℕ → Type 0
IsJudged attrs fields num = ((values : List Value) × HaveValues attrs fields values) ⊎ ((fault : RecordFault) × HasRecordFault attrs fields num fault)

judged : (attrs : List Attr) (fields : List (List ℕ)) (num : ℕ) → IsJudged attrs fields num
judged attrs fields num = elim (cases_eq (length fields) (length attrs)) [
  | inl same ↦ elim (filled attrs fields same) [
    | inl values ↦ inl values
    | inr bad ↦ inr (BadValue num bad.0, (refl, same, bad.1))
  ]
  | inr other ↦ inr (BadCount num, (refl, other))
]

-- a record has the first fault of some, which are numbered from that number on
record IsFaulty (attrs : List Attr) (num : ℕ) (records : Records) : Type 0 where
  before : Records
  fields : List (List ℕ)
  after : Records
  records_are : records ≡ before ++ (fields ∷ after)
  rows : List RowValue
  rows_are : AreRows attrs num before rows
  fault : RecordFault
  fault_is : HasRecordFault attrs fields (num + length before) fault

faulty_first : (attrs : List Attr) (num : ℕ) (fields : List (List ℕ)) (records : Records) (fault : RecordFault) → HasRecordFault attrs fields num fault
    → IsFaulty attrs num (fields ∷ records)
faulty_first attrs num fields records fault is = record {
  before = [];
  fields = fields;
  after = records;
  records_are = refl;
  rows = [];
  rows_are = tt;
  fault = fault;
  fault_is = subst (λ (n : ℕ). HasRecordFault attrs fields n fault) (omega arith) is;
}

faulty_later : (attrs : List Attr) (num : ℕ) (fields : List (List ℕ)) (records : Records) (values : List Value) → HaveValues attrs fields values
    → IsFaulty attrs (num + 1) records → IsFaulty attrs num (fields ∷ records)
faulty_later attrs num fields records values have bad = record {
  before = fields ∷ bad.before;
  fields = bad.fields;
  after = bad.after;
  records_are = ap (λ (rs : Records). fields ∷ rs) bad.records_are;
  rows = record { num = num; values = values } ∷ bad.rows;
  rows_are = (refl, have, bad.rows_are);
  fault = bad.fault;
  fault_is = subst (λ (n : ℕ). HasRecordFault attrs bad.fields n bad.fault) (omega arith) bad.fault_is;
}

-- records are rows, or one of them has the first fault
abbrev AreJudged : List Attr → ℕ → Records → Type 0
AreJudged attrs num records = ((rows : List RowValue) × AreRows attrs num records rows) ⊎ IsFaulty attrs num records

all_judged : (attrs : List Attr) (num : ℕ) (records : Records) → AreJudged attrs num records
all_judged attrs num [] = inl ([], tt)
all_judged attrs num (fields ∷ records) = elim (judged attrs fields num) [
  | inl values ↦ elim (all_judged attrs (num + 1) records) [
    | inl rows ↦ inl (record { num = num; values = values.0 } ∷ rows.0, (refl, values.1, rows.1))
    | inr bad ↦ inr (faulty_later attrs num fields records values.0 values.1 bad)
  ]
  | inr fault ↦ inr (faulty_first attrs num fields records fault.0 fault.1)
]

-- a text is something
abbrev pub IsSomething : List Attr → List ℕ → Type 0
IsSomething attrs text = (answer : Result (List RowValue) RecordFault) × RecordsText attrs text answer

has_fault : (attrs : List Attr) (text : List ℕ) (fault : RecordFault) → HasFaultyRecord attrs text fault → HasRecordsFault attrs text fault
has_fault attrs text (BadCount k) bad = bad
has_fault attrs text (BadValue k column) bad = bad
has_fault attrs text NoHeader bad = absurd bad.fault_is
has_fault attrs text BadHeader bad = absurd bad.fault_is
has_fault attrs text TooManyBytes bad = absurd bad.fault_is
has_fault attrs text Memory bad = absurd bad.fault_is

by_judged : (attrs : List Attr) (text : List ℕ) (records : Records) → length text < 2 ^ 24 → AreRead text (names_of attrs ∷ records)
    → AreJudged attrs 0 records → IsSomething attrs text
by_judged attrs text records small read (inl rows) = (Ok rows.0, record { small = small; records = records; read = read; rows_are = rows.1 })
by_judged attrs text records small read (inr bad) = (
  Err bad.fault,
  has_fault attrs text bad.fault (record {
    small = small;
    before = bad.before;
    fields = bad.fields;
    after = bad.after;
    read = subst (λ (rs : Records). AreRead text (names_of attrs ∷ rs)) bad.records_are read;
    rows = bad.rows;
    rows_are = bad.rows_are;
    fault_is = subst (λ (n : ℕ). HasRecordFault attrs bad.fields n bad.fault) (omega arith) bad.fault_is;
  }),
)

by_records : (attrs : List Attr) (text : List ℕ) (records : Records) → length text < 2 ^ 24 → AreRead text records → IsSomething attrs text
by_records attrs text [] small read = (Err NoHeader, (small, read))
by_records attrs text (header ∷ records) small read = elim (names_or_not header (names_of attrs)) [
  | inl same ↦ by_judged attrs text records small (subst (λ (names : List (List ℕ)). AreRead text (names ∷ records)) same read) (all_judged attrs 0 records)
  | inr other ↦ (Err BadHeader, record { small = small; header = header; records = records; read = read; other = other })
]

pub some_records : (attrs : List Attr) (text : List ℕ) → IsSomething attrs text
some_records attrs text = elim (cases_lt (length text) (2 ^ 24)) [
  | inl small ↦ let read = some_read text in by_records attrs text read.0 small read.1
  | inr large ↦ (Err TooManyBytes, large)
]
