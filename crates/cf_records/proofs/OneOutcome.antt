-- A text is one thing: its rows, or one first fault.
use Rattle.std.proofs.Common.{List, ℕ, zero, suc, ◌≡◌, ◌≢◌, ◌<◌, ◌≤◌, ◌+◌, ◌^◌, ◌⊎◌, ◌∙◌, sym, refl, ap, ap₂, [], ◌∷◌, ◌++◌, length, take, slice_get, arith, subst, Some, Result, Ok, Err, inl, inr}
use Rattle.cf_row.specs.declared.schema.Attr.{Attr}
use Rattle.cf_row.specs.declared.row.Value.{Value}
use Rattle.cf_row.specs.Row.{RowValue}
use Rattle.cf_filter.specs.Grammar.{ValueText}
use Rattle.cf_filter.proofs.ValueLaws.{value_one}
use Rattle.cf_records.specs.declared.fault.RecordFault.{RecordFault}
use Rattle.cf_records.specs.declared.fault.RecordFault.TheVariants.{NoHeader, BadHeader, BadCount, BadValue, TooManyBytes, Memory}
use Rattle.cf_records.specs.Records.{AreRead, names_of, HaveValues, AreRows, HasBadField, HasRecordFault, HasFaultyRecord, HasOtherHeader, HasRecordsFault, IsRecordFile, RecordsText}
use Rattle.cf_records.proofs.Reading.{one_read}

abbrev Records : Type 0
Records = List (List (List ℕ))

some_same : {A : Type 0} (a b : A) → Some a ≡ Some b → a ≡ b
some_same a b h = cc

one_values : (attrs : List Attr) (fields : List (List ℕ)) (a b : List Value) → HaveValues attrs fields a → HaveValues attrs fields b → a ≡ b
one_values [] [] [] [] p q = refl
one_values [] [] [] (y ∷ b) p q = absurd q
one_values [] [] (x ∷ a) b p q = absurd p
one_values [] (f ∷ fields) a b p q = absurd p
one_values (attr ∷ attrs) [] a b p q = absurd p
one_values (attr ∷ attrs) (f ∷ fields) [] b p q = absurd p
one_values (attr ∷ attrs) (f ∷ fields) (x ∷ a) [] p q = absurd q
one_values (attr ∷ attrs) (f ∷ fields) (x ∷ a) (y ∷ b) p q = ap₂ ◌∷◌ (value_one attr.kind f x y p.0 q.0) (one_values attrs fields a b p.1 q.1)

same_row : (a b : RowValue) → a.num ≡ b.num → a.values ≡ b.values → a ≡ b
same_row a b num values = ap₂ (λ (n : ℕ) (vs : List Value). record { num = n; values = vs }) num values

one_rows : (attrs : List Attr) (num : ℕ) (records : Records) (a b : List RowValue) → AreRows attrs num records a → AreRows attrs num records b → a ≡ b
one_rows attrs num [] [] [] p q = refl
one_rows attrs num [] [] (y ∷ b) p q = absurd q
one_rows attrs num [] (x ∷ a) b p q = absurd p
one_rows attrs num (f ∷ records) [] b p q = absurd p
one_rows attrs num (f ∷ records) (x ∷ a) [] p q = absurd q
one_rows attrs num (f ∷ records) (x ∷ a) (y ∷ b) p q =
    ap₂ ◌∷◌ (same_row x y (p.0 ∙ sym q.0) (one_values attrs f x.values y.values p.1 q.1)) (one_rows attrs (num + 1) records a b p.2 q.2)

-- a record with values has as many fields as there are attributes
as_many : (attrs : List Attr) (fields : List (List ℕ)) (values : List Value) → HaveValues attrs fields values → length fields ≡ length attrs
as_many [] [] [] have = refl
as_many [] [] (v ∷ values) have = absurd have
as_many [] (f ∷ fields) values have = absurd have
as_many (a ∷ attrs) [] values have = absurd have
as_many (a ∷ attrs) (f ∷ fields) [] have = absurd have
as_many (a ∷ attrs) (f ∷ fields) (v ∷ values) have = let same = as_many attrs fields values have.1 in omega (arith, same)

-- and a value in each column
value_in : (attrs : List Attr) (fields : List (List ℕ)) (values : List Value) (column : ℕ) (attr : Attr) (field : List ℕ) → HaveValues attrs fields values
    → slice_get attrs column ≡ Some attr → slice_get fields column ≡ Some field → (value : Value) × ValueText attr.kind field value
value_in [] fields values column attr field have attr_is field_is = cc attr_is
value_in (a ∷ attrs) [] values column attr field have attr_is field_is = cc field_is
value_in (a ∷ attrs) (f ∷ fields) [] column attr field have attr_is field_is = absurd have
value_in (a ∷ attrs) (f ∷ fields) (v ∷ values) zero attr field have attr_is field_is =
    let same_attr : a ≡ attr = some_same a attr attr_is in
    let same_field : f ≡ field = some_same f field field_is in
    (v, rw (sym same_attr, sym same_field) have.0)
value_in (a ∷ attrs) (f ∷ fields) (v ∷ values) (suc column) attr field have attr_is field_is =
    value_in attrs fields values column attr field have.1 attr_is field_is

-- what is before a column of a front
front_of : {A : Type 0} (xs : List A) (n i : ℕ) (x : A) → i < n → slice_get xs i ≡ Some x → slice_get (take n xs) i ≡ Some x
front_of {A} [] n i x lt is = cc is
front_of {A} (y ∷ xs) zero i x lt is = absurd (omega (arith, lt))
front_of {A} (y ∷ xs) (suc n) zero x lt is = is
front_of {A} (y ∷ xs) (suc n) (suc i) x lt is = front_of xs n i x (omega (arith, lt)) is

no_value_before : (attrs : List Attr) (fields : List (List ℕ)) (a b : ℕ) → HasBadField attrs fields a → HasBadField attrs fields b → a < b → ⊥
no_value_before attrs fields a b p q lt =
    let found = value_in (take b attrs) (take b fields) q.values a p.attr p.field q.before (front_of attrs b a p.attr lt p.attr_is)
    (front_of fields b a p.field lt p.field_is) in
    p.none found.0 found.1

by_order : {A : Type 0} (a b : ℕ) → (a < b → A) → (a ≡ b → A) → (b < a → A) → A
by_order {A} zero zero less same more = same refl
by_order {A} zero (suc b) less same more = less (omega arith)
by_order {A} (suc a) zero less same more = more (omega arith)
by_order {A} (suc a) (suc b) less same more = by_order a b (λ h. less (omega (arith, h))) (λ h. same (omega (arith, h))) (λ h. more (omega (arith, h)))

one_column : (attrs : List Attr) (fields : List (List ℕ)) (a b : ℕ) → HasBadField attrs fields a → HasBadField attrs fields b → a ≡ b
one_column attrs fields a b p q =
    by_order a b (λ lt. absurd (no_value_before attrs fields a b p q lt)) (λ same. same) (λ lt. absurd (no_value_before attrs fields b a q p lt))

-- a record has one fault at most
one_record_fault : (attrs : List Attr) (fields : List (List ℕ)) (num : ℕ) (a b : RecordFault) → HasRecordFault attrs fields num a
    → HasRecordFault attrs fields num b → a ≡ b
one_record_fault attrs fields num (BadCount k) (BadCount l) p q = ap BadCount (p.0 ∙ sym q.0)
one_record_fault attrs fields num (BadCount k) (BadValue l column) p q = absurd (p.1 q.1)
one_record_fault attrs fields num (BadValue k column) (BadCount l) p q = absurd (q.1 p.1)
one_record_fault attrs fields num (BadValue k column) (BadValue l column') p q = ap₂ BadValue (p.0 ∙ sym q.0) (one_column attrs fields column column' p.2 q.2)
one_record_fault attrs fields num (BadCount k) NoHeader p q = absurd q
one_record_fault attrs fields num (BadCount k) BadHeader p q = absurd q
one_record_fault attrs fields num (BadCount k) TooManyBytes p q = absurd q
one_record_fault attrs fields num (BadCount k) Memory p q = absurd q
one_record_fault attrs fields num (BadValue k column) NoHeader p q = absurd q
one_record_fault attrs fields num (BadValue k column) BadHeader p q = absurd q
one_record_fault attrs fields num (BadValue k column) TooManyBytes p q = absurd q
one_record_fault attrs fields num (BadValue k column) Memory p q = absurd q
one_record_fault attrs fields num NoHeader b p q = absurd p
one_record_fault attrs fields num BadHeader b p q = absurd p
one_record_fault attrs fields num TooManyBytes b p q = absurd p
one_record_fault attrs fields num Memory b p q = absurd p

-- and none where it has values
no_record_fault : (attrs : List Attr) (fields : List (List ℕ)) (num : ℕ) (values : List Value) (fault : RecordFault) → HaveValues attrs fields values
    → HasRecordFault attrs fields num fault → ⊥
no_record_fault attrs fields num values (BadCount k) have q = q.1 (as_many attrs fields values have)
no_record_fault attrs fields num values (BadValue k column) have q =
    let bad = q.2 in
    let found = value_in attrs fields values column bad.attr bad.field have bad.attr_is bad.field_is in
    bad.none found.0 found.1
no_record_fault attrs fields num values NoHeader have q = q
no_record_fault attrs fields num values BadHeader have q = q
no_record_fault attrs fields num values TooManyBytes have q = q
no_record_fault attrs fields num values Memory have q = q

-- rows up to a record give values of it
row_there : (attrs : List Attr) (num : ℕ) (before : Records) (fields : List (List ℕ)) (after : Records) (rows : List RowValue)
    → AreRows attrs num (before ++ (fields ∷ after)) rows → (values : List Value) × HaveValues attrs fields values
row_there attrs num [] fields after [] are = absurd are
row_there attrs num [] fields after (row ∷ rows) are = (row.values, are.1)
row_there attrs num (f ∷ before) fields after [] are = absurd are
row_there attrs num (f ∷ before) fields after (row ∷ rows) are = row_there attrs (num + 1) before fields after rows are.2

-- the first of two faulty records
abbrev Cut : Records → Records → List (List ℕ) → Type 0
Cut before before' fields' = (between : Records) × (before ≡ before' ++ (fields' ∷ between))

cut : (before : Records) (fields : List (List ℕ)) (after : Records) (before' : Records) (fields' : List (List ℕ)) (after' : Records)
    → before ++ (fields ∷ after) ≡ before' ++ (fields' ∷ after') → ((before ≡ before') × (fields ≡ fields')) ⊎ Cut before before' fields'
    ⊎ Cut before' before fields
cut [] fields after [] fields' after' same = inl (refl, cc same)
cut [] fields after (b ∷ before') fields' after' same = let head : fields ≡ b = cc same in
    inr (inr (before', ap (λ (x : List (List ℕ)). x ∷ before') (sym head)))
cut (a ∷ before) fields after [] fields' after' same = let head : a ≡ fields' = cc same in inr (inl (before, ap (λ (x : List (List ℕ)). x ∷ before) head))
cut (a ∷ before) fields after (b ∷ before') fields' after' same =
    let head : a ≡ b = cc same in
    let tail : before ++ (fields ∷ after) ≡ before' ++ (fields' ∷ after') = cc same in
    elim (cut before fields after before' fields' after' tail) [
      | inl both ↦ inl (ap₂ ◌∷◌ head both.0, both.1)
      | inr other ↦ elim other [
        | inl later ↦ inr (inl (later.0, ap₂ ◌∷◌ head later.1))
        | inr sooner ↦ inr (inr (sooner.0, ap₂ ◌∷◌ (sym head) sooner.1))
      ]
    ]

same_tail : (a b : List (List ℕ)) (x y : Records) → ◌≡◌ {A = Records} (a ∷ x) (b ∷ y) → x ≡ y
same_tail a b x y h = cc

same_head : (a b : List (List ℕ)) (x y : Records) → ◌≡◌ {A = Records} (a ∷ x) (b ∷ y) → a ≡ b
same_head a b x y h = cc

module _ (attrs : List Attr) (text : List ℕ) where
  files_same : (a b : List RowValue) → IsRecordFile attrs text a → IsRecordFile attrs text b → a ≡ b
  files_same a b p q =
      let same : p.records ≡ q.records = same_tail _ _ p.records q.records (one_read text _ _ p.read q.read) in
      one_rows attrs 0 p.records a b p.rows_are (subst (λ (rs : Records). AreRows attrs 0 rs b) (sym same) q.rows_are)

  file_faulty : (rows : List RowValue) (fault : RecordFault) → IsRecordFile attrs text rows → HasFaultyRecord attrs text fault → ⊥
  file_faulty rows fault p q =
      let same : p.records ≡ q.before ++ (q.fields ∷ q.after) = same_tail _ _ p.records _ (one_read text _ _ p.read q.read) in
      let found = row_there attrs 0 q.before q.fields q.after rows (subst (λ (rs : Records). AreRows attrs 0 rs rows) same p.rows_are) in
      no_record_fault attrs q.fields (length q.before) found.0 fault found.1 q.fault_is

  later_faulty : (before : Records) (rows : List RowValue) (fields : List (List ℕ)) (num : ℕ) (before' : Records) (fault : RecordFault)
      → AreRows attrs 0 before rows → Cut before before' fields → HasRecordFault attrs fields num fault → ⊥
  later_faulty before rows fields num before' fault are later wrong =
      let found = row_there attrs 0 before' fields later.0 rows (subst (λ (rs : Records). AreRows attrs 0 rs rows) later.1 are) in
      no_record_fault attrs fields num found.0 fault found.1 wrong

  faulty_same : (a b : RecordFault) → HasFaultyRecord attrs text a → HasFaultyRecord attrs text b → a ≡ b
  faulty_same a b p q = elim (cut p.before p.fields p.after q.before q.fields q.after (same_tail _ _ _ _ (one_read text _ _ p.read q.read))) [
    | inl both ↦
        let num : length p.before ≡ length q.before = ap (λ (rs : Records). length rs) both.0 in
        let moved : HasRecordFault attrs p.fields (length p.before) b =
        subst (λ (n : ℕ). HasRecordFault attrs p.fields n b) (sym num)
        (subst (λ (f : List (List ℕ)). HasRecordFault attrs f (length q.before) b) (sym both.1) q.fault_is) in
        one_record_fault attrs p.fields (length p.before) a b p.fault_is moved
    | inr other ↦ elim other [
      | inl later ↦ absurd (later_faulty p.before p.rows q.fields (length q.before) q.before b p.rows_are later q.fault_is)
      | inr sooner ↦ absurd (later_faulty q.before q.rows p.fields (length p.before) p.before a q.rows_are sooner p.fault_is)
    ]
  ]

  no_header : (header : List (List ℕ)) (records : Records) → AreRead text [] → AreRead text (header ∷ records) → ⊥
  no_header header records none some = let same : [] ≡ header ∷ records = one_read text [] (header ∷ records) none some in cc same

  headed : (header : List (List ℕ)) (records records' : Records) → AreRead text (header ∷ records) → AreRead text (names_of attrs ∷ records')
      → header ≡ names_of attrs
  headed header records records' p q = same_head header (names_of attrs) records records' (one_read text _ _ p q)

  large_small : length text < 2 ^ 24 → 2 ^ 24 ≤ length text → ⊥
  large_small small large = absurd (omega (arith, small, large))

  -- no header, another header, a faulty record and too many bytes keep each other out
  file_fault : (rows : List RowValue) (fault : RecordFault) → IsRecordFile attrs text rows → HasRecordsFault attrs text fault → ⊥
  file_fault rows NoHeader p q = no_header _ _ q.1 p.read
  file_fault rows BadHeader p q = q.other (headed q.header q.records p.records q.read p.read)
  file_fault rows (BadCount k) p q = file_faulty rows (BadCount k) p q
  file_fault rows (BadValue k column) p q = file_faulty rows (BadValue k column) p q
  file_fault rows TooManyBytes p q = large_small p.small q
  file_fault rows Memory p q = q

  header_faulty : (fault : RecordFault) → HasOtherHeader attrs text → HasFaultyRecord attrs text fault → ⊥
  header_faulty fault p q = p.other (headed p.header p.records _ p.read q.read)

  faults_same : (a b : RecordFault) → HasRecordsFault attrs text a → HasRecordsFault attrs text b → a ≡ b
  faults_same NoHeader NoHeader p q = refl
  faults_same NoHeader BadHeader p q = absurd (no_header _ _ p.1 q.read)
  faults_same NoHeader (BadCount k) p q = absurd (no_header _ _ p.1 q.read)
  faults_same NoHeader (BadValue k column) p q = absurd (no_header _ _ p.1 q.read)
  faults_same NoHeader TooManyBytes p q = absurd (large_small p.0 q)
  faults_same NoHeader Memory p q = absurd q
  faults_same BadHeader NoHeader p q = absurd (no_header _ _ q.1 p.read)
  faults_same BadHeader BadHeader p q = refl
  faults_same BadHeader (BadCount k) p q = absurd (header_faulty (BadCount k) p q)
  faults_same BadHeader (BadValue k column) p q = absurd (header_faulty (BadValue k column) p q)
  faults_same BadHeader TooManyBytes p q = absurd (large_small p.small q)
  faults_same BadHeader Memory p q = absurd q
  faults_same (BadCount l) NoHeader p q = absurd (no_header _ _ q.1 p.read)
  faults_same (BadCount l) BadHeader p q = absurd (header_faulty (BadCount l) q p)
  faults_same (BadCount l) (BadCount k) p q = faulty_same (BadCount l) (BadCount k) p q
  faults_same (BadCount l) (BadValue k column) p q = faulty_same (BadCount l) (BadValue k column) p q
  faults_same (BadCount l) TooManyBytes p q = absurd (large_small p.small q)
  faults_same (BadCount l) Memory p q = absurd q
  faults_same (BadValue l c) NoHeader p q = absurd (no_header _ _ q.1 p.read)
  faults_same (BadValue l c) BadHeader p q = absurd (header_faulty (BadValue l c) q p)
  faults_same (BadValue l c) (BadCount k) p q = faulty_same (BadValue l c) (BadCount k) p q
  faults_same (BadValue l c) (BadValue k column) p q = faulty_same (BadValue l c) (BadValue k column) p q
  faults_same (BadValue l c) TooManyBytes p q = absurd (large_small p.small q)
  faults_same (BadValue l c) Memory p q = absurd q
  faults_same TooManyBytes NoHeader p q = absurd (large_small q.0 p)
  faults_same TooManyBytes BadHeader p q = absurd (large_small q.small p)
  faults_same TooManyBytes (BadCount k) p q = absurd (large_small q.small p)
  faults_same TooManyBytes (BadValue k column) p q = absurd (large_small q.small p)
  faults_same TooManyBytes TooManyBytes p q = refl
  faults_same TooManyBytes Memory p q = absurd q
  faults_same Memory b p q = absurd p

  pub one_records : (a b : Result (List RowValue) RecordFault) → RecordsText attrs text a → RecordsText attrs text b → a ≡ b
  one_records (Ok a) (Ok b) p q = ap (λ (rows : List RowValue). Ok rows) (files_same a b p q)
  one_records (Ok a) (Err b) p q = absurd (file_fault a b p q)
  one_records (Err a) (Ok b) p q = absurd (file_fault b a q p)
  one_records (Err a) (Err b) p q = ap (λ (fault : RecordFault). Err fault) (faults_same a b p q)
