use Rattle.std.proofs.lemmas.List.Elements.{All-nil}
use Rattle.std.proofs.Common.{All, Bor, Bool, true, false, ◌≡◌, ◌≢◌, ◌⊎◌, ◌∙◌, ◌+◌, List, ℕ, [], ◌∷◌, ◌++◌, inl, inr, sym, refl, subst, arith}
use Rattle.csv.specs.Records.{fields_of}
use Rattle.csv.specs.declared.reader.Reader.{Reader}
use Rattle.cf_row.specs.Row.{Fits, RowValue}
use Rattle.cf_records.specs.Records.{AreRead, AreRows, IsRecordFile, HasRead, HasRecordFault, ReadsOn, names_of}
use Rattle.cf_records.proofs.First.{first_all, none_first}
use Rattle.cf_records.proofs.Outcomes.{misnamed, first_fault, rows_more, all_fit, lines_more}
use Rattle.cf_records.proofs.Reading.{few_read}
use Rattle.cf_records.proofs.read.read_rows.Goals as goal

as_found : (text : List ℕ) (records : List (List (List ℕ))) (reader : Reader (Bor (List ℕ))) (fields : List (List ℕ)) (found is : Bool) → found ≡ is
    → ReadsOn text records reader fields found → ReadsOn text records reader fields is
as_found text records reader fields found is same on = subst (λ (b : Bool). ReadsOn text records reader fields b) same on

pub returns-then-not-branch-clause-answer : goal.returns-then-not-branch-clause-answer
returns-then-not-branch-clause-answer c =
    inr (
      c.requires.small,
      as_found c.args.bytes.now [] c.read_next.new.reader (fields_of c.read_next.new.line) c.in_ok-read_next.field-0 false c.if-not-branch.true
          (c.in_ok-read_next.ensures c.args.bytes.now [] c.reader_of-reader.ensures),
    )

pub returns-then-not-is_header-clause-answer : goal.returns-then-not-is_header-clause-answer
returns-then-not-is_header-clause-answer c =
    let fields = fields_of c.read_next.new.line in
    let on : HasRead c.args.bytes.now (fields ∷ []) c.read_next.new.reader =
    as_found c.args.bytes.now [] c.read_next.new.reader fields c.in_ok-read_next.field-0 true c.if-not-branch.false
    (c.in_ok-read_next.ensures c.args.bytes.now [] c.reader_of-reader.ensures) in
    let named = rw c.attrs.ensures.attrs at c.is_header.ensures in
    let other : fields ≢ names_of c.args.schema.now = λ same. let is = named.1 same in cc (is, c.if-not-is_header.true) in
    inr (misnamed c.args.schema.now c.args.bytes.now c.requires.small fields c.read_next.new.reader on other)

pub loop-num-init : goal.loop-num-init
loop-num-init c =
    let fields = fields_of c.read_next.new.line in
    let on : HasRead c.args.bytes.now (fields ∷ []) c.read_next.new.reader =
    as_found c.args.bytes.now [] c.read_next.new.reader fields c.in_ok-read_next.field-0 true c.if-not-branch.false
    (c.in_ok-read_next.ensures c.args.bytes.now [] c.reader_of-reader.ensures) in
    let named = rw c.attrs.ensures.attrs at c.is_header.ensures in
    let same : fields ≡ names_of c.args.schema.now = named.0 c.if-not-is_header.false in (
      [],
      [],
      subst (λ (f : List (List ℕ)). HasRead c.args.bytes.now (f ∷ []) c.read_next.new.reader) same on,
      tt,
      refl,
      All-nil (Fits c.args.schema.now),
      none_first c.args.most c.new-rows.result.items c.new-rows.ensures.items,
    )

pub returns-then-not-branch-2-clause-answer : goal.returns-then-not-branch-2-clause-answer
returns-then-not-branch-2-clause-answer c =
    let far = c.loop-num.invariant in
    let read : AreRead c.args.bytes.now (names_of c.args.schema.now ∷ far.0) =
    as_found c.args.bytes.now (names_of c.args.schema.now ∷ far.0) c.read_next-in-loop-num.new.reader
    (fields_of c.read_next-in-loop-num.new.line) c.in_ok-read_next-2.field-0 false c.if-not-branch-2.true
    (c.in_ok-read_next-2.ensures c.args.bytes.now (names_of c.args.schema.now ∷ far.0) far.2) in
    record {
      rows = far.1;
      file = record { small = c.requires.small; records = far.0; read = read; rows_are = far.3 };
      fit = far.5;
      first_are = far.6;
    }

pub returns-then-not-branch-2-clause-all : goal.returns-then-not-branch-2-clause-all
returns-then-not-branch-2-clause-all c = λ many.
    let far = c.loop-num.invariant in
    let read : AreRead c.args.bytes.now (names_of c.args.schema.now ∷ far.0) =
    as_found c.args.bytes.now (names_of c.args.schema.now ∷ far.0) c.read_next-in-loop-num.new.reader
    (fields_of c.read_next-in-loop-num.new.line) c.in_ok-read_next-2.field-0 false c.if-not-branch-2.true
    (c.in_ok-read_next-2.ensures c.args.bytes.now (names_of c.args.schema.now ∷ far.0) far.2) in
    let count = far.4 in
    let same = first_all c.args.schema.now c.args.most far.0 far.1 c.loop-num.rows.items far.3 (omega (arith, count, many)) far.6 in
    subst (λ (rs : List RowValue). IsRecordFile c.args.schema.now c.args.bytes.now rs × All (Fits c.args.schema.now) rs) same
    (record { small = c.requires.small; records = far.0; read = read; rows_are = far.3 }, far.5)

pub returns-in-Err-clause-answer : goal.returns-in-Err-clause-answer
returns-in-Err-clause-answer c =
    let far = c.loop-num.invariant in
    let fields = fields_of c.read_next-in-loop-num.new.line in
    let on : HasRead c.args.bytes.now ((names_of c.args.schema.now ∷ far.0) ++ (fields ∷ [])) c.read_next-in-loop-num.new.reader =
    as_found c.args.bytes.now
    (names_of c.args.schema.now ∷ far.0) c.read_next-in-loop-num.new.reader fields c.in_ok-read_next-2.field-0 true c.if-not-branch-2.false
    (c.in_ok-read_next-2.ensures c.args.bytes.now (names_of c.args.schema.now ∷ far.0) far.2) in
    elim c.in-Err.ensures.row [
      | inl memory ↦ inl memory
      | inr wrong ↦ inr
          (first_fault c.args.schema.now c.args.bytes.now c.requires.small far.0 far.1 fields c.read_next-in-loop-num.new.reader c.in-Err.fault
          on far.3 (subst (λ (n : ℕ). HasRecordFault c.args.schema.now fields n c.in-Err.fault) (sym far.4) wrong))
    ]

pub loop-num-preserved : goal.loop-num-preserved
loop-num-preserved c =
    let far = c.loop-num.invariant in
    let fields = fields_of c.read_next-in-loop-num.new.line in
    let on : HasRead c.args.bytes.now ((names_of c.args.schema.now ∷ far.0) ++ (fields ∷ [])) c.read_next-in-loop-num.new.reader =
    as_found c.args.bytes.now
    (names_of c.args.schema.now ∷ far.0) c.read_next-in-loop-num.new.reader fields c.in_ok-read_next-2.field-0 true c.if-not-branch-2.false
    (c.in_ok-read_next-2.ensures c.args.bytes.now (names_of c.args.schema.now ∷ far.0) far.2) in
    let row = c.in-Ok.row in
    let more = rows_more c.args.schema.now 0 far.0 far.1 fields row far.3
    (let n = c.in-Ok.ensures.row.0 in let l = far.4 in omega (arith, n, l)) c.in-Ok.ensures.row.1 in (
      far.0 ++ (fields ∷ []),
      far.1 ++ (row ∷ []),
      on,
      more,
      lines_more far.0 fields c.loop-num.num far.4,
      all_fit c.args.schema.now far.1 (far.1 ++ (row ∷ [])) row far.5 c.in-Ok.ensures.fits refl,
      c.in_ok-keep_row-in-Ok.ensures far.1 far.6,
    )

pub unreachable-requires : goal.unreachable-requires
unreachable-requires c =
    let far = c.loop-num.invariant in
    let text = c.args.bytes.now in
    let few = few_read text _ far.2.left (names_of c.args.schema.now ∷ far.0) far.2.reached in
    let count = far.4 in
    let small = c.requires.small in
    absurd (omega (arith, few, count, small))
