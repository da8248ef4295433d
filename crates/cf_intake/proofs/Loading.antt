-- From a file that is read to what it says.
use Rattle.std.proofs.Common.{◌≡◌, ◌⊎◌, ℕ, ◌+◌, ◌<◌, ◌^◌, Bool, false, List, [], ◌++◌, length, Option, Some, None, Result, Ok, Err, refl, ap, sym, ◌∙◌, inl, inr, All, IfOk, MatchResult, subst, arith, append-nil, length-append, Vec}
use Rattle.std.specs.declared.alloc.Global.{Global}
use Rattle.std.proofs.lemmas.List.Elements.{All-take}
use Rattle.cf_row.specs.Row.{Fits, RowValue}
use Rattle.cf_row.specs.declared.packet6.PacketSchema.{PacketSchema}
use Rattle.cf_row.specs.Schema6.{attrs_by}
use Rattle.cf_setup.specs.declared.source.Source.{Source}
use Rattle.cf_setup.specs.declared.source.Source.TheVariants.{Packets, Records}
use Rattle.cf_row.specs.declared.schema.Attr.{Attr}
use Rattle.cf_outside.specs.Files.{File, Opens}
use Rattle.cf_records.specs.Records.{AreFirst, HasRecordsFault}
use Rattle.cf_records.specs.declared.fault.RecordFault.{RecordFault}
use Rattle.cf_records.specs.declared.fault.RecordFault.TheVariants as records
use Rattle.cf_intake.specs.Devices.{IsFileRead, ReadsFile}
use Rattle.cf_intake.specs.Faults.{HasLineFault, HasFaultBy, HasFaultTo}
use Rattle.cf_intake.specs.Files.{HasFile, HasLeft, Grammar, captures, IsReadAs, IsFileRefused, Halts}
use Rattle.cf_intake.specs.Files.IsFileRefused.{missing, broken}
use Rattle.cf_intake.specs.Parts.{HasFirst, IsBad, IsFirstOf, captured, first_of}
use Rattle.cf_intake.specs.Reading.{TakesPackets, ReadsRows}
use Rattle.cf_intake.specs.Refusals.{unread}
use Rattle.cf_intake.specs.Rows.{CaptureValue, AreRowsTo, IsTruncatedAt, limit_by}
use Rattle.cf_intake.specs.declared.rows.Captured.{Captured}
use Rattle.cf_intake.proofs.Capturing.{packets_end, packets_longer, truncated_end}
use Rattle.cf_intake.proofs.Streams.{bad, told}
use Rattle.cf_intake.proofs.Taking.{left_after, stopped_read, file_read, file_stopped}
use Rattle.cf_intake.specs.declared.devices.ReadError.{ReadError}
use Rattle.cf_intake.specs.declared.devices.ReadError.TheVariants as errors
use Rattle.cf_intake.specs.declared.refusal.Halt.{Halt}
use Rattle.cf_intake.specs.declared.refusal.Halt.TheVariants.{Refused, Stopped}
use Rattle.cf_intake.specs.declared.refusal.Refusal.{Refusal}
use Rattle.cf_intake.specs.declared.refusal.Stop.{Stop}
use Rattle.cf_intake.specs.declared.refusal.Stop.TheVariants as stops

-- lawful files are below the limit
abbrev pub Ends : {A : Type 0} → Grammar A → Type 0
Ends {A} g = (bytes : List ℕ) (what : A) → g.Says bytes what → length bytes < g.limit

-- the fault of what was read as far as the limit is that of the file
abbrev pub Longer : {A : Type 0} → Grammar A → Type 0
Longer {A} g = (bytes rest : List ℕ) (place code : ℕ) → (rest ≡ []) ⊎ (length bytes ≡ g.limit) → g.Breaks bytes place code → g.Breaks (bytes ++ rest) place code

pub read_as : {A : Type 0} (g : Grammar A) → Ends g → (told : Option (List File)) (name bytes : List ℕ) (now : Option (List ℕ)) (what : A)
    → IsFileRead told name g.limit now bytes → g.Says bytes what → IsReadAs g told name now what
read_as {A} g ends told name bytes now what read says =
    let end : read.rest ≡ [] = elim read.whole [
      | inl end ↦ end
      | inr more ↦ let size : length bytes < g.limit = ends bytes what says in absurd (omega (arith, size, more))
    ] in (
      record {
        bytes = bytes;
        file = subst (λ (xs : List ℕ). HasFile told name (Some xs)) (ap (λ xs. bytes ++ xs) end ∙ append-nil bytes) read.file_is;
        says = says;
        few = read.most;
      },
      subst (λ (xs : List ℕ). HasLeft told now (Some xs)) end read.left,
    )

pub read_broken : {A : Type 0} (g : Grammar A) → Longer g → (told : Option (List File)) (name bytes : List ℕ) (before now : Option (List ℕ)) (place code : ℕ)
    → IsFileRead told name g.limit now bytes → g.Breaks bytes place code → IsFileRefused g told name before now (g.refusal place code)
read_broken {A} g longer told name bytes before now place code read breaks =
    broken (bytes ++ read.rest) place code read.file_is (longer bytes read.rest place code read.whole breaks)
    (subst (λ (xs : List ℕ). HasLeft told now (Some xs)) (left_after g.limit bytes read.rest read.most read.whole) read.left) refl

-- a file that was not read
pub unread_halts : {A : Type 0} (g : Grammar A) (told : Option (List File)) (name : List ℕ) (before now : Option (List ℕ)) (error : ReadError)
    → ReadsFile told name g.limit before now (Err error) → Halts g told name before now (unread error)
unread_halts {A} g told name before now errors.Missing reads = missing reads.0 reads.1 refl
unread_halts {A} g told name before now errors.Failed reads = reads
unread_halts {A} g told name before now errors.Memory reads = reads

full_line : (attrs : List Attr) (bytes rest : List ℕ) (fault : RecordFault) → length bytes ≡ 2 ^ 24 → HasRecordsFault attrs bytes fault
    → HasRecordsFault attrs (bytes ++ rest) fault
full_line attrs bytes rest records.NoHeader full has = let small : length bytes < 2 ^ 24 = has.0 in absurd (omega (arith, small, full))
full_line attrs bytes rest records.BadHeader full has = let small : length bytes < 2 ^ 24 = has.small in absurd (omega (arith, small, full))
full_line attrs bytes rest (records.BadCount k) full has = let small : length bytes < 2 ^ 24 = has.small in absurd (omega (arith, small, full))
full_line attrs bytes rest (records.BadValue k column) full has = let small : length bytes < 2 ^ 24 = has.small in absurd (omega (arith, small, full))
full_line attrs bytes rest records.TooManyBytes full has = let sum : length (bytes ++ rest) ≡ length bytes + length rest = length-append bytes rest in
    omega (arith, full, sum)
full_line attrs bytes rest records.Memory full has = has

lines_longer : (attrs : List Attr) (bytes rest : List ℕ) (at code : ℕ) → (rest ≡ []) ⊎ (length bytes ≡ 2 ^ 24) → HasLineFault attrs bytes at code
    → HasLineFault attrs (bytes ++ rest) at code
lines_longer attrs bytes rest at code whole has = record {
  fault = has.fault;
  fault_is = elim whole [
    | inl end ↦ subst (λ (xs : List ℕ). HasRecordsFault attrs xs has.fault) (sym (ap (λ xs. bytes ++ xs) end ∙ append-nil bytes)) has.fault_is
    | inr full ↦ full_line attrs bytes rest has.fault full has.fault_is
  ];
  record_is = has.record_is;
  code_is = has.code_is;
}

captures_end : (source : Source) (truncated : Bool) (attrs : List Attr) (bytes : List ℕ) (rows : List RowValue) (cut : Option ℕ)
    → AreRowsTo source truncated attrs bytes rows cut → length bytes < limit_by source
captures_end (Packets schema) truncated attrs bytes rows None are = packets_end schema bytes rows are
captures_end Records truncated attrs bytes rows None are = are.small
captures_end source truncated attrs bytes rows (Some k) is = truncated_end source truncated bytes rows k is

untruncated_longer : (source : Source) (truncated : Bool) (bytes rest : List ℕ) → (rest ≡ []) ⊎ (length bytes ≡ limit_by source)
    → ((rows : List RowValue) (k : ℕ) → IsTruncatedAt source truncated bytes rows k → ⊥) → (rows : List RowValue) (k : ℕ)
    → IsTruncatedAt source truncated (bytes ++ rest) rows k → ⊥
untruncated_longer source truncated bytes rest (inl end) never rows k is =
    never rows k (subst (λ (xs : List ℕ). IsTruncatedAt source truncated xs rows k) (ap (λ xs. bytes ++ xs) end ∙ append-nil bytes) is)
untruncated_longer source truncated bytes rest (inr full) never rows k is =
    let small : length (bytes ++ rest) < limit_by source = truncated_end source truncated (bytes ++ rest) rows k is in
    let sum : length (bytes ++ rest) ≡ length bytes + length rest = length-append bytes rest in
    omega (arith, small, full, sum)

faults_longer : (source : Source) (attrs : List Attr) (bytes rest : List ℕ) (at code : ℕ) → (rest ≡ []) ⊎ (length bytes ≡ limit_by source)
    → HasFaultBy source attrs bytes at code → HasFaultBy source attrs (bytes ++ rest) at code
faults_longer (Packets schema) attrs = packets_longer schema
faults_longer Records attrs = lines_longer attrs

captures_longer : (source : Source) (truncated : Bool) (attrs : List Attr) → Longer (captures source truncated attrs)
captures_longer source truncated attrs bytes rest at code whole has =
    (faults_longer source attrs bytes rest at code whole has.0, untruncated_longer source truncated bytes rest whole has.1)

-- the rows of a capture that was read
pub rows_said : (source : Source) (truncated : Bool) (attrs : List Attr) (told : Option (List File)) (name bytes : List ℕ) (now : Option (List ℕ))
    (what : CaptureValue)
    → IsFileRead told name (limit_by source) now bytes → AreRowsTo source truncated attrs bytes what.rows what.cut
    → IsReadAs (captures source truncated attrs) told name now what
rows_said source truncated attrs told name bytes now what read are =
    read_as (captures source truncated attrs) (λ xs this says. captures_end source truncated attrs xs this.rows this.cut says) told name bytes now what read are

-- why it has none
pub rows_unsaid : (source : Source) (truncated : Bool) (attrs : List Attr) (told : Option (List File)) (name bytes : List ℕ) (before now : Option (List ℕ))
    (halt : Halt)
    → IsFileRead told name (limit_by source) now bytes → IsBad (HasFaultTo source truncated attrs bytes) halt
    → Halts (captures source truncated attrs) told name before now halt
rows_unsaid source truncated attrs told name bytes before now (Refused why) read bad =
    subst (λ (w : Refusal). IsFileRefused (captures source truncated attrs) told name before now w) (sym bad.2)
    (read_broken (captures source truncated attrs) (captures_longer source truncated attrs) told name bytes before now bad.0 bad.1 read bad.3)
rows_unsaid source truncated attrs told name bytes before now (Stopped stop) read bad = stopped_read told name (limit_by source) before now bytes read

bad_lines : (attrs : List Attr) (bytes : List ℕ) (halt : Halt) → IsBad (HasLineFault attrs bytes) halt → IsBad (HasFaultTo Records false attrs bytes) halt
bad_lines attrs bytes (Refused why) bad = (bad.0, bad.1, bad.2, (bad.3, λ rows k is. is))
bad_lines attrs bytes (Stopped stop) bad = stopped_bad stop bad where
  stopped_bad : (stop : Stop) → IsBad (HasLineFault attrs bytes) (Stopped stop) → IsBad (HasFaultTo Records false attrs bytes) (Stopped stop)
  stopped_bad stops.ReadFault bad = bad
  stopped_bad stops.Memory bad = bad

-- of a file of records, of which the first are kept
pub first_read : (attrs : List Attr) (told : Option (List File)) (name bytes : List ℕ) (before now : Option (List ℕ)) (most : ℕ)
    (result : Result (Vec RowValue Global) Halt) → IsFileRead told name (2 ^ 24) now bytes
    → MatchResult result (λ rows. AreFirst attrs bytes most rows.items) (IsBad (HasLineFault attrs bytes))
    → MatchResult result (λ rows. HasFirst attrs told name now most rows.items) (Halts (captures Records false attrs) told name before now)
first_read attrs told name bytes before now most (Ok kept) read says = record {
  rows = says.rows;
  read = rows_said Records false attrs told name bytes now (record { rows = says.rows; cut = None }) read says.file;
  fit = says.fit;
  first_are = says.first_are;
}
first_read attrs told name bytes before now most (Err halt) read bad =
    rows_unsaid Records false attrs told name bytes before now halt read (bad_lines attrs bytes halt bad)

pub first_fit : (attrs : List Attr) (bytes : List ℕ) (most : ℕ) (result : Result (Vec RowValue Global) Halt)
    → MatchResult result (λ rows. AreFirst attrs bytes most rows.items) (IsBad (HasLineFault attrs bytes)) → IfOk result (λ rows. All (Fits attrs) rows.items)
first_fit attrs bytes most (Ok kept) says =
    subst (λ (rows : List RowValue). All (Fits attrs) rows) (sym says.first_are) (All-take (Fits attrs) most says.rows says.fit)
first_fit attrs bytes most (Err halt) says = tt

-- of the packets of an opened file
pub packets_read : (schema : PacketSchema) (truncated : Bool) (Took : List RowValue → Type 0) (told : Option (List File)) (name : List ℕ)
    (before mid now : Option (List ℕ))
    (result : Result (Option ℕ) Halt) → Opens told name before mid (Ok tt)
    → TakesPackets schema truncated (λ cut what. (what.cut ≡ cut) × Took what.rows) mid now result
    → ReadsRows (Packets schema) truncated (attrs_by schema) Took told name before now result
packets_read schema truncated Took told name before mid now (Ok cut) opened takes = (
  takes.1.rows,
  subst (λ (c : Option ℕ). IsReadAs (captures (Packets schema) truncated (attrs_by schema)) told name now (record { rows = takes.1.rows; cut = c })) takes.4.0
      (rows_said (Packets schema) truncated (attrs_by schema) told name takes.0 now takes.1
      (file_read told name (2 ^ 32) before mid now takes.0 opened takes.2) takes.3),
  takes.4.1,
)
packets_read schema truncated Took told name before mid now (Err (Refused why)) opened takes =
    rows_unsaid (Packets schema) truncated (attrs_by schema) told name takes.0 before now (Refused why)
    (file_read told name (2 ^ 32) before mid now takes.0 opened takes.1) takes.2
packets_read schema truncated Took told name before mid now (Err (Stopped stop)) opened takes = file_stopped told name (2 ^ 32) before mid now opened takes

-- of which the first are kept
pub packets_kept : (schema : PacketSchema) (truncated : Bool) (told : Option (List File)) (name : List ℕ) (before mid now : Option (List ℕ)) (most : ℕ)
    (result : Result Captured Halt)
    → Opens told name before mid (Ok tt) → TakesPackets schema truncated (λ kept what. captured kept ≡ first_of most what) mid now result
    → MatchResult result (λ kept. IsFirstOf (captures (Packets schema) truncated (attrs_by schema)) told name now most (captured kept))
    (Halts (captures (Packets schema) truncated (attrs_by schema)) told name before now)
packets_kept schema truncated told name before mid now most (Ok kept) opened takes = record {
  what = takes.1;
  read = rows_said (Packets schema) truncated (attrs_by schema) told name takes.0 now takes.1
      (file_read told name (2 ^ 32) before mid now takes.0 opened takes.2) takes.3;
  kept_is = takes.4;
}
packets_kept schema truncated told name before mid now most (Err (Refused why)) opened takes =
    rows_unsaid (Packets schema) truncated (attrs_by schema) told name takes.0 before now (Refused why)
    (file_read told name (2 ^ 32) before mid now takes.0 opened takes.1) takes.2
packets_kept schema truncated told name before mid now most (Err (Stopped stop)) opened takes = file_stopped told name (2 ^ 32) before mid now opened takes

-- and of a file of records, which is never truncated
pub lines_kept : (truncated : Bool) (attrs : List Attr) (told : Option (List File)) (name : List ℕ) (now : Option (List ℕ)) (most : ℕ)
    (rows : List RowValue) → HasFirst attrs told name now most rows
    → IsFirstOf (captures Records truncated attrs) told name now most (record { rows = rows; cut = None })
lines_kept truncated attrs told name now most rows first = record {
  what = record { rows = first.rows; cut = None };
  read = first.read;
  kept_is = ap (λ (rs : List RowValue). record { rows = rs; cut = None }) first.first_are;
}
