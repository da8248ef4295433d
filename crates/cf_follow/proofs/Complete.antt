-- A lawful capture is followed to its end.
use Rattle.std.proofs.Common.{◌≡◌, ◌∙◌, ◌⊎◌, ℕ, ◌+◌, inl, inr, List, [], ◌∷◌, ◌++◌, length, take, All, Bool, true, not, slice_index_or, Option, Some, None, IfSome, refl, sym, ap, subst, arith, length-append, append-nil, append_assoc}
use Rattle.std.specs.Io.KnownBytes.{Consumes, IsAtEnd}
use Rattle.std.proofs.KnownBytes.{Consumes-trans}
use Rattle.cf_outside.specs.Files.{ShelfView}
use Rattle.std.proofs.lemmas.List.{take_all}
use Rattle.cf_row.specs.declared.packet6.PacketSchema.{PacketSchema}
use Rattle.cf_row.specs.Row.{RowValue}
use Rattle.cf_pcap.specs.declared.limit.Length.TheVariants.{Any}
use Rattle.cf_row.proofs.Bytes.{both}
use Rattle.cf_intake.specs.Faults.{HasPacketFaultTo}
use Rattle.cf_intake.specs.Reads.{AreRowsGiven, FindsEnd}
use Rattle.cf_intake.proofs.Capturing.{packets_never}
use Rattle.cf_rounds.specs.Held.{RoundsValue}
use Rattle.cf_window.specs.Watched.{bytes_in_all}
use Rattle.cf_window.specs.Windows.{is_small, rows_in_all}
use Rattle.cf_window.proofs.Rows.{rows_one}
use Rattle.cf_follow.specs.Completed.{IsWatchable, Yields}
use Rattle.cf_follow.specs.Followed.{AreRead, IsDueOfStream, IsFollowed, IsTurnedAway}
use Rattle.cf_follow.specs.Followed.IsDueOfStream.{done, broken, refused, unread}
use Rattle.cf_follow.specs.Followed.IsFollowed.{wrote, cut, cut_round, cut_forced, out, out_within}
use Rattle.cf_follow.specs.declared.ending.Ending.{Ending}
use Rattle.cf_follow.specs.declared.ending.Ending.TheVariants.{Done}
use Rattle.cf_follow.proofs.Fronts.{rows_front, rows_whole}

pub rows_read : (schema : PacketSchema) (before now : ShelfView) (bytes : List ℕ) (reads : List (List RowValue)) → AreRead schema before now bytes reads
    → AreRowsGiven schema bytes (rows_in_all reads)
rows_read schema before now bytes reads read =
    let n : ℕ = length read.pieces in
    let count = read.ended.count in
    let pieces : bytes_in_all (take n read.pieces) ≡ bytes = ap bytes_in_all (take_all n read.pieces (omega arith)) ∙ read.cut.all in
    let rows : rows_in_all (take n reads) ≡ rows_in_all reads = ap rows_in_all (take_all n reads (omega (arith, count))) in
    subst (λ (bs : List ℕ). AreRowsGiven schema bs (rows_in_all reads)) pieces
    (subst (λ (rs : List RowValue). AreRowsGiven schema (bytes_in_all (take n read.pieces)) rs) rows (read.ended.each n (omega arith)))

-- what was read of a file
pub front_of : (file bytes : List ℕ) (now : Option (List ℕ)) → Consumes (Some file) now bytes → (rest : List ℕ) × (file ≡ bytes ++ rest)
front_of file bytes None taken = absurd taken
front_of file bytes (Some rest) taken = (rest, taken)

pub all_of : (file bytes : List ℕ) (now : Option (List ℕ)) → Consumes (Some file) now bytes → IsAtEnd now → file ≡ bytes
all_of file bytes None taken end = absurd taken
all_of file bytes (Some rest) taken end = taken ∙ (ap (λ (xs : List ℕ). bytes ++ xs) end ∙ append-nil bytes)

behind : {A : Type 0} (xs ys : List A) (y : A) → slice_index_or (xs ++ y ∷ ys) (length xs) y ≡ y
behind [] ys y = refl
behind (x ∷ xs) ys y = behind xs ys y

not_true : not true ≡ true → ⊥
not_true e = cc

-- what is left of it when it was read to its end
pub end_of : (mid now : ShelfView) (file bytes : List ℕ) (left : Option (List ℕ)) → left ≡ Some file → Consumes left mid.rest bytes → FindsEnd mid now
    → file ≡ bytes
end_of mid now file bytes left is taken end =
    let all : Consumes (Some file) now.rest (bytes ++ []) =
    Consumes-trans (Some file) mid.rest now.rest bytes [] (subst (λ (l : Option (List ℕ)). Consumes l mid.rest bytes) is taken) end.taken in
    all_of file (bytes ++ []) now.rest all end.end ∙ append-nil bytes

module _ (schema : PacketSchema) (begun : RoundsValue) (truncated : Bool) (file : List ℕ) (is : IsWatchable schema begun truncated file)
    (before : ShelfView) (opened : before.rest ≡ Some file) where
  part_of : (bytes : List ℕ) (now : ShelfView) → Consumes before.rest now.rest bytes → (rest : List ℕ) × (file ≡ bytes ++ rest)
  part_of bytes now taken = front_of file bytes now.rest (subst (λ (l : Option (List ℕ)). Consumes l now.rest bytes) opened taken)

  -- No record of it is turned away.
  turned : (bytes : List ℕ) (now : ShelfView) (reads : List (List RowValue)) (front rest : List RowValue) (row : RowValue)
      (why : Rattle.cf_intake.specs.declared.refusal.Refusal.Refusal) → AreRead schema before now bytes (reads ++ (front ++ row ∷ rest) ∷ [])
      → IsTurnedAway begun (rows_in_all reads ++ front) row why → ⊥
  turned bytes now reads front rest row why read away =
      let part = part_of bytes now read.taken in
      let whole : AreRowsGiven schema (bytes ++ part.0) is.what.rows =
      subst (λ (bs : List ℕ). AreRowsGiven schema bs is.what.rows) part.1 (rows_whole schema truncated file is.what.rows is.what.cut is.says) in
      let more = rows_front schema bytes part.0 (rows_in_all (reads ++ (front ++ row ∷ rest) ∷ [])) is.what.rows
      (rows_read schema before now bytes (reads ++ (front ++ row ∷ rest) ∷ []) read) whole in
      let before : List RowValue = rows_in_all reads ++ front in
      let parts : is.what.rows ≡ before ++ (row ∷ rest ++ more.0) =
      more.1
      ∙ (ap (λ (rs : List RowValue). rs ++ more.0) (rows_one reads (front ++ row ∷ rest) ∙ sym (append_assoc (rows_in_all reads) front (row ∷ rest)))
      ∙ append_assoc before (row ∷ rest) more.0) in
      by_cause before (rest ++ more.0) parts away
    where
      by_cause : (before after : List RowValue) → is.what.rows ≡ before ++ row ∷ after → IsTurnedAway begun before row why → ⊥
      by_cause before after parts (IsTurnedAway.full low same) =
          let few = is.few in
          let size : length is.what.rows ≡ length before + length (row ∷ after) =
          ap (λ (rs : List RowValue). length rs) parts ∙ length-append before (row ∷ after) in
          omega (arith, low, few, size)
      by_cause before after parts (IsTurnedAway.nodes low refused_ same) =
          let all = subst (λ (rs : List RowValue). All (λ (r : RowValue). is_small (begun.terms).shape r ≡ true) rs) parts is.small in
          let small : is_small (begun.terms).shape row ≡ true =
          subst (λ (r : RowValue). is_small (begun.terms).shape r ≡ true) (behind before after row)
          (all (length before) row (let size = length-append before (row ∷ after) in omega (arith, size))) in
          not_true (ap not (sym small) ∙ (both _ (not (is_small (begun.terms).shape row)) refused_).1)

  -- It has no fault.
  unbroken : (at code : ℕ) → HasPacketFaultTo Any schema truncated file at code → ⊥
  unbroken at code fault = packets_never Any schema truncated file is.what.rows is.what.cut at code is.says fault

  of_due : (now : ShelfView) (ending : Ending) (said text : List ℕ) → IsDueOfStream schema begun truncated before now ending said text → (ending ≡ Done)
      ⊎ Yields ending
  of_due now ending said text (done mid bytes reads cut_at read end took are same said_is text_is) = inl same
  of_due now ending said text (broken mid bytes reads at code read (inl bad) took same said_is text_is) =
      absurd (unbroken at code (subst (λ (bs : List ℕ). HasPacketFaultTo Any schema truncated bs at code)
      (sym (end_of mid now file bytes before.rest opened read.taken bad.0)) bad.2))
  of_due now ending said text (broken mid bytes reads at code read (inr bad) took same said_is text_is) =
      let part = part_of bytes mid read.taken in
      absurd (unbroken at code (subst (λ (bs : List ℕ). HasPacketFaultTo Any schema truncated bs at code) (sym part.1) (bad.2 part.0)))
  of_due now ending said text (refused bytes reads front rest row why read took away same said_is text_is) =
      absurd (turned bytes now reads front rest row why read away)
  of_due now ending said text (unread mid bytes reads read fails sound took same said_is text_is) = inr (inr (inl same))

  pub complete : (now : ShelfView) (held kept : Option (List ℕ)) (ending : Ending) → IsFollowed schema begun truncated before now held kept ending
      → (ending ≡ Done) ⊎ Yields ending
  complete now held kept ending (wrote said text due appends) = of_due now ending said text due
  complete now held kept ending (cut due said text same is_due past) = inr (inr (inr same))
  complete now held kept ending (cut_round bytes reads last same read took past) = inr (inr (inr same))
  complete now held kept ending (cut_forced bytes reads front rest row same read took forced past) = inr (inr (inr same))
  complete now held kept ending (out mid bytes reads same read ahead took appends) = inr (inl same)
  complete now held kept ending (out_within bytes reads front rest said same read took before_it appends) = inr (inl same)

-- The same where it is told what is left of the opened file.
pub complete_told : (schema : PacketSchema) (begun : RoundsValue) (truncated : Bool) (before now : ShelfView) (held kept : Option (List ℕ)) (ending : Ending)
    → IsFollowed schema begun truncated before now held kept ending
    → IfSome before.rest (λ file. IsWatchable schema begun truncated file → (ending ≡ Done) ⊎ Yields ending)
complete_told schema begun truncated before now held kept ending followed = by_rest before.rest refl
  where
    by_rest : (rest : Option (List ℕ)) → before.rest ≡ rest → IfSome rest (λ file. IsWatchable schema begun truncated file → (ending ≡ Done) ⊎ Yields ending)
    by_rest None opened = tt
    by_rest (Some file) opened = λ is. complete schema begun truncated file is before opened now held kept ending followed
