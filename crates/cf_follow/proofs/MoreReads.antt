-- One more read.
use Rattle.std.proofs.Common.{◌≡◌, ◌∙◌, ℕ, ◌+◌, ◌<◌, ◌≤◌, inl, inr, List, [], ◌∷◌, ◌++◌, length, map, take, Bool, true, false, nat_lt, if◌then◌else◌, refl, sym, ap, subst, arith, length-append, append-nil}
use Rattle.std.proofs.lemmas.Bool.{cases_lt}
use Rattle.std.proofs.lemmas.Bool.Decides.{nat_tests}
use Rattle.std.proofs.KnownBytes.{Appends-nil, Appends-trans, Consumes-nil, Consumes-trans}
use Rattle.std.proofs.lemmas.List.{map-append, take_all, take-append-le}
use Rattle.std.proofs.lemmas.List.Concat.{flat_map-append}
use Rattle.std.proofs.lemmas.List.Elements.{All-push}
use Rattle.std.proofs.lemmas.List.Sums.{fold_push}
use Rattle.cf_row.specs.declared.packet6.PacketSchema.{PacketSchema}
use Rattle.cf_row.specs.Row.{RowValue}
use Rattle.std.specs.Io.KnownBytes.{Appends}
use Rattle.cf_outside.specs.Files.{ShelfView}
use Rattle.cf_intake.specs.Faults.{ShowNoFault}
use Rattle.cf_intake.specs.Reads.{AreRowsGiven, MovesPiece}
use Rattle.cf_rounds.specs.Streams.{Stream, Terms, after_reads, begun, through, was_read, with_round}
use Rattle.cf_window.specs.Watched.{AreEnded, bytes_in_all}
use Rattle.cf_window.specs.Windows.{rows_in_all}
use Rattle.cf_window.proofs.Rows.{rows_one}
use Rattle.cf_follow.specs.Followed.{AreRead}

bytes_one : (pieces : List (List ℕ)) (piece : List ℕ) → bytes_in_all (pieces ++ piece ∷ []) ≡ bytes_in_all pieces ++ piece
bytes_one pieces piece =
    flat_map-append (λ (bs : List ℕ). bs) pieces (piece ∷ []) ∙ ap (λ (bs : List ℕ). bytes_in_all pieces ++ bs) (append-nil piece)

pub length_one : {A : Type 0} (xs : List A) (x : A) → length (xs ++ x ∷ []) ≡ length xs + 1
length_one xs x = length-append xs (x ∷ [])

-- The records of the reads before are those of before.
module _ (schema : PacketSchema) (pieces : List (List ℕ)) (piece : List ℕ) (reads : List (List RowValue)) (given : List RowValue)
    (are : AreEnded (AreRowsGiven schema) pieces reads)
    (now : AreRowsGiven schema (bytes_in_all pieces ++ piece) (rows_in_all reads ++ given)) where
  before : (k : ℕ) → k ≤ length pieces → AreRowsGiven schema (bytes_in_all (take k (pieces ++ piece ∷ []))) (rows_in_all (take k (reads ++ given ∷ [])))
  before k low =
      let count = are.count in
      let front : take k (pieces ++ piece ∷ []) ≡ take k pieces = take-append-le k pieces (piece ∷ []) low in
      let rows : take k (reads ++ given ∷ []) ≡ take k reads = take-append-le k reads (given ∷ []) (omega (arith, low, count)) in
      subst (λ (ps : List (List ℕ)). AreRowsGiven schema (bytes_in_all ps) (rows_in_all (take k (reads ++ given ∷ [])))) (sym front)
      (subst (λ (rs : List (List RowValue)). AreRowsGiven schema (bytes_in_all (take k pieces)) (rows_in_all rs)) (sym rows) (are.each k low))

  whole : (k : ℕ) → length pieces < k → AreRowsGiven schema (bytes_in_all (take k (pieces ++ piece ∷ []))) (rows_in_all (take k (reads ++ given ∷ [])))
  whole k high =
      let count = are.count in
      let more = length_one pieces piece in
      let also = length_one reads given in
      let all : bytes_in_all (take k (pieces ++ piece ∷ [])) ≡ bytes_in_all pieces ++ piece =
      ap bytes_in_all (take_all k (pieces ++ piece ∷ []) (omega (arith, more, high))) ∙ bytes_one pieces piece in
      let rows : rows_in_all (take k (reads ++ given ∷ [])) ≡ rows_in_all reads ++ given =
      ap rows_in_all (take_all k (reads ++ given ∷ []) (omega (arith, also, high, count))) ∙ rows_one reads given in
      subst (λ (bs : List ℕ). AreRowsGiven schema bs (rows_in_all (take k (reads ++ given ∷ [])))) (sym all)
      (subst (λ (rs : List RowValue). AreRowsGiven schema (bytes_in_all pieces ++ piece) rs) (sym rows) now)

  pub ended_more : AreEnded (AreRowsGiven schema) (pieces ++ piece ∷ []) (reads ++ given ∷ [])
  ended_more = record {
    count = (let count = are.count in let more = length_one pieces piece in let also = length_one reads given in omega (arith, count, more, also));
    each = λ k low. elim (cases_lt (length pieces) k) [ inl high ↦ whole k high | inr less ↦ before k less ];
  }

pub read_more : (schema : PacketSchema) (before mid now : ShelfView) (bytes piece : List ℕ) (reads : List (List RowValue)) (given : List RowValue)
    → AreRead schema before mid bytes reads → ShowNoFault schema bytes → MovesPiece 65536 mid now piece → length given ≤ 4096
    → AreRowsGiven schema (bytes ++ piece) (rows_in_all reads ++ given) → AreRead schema before now (bytes ++ piece) (reads ++ given ∷ [])
read_more schema before mid now bytes piece reads given read sound moves few given_now = record {
  pieces = read.pieces ++ piece ∷ [];
  cut = record {
    all = bytes_one read.pieces piece ∙ ap (λ (bs : List ℕ). bs ++ piece) read.cut.all;
    some = All-push (λ (p : List ℕ). 0 < length p) read.pieces piece read.cut.some moves.some;
    short = All-push (λ (p : List ℕ). length p ≤ 65536) read.pieces piece read.cut.short moves.short;
  };
  ended = ended_more schema read.pieces piece reads given read.ended
      (subst (λ (bs : List ℕ). AreRowsGiven schema (bs ++ piece) (rows_in_all reads ++ given)) (sym read.cut.all) given_now);
  taken = Consumes-trans before.rest mid.rest now.rest bytes piece read.taken moves.taken;
  noted = subst (λ (ns : List ℕ). Appends before.moved now.moved ns) (sym (map-append (λ (p : List ℕ). length p) read.pieces (piece ∷ [])))
      (Appends-trans before.moved mid.moved now.moved (map (λ (p : List ℕ). length p) read.pieces) (length piece ∷ []) read.noted moves.noted);
  unbroken = unbroken_more;
  few = All-push (λ (rows : List RowValue). length rows ≤ 4096) reads given read.few few;
}
  where
    unbroken_more : (k : ℕ) → k < length (read.pieces ++ piece ∷ []) → ShowNoFault schema (bytes_in_all (take k (read.pieces ++ piece ∷ [])))
    unbroken_more k low =
        let more = length_one read.pieces piece in
        let front : take k (read.pieces ++ piece ∷ []) ≡ take k read.pieces = take-append-le k read.pieces (piece ∷ []) (omega (arith, low, more)) in
        subst (λ (ps : List (List ℕ)). ShowNoFault schema (bytes_in_all ps)) (sym front) (elim (cases_lt k (length read.pieces)) [
          | inl less ↦ read.unbroken k less
          | inr high ↦ subst (λ (bs : List ℕ). ShowNoFault schema bs) (sym (ap bytes_in_all (take_all k read.pieces high) ∙ read.cut.all)) sound
        ])

-- nothing was read
pub read_nothing : (schema : PacketSchema) (view : ShelfView) → AreRowsGiven schema [] [] → AreRead schema view view [] []
read_nothing schema view none = record {
  pieces = [];
  cut = record { all = refl; some = λ i d low. absurd (omega (arith, low)); short = λ i d low. absurd (omega (arith, low)) };
  ended = record {
    count = refl;
    each = λ k low. let zero_is : 0 ≡ k = omega (arith, low) in
        subst (λ (n : ℕ). AreRowsGiven schema (bytes_in_all (take n [])) (rows_in_all (take n []))) zero_is none;
  };
  taken = Consumes-nil view.rest;
  noted = Appends-nil view.moved;
  unbroken = λ k low. absurd (omega (arith, low));
  few = λ i d low. absurd (omega (arith, low));
}

-- The stream after one more read.

pub reads_one : (terms : Terms) (reads : List (List RowValue)) (given : List RowValue)
    → after_reads terms (reads ++ given ∷ []) ≡ was_read terms (after_reads terms reads) given
reads_one terms reads given = fold_push (was_read terms) (begun terms) reads given

some_true : (n : ℕ) → 0 < n → nat_lt 0 n ≡ true
some_true n some = grind (arith, nat_tests)

-- one that ended no record changes nothing
pub read_none : (terms : Terms) (stream : Stream) (given : List RowValue) → length given ≡ 0 → was_read terms stream given ≡ stream
read_none terms stream given none = ap (λ (n : ℕ). if nat_lt 0 n then with_round terms false (through terms stream given) else stream) none

-- after one that ended some a round comes
pub read_some : (terms : Terms) (stream : Stream) (given : List RowValue) → 0 < length given
    → was_read terms stream given ≡ with_round terms false (through terms stream given)
read_some terms stream given some =
    ap (λ (b : Bool). if b then with_round terms false (through terms stream given) else stream) (some_true (length given) some)
