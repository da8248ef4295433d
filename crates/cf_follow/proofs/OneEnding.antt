-- One ending alone is due.
use Rattle.std.proofs.Common.{◌≡◌, ◌∙◌, ◌⊎◌, ℕ, ◌+◌, inl, inr, List, [], ◌∷◌, ◌++◌, length, fold, Bool, true, false, Option, Some, refl, sym, ap, ap₂, subst, arith, length-append, append-nil, append_assoc}
use Rattle.cf_outside.specs.Files.{ShelfView}
use Rattle.cf_row.specs.declared.packet6.PacketSchema.{PacketSchema}
use Rattle.cf_row.specs.Row.{RowValue}
use Rattle.cf_shape.specs.Lanes.{ShapeValue}
use Rattle.cf_pcap.specs.declared.limit.Length.TheVariants.{Any}
use Rattle.cf_intake.specs.Faults.{HasPacketFaultTo}
use Rattle.cf_intake.specs.Formats.{begins_section}
use Rattle.cf_intake.specs.Reads.{AreRowsGiven}
use Rattle.cf_intake.specs.Rows.{ArePacketsTo, scope_by}
use Rattle.cf_intake.specs.declared.refusal.Refusal.{Refusal}
use Rattle.cf_intake.specs.declared.refusal.Refusal.TheVariants as refusals
use Rattle.cf_intake.specs.declared.refusal.Stop.TheVariants as stops
use Rattle.cf_intake.proofs.Capturing.{faults_same, packets_never}
use Rattle.cf_rounds.specs.Held.{RoundsValue}
use Rattle.cf_window.specs.Windows.{after_row, is_refused, rows_in_all}
use Rattle.cf_window.proofs.Rows.{rows_one}
use Rattle.cf_follow.specs.Followed.{AreTaken, AreTakenFrom, IsDueOfStream, IsTurnedAway}
use Rattle.cf_follow.specs.Followed.IsDueOfStream.{done, broken, refused, unread}
use Rattle.cf_follow.specs.Laws.{OneEndingIsDue}
use Rattle.cf_follow.specs.declared.ending.Ending.{Ending}
use Rattle.cf_follow.specs.declared.ending.Ending.TheVariants.{Done, Refused, Stopped}
use Rattle.cf_follow.proofs.Complete.{end_of, front_of, rows_read}
use Rattle.cf_follow.proofs.Fronts.{rows_front, rows_shown}

-- A record that was taken is not turned away.

took_at : (shape : ShapeValue) (most : ℕ) (segments : List (List RowValue)) (front : List RowValue) (row : RowValue) (rest : List RowValue)
    → AreTakenFrom shape most segments (front ++ row ∷ rest) → is_refused shape (fold (after_row shape most) segments front) row ≡ false
took_at shape most segments [] row rest took = took.0
took_at shape most segments (first ∷ front) row rest took = took_at shape most (after_row shape most segments first) front row rest took.1

not_both : (b : Bool) → b ≡ true → b ≡ false → ⊥
not_both b p q = cc

taken_never : (begun : RoundsValue) (rows front : List RowValue) (row : RowValue) (rest : List RowValue) (why : Refusal) → AreTaken begun rows
    → rows ≡ front ++ row ∷ rest → IsTurnedAway begun front row why → ⊥
taken_never begun rows front row rest why took is (IsTurnedAway.full all same) =
    let few = took.few in
    let size : length rows ≡ length front + length (row ∷ rest) = ap (λ (rs : List RowValue). length rs) is ∙ length-append front (row ∷ rest) in
    omega (arith, few, size, all)
taken_never begun rows front row rest why took is (IsTurnedAway.nodes low away same) =
    let each = subst (λ (rs : List RowValue). AreTakenFrom (begun.terms).shape (begun.terms).most [] rs) is took.each in
    not_both _ away (took_at (begun.terms).shape (begun.terms).most [] front row rest each)

-- Of two lists that begin the same, one is the begin of the other.
comparable : {A : Type 0} (a b r s : List A) → a ++ r ≡ b ++ s → ((m : List A) × (b ≡ a ++ m)) ⊎ ((m : List A) × (a ≡ b ++ m))
comparable [] b r s is = inl (b, refl)
comparable (x ∷ a) [] r s is = inr (x ∷ a, refl)
comparable {A} (x ∷ a) (y ∷ b) r s is =
    let all : x ∷ (a ++ r) ≡ y ∷ (b ++ s) = is in
    let head : x ≡ y = cc all in
    let tail : a ++ r ≡ b ++ s = cc all in
    elim (comparable a b r s tail) [
      | inl more ↦ inl (more.0, ap₂ (λ (z : A) (zs : List A). z ∷ zs) (sym head) more.1)
      | inr more ↦ inr (more.0, ap₂ (λ (z : A) (zs : List A). z ∷ zs) head more.1)
    ]

one_next : {A : Type 0} (front : List A) (x y : A) (xs ys : List A) → front ++ x ∷ xs ≡ front ++ y ∷ ys → x ≡ y
one_next [] x y xs ys is = cc is
one_next (z ∷ front) x y xs ys is =
    let all : z ∷ (front ++ x ∷ xs) ≡ z ∷ (front ++ y ∷ ys) = is in
    one_next front x y xs ys (cc all)

-- Two records that are turned away first are so for the same cause.

same_why : (begun : RoundsValue) (rows : List RowValue) (row row' : RowValue) (why why' : Refusal) → IsTurnedAway begun rows row why
    → IsTurnedAway begun rows row' why' → why ≡ why'
same_why begun rows row row' why why' (IsTurnedAway.full all is) (IsTurnedAway.full all' is') = is ∙ sym is'
same_why begun rows row row' why why' (IsTurnedAway.full all is) (IsTurnedAway.nodes low' away' is') = absurd (omega (arith, all, low'))
same_why begun rows row row' why why' (IsTurnedAway.nodes low away is) (IsTurnedAway.full all' is') = absurd (omega (arith, low, all'))
same_why begun rows row row' why why' (IsTurnedAway.nodes low away is) (IsTurnedAway.nodes low' away' is') = is ∙ sym is'

why_behind : (begun : RoundsValue) (front more : List RowValue) (row : RowValue) (rest other : List RowValue) (row' : RowValue) (rest' : List RowValue)
    (why why' : Refusal) → AreTaken begun other → other ≡ front ++ more → front ++ row ∷ rest ≡ other ++ row' ∷ rest' → IsTurnedAway begun front row why
    → IsTurnedAway begun other row' why' → why ≡ why'
why_behind begun front [] row rest other row' rest' why why' took is same away away' =
    same_why begun front row row' why why' away (subst (λ (rs : List RowValue). IsTurnedAway begun rs row' why') (is ∙ append-nil front) away')
why_behind begun front (x ∷ more) row rest other row' rest' why why' took is same away away' =
    let there : front ++ row ∷ rest ≡ front ++ x ∷ (more ++ row' ∷ rest') =
    same ∙ (ap (λ (rs : List RowValue). rs ++ row' ∷ rest') is ∙ append_assoc front (x ∷ more) (row' ∷ rest')) in
    let first : row ≡ x = one_next front row x rest (more ++ row' ∷ rest') there in
    absurd (taken_never begun other front row more why took (is ∙ ap (λ (r : RowValue). front ++ r ∷ more) (sym first)) away)

one_why : (begun : RoundsValue) (front : List RowValue) (row : RowValue) (rest other : List RowValue) (row' : RowValue) (rest' : List RowValue)
    (why why' : Refusal) → AreTaken begun front → AreTaken begun other → front ++ row ∷ rest ≡ other ++ row' ∷ rest' → IsTurnedAway begun front row why
    → IsTurnedAway begun other row' why' → why ≡ why'
one_why begun front row rest other row' rest' why why' took took' same away away' = elim (comparable front other (row ∷ rest) (row' ∷ rest') same) [
  | inl more ↦ why_behind begun front more.0 row rest other row' rest' why why' took' more.1 same away away'
  | inr more ↦ sym (why_behind begun other more.0 row' rest' front row rest why' why took more.1 (sym same) away' away)
]

-- how a file ends where all its records were taken
abbrev EndsSo : PacketSchema → Bool → List ℕ → List RowValue → Ending → Type 0
EndsSo schema truncated file rows ending =
    ((ending ≡ Done) × ((cut : Option ℕ) × ArePacketsTo Any schema truncated file rows cut))
    ⊎ ((at : ℕ) × (code : ℕ) × (ending ≡ Refused (refusals.Capture at code)) × HasPacketFaultTo Any schema truncated file at code)

-- All were taken; or one is turned away.
data Says (schema : PacketSchema) (begun : RoundsValue) (truncated : Bool) (file : List ℕ) (ending : Ending) : Type 0 where
  all_taken : (rows : List RowValue) → AreRowsGiven schema file rows → AreTaken begun rows → EndsSo schema truncated file rows ending
      → Says schema begun truncated file ending
  one_away : (bytes after : List ℕ) (front : List RowValue) (row : RowValue) (rest : List RowValue) (why : Refusal) → file ≡ bytes ++ after
      → AreRowsGiven schema bytes (front ++ row ∷ rest) → AreTaken begun front → IsTurnedAway begun front row why → ending ≡ Refused why
      → Says schema begun truncated file ending

module _ (schema : PacketSchema) (begun : RoundsValue) (truncated : Bool) (file : List ℕ) where
  says : (before now : ShelfView) (ending : Ending) (said text : List ℕ) → before.rest ≡ Some file
      → IsDueOfStream schema begun truncated before now ending said text → (ending ≡ Stopped stops.ReadFault → ⊥) → Says schema begun truncated file ending
  says before now ending said text opened (done mid bytes reads cut read end took are is said_is text_is) sound =
      let whole : file ≡ bytes = end_of mid now file bytes before.rest opened read.taken end in
      all_taken (rows_in_all reads)
      (subst (λ (bs : List ℕ). AreRowsGiven schema bs (rows_in_all reads)) (sym whole) (rows_read schema before mid bytes reads read)) took
      (inl (is, (cut, subst (λ (bs : List ℕ). ArePacketsTo Any schema truncated bs (rows_in_all reads) cut) (sym whole) are)))
  says before now ending said text opened (broken mid bytes reads at code read (inl bad) took is said_is text_is) sound =
      let whole : file ≡ bytes = end_of mid now file bytes before.rest opened read.taken bad.0 in
      all_taken (rows_in_all reads)
      (subst (λ (bs : List ℕ). AreRowsGiven schema bs (rows_in_all reads)) (sym whole) (rows_read schema before mid bytes reads read)) took
      (inr (at, code, is, subst (λ (bs : List ℕ). HasPacketFaultTo Any schema truncated bs at code) (sym whole) bad.2))
  says before now ending said text opened (broken mid bytes reads at code read (inr bad) took is said_is text_is) sound =
      let part = front_of file bytes mid.rest (subst (λ (l : Option (List ℕ)). Rattle.std.specs.Io.KnownBytes.Consumes l mid.rest bytes) opened read.taken) in
      all_taken (rows_in_all reads)
      (subst (λ (bs : List ℕ). AreRowsGiven schema bs (rows_in_all reads)) (sym part.1)
      (rows_shown schema bytes part.0 at code (rows_in_all reads) bad.1 (rows_read schema before mid bytes reads read))) took
      (inr (at, code, is, subst (λ (bs : List ℕ). HasPacketFaultTo Any schema truncated bs at code) (sym part.1) (bad.2 part.0)))
  says before now ending said text opened (refused bytes reads front rest row why read took away is said_is text_is) sound =
      let part = front_of file bytes now.rest (subst (λ (l : Option (List ℕ)). Rattle.std.specs.Io.KnownBytes.Consumes l now.rest bytes) opened read.taken) in
      one_away bytes part.0 (rows_in_all reads ++ front) row rest why part.1
      (subst (λ (rs : List RowValue). AreRowsGiven schema bytes rs)
      (rows_one reads (front ++ row ∷ rest) ∙ sym (append_assoc (rows_in_all reads) front (row ∷ rest)))
      (rows_read schema before now bytes (reads ++ (front ++ row ∷ rest) ∷ []) read)) took away is
  says before now ending said text opened (unread mid bytes reads read fails shows took is said_is text_is) sound = absurd (sound is)

  ends_same : (rows rows' : List RowValue) (ending other : Ending) → EndsSo schema truncated file rows ending
      → EndsSo schema truncated file rows' other → ending ≡ other
  ends_same rows rows' ending other (inl p) (inl q) = p.0 ∙ sym q.0
  ends_same rows rows' ending other (inl p) (inr q) = absurd (packets_never Any schema truncated file rows p.1.0 q.0 q.1 p.1.1 q.3)
  ends_same rows rows' ending other (inr p) (inl q) = absurd (packets_never Any schema truncated file rows' q.1.0 p.0 p.1 q.1.1 p.3)
  ends_same rows rows' ending other (inr p) (inr q) =
      let same = faults_same (scope_by Any schema) (begins_section file) file p.0 p.1 q.0 q.1 p.3.0 q.3.0 in
      p.2 ∙ (ap₂ (λ (at code : ℕ). Refused (refusals.Capture at code)) same.0 same.1 ∙ sym q.2)

  -- None is turned away where all were taken.
  all_never : (rows : List RowValue) → AreRowsGiven schema file rows → AreTaken begun rows → (bytes after : List ℕ) (front : List RowValue) (row : RowValue)
      (rest : List RowValue) (why : Refusal) → file ≡ bytes ++ after → AreRowsGiven schema bytes (front ++ row ∷ rest) → IsTurnedAway begun front row why → ⊥
  all_never rows given took bytes after front row rest why is part away =
      let more = rows_front schema bytes after (front ++ row ∷ rest) rows part (subst (λ (bs : List ℕ). AreRowsGiven schema bs rows) is given) in
      taken_never begun rows front row (rest ++ more.0) why took (more.1 ∙ append_assoc front (row ∷ rest) more.0) away

  same_of : (ending other : Ending) → Says schema begun truncated file ending → Says schema begun truncated file other → ending ≡ other
  same_of ending other (all_taken rows given took ends) (all_taken rows' given' took' ends') = ends_same rows rows' ending other ends ends'
  same_of ending other (all_taken rows given took ends) (one_away bytes after front row rest why is part took' away same) =
      absurd (all_never rows given took bytes after front row rest why is part away)
  same_of ending other (one_away bytes after front row rest why is part took' away same) (all_taken rows given took ends) =
      absurd (all_never rows given took bytes after front row rest why is part away)
  same_of ending other (one_away bytes after front row rest why is part took away same) (one_away bytes' after' front' row' rest' why' is' part' took' away' same') =
      same ∙ (ap (λ (w : Refusal). Refused w) one ∙ sym same')
    where
      one : why ≡ why'
      one = elim (comparable bytes bytes' after after' (sym is ∙ is')) [
        | inl more ↦
            let grown = rows_front schema bytes more.0 (front ++ row ∷ rest) (front' ++ row' ∷ rest') part
            (subst (λ (bs : List ℕ). AreRowsGiven schema bs (front' ++ row' ∷ rest')) more.1 part') in
            one_why begun front row (rest ++ grown.0) front' row' rest' why why' took took'
            (sym (append_assoc front (row ∷ rest) grown.0) ∙ sym grown.1) away away'
        | inr more ↦
            let grown = rows_front schema bytes' more.0 (front' ++ row' ∷ rest') (front ++ row ∷ rest) part'
            (subst (λ (bs : List ℕ). AreRowsGiven schema bs (front ++ row ∷ rest)) more.1 part) in
            one_why begun front row rest front' row' (rest' ++ grown.0) why why' took took'
            (grown.1 ∙ append_assoc front' (row' ∷ rest') grown.0) away away'
      ]

pub one_ending : OneEndingIsDue
one_ending schema begun truncated file before now ending said text before' now' other said' text' opened opened' due due' sound sound' =
    same_of schema begun truncated file ending other (says schema begun truncated file before now ending said text opened due sound)
    (says schema begun truncated file before' now' other said' text' opened' due' sound')
