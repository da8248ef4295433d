-- The records that came of captures, one after another, are the first of all their records.
use Rattle.std.proofs.Common.{◌≡◌, ◌⊎◌, ◌∙◌, ℕ, zero, suc, ◌+◌, ◌≤◌, Bool, List, [], ◌∷◌, ◌++◌, length, take, drop, Option, Some, None, refl, sym, ap, subst, inl, inr, arith, append-nil, append_assoc}
use Rattle.std.specs.List.{slice_get}
use Rattle.std.specs.Borrow.{Bor}
use Rattle.std.proofs.lemmas.List.{length-map, length-take-le, take-append-drop}
use Rattle.cf_outside.specs.Files.{File}
use Rattle.cf_row.specs.declared.packet6.PacketSchema.{PacketSchema}
use Rattle.cf_pcap.specs.declared.limit.Length.TheVariants.{Any}
use Rattle.cf_row.specs.Row.{RowValue}
use Rattle.cf_intake.specs.Faults.{HasPacketFaultTo}
use Rattle.cf_intake.specs.Files.{HasFile, HasLeft}
use Rattle.cf_intake.specs.Reads.{AreRowsGiven}
use Rattle.cf_intake.specs.Rows.{ArePacketsTo, CaptureValue}
use Rattle.cf_intake.specs.Series.{AllSayPackets, AreEndToEnd, BreaksPackets, IsAtCapture, IsInCapture, IsSeriesAt, SaysPackets, SeriesEnd, behind, rows_of_all}
use Rattle.cf_intake.specs.Series.SeriesEnd.{whole, refused}
use Rattle.cf_intake.specs.Several.{names_in}
use Rattle.cf_intake.specs.declared.reads.Reads.{Reads}
use Rattle.cf_intake.specs.declared.refusal.Refusal.TheVariants as refusals
use Rattle.cf_intake.specs.declared.series.Series.{Series}
use Rattle.cf_intake.proofs.OneSeries.{one_series}
use Rattle.cf_intake.proofs.SingleReads.{rows_given}
use Rattle.cf_follow.proofs.Fronts.{rows_front, rows_whole}
use Rattle.cf_long.specs.Ahead.{HaveEnded}
use Rattle.cf_long.specs.Ends.{HaveCome}
use Rattle.cf_long.specs.Ends.HaveCome.{midway, ended}
use Rattle.cf_run.specs.Lengths.{IsLeftOf}

-- Bytes are a capture or have a fault, and give records before that.
abbrev Ending : PacketSchema → Bool → List ℕ → Type 0
Ending schema truncated bytes =
    ((what : CaptureValue) × ArePacketsTo Any schema truncated bytes what.rows what.cut)
    ⊎ ((rows : List RowValue) × (at : ℕ) × (code : ℕ) × AreRowsGiven schema bytes rows × HasPacketFaultTo Any schema truncated bytes at code)

some_bytes : (a b : List ℕ) → Some a ≡ Some b → a ≡ b
some_bytes a b is = cc is

-- by a shelf that has them in its one file
ends_so : (schema : PacketSchema) (truncated : Bool) (bytes : List ℕ) (rows : List RowValue) (end : SeriesEnd)
    → AreEndToEnd schema truncated (Some (record { name = []; bytes = bytes } ∷ [])) 1 ([] ∷ []) rows end → Ending schema truncated bytes
ends_so schema truncated bytes rows end (inl none) = absurd (let is : ◌≡◌ {A = Option (List ℕ)} (Some bytes) None = none.0 in cc is)
ends_so schema truncated bytes rows end (inr (inl bad)) =
    let b = bad.2 in
    let same : b.bytes ≡ bytes = sym (some_bytes bytes b.bytes b.file) in
    inr (
      rows,
      bad.0,
      bad.1,
      subst (λ (xs : List ℕ). AreRowsGiven schema xs rows) same b.given,
      subst (λ (xs : List ℕ). HasPacketFaultTo Any schema truncated xs bad.0 bad.1) same b.breaks,
    )
ends_so schema truncated bytes rows end (inr (inr all)) =
    let s = all.3 in
    let same : s.bytes ≡ bytes = sym (some_bytes bytes s.bytes s.file) in
    inl (all.0, subst (λ (xs : List ℕ). ArePacketsTo Any schema truncated xs all.0.rows all.0.cut) same s.says)

ending_of : (schema : PacketSchema) (truncated : Bool) (bytes : List ℕ) → Ending schema truncated bytes
ending_of schema truncated bytes =
    let some = (one_series schema truncated (record { name = []; bytes = bytes } ∷ []) ([] ∷ [])).some in
    ends_so schema truncated bytes some.0 some.1 some.2

file_of : (told : Option (List File)) (name : List ℕ) → HasFile told name None ⊎ ((bytes : List ℕ) × HasFile told name (Some bytes))
file_of None name = inl tt
file_of (Some files) name = named (Rattle.cf_outside.specs.Files.file_named files name) refl
  where
    named : (file : Option (List ℕ)) → Rattle.cf_outside.specs.Files.file_named files name ≡ file
        → HasFile (Some files) name None ⊎ ((bytes : List ℕ) × HasFile (Some files) name (Some bytes))
    named None is = inl is
    named (Some bytes) is = inr (bytes, is)

-- Captures have some records, end to end, and some end.
module _ (schema : PacketSchema) (truncated : Bool) (told : Option (List File)) where
  abbrev HasEnd : ℕ → List (List ℕ) → Type 0
  HasEnd place names = (rows : List RowValue) × (end : SeriesEnd) × AreEndToEnd schema truncated told place names rows end

  -- the one at hand, whose records begin with these, and those behind it
  abbrev HasEndBehind : ℕ → List (List ℕ) → List RowValue → Type 0
  HasEndBehind place names own = (more : List RowValue) × (end : SeriesEnd) × AreEndToEnd schema truncated told place names (own ++ more) end

  one_end : (place : ℕ) (name bytes : List ℕ) (names : List (List ℕ)) (own : List RowValue) → HasFile told name (Some bytes)
      → ((rows : List RowValue) → AreRowsGiven schema bytes rows → (more : List RowValue) × (rows ≡ own ++ more)) → Ending schema truncated bytes
      → HasEnd (suc place) names → HasEndBehind place (name ∷ names) own
  one_end place name bytes names own file first (inl says) rest =
      let what = says.0 in
      let more = first what.rows (rows_whole schema truncated bytes what.rows what.cut says.1) in (
        more.0 ++ rest.0,
        behind what.cut rest.1,
        inr (inr (
          what,
          rest.0,
          rest.1,
          record { bytes = bytes; file = file; says = says.1 },
          rest.2,
          sym (append_assoc own more.0 rest.0) ∙ ap (λ (rs : List RowValue). rs ++ rest.0) (sym more.1),
          refl,
        )),
      )
  one_end place name bytes names own file first (inr (rows, at, code, given, bad)) rest =
      let more = first rows given in (
        more.0,
        refused place (refusals.Capture at code),
        inr (inl (
          at,
          code,
          record { bytes = bytes; file = file; given = subst (λ (rs : List RowValue). AreRowsGiven schema bytes rs) more.1 given; breaks = bad },
          refl,
        )),
      )

  some_end : (place : ℕ) (names : List (List ℕ)) → HasEnd place names
  some_end place [] = ([], whole [], (refl, refl))
  some_end place (name ∷ names) = elim (file_of told name) [
    | inl none ↦ ([], refused place refusals.NoFile, inl (none, refl, refl))
    | inr file ↦ one_end place name file.0 names [] file.1 (λ rows given. (rows, refl)) (ending_of schema truncated file.0) (some_end (suc place) names)
  ]

  -- behind captures that say something
  all_behind : (place at : ℕ) (front rest : List (List ℕ)) (whats : List CaptureValue) (own : List RowValue) (end : SeriesEnd)
      → AllSayPackets schema truncated told front whats → at ≡ place + length front → AreEndToEnd schema truncated told at rest own end
      → (after : SeriesEnd) × AreEndToEnd schema truncated told place (front ++ rest) (rows_of_all whats ++ own) after
  all_behind place at [] rest [] own end said is ends =
      (end, subst (λ (p : ℕ). AreEndToEnd schema truncated told p rest own end) (omega (arith, is)) ends)
  all_behind place at [] rest (w ∷ whats) own end said is ends = absurd said
  all_behind place at (n ∷ front) rest [] own end said is ends = absurd said
  all_behind place at (n ∷ front) rest (w ∷ whats) own end said is ends =
      let more = all_behind (suc place) at front rest whats own end said.1 (omega (arith, is)) ends in (
        behind w.cut more.0,
        inr (inr (w, rows_of_all whats ++ own, more.0, said.0, more.1, append_assoc w.rows (rows_of_all whats) own, refl)),
      )

drop_next : {A : Type 0} (xs : List A) (i : ℕ) (x : A) → slice_get xs i ≡ Some x → drop i xs ≡ x ∷ drop (suc i) xs
drop_next {A} [] i x is = absurd (cc is)
drop_next {A} (y ∷ xs) zero x is = let same : y ≡ x = cc is in ap (λ (z : A). z ∷ xs) same
drop_next {A} (y ∷ xs) (suc i) x is = drop_next xs i x is

-- Where the reading is, others may follow.
module _ (series : Series) (told : Option (List File)) (now : Option (List ℕ)) where
  abbrev names : List (List ℕ)
  names = names_in series.names.now

  abbrev GoesOn : List RowValue → Type 0
  GoesOn own = HasEndBehind series.schema series.truncated told (suc series.place) (drop series.place names) own × IsLeftOf told names now

  in_capture : (name : List ℕ) (reads : Reads) (own : List RowValue) → slice_get names series.place ≡ Some name
      → IsInCapture series.schema told name now reads own → GoesOn own
  in_capture name reads own named is =
      let left = is.come.0 in
      let file = is.bytes ++ left in
      let given : AreRowsGiven series.schema is.bytes own =
      subst (λ (s : PacketSchema). AreRowsGiven s is.bytes own) is.kind (rows_given reads is.bytes own is.have) in (
        subst (λ (ns : List (List ℕ)). HasEndBehind series.schema series.truncated told (suc series.place) ns own) (sym (drop_next names series.place name named))
            (one_end series.schema series.truncated told (suc series.place) name file (drop (suc series.place) names) own is.come.1
            (λ rows more. rows_front series.schema is.bytes left own rows given more)
            (ending_of series.schema series.truncated file)
            (some_end series.schema series.truncated told (suc (suc series.place)) (drop (suc series.place) names))),
        inr (series.place, name, is.bytes, named, is.come),
      )

  at_capture : (name : Option (List ℕ)) (reads : Option Reads) (own : List RowValue) → slice_get names series.place ≡ name
      → IsAtCapture series.schema told name now reads own → GoesOn own
  at_capture name None own named at =
      let rest = some_end series.schema series.truncated told (suc series.place) (drop series.place names) in (
        (
          rest.0,
          rest.1,
          subst (λ (rs : List RowValue). AreEndToEnd series.schema series.truncated told (suc series.place) (drop series.place names) (rs ++ rest.0)
              rest.1) (sym at.0) rest.2,
        ),
        inl at.1,
      )
  at_capture None (Some reads) own named at = absurd at
  at_capture (Some name) (Some reads) own named at = in_capture name reads own named at

  module _ (rows : List RowValue) where
    abbrev IsFirst : Type 0
    IsFirst = (more : List RowValue) × (end : SeriesEnd) × AreEndToEnd series.schema series.truncated told 1 names (rows ++ more) end × IsLeftOf told names now

    midway_first : IsSeriesAt series told now rows → IsFirst
    midway_first at =
        let on = at_capture (slice_get names series.place) series.reads at.own refl at.at in
        let many : length names ≡ length series.names.now = length-map series.names.now (λ (name : Bor (List ℕ)). name.now) in
        let low = at.within in
        let size : length (take series.place names) ≡ series.place = length-take-le series.place names (omega (arith, many, low)) in
        let all = all_behind series.schema series.truncated told 1 (suc series.place) (take series.place names) (drop series.place names) at.whats
        (at.own ++ on.0.0) on.0.1 at.said (omega (arith, size)) on.0.2 in (
          on.0.0,
          all.0,
          subst (λ (ns : List (List ℕ)). AreEndToEnd series.schema series.truncated told 1 ns (rows ++ on.0.0) all.0) (take-append-drop series.place names)
              (subst (λ (rs : List RowValue). AreEndToEnd series.schema series.truncated told 1 (take series.place names ++ drop series.place names) rs all.0)
              (sym (append_assoc (rows_of_all at.whats) at.own on.0.0) ∙ ap (λ (rs : List RowValue). rs ++ on.0.0) (sym at.rows_are)) all.1),
          on.1,
        )

    pub come_first : HaveCome series told now rows → IsFirst
    come_first (midway at) = midway_first at
    come_first (ended end is) = (
      [],
      end,
      subst (λ (rs : List RowValue). AreEndToEnd series.schema series.truncated told 1 names rs end) (sym (append-nil rows)) is.0,
      inl is.1,
    )
