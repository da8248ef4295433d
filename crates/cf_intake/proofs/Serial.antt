-- Captures that are read one after another.
use Rattle.std.proofs.Common.{◌≡◌, ℕ, zero, suc, ◌+◌, ◌<◌, ◌≤◌, Bool, List, [], ◌∷◌, ◌++◌, length, take, drop, get_or, Option, Some, None, Ok, Err, min, ◌-◌, ◌^◌, Vec, Global, refl, sym, ap, subst, ◌∙◌, inl, inr, arith, length-append, append-nil}
use Rattle.std.proofs.lemmas.List.{append_assoc, length-map, map-append}
use Rattle.std.specs.Borrow.{Bor}
use Rattle.std.specs.List.{slice_get}
use Rattle.std.specs.Io.KnownBytes.{Consumes, IsAtEnd}
use Rattle.cf_pcap.specs.Limits.{num_of}
use Rattle.cf_pcap.specs.declared.limit.Length.TheVariants.{Any}
use Rattle.cf_outside.specs.Files.{File, Opens}
use Rattle.cf_outside.specs.declared.shelf.OpenFault.{OpenFault}
use Rattle.cf_outside.specs.declared.shelf.OpenFault.TheVariants as open_faults
use Rattle.cf_row.specs.Row.{RowValue}
use Rattle.cf_row.specs.declared.packet6.PacketSchema.{PacketSchema}
use Rattle.cf_intake.specs.Files.{HasFile, HasLeft}
use Rattle.cf_intake.specs.Rows.{ArePacketsTo, CaptureValue}
use Rattle.cf_intake.specs.Several.{names_in}
use Rattle.cf_intake.specs.Faults.{HasPacketFaultTo}
use Rattle.cf_intake.specs.Parts.{IsBad}
use Rattle.cf_intake.specs.Reads.{AreRowsGiven, HasNext, HasNextFrom, HaveRead, most_moved, view_by}
use Rattle.cf_intake.specs.Series.{AllSayPackets, AreEndToEnd, BreaksPackets, HasCome, IsAtCapture, IsInCapture, IsSeriesAt, IsUnopened, SaysPackets, SeriesComesTo, SeriesGoesOn, cuts_of_all, most_in_series, reading, rows_of_all}
use Rattle.cf_intake.specs.Series.SeriesEnd.{whole, refused}
use Rattle.cf_intake.specs.Refusals.{unopened, unread}
use Rattle.cf_intake.specs.declared.reads.Reads.{Reads}
use Rattle.cf_intake.specs.declared.refusal.Halt.{Halt}
use Rattle.cf_intake.specs.declared.refusal.Halt.TheVariants.{Refused, Stopped}
use Rattle.cf_intake.specs.declared.refusal.Stop.TheVariants as stops
use Rattle.cf_intake.specs.declared.refusal.Refusal.{Refusal}
use Rattle.cf_intake.specs.declared.series.Series.{Series}
use Rattle.cf_intake.proofs.Numbering.{numbered_alike, numbered_length}
use Rattle.cf_intake.proofs.SingleReads.{rows_given}

-- Lists by place.

pub take_next : {A : Type 0} (xs : List A) (i : ℕ) (x : A) → slice_get xs i ≡ Some x → take (i + 1) xs ≡ take i xs ++ x ∷ []
take_next {A} [] i x is = absurd (cc is)
take_next {A} (y ∷ xs) zero x is = let same : y ≡ x = cc is in ap (λ (z : A). z ∷ []) same
take_next {A} (y ∷ xs) (suc i) x is =
    let next : suc i + 1 ≡ suc (i + 1) = omega arith in
    ap (λ (n : ℕ). take n (y ∷ xs)) next ∙ ap (λ (zs : List A). y ∷ zs) (take_next xs i x is)

split_next : {A : Type 0} (xs : List A) (i : ℕ) (x : A) → slice_get xs i ≡ Some x → xs ≡ take i xs ++ x ∷ drop (suc i) xs
split_next {A} [] i x is = absurd (cc is)
split_next {A} (y ∷ xs) zero x is = let same : y ≡ x = cc is in ap (λ (z : A). z ∷ xs) same
split_next {A} (y ∷ xs) (suc i) x is = ap (λ (zs : List A). y ∷ zs) (split_next xs i x is)

length_before : {A : Type 0} (xs : List A) (i : ℕ) (x : A) → slice_get xs i ≡ Some x → length (take i xs) ≡ i
length_before {A} [] i x is = absurd (cc is)
length_before {A} (y ∷ xs) zero x is = refl
length_before {A} (y ∷ xs) (suc i) x is = ap (λ (n : ℕ). suc n) (length_before xs i x is)

take_past : {A : Type 0} (xs : List A) (i : ℕ) → length xs ≤ i → take i xs ≡ xs
take_past {A} [] zero most = refl
take_past {A} [] (suc i) most = refl
take_past {A} (x ∷ xs) zero most = absurd (omega (arith, most))
take_past {A} (x ∷ xs) (suc i) most = ap (λ (zs : List A). x ∷ zs) (take_past xs i (omega (arith, most)))

-- the name at a place
pub name_at : (names : List (Bor (List ℕ))) (i : ℕ) (d : Bor (List ℕ)) → i < length names → slice_get (names_in names) i ≡ Some (get_or names i d).now
name_at [] i d lt = absurd (omega (arith, lt))
name_at (name ∷ names) zero d lt = refl
name_at (name ∷ names) (suc i) d lt = name_at names i d (omega (arith, lt))

-- What a shelf left.

left_on : (told : Option (List File)) (mid now left : Option (List ℕ)) → HasLeft told mid left → HasLeft told now mid → HasLeft told now left
left_on None mid now left p q = tt
left_on (Some files) mid now left p q = q ∙ p

-- A capture is opened, or is not.

pub opened_so : (told : Option (List File)) (name : List ℕ) (before now : Option (List ℕ)) → Opens told name before now (Ok tt) → HasCome told name [] now
opened_so None name before now opens = ([], tt, tt)
opened_so (Some files) name before now opens = (opens.0, opens.1, opens.2)

pub unopened_so : (told : Option (List File)) (name : List ℕ) (before now : Option (List ℕ)) (fault : OpenFault) → Opens told name before now (Err fault)
    → IsUnopened told name before now (unread (unopened fault))
unopened_so None name before now open_faults.Missing opens = (tt, tt, refl)
unopened_so None name before now open_faults.Failed opens = tt
unopened_so None name before now open_faults.Memory opens = tt
unopened_so (Some files) name before now open_faults.Missing opens = (opens.0, opens.1, refl)
unopened_so (Some files) name before now open_faults.Failed opens = tt
unopened_so (Some files) name before now open_faults.Memory opens = tt

-- One more capture says something.

pub one_said : (schema : PacketSchema) (truncated : Bool) (told : Option (List File)) (names : List (List ℕ)) (whats : List CaptureValue) (name : List ℕ)
    (what : CaptureValue) → AllSayPackets schema truncated told names whats → SaysPackets schema truncated told name what
    → AllSayPackets schema truncated told (names ++ name ∷ []) (whats ++ what ∷ [])
one_said schema truncated told [] [] name what said is = (is, tt)
one_said schema truncated told [] (w ∷ whats) name what said is = absurd said
one_said schema truncated told (n ∷ names) [] name what said is = absurd said
one_said schema truncated told (n ∷ names) (w ∷ whats) name what said is = (said.0, one_said schema truncated told names whats name what said.1 is)

rows_more : (whats : List CaptureValue) (what : CaptureValue) → rows_of_all (whats ++ what ∷ []) ≡ rows_of_all whats ++ what.rows
rows_more [] what = append-nil what.rows
rows_more (w ∷ whats) what = ap (λ (rs : List RowValue). w.rows ++ rs) (rows_more whats what) ∙ sym (append_assoc w.rows (rows_of_all whats) what.rows)

-- All say something.
all_said : (schema : PacketSchema) (truncated : Bool) (told : Option (List File)) (place : ℕ) (names : List (List ℕ)) (whats : List CaptureValue)
    → AllSayPackets schema truncated told names whats → AreEndToEnd schema truncated told place names (rows_of_all whats) (whole (cuts_of_all whats))
all_said schema truncated told place [] [] said = (refl, refl)
all_said schema truncated told place [] (w ∷ whats) said = absurd said
all_said schema truncated told place (n ∷ names) [] said = absurd said
all_said schema truncated told place (n ∷ names) (w ∷ whats) said =
    inr (inr (w, rows_of_all whats, whole (cuts_of_all whats), said.0, all_said schema truncated told (suc place) names whats said.1, refl, refl))

-- One is refused behind others.
refused_behind : (schema : PacketSchema) (truncated : Bool) (told : Option (List File)) (place at : ℕ) (front rest : List (List ℕ))
    (whats : List CaptureValue) (own : List RowValue) (q : ℕ) (why : Refusal) → AllSayPackets schema truncated told front whats
    → at ≡ place + length front → AreEndToEnd schema truncated told at rest own (refused q why)
    → AreEndToEnd schema truncated told place (front ++ rest) (rows_of_all whats ++ own) (refused q why)
refused_behind schema truncated told place at [] rest [] own q why said is ends =
    subst (λ (p : ℕ). AreEndToEnd schema truncated told p rest own (refused q why)) (omega (arith, is)) ends
refused_behind schema truncated told place at [] rest (w ∷ whats) own q why said is ends = absurd said
refused_behind schema truncated told place at (n ∷ front) rest [] own q why said is ends = absurd said
refused_behind schema truncated told place at (n ∷ front) rest (w ∷ whats) own q why said is ends =
    inr (inr (
      w,
      rows_of_all whats ++ own,
      refused q why,
      said.0,
      refused_behind schema truncated told (suc place) at front rest whats own q why said.1 (omega (arith, is)) ends,
      append_assoc w.rows (rows_of_all whats) own,
      refl,
    ))

-- Where the reading is.

pub none_of : {A : Type 0} (o : Option A) → ((x : A) → o ≡ Some x → ⊥) → o ≡ None
none_of {A} None never = refl
none_of {A} (Some x) never = absurd (never x refl)

in_capture : (schema : PacketSchema) (told : Option (List File)) (name : Option (List ℕ)) (now : Option (List ℕ)) (reads : Reads) (own : List RowValue)
    → IsAtCapture schema told name now (Some reads) own → (n : List ℕ) × (name ≡ Some n) × IsInCapture schema told n now reads own
in_capture schema told None now reads own at = absurd at
in_capture schema told (Some n) now reads own at = (n, refl, at)

-- what has come of a file that is at its end is all of it
come_whole : (told : Option (List File)) (name bytes : List ℕ) (now : Option (List ℕ)) → HasCome told name bytes now → HasLeft told now (Some [])
    → HasFile told name (Some bytes)
come_whole None name bytes now come end = tt
come_whole (Some files) name bytes now come end =
    let none : come.0 ≡ [] = cc (come.2, end) in
    come.1 ∙ ap (λ (xs : List ℕ). Some xs) (ap (λ (xs : List ℕ). bytes ++ xs) none ∙ append-nil bytes)

consumed : (before now : Option (List ℕ)) (left piece : List ℕ) → before ≡ Some left → Consumes before now piece
    → (rest : List ℕ) × (now ≡ Some rest) × (left ≡ piece ++ rest)
consumed None now left piece is takes = absurd (cc is)
consumed (Some xs) None left piece is takes = absurd takes
consumed (Some xs) (Some ys) left piece is takes = let same : xs ≡ left = cc is in (ys, refl, sym same ∙ takes)

-- a piece more has come
come_more : (told : Option (List File)) (name bytes : List ℕ) (before now : Option (List ℕ)) (piece : List ℕ) → HasCome told name bytes before
    → Consumes before now piece → HasCome told name (bytes ++ piece) now
come_more None name bytes before now piece come takes = ([], tt, tt)
come_more (Some files) name bytes before now piece come takes =
    let took = consumed before now come.0 piece come.2 takes in (
      took.0,
      come.1 ∙ ap (λ (xs : List ℕ). Some xs) (ap (λ (xs : List ℕ). bytes ++ xs) took.2 ∙ sym (append_assoc bytes piece took.0)),
      took.1,
    )

-- the end was found
ended_none : (before now : Option (List ℕ)) (left : List ℕ) → before ≡ Some left → Consumes before now [] → IsAtEnd now → (now ≡ Some []) × (left ≡ [])
ended_none None now left is takes end = absurd (cc is)
ended_none (Some xs) None left is takes end = absurd takes
ended_none (Some xs) (Some ys) left is takes end =
    let same : xs ≡ left = cc is in (ap (λ (zs : List ℕ). Some zs) end, sym same ∙ takes ∙ end)

come_still : (told : Option (List File)) (name bytes : List ℕ) (before now : Option (List ℕ)) → HasCome told name bytes before → Consumes before now []
    → IsAtEnd now → HasCome told name bytes now × HasLeft told now (Some [])
come_still None name bytes before now come takes end = (([], tt, tt), tt)
come_still (Some files) name bytes before now come takes end =
    let found = ended_none before now come.0 come.2 takes end in
    (([], come.1 ∙ ap (λ (xs : List ℕ). Some (bytes ++ xs)) found.1, found.0), found.0)

module _ (old : Series) (reads : Reads) (told : Option (List File)) (now : Option (List ℕ)) (rows : List RowValue)
    (at : IsSeriesAt (reading old reads) told now rows) where
  abbrev pub names : List (List ℕ)
  names = names_in old.names.now

  here : (n : List ℕ) × (slice_get names old.place ≡ Some n) × IsInCapture old.schema told n now reads at.own
  here = in_capture old.schema told (slice_get names old.place) now reads at.own at.at

  -- The capture is at its end, and says its records,
  pub closed_so : (cut : Option ℕ) (cuts : Vec (Option ℕ) Global) → old.place < length old.names.now
      → ((bytes : List ℕ) (own : List RowValue) → HaveRead reads bytes own → ArePacketsTo Any reads.schema old.truncated bytes own cut)
      → HasLeft told now (Some []) → cuts.items ≡ old.cuts.items ++ cut ∷ [] → (given : List RowValue) → given ≡ []
      → SeriesGoesOn (record old { place = old.place + 1; reads = None; cuts = cuts }) told now rows given
  closed_so cut cuts more says end grown given none =
      let in_it = here.2 in
      let what : CaptureValue = record { rows = at.own; cut = cut } in
      let said : SaysPackets old.schema old.truncated told here.0 what = record {
        bytes = in_it.bytes;
        file = come_whole told here.0 in_it.bytes now in_it.come end;
        says = subst (λ (s : PacketSchema). ArePacketsTo Any s old.truncated in_it.bytes at.own cut) in_it.kind (says in_it.bytes at.own in_it.have);
      } in record {
        more = [];
        at = record {
          whats = at.whats ++ what ∷ [];
          own = [];
          said = subst (λ (ns : List (List ℕ)). AllSayPackets old.schema old.truncated told ns (at.whats ++ what ∷ []))
              (sym (take_next names old.place here.0 here.1)) (one_said old.schema old.truncated told (take old.place names) at.whats here.0 what at.said said);
          within = omega (arith, more);
          at = (refl, end);
          rows_are = append-nil rows ∙ at.rows_are ∙ sym (append-nil (rows_of_all (at.whats ++ what ∷ [])) ∙ rows_more at.whats what);
          cuts_are = grown ∙ ap (λ (cs : List (Option ℕ)). cs ++ cut ∷ []) at.cuts_are
              ∙ sym (map-append (λ (w : CaptureValue). w.cut) at.whats (what ∷ []));
          count = at.count ∙ ap (λ (rs : List RowValue). min (length rs) (2 ^ 64 - 1)) (sym (append-nil rows));
        };
        given_are = none;
      }

  -- or has a fault.
  pub unclosed_so : (halt : Halt)
      → ((bytes : List ℕ) (own : List RowValue) → HaveRead reads bytes own → IsBad (HasPacketFaultTo Any reads.schema old.truncated bytes) halt)
      → HasLeft told now (Some []) → SeriesComesTo old told now rows (Err halt)
  unclosed_so (Stopped stop) bad end = tt
  unclosed_so (Refused why) bad end =
      let in_it = here.2 in
      let is_bad = bad in_it.bytes at.own in_it.have in
      let breaks : BreaksPackets old.schema old.truncated told here.0 at.own is_bad.0 is_bad.1 = record {
        bytes = in_it.bytes;
        file = come_whole told here.0 in_it.bytes now in_it.come end;
        given = subst (λ (s : PacketSchema). AreRowsGiven s in_it.bytes at.own) in_it.kind (rows_given reads in_it.bytes at.own in_it.have);
        breaks = subst (λ (s : PacketSchema). HasPacketFaultTo Any s old.truncated in_it.bytes is_bad.0 is_bad.1) in_it.kind is_bad.3;
      } in
      let count = length_before names old.place here.0 here.1 in
      let ends : AreEndToEnd old.schema old.truncated told (suc old.place) (here.0 ∷ drop (suc old.place) names) at.own (refused (suc old.place) why) =
      inr (inl (is_bad.0, is_bad.1, breaks, ap (λ (w : Refusal). refused (suc old.place) w) is_bad.2)) in
      let all = refused_behind old.schema old.truncated told 1 (suc old.place) (take old.place names) (here.0 ∷ drop (suc old.place) names) at.whats at.own
      (suc old.place) why at.said (omega (arith, count)) ends in (
        subst (λ (rs : List RowValue). AreEndToEnd old.schema old.truncated told 1 names rs (refused (suc old.place) why)) (sym at.rows_are)
            (subst (λ (ns : List (List ℕ)). AreEndToEnd old.schema old.truncated told 1 ns (rows_of_all at.whats ++ at.own) (refused (suc old.place) why))
            (sym (split_next names old.place here.0 here.1)) all),
        end,
      )

  -- A read brings records more,
  pub moved_so : (first count : ℕ) (after : Reads) (mid : Option (List ℕ)) (m n : Option (List ℕ)) (given : List RowValue)
      → num_of Any first ≡ num_of Any (min (length rows) (2 ^ 64 - 1)) → HasNextFrom first reads after (view_by now m) (view_by mid n) (Some given)
      → count ≡ min (old.count + length given) (2 ^ 64 - 1) → SeriesGoesOn (record old { reads = Some after; count = count }) told mid rows given
  moved_so first count after mid m n given same next counted =
      let in_it = here.2 in
      let more = next.0 in
      let moves = next.2 in
      let size = in_it.have.size in
      let moved = moves.moved size in
      let alike : num_of Any first ≡ num_of Any (length rows) = omega (arith, same) in
      let many : length given ≡ length more = ap (λ (rs : List RowValue). length rs) next.1 ∙ numbered_length first more in
      let before = at.count in
      let sum = length-append rows more in record {
        more = more;
        at = record {
          whats = at.whats;
          own = at.own ++ more;
          said = at.said;
          within = at.within;
          at = subst (λ (o : Option (List ℕ)). IsAtCapture old.schema told o mid (Some after) (at.own ++ more)) (sym here.1)
              (record {
                kind = moves.kind ∙ in_it.kind;
                size = moves.size ∙ in_it.size;
                bytes = in_it.bytes ++ moves.piece;
                have = moves.read in_it.bytes at.own in_it.have;
                come = come_more told here.0 in_it.bytes now mid moves.piece in_it.come moved.taken;
              });
          rows_are = ap (λ (rs : List RowValue). rs ++ more) at.rows_are ∙ append_assoc (rows_of_all at.whats) at.own more;
          cuts_are = at.cuts_are;
          count = omega (arith, counted, before, many, sum);
        };
        given_are = next.1 ∙ numbered_alike first (length rows) more alike;
      }

  -- or finds the end.
  pub ended_so : (after : Reads) (mid : Option (List ℕ)) (m n : Option (List ℕ)) → HasNext reads after (view_by now m) (view_by mid n) None
      → IsSeriesAt (reading old after) told mid rows × HasLeft told mid (Some [])
  ended_so after mid m n next =
      let in_it = here.2 in
      let found = next.0 in_it.bytes at.own in_it.have in
      let ended = found.1 in
      let still = come_still told here.0 in_it.bytes now mid in_it.come ended.taken ended.end in (
        record {
          whats = at.whats;
          own = at.own;
          said = at.said;
          within = at.within;
          at = subst (λ (o : Option (List ℕ)). IsAtCapture old.schema told o mid (Some after) at.own) (sym here.1)
              (record { kind = next.1 ∙ in_it.kind; size = next.2 ∙ in_it.size; bytes = in_it.bytes; have = found.0; come = still.0 });
          rows_are = at.rows_are;
          cuts_are = at.cuts_are;
          count = at.count;
        },
        still.1,
      )

  -- what was read of it
  pub reading_now : (bytes : List ℕ) × (own : List RowValue) × HaveRead reads bytes own
  reading_now = let in_it = here.2 in (in_it.bytes, at.own, in_it.have)

-- what is bad of the bytes is no failure of the shelf
pub unfailing : (Breaks : ℕ → ℕ → Type 0) (halt : Halt) → IsBad Breaks halt → halt ≡ Stopped stops.ReadFault → ⊥
unfailing Breaks halt bad is = let worse : IsBad Breaks (Stopped stops.ReadFault) = subst (λ (h : Halt). IsBad Breaks h) is bad in worse

-- Before a capture is opened, and behind all.
module _ (old : Series) (told : Option (List File)) (now : Option (List ℕ)) (rows : List RowValue) (none : old.reads ≡ None)
    (at : IsSeriesAt old told now rows) where
  abbrev pub all_names : List (List ℕ)
  all_names = names_in old.names.now

  between : (name : Option (List ℕ)) → IsAtCapture old.schema told name now old.reads at.own → (at.own ≡ []) × HasLeft told now (Some [])
  between name there = subst (λ (r : Option Reads). IsAtCapture old.schema told name now r at.own) none there

  own_none : (at.own ≡ []) × HasLeft told now (Some [])
  own_none = between (slice_get all_names old.place) at.at

  pub begun_so : (name : List ℕ) (reads : Reads) (mid : Option (List ℕ)) (given : List RowValue) → slice_get all_names old.place ≡ Some name
      → HasCome told name [] mid → HaveRead reads [] [] → reads.schema ≡ old.schema → most_moved reads ≡ most_in_series → given ≡ []
      → SeriesGoesOn (record old { reads = Some reads }) told mid rows given
  begun_so name reads mid given is come have kind size nothing = record {
    more = [];
    at = record {
      whats = at.whats;
      own = at.own;
      said = at.said;
      within = at.within;
      at = subst (λ (o : Option (List ℕ)). IsAtCapture old.schema told o mid (Some reads) at.own) (sym is)
          (record { kind = kind; size = size; bytes = []; have = subst (λ (rs : List RowValue). HaveRead reads [] rs) (sym own_none.0) have; come = come });
      rows_are = append-nil rows ∙ at.rows_are;
      cuts_are = at.cuts_are;
      count = at.count ∙ ap (λ (rs : List RowValue). min (length rs) (2 ^ 64 - 1)) (sym (append-nil rows));
    };
    given_are = nothing;
  }

  pub unbegun_so : (name : List ℕ) (mid : Option (List ℕ)) (halt : Halt) → slice_get all_names old.place ≡ Some name → IsUnopened told name now mid halt
      → SeriesComesTo old told mid rows (Err halt)
  unbegun_so name mid (Stopped stop) is unopened = tt
  unbegun_so name mid (Refused why) is unopened =
      let count = length_before all_names old.place name is in
      let ends : AreEndToEnd old.schema old.truncated told (suc old.place) (name ∷ drop (suc old.place) all_names) at.own (refused (suc old.place) why) =
      inl (unopened.0, own_none.0, ap (λ (w : Refusal). refused (suc old.place) w) unopened.2) in
      let all = refused_behind old.schema old.truncated told 1 (suc old.place) (take old.place all_names) (name ∷ drop (suc old.place) all_names) at.whats
      at.own (suc old.place) why at.said (omega (arith, count)) ends in (
        subst (λ (rs : List RowValue). AreEndToEnd old.schema old.truncated told 1 all_names rs (refused (suc old.place) why)) (sym at.rows_are)
            (subst (λ (ns : List (List ℕ)). AreEndToEnd old.schema old.truncated told 1 ns (rows_of_all at.whats ++ at.own) (refused (suc old.place) why))
            (sym (split_next all_names old.place name is)) all),
        left_on told now mid (Some []) own_none.1 unopened.1,
      )

  pub done_so : length old.names.now ≤ old.place
      → AreEndToEnd old.schema old.truncated told 1 all_names rows (whole old.cuts.items) × HasLeft told now (Some [])
  done_so past =
      let many : length all_names ≡ length old.names.now = length-map old.names.now (λ (name : Bor (List ℕ)). name.now) in
      let said : AllSayPackets old.schema old.truncated told all_names at.whats =
      subst (λ (ns : List (List ℕ)). AllSayPackets old.schema old.truncated told ns at.whats)
      (take_past all_names old.place (omega (arith, many, past))) at.said in
      let all = all_said old.schema old.truncated told 1 all_names at.whats said in
      let rows_are : rows ≡ rows_of_all at.whats =
      at.rows_are ∙ ap (λ (rs : List RowValue). rows_of_all at.whats ++ rs) own_none.0 ∙ append-nil (rows_of_all at.whats) in (
        subst (λ (rs : List RowValue). AreEndToEnd old.schema old.truncated told 1 all_names rs (whole old.cuts.items)) (sym rows_are)
            (subst (λ (cs : List (Option ℕ)). AreEndToEnd old.schema old.truncated told 1 all_names (rows_of_all at.whats) (whole cs)) (sym at.cuts_are) all),
        own_none.1,
      )
