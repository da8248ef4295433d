-- What holds of each file, by the units of the format that its kind is judged by.
use Rattle.std.proofs.Common.{◌≡◌, ◌⊎◌, inl, inr, ℕ, ◌≤◌, Bool, true, false, List, length, Option, Some, None, Ok, Err, refl, sym, ap, subst, ◌∙◌}
use Rattle.cf_pcap.specs.Limits.{number_of}
use Rattle.cf_pcap.specs.Format.{Format, IsCut, IsWhole, IsFound, HasFault}
use Rattle.cf_pcap.specs.Stages.{IsAt}
use Rattle.cf_pcap.specs.Streams.{IsStepper, AreGiven, Runs, IsEnded}
use Rattle.cf_pcap.specs.declared.stage.Stage.{Stage}
use Rattle.cf_pcap.specs.declared.stage.Stage.TheVariants.{Running, Stopped}
use Rattle.cf_pcap.proofs.Cases.{cut_of, none_found, one_whole}
use Rattle.cf_pcap.proofs.Cases as cases
use Rattle.cf_pcap.proofs.FormatEnding.{whole_gives}
use Rattle.cf_pcap.proofs.Given.{one_given}
use Rattle.cf_pcap.proofs.FormatUnits.{one_read, wants_none}
use Rattle.cf_pcap.specs.Capture.{FrameValue}
use Rattle.cf_pcap.specs.Kinds.{Kind, OneCase, JudgedAlike, IsTruncated, IsCutAt, Says, Breaks, TruncatedCase}
use Rattle.cf_pcap.proofs.Wholes.{EndsIn, MayEnd, whole_front, ends_in, same_front, ends_give, ends_unfound, cut_begun, cut_count, ends_begun, ends_count}

-- the units of this format judge a kind
pub record IsJudgedBy {S F : Type 0} (kind : Kind F) (f : Format S FrameValue F) : Type 0 where
  pub stepper : IsStepper f
  pub may_end : MayEnd f
  pub alike : (file : List ℕ) → JudgedAlike kind f file
  pub longest : f.length ≡ kind.longest
  pub cut : (s : S) → f.cut s ≡ kind.cut (f.count s)
  pub one_cut : (a b : ℕ) → kind.cut a ≡ kind.cut b → a ≡ b
  pub unfound : (file : List ℕ) (k : ℕ) → IsFound f file (kind.cut k) → ⊥

-- Each file is in one case.

some_of : {S F : Type 0} (kind : Kind F) (f : Format S FrameValue F) (file : List ℕ) → JudgedAlike kind f file
    → ((frames : List FrameValue) × IsWhole f file frames) ⊎ ((fault : F) × HasFault f file fault)
    → ((frames : List FrameValue) × kind.Is file frames) ⊎ ((fault : F) × kind.Has file fault)
some_of kind f file by (inl h) = inl (h.0, by.capture h.0 h.1)
some_of kind f file by (inr h) = inr (h.0, by.fault h.0 h.1)

pub one_case : {S F : Type 0} (kind : Kind F) (f : Format S FrameValue F) → IsStepper f → (file : List ℕ) → JudgedAlike kind f file → OneCase kind file
one_case kind f is file by =
    let one = cases.one_case f is file in record {
      some = some_of kind f file by one.some;
      either = λ frames fault p q. one.either frames fault (by.is_capture frames p) (by.is_fault fault q);
      one_capture = λ a b p q. one.one_whole a b (by.is_capture a p) (by.is_capture b q);
      one_fault = λ a b p q. one.one_fault a b (by.is_fault a p) (by.is_fault b q);
    }

one : {S F : Type 0} (kind : Kind F) (f : Format S FrameValue F) → IsJudgedBy kind f → (file : List ℕ) → OneCase kind file
one kind f by file = one_case kind f by.stepper file (by.alike file)

-- A file that is truncated ends within a unit.

cut_ends : {S F : Type 0} (kind : Kind F) (f : Format S FrameValue F) (by : IsJudgedBy kind f) (file : List ℕ) (frames : List FrameValue)
    (t : IsTruncated kind file frames) → HasFault f file (kind.cut (number_of kind.longest (length frames))) → EndsIn f file frames
cut_ends kind f by file frames t (inl found) = absurd (by.unfound file (number_of kind.longest (length frames)) found)
cut_ends kind f by file frames t (inr c) =
    let is : IsWhole f t.whole frames = (by.alike t.whole).is_capture frames t.front.is in
    let e : EndsIn f file c.2.items = ends_in f by.may_end by.stepper file c.0 c.2 t.whole t.front.rest frames t.front.file_is is in
    let w = whole_front f by.stepper file c.2.items e in
    let less : length w.whole ≤ length t.whole = t.front.longest w.whole w.rest c.2.items w.file_is ((by.alike w.whole).capture c.2.items w.is) in
    let more : length t.whole ≤ length w.whole = w.longest t.whole t.front.rest frames t.front.file_is is in
    let same : w.whole ≡ t.whole = same_front file w.whole w.rest t.whole t.front.rest w.file_is t.front.file_is less more in
    let items : c.2.items ≡ frames =
    one_whole f by.stepper t.whole c.2.items frames (subst (λ (xs : List ℕ). IsWhole f xs c.2.items) same w.is) is in
    subst (λ (fs : List FrameValue). EndsIn f file fs) items e

pub ends_of : {S F : Type 0} (kind : Kind F) (f : Format S FrameValue F) (by : IsJudgedBy kind f) (file : List ℕ) (frames : List FrameValue)
    → IsTruncated kind file frames → EndsIn f file frames
ends_of kind f by file frames t =
    cut_ends kind f by file frames t ((by.alike file).is_fault (kind.cut (number_of kind.longest (length frames))) t.fault)

truncated_of : {S F : Type 0} (kind : Kind F) (f : Format S FrameValue F) (by : IsJudgedBy kind f) (file : List ℕ) (frames : List FrameValue)
    → EndsIn f file frames → IsTruncated kind file frames
truncated_of kind f by file frames e =
    let w = whole_front f by.stepper file frames e in
    let count : f.count e.last ≡ number_of kind.longest (length frames) =
    ends_count f by.stepper file frames e ∙ ap (λ l. number_of l (length frames)) by.longest in record {
      fault =
          (by.alike file).fault (kind.cut (number_of kind.longest (length frames)))
          (inr (
            e.last,
            ap kind.cut (sym count) ∙ sym (by.cut e.last),
            cut_of f file frames e.last e.rest e.size e.read e.part (inl e.left),
          ));
      whole = w.whole;
      front = record {
        rest = w.rest;
        file_is = w.file_is;
        is = (by.alike w.whole).capture frames w.is;
        longest = λ longer more others also is. w.longest longer more others also ((by.alike longer).is_capture others is);
      };
    }

given_so : {S F : Type 0} (kind : Kind F) (f : Format S FrameValue F) (by : IsJudgedBy kind f) (file : List ℕ) (frames : List FrameValue)
    → IsTruncated kind file frames → AreGiven f file frames
given_so kind f by file frames t = ends_give f file frames (ends_of kind f by file frames t)

-- one that is cut where it may end after some units is truncated
header_so : {S F : Type 0} (kind : Kind F) (f : Format S FrameValue F) (by : IsJudgedBy kind f) (file : List ℕ) (k : ℕ)
    → ((last : S) → IsCut f file last → f.may_end last ≡ true) → HasFault f file (kind.cut k)
    → (frames : List FrameValue) × IsTruncated kind file frames × (k ≡ number_of kind.longest (length frames))
header_so kind f by file k begun (inl found) = absurd (by.unfound file k found)
header_so kind f by file k begun (inr c) =
    let e = cut_begun f file c.0 c.2 (begun c.0 c.2) in (
      c.2.items,
      truncated_of kind f by file c.2.items e,
      by.one_cut k (f.count c.0) (c.1 ∙ by.cut c.0) ∙ cut_count f by.stepper file c.0 c.2 ∙ ap (λ l. number_of l (length c.2.items)) by.longest,
    )

cut_case : {S F : Type 0} (kind : Kind F) (f : Format S FrameValue F) (by : IsJudgedBy kind f) (file : List ℕ) (fault : F) (last : S)
    (cut : IsCut f file last) → kind.Has file fault → (b : Bool) → f.may_end last ≡ b
    → ((frames : List FrameValue) × (cut : Option ℕ) × Says kind true file frames cut) ⊎ ((fault : F) × Breaks kind true file fault)
cut_case kind f by file fault last cut h true begun =
    inl (
      cut.items,
      Some (number_of kind.longest (length cut.items)),
      (truncated_of kind f by file cut.items (cut_begun f file last cut begun), refl),
    )
cut_case kind f by file fault last cut h false unbegun =
    inr (
      fault,
      (
        h,
        λ frames k t. ends_begun f file frames last cut.rest (ends_of kind f by file frames t.0)
            (record { size = cut.size; items = cut.items; read = cut.read; part = cut.part }) unbegun,
      ),
    )

fault_case : {S F : Type 0} (kind : Kind F) (f : Format S FrameValue F) (by : IsJudgedBy kind f) (file : List ℕ) (fault : F) → kind.Has file fault
    → HasFault f file fault
    → ((frames : List FrameValue) × (cut : Option ℕ) × Says kind true file frames cut) ⊎ ((fault : F) × Breaks kind true file fault)
fault_case kind f by file fault h (inl found) =
    inr (fault, (h, λ frames k t. ends_unfound f file frames fault (ends_of kind f by file frames t.0) found))
fault_case kind f by file fault h (inr c) = cut_case kind f by file fault c.0 c.2 h (f.may_end c.0) refl

some_case : {S F : Type 0} (kind : Kind F) (f : Format S FrameValue F) (by : IsJudgedBy kind f) (file : List ℕ)
    → ((frames : List FrameValue) × kind.Is file frames) ⊎ ((fault : F) × kind.Has file fault)
    → ((frames : List FrameValue) × (cut : Option ℕ) × Says kind true file frames cut) ⊎ ((fault : F) × Breaks kind true file fault)
some_case kind f by file (inl h) = inl (h.0, None, h.1)
some_case kind f by file (inr h) = fault_case kind f by file h.0 h.1 ((by.alike file).is_fault h.0 h.1)

either : {S F : Type 0} (kind : Kind F) (f : Format S FrameValue F) (by : IsJudgedBy kind f) (file : List ℕ) (frames : List FrameValue) (cut : Option ℕ)
    (fault : F) → Says kind true file frames cut → Breaks kind true file fault → ⊥
either kind f by file frames None fault says breaks = (one kind f by file).either frames fault says breaks.0
either kind f by file frames (Some k) fault says breaks = breaks.1 frames k says

not_whole : {S F : Type 0} (kind : Kind F) (f : Format S FrameValue F) (by : IsJudgedBy kind f) (file : List ℕ) (whole frames : List FrameValue)
    → kind.Is file whole → IsTruncated kind file frames → ⊥
not_whole kind f by file whole frames is t = (one kind f by file).either whole (kind.cut (number_of kind.longest (length frames))) is t.fault

one_frames : {S F : Type 0} (kind : Kind F) (f : Format S FrameValue F) (by : IsJudgedBy kind f) (file : List ℕ) (a b : List FrameValue)
    (cut other : Option ℕ) → Says kind true file a cut → Says kind true file b other → a ≡ b
one_frames kind f by file a b None None p q = (one kind f by file).one_capture a b p q
one_frames kind f by file a b None (Some j) p q = absurd (not_whole kind f by file a b p q.0)
one_frames kind f by file a b (Some k) None p q = absurd (not_whole kind f by file b a q p.0)
one_frames kind f by file a b (Some k) (Some j) p q = one_given f file a b (given_so kind f by file a p.0) (given_so kind f by file b q.0)

one_cut : {S F : Type 0} (kind : Kind F) (f : Format S FrameValue F) (by : IsJudgedBy kind f) (file : List ℕ) (a b : List FrameValue)
    (cut other : Option ℕ) → Says kind true file a cut → Says kind true file b other → cut ≡ other
one_cut kind f by file a b None None p q = refl
one_cut kind f by file a b None (Some j) p q = absurd (not_whole kind f by file a b p q.0)
one_cut kind f by file a b (Some k) None p q = absurd (not_whole kind f by file b a q p.0)
one_cut kind f by file a b (Some k) (Some j) p q =
    ap (λ (n : ℕ). Some n)
    (p.1 ∙ ap (λ (fs : List FrameValue). number_of kind.longest (length fs)) (one_frames kind f by file a b (Some k) (Some j) p q) ∙ sym q.1)

pub truncated_case : {S F : Type 0} (kind : Kind F) (f : Format S FrameValue F) (by : IsJudgedBy kind f) (HasBegun : List ℕ → Type 0) (file : List ℕ)
    → (HasBegun file → (last : S) → IsCut f file last → f.may_end last ≡ true)
    → ((frames : List FrameValue) → IsTruncated kind file frames → HasBegun file) → TruncatedCase kind f HasBegun file
truncated_case kind f by HasBegun file begun whole = record {
  header = λ k h has. header_so kind f by file k (begun has) ((by.alike file).is_fault (kind.cut k) h);
  whole = whole;
  given = given_so kind f by file;
  some = some_case kind f by file (one kind f by file).some;
  either = either kind f by file;
  one_frames = one_frames kind f by file;
  one_cut = one_cut kind f by file;
  one_fault = λ a b p q. (one kind f by file).one_fault a b p.0 q.0;
}

-- What a reader answers at the end, which is at a stage after a stream, and has read some units of it while it runs.

-- a stream that ends well is a capture of the frames that it gives
pub end_whole : {S F : Type 0} (kind : Kind F) (f : Format S FrameValue F) (by : IsJudgedBy kind f) (truncated : Bool) (stream : List ℕ)
    (frames : List FrameValue) (count : ℕ) → IsEnded f stream (Ok count) → AreGiven f stream frames → Says kind truncated stream frames None
end_whole kind f by truncated stream frames count ended given =
    let same : ended.0 ≡ frames = one_given f stream ended.0 frames (whole_gives f by.stepper stream ended.0 ended.1) given in
    subst (λ (fs : List FrameValue). kind.Is stream fs) same ((by.alike stream).capture ended.0 ended.1)

cut_runs : {S F : Type 0} (f : Format S FrameValue F) (stream : List ℕ) (stage : Stage F) (R : Type 0) (s : S)
    → (R → (rest : List ℕ) × Runs f s rest stream) → IsAt f stream stage R → f.may_end s ≡ true → (last : S) → IsCut f stream last → f.may_end last ≡ true
cut_runs f stream Running R s runs at begun last cut =
    let run = runs at in
    let same = one_read f f.start stream cut.items run.1.items last cut.rest s run.0 cut.read run.1.read (wants_none f last cut.rest cut.part)
    (wants_none f s run.0 run.1.part) in
    ap f.may_end same.state ∙ begun
cut_runs f stream (Stopped fault) R s runs at begun last cut = absurd (none_found f stream cut.items last cut.rest cut.size cut.read cut.part fault at)

-- one that ends within a unit, and not within its first, is truncated there
pub end_within : {S F : Type 0} (kind : Kind F) (f : Format S FrameValue F) (by : IsJudgedBy kind f) (stream : List ℕ) (frames : List FrameValue)
    (count : ℕ) (stage : Stage F) (R : Type 0) (s : S) → (R → (rest : List ℕ) × Runs f s rest stream) → IsAt f stream stage R → f.may_end s ≡ true
    → IsEnded f stream (Err (kind.cut count)) → AreGiven f stream frames → Says kind true stream frames (Some count)
end_within kind f by stream frames count stage R s runs at begun ended given =
    let found = header_so kind f by stream count (cut_runs f stream stage R s runs at begun) ended in
    let same : found.0 ≡ frames = one_given f stream found.0 frames (given_so kind f by stream found.0 found.1) given in
    subst (λ (fs : List FrameValue). IsCutAt kind true stream fs count) same (found.1, found.2)

ends_begun_at : {S F : Type 0} (f : Format S FrameValue F) (stream : List ℕ) (frames : List FrameValue) (stage : Stage F) (R : Type 0) (s : S)
    → (R → (rest : List ℕ) × Runs f s rest stream) → IsAt f stream stage R → EndsIn f stream frames → f.may_end s ≡ false → ⊥
ends_begun_at f stream frames Running R s runs at e unbegun = let run = runs at in ends_begun f stream frames s run.0 e run.1 unbegun
ends_begun_at f stream frames (Stopped fault) R s runs at e unbegun = ends_unfound f stream frames fault e at

uncut : {S F : Type 0} (kind : Kind F) (f : Format S FrameValue F) (by : IsJudgedBy kind f) (truncated : Bool) (stream : List ℕ) (fault : F)
    (stage : Stage F) (R : Type 0) (s : S) → (R → (rest : List ℕ) × Runs f s rest stream) → IsAt f stream stage R
    → ((k : ℕ) → fault ≡ kind.cut k → truncated ≡ true → f.may_end s ≡ false) → kind.Has stream fault
    → (frames : List FrameValue) (k : ℕ) → IsCutAt kind truncated stream frames k → ⊥
uncut kind f by false stream fault stage R s runs at unbegun has frames k is = is
uncut kind f by true stream fault stage R s runs at unbegun has frames k is =
    let n = number_of kind.longest (length frames) in
    ends_begun_at f stream frames stage R s runs at (ends_of kind f by stream frames is.0)
    (unbegun n ((one kind f by stream).one_fault fault (kind.cut n) has is.0.fault) refl)

-- one of another fault is not, nor one that ends within its first unit
pub end_broken : {S F : Type 0} (kind : Kind F) (f : Format S FrameValue F) (by : IsJudgedBy kind f) (truncated : Bool) (stream : List ℕ) (fault : F)
    (stage : Stage F) (R : Type 0) (s : S) → (R → (rest : List ℕ) × Runs f s rest stream) → IsAt f stream stage R
    → ((k : ℕ) → fault ≡ kind.cut k → truncated ≡ true → f.may_end s ≡ false) → IsEnded f stream (Err fault) → Breaks kind truncated stream fault
end_broken kind f by truncated stream fault stage R s runs at unbegun ended =
    let has : kind.Has stream fault = (by.alike stream).fault fault ended in
    (has, uncut kind f by truncated stream fault stage R s runs at unbegun has)
