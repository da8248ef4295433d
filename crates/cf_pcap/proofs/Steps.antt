-- What the bytes at the front show.
use Rattle.std.proofs.Common.{◌≡◌, inl, inr, ℕ, ◌<◌, ◌≤◌, ◌+◌, ◌*◌, List, [], ◌∷◌, ◌++◌, length, Option, Some, None, refl, sym, ap, subst, ◌∙◌, arith}
use Rattle.std.proofs.lemmas.Bool.{cases_lt}
use Rattle.cf_row.proofs.Truths.{lt_true}
use Rattle.cf_pcap.specs.Limits.{count_on, num_of}
use Rattle.cf_pcap.proofs.Limits.{count_none}
use Rattle.cf_pcap.specs.Format.{Found, Wants, Bad, Takes}
use Rattle.cf_pcap.specs.Streams.{IsStepper}
use Rattle.cf_pcap.specs.declared.scope.Scope.{Scope}
use Rattle.cf_pcap.specs.declared.form.FileHeader.{FileHeader}
use Rattle.cf_pcap.specs.declared.fault.PcapFault.{PcapFault}
use Rattle.cf_pcap.specs.declared.fault.PcapFault.TheVariants.{FrameTooLong}
use Rattle.cf_pcap.specs.declared.head.HeaderShown.{HeaderShown}
use Rattle.cf_pcap.specs.declared.head.HeaderShown.TheVariants.{Short, Faulty, Stands}
use Rattle.cf_pcap.specs.Capture.{FrameValue, caplen_at, frame_at, IsFileHeader, HasRecord, HasLongRecord}
use Rattle.cf_pcap.specs.File.{State, head_of, head_found, found_at, step, pcap}
use Rattle.cf_pcap.specs.Reading.{state_of}
use Rattle.cf_pcap.proofs.Following.{caplen_first, record_first, long_first, frame_first}
use Rattle.cf_pcap.proofs.Heading.{HasHeaderFault, header_first, header_fault_first, one_header, no_header, one_header_fault, not_below, head_few, Header, Whole, False, Begun, header_of}

abbrev pub Shown : Type 0
Shown = Found State FrameValue PcapFault

wants_not_bad : (fault : PcapFault) → ◌≡◌ {A = Shown} Wants (Bad fault) → ⊥
wants_not_bad fault h = cc

wants_not_takes : (n : ℕ) (items : List FrameValue) (t : State) → ◌≡◌ {A = Shown} Wants (Takes n items t) → ⊥
wants_not_takes n items t h = cc

bad_not_takes : (fault : PcapFault) (n : ℕ) (items : List FrameValue) (t : State) → ◌≡◌ {A = Shown} (Bad fault) (Takes n items t) → ⊥
bad_not_takes fault n items t h = cc

pub bad_same : (a b : PcapFault) → ◌≡◌ {A = Shown} (Bad a) (Bad b) → a ≡ b
bad_same a b h = cc

taken_size : (n m : ℕ) (a b : List FrameValue) (t u : State) → ◌≡◌ {A = Shown} (Takes n a t) (Takes m b u) → m ≡ n
taken_size n m a b t u h = cc

taken_items : (n m : ℕ) (a b : List FrameValue) (t u : State) → ◌≡◌ {A = Shown} (Takes n a t) (Takes m b u) → b ≡ a
taken_items n m a b t u h = cc

taken_state : (n m : ℕ) (a b : List FrameValue) (t u : State) → ◌≡◌ {A = Shown} (Takes n a t) (Takes m b u) → u ≡ t
taken_state n m a b t u h = cc

pub step_at : (scope : Scope) (s : State) (bytes : List ℕ) → step scope s bytes ≡ found_at scope s.header s.count bytes
unfolding step
step_at scope s bytes = refl

-- Of a file header.

pub head_stands : (scope : Scope) (header : FileHeader) (bytes : List ℕ) → Header scope.links bytes → IsFileHeader scope.links header bytes
    → head_of scope.links bytes ≡ Stands header
head_stands scope header bytes (Whole other is it) h = is ∙ ap (λ (x : FileHeader). Stands x) (one_header scope.links other header bytes it h)
head_stands scope header bytes (False fault is it) h = absurd (no_header scope.links header bytes fault it h)
head_stands scope header bytes (Begun is short none) h = let size : 24 ≤ length bytes = h.size in absurd (omega (arith, short, size))

pub head_faulty : (scope : Scope) (fault : PcapFault) (bytes : List ℕ) → Header scope.links bytes → HasHeaderFault scope.links bytes fault
    → head_of scope.links bytes ≡ Faulty fault
head_faulty scope fault bytes (Whole header is it) h = absurd (no_header scope.links header bytes fault h it)
head_faulty scope fault bytes (False other is it) h = is ∙ ap (λ (x : PcapFault). Faulty x) (one_header_fault scope.links bytes other fault it h)
head_faulty scope fault bytes (Begun is short none) h = absurd (none fault h)

pub head_short : (scope : Scope) (bytes : List ℕ) → Header scope.links bytes → length bytes < 24
    → ((fault : PcapFault) → HasHeaderFault scope.links bytes fault → ⊥)
    → head_of scope.links bytes ≡ Short
head_short scope bytes (Whole header is it) short none = let size : 24 ≤ length bytes = it.size in absurd (omega (arith, short, size))
head_short scope bytes (False fault is it) short none = absurd (none fault it)
head_short scope bytes (Begun is less nothing) short none = is

pub found_header : (scope : Scope) (header : FileHeader) (k : ℕ) (bytes : List ℕ) → IsFileHeader scope.links header bytes
    → found_at scope None k bytes ≡ Takes 24 [] (state_of (Some header) k)
found_header scope header k bytes h = ap (λ (x : HeaderShown). head_found k x) (head_stands scope header bytes (header_of scope.links bytes) h)

pub found_fault : (scope : Scope) (fault : PcapFault) (k : ℕ) (bytes : List ℕ) → HasHeaderFault scope.links bytes fault
    → found_at scope None k bytes ≡ Bad fault
found_fault scope fault k bytes h = ap (λ (x : HeaderShown). head_found k x) (head_faulty scope fault bytes (header_of scope.links bytes) h)

pub found_begun : (scope : Scope) (k : ℕ) (bytes : List ℕ) → length bytes < 24 → ((fault : PcapFault) → HasHeaderFault scope.links bytes fault → ⊥)
    → found_at scope None k bytes ≡ Wants
found_begun scope k bytes short none = ap (λ (x : HeaderShown). head_found k x) (head_short scope bytes (header_of scope.links bytes) short none)

-- Of a record.

pub found_record : (scope : Scope) (header : FileHeader) (k : ℕ) (bytes : List ℕ) → HasRecord header bytes
    → found_at scope (Some header) k bytes ≡ Takes (16 + caplen_at header bytes) (frame_at header (num_of scope.length k) bytes ∷ [])
    (state_of (Some header) (count_on scope.length k 1))
found_record scope header k bytes h =
    let short : caplen_at header bytes ≤ 262144 = h.short in
    let whole : 16 + caplen_at header bytes ≤ length bytes = h.whole in
    rw (
      not_below (length bytes) 16 (omega (arith, whole)),
      not_below 262144 (caplen_at header bytes) short,
      not_below (length bytes) (16 + caplen_at header bytes) whole,
    ) refl

pub found_long : (scope : Scope) (header : FileHeader) (k : ℕ) (bytes : List ℕ) → HasLongRecord header bytes
    → found_at scope (Some header) k bytes ≡ Bad (FrameTooLong k)
found_long scope header k bytes h = rw (not_below (length bytes) 16 h.head, lt_true 262144 (caplen_at header bytes) h.long) refl

-- what stands where a record may
pub data Record (scope : Scope) (header : FileHeader) (bytes : List ℕ) : Type 0 where
  IsRecord : HasRecord header bytes → Record scope header bytes
  IsLong : HasLongRecord header bytes → Record scope header bytes
  IsPart : (HasRecord header bytes → ⊥) → (HasLongRecord header bytes → ⊥) → ((k : ℕ) → found_at scope (Some header) k bytes ≡ Wants)
      → Record scope header bytes

pub record_of : (scope : Scope) (header : FileHeader) (bytes : List ℕ) → Record scope header bytes
record_of scope header bytes = elim (cases_lt (length bytes) 16) [
  | inl few ↦ IsPart (λ h. let whole : 16 + caplen_at header bytes ≤ length bytes = h.whole in omega (arith, few, whole))
      (λ h. let head : 16 ≤ length bytes = h.head in omega (arith, few, head)) (λ k. rw (lt_true (length bytes) 16 few) refl)
  | inr head ↦ elim (cases_lt 262144 (caplen_at header bytes)) [
    | inl long ↦ IsLong (record { head = head; long = long })
    | inr small ↦ elim (cases_lt (length bytes) (16 + caplen_at header bytes)) [
      | inl part ↦ IsPart (λ h. let whole : 16 + caplen_at header bytes ≤ length bytes = h.whole in omega (arith, part, whole))
          (λ h. let long : 262144 < caplen_at header bytes = h.long in omega (arith, small, long))
          (λ k. rw (
            not_below (length bytes) 16 head,
            not_below 262144 (caplen_at header bytes) small,
            lt_true (length bytes) (16 + caplen_at header bytes) part,
          ) refl)
      | inr whole ↦ IsRecord (record { short = small; whole = whole })
    ]
  ]
]

pub found_part : (scope : Scope) (header : FileHeader) (k : ℕ) (bytes : List ℕ) → Record scope header bytes → (HasRecord header bytes → ⊥)
    → (HasLongRecord header bytes → ⊥) → found_at scope (Some header) k bytes ≡ Wants
found_part scope header k bytes (IsRecord h) part short = absurd (part h)
found_part scope header k bytes (IsLong h) part short = absurd (short h)
found_part scope header k bytes (IsPart never none is) part short = is k

-- What is shown, by what the step finds.

pub data Taken (scope : Scope) (header : Option FileHeader) (k : ℕ) (bytes : List ℕ) (n : ℕ) (items : List FrameValue) (t : State) : Type 0 where
  TakesHeader : (new : FileHeader) → header ≡ None → IsFileHeader scope.links new bytes → n ≡ 24 → items ≡ [] → t ≡ state_of (Some new) k
      → Taken scope header k bytes n items t
  TakesRecord : (old : FileHeader) → header ≡ Some old → HasRecord old bytes → n ≡ 16 + caplen_at old bytes → items ≡ frame_at old (num_of scope.length k) bytes ∷ []
      → t ≡ state_of (Some old) (count_on scope.length k 1) → Taken scope header k bytes n items t

header_taken : (scope : Scope) (k : ℕ) (bytes : List ℕ) (n : ℕ) (items : List FrameValue) (t : State) → Header scope.links bytes
    → found_at scope None k bytes ≡ Takes n items t → Taken scope None k bytes n items t
header_taken scope k bytes n items t (Whole new is it) h =
    let same : ◌≡◌ {A = Shown} (Takes 24 [] (state_of (Some new) k)) (Takes n items t) = sym (found_header scope new k bytes it) ∙ h in
    TakesHeader new refl it (taken_size 24 n [] items _ t same) (taken_items 24 n [] items _ t same) (taken_state 24 n [] items _ t same)
header_taken scope k bytes n items t (False fault is it) h = absurd (bad_not_takes fault n items t (sym (found_fault scope fault k bytes it) ∙ h))
header_taken scope k bytes n items t (Begun is short none) h = absurd (wants_not_takes n items t (sym (found_begun scope k bytes short none) ∙ h))

record_taken : (scope : Scope) (header : FileHeader) (k : ℕ) (bytes : List ℕ) (n : ℕ) (items : List FrameValue) (t : State) → Record scope header bytes
    → found_at scope (Some header) k bytes ≡ Takes n items t → Taken scope (Some header) k bytes n items t
record_taken scope header k bytes n items t (IsRecord it) h =
    let same : ◌≡◌ {A = Shown} (Takes (16 + caplen_at header bytes) (frame_at header (num_of scope.length k) bytes ∷ []) (state_of (Some header) (count_on scope.length k 1)))
    (Takes n items t) =
    sym (found_record scope header k bytes it) ∙ h in
    TakesRecord header refl it (taken_size _ n _ items _ t same) (taken_items _ n _ items _ t same) (taken_state _ n _ items _ t same)
record_taken scope header k bytes n items t (IsLong it) h = absurd (bad_not_takes (FrameTooLong k) n items t (sym (found_long scope header k bytes it) ∙ h))
record_taken scope header k bytes n items t (IsPart never none is) h = absurd (wants_not_takes n items t (sym (is k) ∙ h))

taken_at : (scope : Scope) (header : Option FileHeader) (k : ℕ) (bytes : List ℕ) (n : ℕ) (items : List FrameValue) (t : State)
    → found_at scope header k bytes ≡ Takes n items t → Taken scope header k bytes n items t
taken_at scope None k bytes n items t h = header_taken scope k bytes n items t (header_of scope.links bytes) h
taken_at scope (Some header) k bytes n items t h = record_taken scope header k bytes n items t (record_of scope header bytes) h

pub taken : (scope : Scope) (s : State) (bytes : List ℕ) (n : ℕ) (items : List FrameValue) (t : State) → step scope s bytes ≡ Takes n items t
    → Taken scope s.header s.count bytes n items t
taken scope s bytes n items t h = taken_at scope s.header s.count bytes n items t (sym (step_at scope s bytes) ∙ h)

pub data Broken (scope : Scope) (header : Option FileHeader) (k : ℕ) (bytes : List ℕ) (fault : PcapFault) : Type 0 where
  InHeader : header ≡ None → HasHeaderFault scope.links bytes fault → Broken scope header k bytes fault
  TooLong : (old : FileHeader) → header ≡ Some old → HasLongRecord old bytes → fault ≡ FrameTooLong k → Broken scope header k bytes fault

header_broken : (scope : Scope) (k : ℕ) (bytes : List ℕ) (fault : PcapFault) → Header scope.links bytes → found_at scope None k bytes ≡ Bad fault
    → Broken scope None k bytes fault
header_broken scope k bytes fault (Whole new is it) h = absurd (bad_not_takes fault 24 [] (state_of (Some new) k) (sym h ∙ found_header scope new k bytes it))
header_broken scope k bytes fault (False other is it) h =
    InHeader refl (subst (λ (f : PcapFault). HasHeaderFault scope.links bytes f) (bad_same other fault (sym (found_fault scope other k bytes it) ∙ h)) it)
header_broken scope k bytes fault (Begun is short none) h = absurd (wants_not_bad fault (sym (found_begun scope k bytes short none) ∙ h))

record_broken : (scope : Scope) (header : FileHeader) (k : ℕ) (bytes : List ℕ) (fault : PcapFault) → Record scope header bytes
    → found_at scope (Some header) k bytes ≡ Bad fault → Broken scope (Some header) k bytes fault
record_broken scope header k bytes fault (IsRecord it) h = absurd (bad_not_takes fault _ _ _ (sym h ∙ found_record scope header k bytes it))
record_broken scope header k bytes fault (IsLong it) h = TooLong header refl it (bad_same fault (FrameTooLong k) (sym h ∙ found_long scope header k bytes it))
record_broken scope header k bytes fault (IsPart never none is) h = absurd (wants_not_bad fault (sym (is k) ∙ h))

broken_at : (scope : Scope) (header : Option FileHeader) (k : ℕ) (bytes : List ℕ) (fault : PcapFault) → found_at scope header k bytes ≡ Bad fault
    → Broken scope header k bytes fault
broken_at scope None k bytes fault h = header_broken scope k bytes fault (header_of scope.links bytes) h
broken_at scope (Some header) k bytes fault h = record_broken scope header k bytes fault (record_of scope header bytes) h

pub broken : (scope : Scope) (s : State) (bytes : List ℕ) (fault : PcapFault) → step scope s bytes ≡ Bad fault → Broken scope s.header s.count bytes fault
broken scope s bytes fault h = broken_at scope s.header s.count bytes fault (sym (step_at scope s bytes) ∙ h)

pub data Part (scope : Scope) (header : Option FileHeader) (bytes : List ℕ) : Type 0 where
  OfHeader : header ≡ None → length bytes < 24 → ((fault : PcapFault) → HasHeaderFault scope.links bytes fault → ⊥) → Part scope header bytes
  OfRecord : (old : FileHeader) → header ≡ Some old → (HasRecord old bytes → ⊥) → (HasLongRecord old bytes → ⊥) → Part scope header bytes

header_part : (scope : Scope) (k : ℕ) (bytes : List ℕ) → Header scope.links bytes → found_at scope None k bytes ≡ Wants → Part scope None bytes
header_part scope k bytes (Whole new is it) h = absurd (wants_not_takes 24 [] (state_of (Some new) k) (sym h ∙ found_header scope new k bytes it))
header_part scope k bytes (False fault is it) h = absurd (wants_not_bad fault (sym h ∙ found_fault scope fault k bytes it))
header_part scope k bytes (Begun is short none) h = OfHeader refl short none

record_part : (scope : Scope) (header : FileHeader) (k : ℕ) (bytes : List ℕ) → Record scope header bytes → found_at scope (Some header) k bytes ≡ Wants
    → Part scope (Some header) bytes
record_part scope header k bytes (IsRecord it) h = absurd (wants_not_takes _ _ _ (sym h ∙ found_record scope header k bytes it))
record_part scope header k bytes (IsLong it) h = absurd (wants_not_bad (FrameTooLong k) (sym h ∙ found_long scope header k bytes it))
record_part scope header k bytes (IsPart never none is) h = OfRecord header refl never none

part_at : (scope : Scope) (header : Option FileHeader) (k : ℕ) (bytes : List ℕ) → found_at scope header k bytes ≡ Wants → Part scope header bytes
part_at scope None k bytes h = header_part scope k bytes (header_of scope.links bytes) h
part_at scope (Some header) k bytes h = record_part scope header k bytes (record_of scope header bytes) h

pub part_of : (scope : Scope) (s : State) (bytes : List ℕ) → step scope s bytes ≡ Wants → Part scope s.header bytes
part_of scope s bytes h = part_at scope s.header s.count bytes (sym (step_at scope s bytes) ∙ h)

-- The other way.

pub step_header : (scope : Scope) (s : State) (header : FileHeader) (bytes : List ℕ) → s.header ≡ None → IsFileHeader scope.links header bytes
    → step scope s bytes ≡ Takes 24 [] (state_of (Some header) s.count)
step_header scope s header bytes none h =
    step_at scope s bytes
    ∙ subst (λ (x : Option FileHeader). found_at scope x s.count bytes ≡ Takes 24 [] (state_of (Some header) s.count)) (sym none)
    (found_header scope header s.count bytes h)

pub step_fault : (scope : Scope) (s : State) (fault : PcapFault) (bytes : List ℕ) → s.header ≡ None → HasHeaderFault scope.links bytes fault
    → step scope s bytes ≡ Bad fault
step_fault scope s fault bytes none h = step_at scope s bytes
    ∙ subst (λ (x : Option FileHeader). found_at scope x s.count bytes ≡ Bad fault) (sym none) (found_fault scope fault s.count bytes h)

pub step_begun : (scope : Scope) (s : State) (bytes : List ℕ) → s.header ≡ None → length bytes < 24
    → ((fault : PcapFault) → HasHeaderFault scope.links bytes fault → ⊥) → step scope s bytes ≡ Wants
step_begun scope s bytes none short h = step_at scope s bytes
    ∙ subst (λ (x : Option FileHeader). found_at scope x s.count bytes ≡ Wants) (sym none) (found_begun scope s.count bytes short h)

pub step_record : (scope : Scope) (s : State) (header : FileHeader) (bytes : List ℕ) → s.header ≡ Some header → HasRecord header bytes
    → step scope s bytes ≡ Takes (16 + caplen_at header bytes) (frame_at header (num_of scope.length s.count) bytes ∷ []) (state_of (Some header) (count_on scope.length s.count 1))
step_record scope s header bytes some h =
    step_at scope s bytes
    ∙ subst (λ (x : Option FileHeader). found_at scope x s.count bytes ≡ Takes (16 + caplen_at header bytes) (frame_at header (num_of scope.length s.count) bytes ∷ [])
    (state_of (Some header) (count_on scope.length s.count 1))) (sym some) (found_record scope header s.count bytes h)

pub step_long : (scope : Scope) (s : State) (header : FileHeader) (bytes : List ℕ) → s.header ≡ Some header → HasLongRecord header bytes
    → step scope s bytes ≡ Bad (FrameTooLong s.count)
step_long scope s header bytes some h = step_at scope s bytes
    ∙ subst (λ (x : Option FileHeader). found_at scope x s.count bytes ≡ Bad (FrameTooLong s.count)) (sym some) (found_long scope header s.count bytes h)

pub step_part : (scope : Scope) (s : State) (header : FileHeader) (bytes : List ℕ) → s.header ≡ Some header → (HasRecord header bytes → ⊥)
    → (HasLongRecord header bytes → ⊥) → step scope s bytes ≡ Wants
step_part scope s header bytes some part short = step_at scope s bytes
    ∙ subst (λ (x : Option FileHeader). found_at scope x s.count bytes ≡ Wants) (sym some)
    (found_part scope header s.count bytes (record_of scope header bytes) part short)

-- What more bytes leave.

bad_stays : (scope : Scope) (s : State) (bytes more : List ℕ) (fault : PcapFault) → step scope s bytes ≡ Bad fault → step scope s (bytes ++ more) ≡ Bad fault
bad_stays scope s bytes more fault h = elim (broken scope s bytes fault h) [
  | InHeader none it ↦ step_fault scope s fault (bytes ++ more) none (header_fault_first scope.links bytes more fault it)
  | TooLong header some it is ↦ step_long scope s header (bytes ++ more) some (long_first header bytes more it) ∙ ap (λ (f : PcapFault). Bad f) (sym is)
]

same_taken : (n m : ℕ) (a b : List FrameValue) (t u : State) → n ≡ m → a ≡ b → t ≡ u → ◌≡◌ {A = Shown} (Takes n a t) (Takes m b u)
same_taken n m a b t u p q r = cc

takes_stays : (scope : Scope) (s : State) (bytes more : List ℕ) (n : ℕ) (items : List FrameValue) (t : State) → step scope s bytes ≡ Takes n items t
    → step scope s (bytes ++ more) ≡ Takes n items t
takes_stays scope s bytes more n items t h = elim (taken scope s bytes n items t h) [
  | TakesHeader new none it len given after ↦ step_header scope s new (bytes ++ more) none (header_first scope.links new bytes more it)
      ∙ same_taken 24 n [] items _ t (sym len) (sym given) (sym after)
  | TakesRecord old some it len given after ↦
      let whole : 16 + caplen_at old bytes ≤ length bytes = it.whole in
      let caplen : caplen_at old (bytes ++ more) ≡ caplen_at old bytes = caplen_first old bytes more (omega (arith, whole)) in
      let frame : frame_at old (num_of scope.length s.count) (bytes ++ more) ≡ frame_at old (num_of scope.length s.count) bytes = frame_first old (num_of scope.length s.count) bytes more whole in
      step_record scope s old (bytes ++ more) some (record_first old bytes more it)
      ∙ same_taken _ n _ items _ t (ap (λ c. 16 + c) caplen ∙ sym len) (ap (λ f. f ∷ []) frame ∙ sym given) (sym after)
]

sizes : (scope : Scope) (s : State) (bytes : List ℕ) (n : ℕ) (items : List FrameValue) (t : State) → step scope s bytes ≡ Takes n items t → (0 < n)
    × (n ≤ length bytes)
sizes scope s bytes n items t h = elim (taken scope s bytes n items t h) [
  | TakesHeader new none it len given after ↦ let whole : 24 ≤ length bytes = it.size in (omega (arith, len), omega (arith, len, whole))
  | TakesRecord old some it len given after ↦ let whole : 16 + caplen_at old bytes ≤ length bytes = it.whole in (omega (arith, len), omega (arith, len, whole))
]

pub none_some : (header : Option FileHeader) (old : FileHeader) → header ≡ None → header ≡ Some old → ⊥
none_some header old p q = cc

pub some_same : (header : Option FileHeader) (a b : FileHeader) → header ≡ Some a → header ≡ Some b → a ≡ b
some_same header a b p q = cc

late : (scope : Scope) (s : State) (bytes more : List ℕ) (n : ℕ) (items : List FrameValue) (t : State) → step scope s bytes ≡ Wants
    → step scope s (bytes ++ more) ≡ Takes n items t → length bytes < n
late scope s bytes more n items t wants h = elim (taken scope s (bytes ++ more) n items t h) [
  | TakesHeader new none it len given after ↦ elim (part_of scope s bytes wants) [
    | OfHeader same short nothing ↦ omega (arith, len, short)
    | OfRecord old some never long ↦ absurd (none_some s.header old none some)
  ]
  | TakesRecord old some it len given after ↦ elim (part_of scope s bytes wants) [
    | OfHeader none short nothing ↦ absurd (none_some s.header old none some)
    | OfRecord other also never long ↦ elim (cases_lt (length bytes) n) [
      | inl less ↦ less
      | inr whole ↦
          let same : caplen_at old (bytes ++ more) ≡ caplen_at old bytes = caplen_first old bytes more (omega (arith, len, whole)) in
          let small : caplen_at old (bytes ++ more) ≤ 262144 = it.short in
          absurd (never
          (subst (λ (x : FileHeader). HasRecord x bytes) (some_same s.header old other some also)
          (record { short = omega (arith, same, small); whole = omega (arith, same, len, whole) })))
    ]
  ]
]

one : (scope : Scope) (s : State) (bytes : List ℕ) (n : ℕ) (items : List FrameValue) (t : State) → step scope s bytes ≡ Takes n items t → length items ≤ 1
one scope s bytes n items t h = elim (taken scope s bytes n items t h) [
  | TakesHeader new none it len given after ↦ let many : length items ≡ 0 = ap length given in omega (arith, many)
  | TakesRecord old some it len given after ↦ let many : length items ≡ 1 = ap length given in omega (arith, many)
]

few : (scope : Scope) (s : State) (bytes : List ℕ) (n : ℕ) (items : List FrameValue) (t : State) → step scope s bytes ≡ Takes n items t
    → 16 * length items ≤ n
few scope s bytes n items t h = elim (taken scope s bytes n items t h) [
  | TakesHeader new none it len given after ↦ let many : length items ≡ 0 = ap length given in omega (arith, many)
  | TakesRecord old some it len given after ↦ let many : length items ≡ 1 = ap length given in omega (arith, many, len)
]

counts : (scope : Scope) (s : State) (bytes : List ℕ) (n : ℕ) (items : List FrameValue) (t : State) → step scope s bytes ≡ Takes n items t
    → t.count ≡ count_on scope.length s.count (length items)
counts scope s bytes n items t h = elim (taken scope s bytes n items t h) [
  | TakesHeader new none it len given after ↦ ap (λ (x : State). x.count) after
      ∙ sym (count_none scope.length s.count)
      ∙ ap (λ (xs : List FrameValue). count_on scope.length s.count (length xs)) (sym given)
  | TakesRecord old some it len given after ↦ ap (λ (x : State). x.count) after
      ∙ ap (λ (xs : List FrameValue). count_on scope.length s.count (length xs)) (sym given)
]

nothing_at : (scope : Scope) (header : Option FileHeader) (k : ℕ) → found_at scope header k [] ≡ Wants
nothing_at scope None k = ap (λ (x : HeaderShown). head_found k x) (head_few scope.links [] (omega arith))
nothing_at scope (Some header) k = refl

nothing : (scope : Scope) (s : State) → step scope s [] ≡ Wants
nothing scope s = step_at scope s [] ∙ nothing_at scope s.header s.count

-- pcap can be read as a stream
pub stepper : (scope : Scope) → IsStepper (pcap scope)
stepper scope = record {
  none = refl;
  nothing = nothing scope;
  bad_stays = bad_stays scope;
  takes_stays = takes_stays scope;
  size = sizes scope;
  late = late scope;
  one = one scope;
  few = few scope;
  counts = counts scope;
}
