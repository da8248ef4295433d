-- What a file is by its units, and what it is by the definition of whole files.
use Rattle.std.proofs.Common.{◌≡◌, inl, inr, ℕ, ◌<◌, ◌+◌, true, false, List, [], ◌∷◌, ◌++◌, length, drop, Some, None, is_some, refl, sym, ap, subst, ◌∙◌, arith}
use Rattle.cf_pcap.specs.declared.limit.Length.{Length}
use Rattle.cf_pcap.specs.Limits.{IsShort, count_on, number_of, num_of}
use Rattle.cf_pcap.proofs.Limits.{count_none, count_sum, count_first}
use Rattle.cf_pcap.specs.Format.{Bad, Takes, Part, items_of, AreUnitsThen, ReadsTo, IsWhole, seen, HasFault}
use Rattle.cf_pcap.specs.Format as formats
use Rattle.cf_pcap.proofs.FormatUnits.{reads_nothing, reads_one, reads_on}
use Rattle.cf_pcap.proofs.Cases.{none_shown}
use Rattle.cf_pcap.proofs.Seen.{seen_short}
use Rattle.cf_pcap.specs.declared.scope.Scope.{Scope}
use Rattle.cf_pcap.specs.declared.form.FileHeader.{FileHeader}
use Rattle.cf_pcap.specs.declared.fault.PcapFault.{PcapFault}
use Rattle.cf_pcap.specs.declared.fault.PcapFault.TheVariants.{BadMagic, BadVersion, BadLink, FrameTooLong, Cut, TooManyBytes, Memory}
use Rattle.cf_pcap.specs.Capture.{FrameValue, caplen_at, frame_at, HasRecord, HasLongRecord, AreRecordsThen, IsReadTo, IsCapture, HasLongFrame, Shows, HasTooManyBytes, IsCut, HasPcapFault}
use Rattle.cf_pcap.specs.File.{State, step, pcap}
use Rattle.cf_pcap.specs.Reading.{state_of}
use Rattle.cf_pcap.specs.Laws.{JudgedAlike}
use Rattle.cf_pcap.proofs.Heading.{HasHeaderFault, shown_by_header, shown}
use Rattle.cf_pcap.proofs.Steps.{taken, TakesHeader, TakesRecord, broken, InHeader, TooLong, part_of, OfHeader, OfRecord, step_header, step_fault, step_begun, step_record, step_long, step_part, none_some, some_same}

-- From units to records.

-- the records of some bytes, and the state that they lead to
record Leads (l : Length) (header : FileHeader) (k : ℕ) (frames : List FrameValue) (bytes : List ℕ) (t : State) (rest : List ℕ) : Type 0 where
  records : AreRecordsThen l header k frames bytes rest
  state_is : t ≡ state_of (Some header) (count_on l k (length frames))

leads_nothing : (l : Length) (header : FileHeader) (k : ℕ) (bytes : List ℕ) (t : State) (rest : List ℕ) → state_of (Some header) k ≡ t → bytes ≡ rest
    → Leads l header k [] bytes t rest
leads_nothing l header k bytes t rest same left =
    record { records = left; state_is = sym same ∙ ap (λ n. state_of (Some header) n) (sym (count_none l k)) }

leads_more : (l : Length) (header : FileHeader) (k : ℕ) (frames : List FrameValue) (bytes : List ℕ) (t : State) (rest : List ℕ) → HasRecord header bytes
    → Leads l header (count_on l k 1) frames (drop (16 + caplen_at header bytes) bytes) t rest
    → Leads l header k (frame_at header (num_of l k) bytes ∷ frames) bytes t rest
leads_more l header k frames bytes t rest has more =
    let sum : 1 + length frames ≡ length (frame_at header (num_of l k) bytes ∷ frames) = omega arith in
    record {
      records = (has, refl, more.records);
      state_is = more.state_is ∙ ap (λ n. state_of (Some header) n) (count_sum l k 1 (length frames) ∙ ap (λ n. count_on l k n) sum);
    }

leads_on : (scope : Scope) (header : FileHeader) (k : ℕ) (bytes : List ℕ) (n : ℕ) (items more : List FrameValue) (u t : State) (rest : List ℕ)
    → step scope (state_of (Some header) k) bytes ≡ Takes n items u
    → (u ≡ state_of (Some header) (count_on scope.length k 1) → n ≡ 16 + caplen_at header bytes
    → Leads scope.length header (count_on scope.length k 1) more (drop n bytes) t rest)
    → Leads scope.length header k (items ++ more) bytes t rest
leads_on scope header k bytes n items more u t rest h go = elim (taken scope (state_of (Some header) k) bytes n items u h) [
  | TakesHeader new none it len given after ↦ absurd (none_some (Some header) header none refl)
  | TakesRecord old some it len given after ↦
      let same : old ≡ header = some_same (Some header) old header some refl in
      let has : HasRecord header bytes = subst (λ (x : FileHeader). HasRecord x bytes) same it in
      let size : n ≡ 16 + caplen_at header bytes = len ∙ ap (λ (x : FileHeader). 16 + caplen_at x bytes) same in
      let frames : frame_at header (num_of scope.length k) bytes ∷ [] ≡ items = ap (λ (x : FileHeader). frame_at x (num_of scope.length k) bytes ∷ []) (sym same) ∙ sym given in
      let later : Leads scope.length header (count_on scope.length k 1) more (drop (16 + caplen_at header bytes) bytes) t rest =
      subst (λ (m : ℕ). Leads scope.length header (count_on scope.length k 1) more (drop m bytes) t rest) size
      (go (after ∙ ap (λ (x : FileHeader). state_of (Some x) (count_on scope.length k 1)) same) size) in
      subst (λ (fs : List FrameValue). Leads scope.length header k (fs ++ more) bytes t rest) frames
      (leads_more scope.length header k more bytes t rest has later)
]

records_of : (scope : Scope) (header : FileHeader) (k : ℕ) (parts : List (Part State FrameValue)) (bytes : List ℕ) (t : State) (rest : List ℕ)
    → AreUnitsThen (pcap scope) (state_of (Some header) k) parts bytes t rest → Leads scope.length header k (items_of parts) bytes t rest
records_of scope header k [] bytes t rest h = leads_nothing scope.length header k bytes t rest h.0 h.1
records_of scope header k (part ∷ parts) bytes t rest h =
    leads_on scope header k bytes part.size part.items (items_of parts) part.after t rest h.0
    (λ after _. records_of scope header (count_on scope.length k 1) parts (drop part.size bytes) t rest
    (subst (λ (u : State). AreUnitsThen (pcap scope) u parts (drop part.size bytes) t rest) after h.1))

-- how far the units of a file go
data Begins (scope : Scope) (file : List ℕ) (frames : List FrameValue) (t : State) (rest : List ℕ) : Type 0 where
  AtStart : frames ≡ [] → t ≡ (pcap scope).start → file ≡ rest → Begins scope file frames t rest
  Within : (header : FileHeader) → t ≡ state_of (Some header) (number_of scope.length (length frames)) → IsReadTo scope header file frames rest
      → Begins scope file frames t rest

within : (scope : Scope) (file : List ℕ) (n : ℕ) (items more : List FrameValue) (u t : State) (rest : List ℕ)
    → step scope (pcap scope).start file ≡ Takes n items u
    → ((header : FileHeader) → u ≡ state_of (Some header) 0 → Leads scope.length header 0 more (drop n file) t rest)
    → Begins scope file (items ++ more) t rest
within scope file n items more u t rest h go = elim (taken scope (pcap scope).start file n items u h) [
  | TakesHeader new none it len given after ↦
      let leads : Leads scope.length new 0 more (drop 24 file) t rest =
      subst (λ (m : ℕ). Leads scope.length new 0 more (drop m file) t rest) len (go new after) in
      let all : Begins scope file more t rest =
      Within new (leads.state_is ∙ ap (λ m. state_of (Some new) m) (count_first scope.length (length more))) (record { begin = it; records = leads.records }) in
      subst (λ (fs : List FrameValue). Begins scope file (fs ++ more) t rest) (sym given) all
  | TakesRecord old some it len given after ↦ absurd (none_some None old refl some)
]

by_parts : (scope : Scope) (file : List ℕ) (parts : List (Part State FrameValue)) (t : State) (rest : List ℕ)
    → AreUnitsThen (pcap scope) (pcap scope).start parts file t rest → Begins scope file (items_of parts) t rest
by_parts scope file [] t rest h = AtStart refl (sym h.0) h.1
by_parts scope file (part ∷ parts) t rest h =
    within scope file part.size part.items (items_of parts) part.after t rest h.0
    (λ header after. records_of scope header 0 parts (drop part.size file) t rest
    (subst (λ (u : State). AreUnitsThen (pcap scope) u parts (drop part.size file) t rest) after h.1))

begins : (scope : Scope) (file : List ℕ) (frames : List FrameValue) (t : State) (rest : List ℕ) → ReadsTo (pcap scope) (pcap scope).start file frames t rest
    → Begins scope file frames t rest
begins scope file frames t rest h = subst (λ (fs : List FrameValue). Begins scope file fs t rest) (sym h.items_are) (by_parts scope file h.parts t rest h.units)

-- From records to units.

units_of : (scope : Scope) (header : FileHeader) (k : ℕ) (frames : List FrameValue) (bytes rest : List ℕ)
    → AreRecordsThen scope.length header k frames bytes rest
    → ReadsTo (pcap scope) (state_of (Some header) k) bytes frames (state_of (Some header) (count_on scope.length k (length frames))) rest
units_of scope header k [] bytes rest h =
    subst (λ (n : ℕ). ReadsTo (pcap scope) (state_of (Some header) k) bytes [] (state_of (Some header) n) rest) (sym (count_none scope.length k))
    (subst (λ (xs : List ℕ). ReadsTo (pcap scope) (state_of (Some header) k) bytes [] (state_of (Some header) k) xs) h
    (reads_nothing (pcap scope) (state_of (Some header) k) bytes))
units_of scope header k (frame ∷ frames) bytes rest h =
    let s : State = state_of (Some header) k in
    let next : ℕ = count_on scope.length k 1 in
    let u : State = state_of (Some header) next in
    let left : List ℕ = drop (16 + caplen_at header bytes) bytes in
    let sum : 1 + length frames ≡ length (frame ∷ frames) = omega arith in
    let takes : step scope s bytes ≡ Takes (16 + caplen_at header bytes) (frame ∷ []) u = step_record scope s header bytes refl h.0
    ∙ ap (λ (f : FrameValue). Takes (16 + caplen_at header bytes) (f ∷ []) u) (sym h.1) in
    subst (λ (n : ℕ). ReadsTo (pcap scope) s bytes (frame ∷ frames) (state_of (Some header) n) rest)
    (count_sum scope.length k 1 (length frames) ∙ ap (λ n. count_on scope.length k n) sum)
    (reads_on (pcap scope) s bytes (frame ∷ []) frames u left (state_of (Some header) (count_on scope.length next (length frames))) rest
    (reads_one (pcap scope) s bytes (16 + caplen_at header bytes) (frame ∷ []) u takes) (units_of scope header next frames left rest h.2))

read_of : (scope : Scope) (header : FileHeader) (file : List ℕ) (frames : List FrameValue) (rest : List ℕ) → IsReadTo scope header file frames rest
    → ReadsTo (pcap scope) (pcap scope).start file frames (state_of (Some header) (number_of scope.length (length frames))) rest
read_of scope header file frames rest h =
    subst (λ (n : ℕ). ReadsTo (pcap scope) (pcap scope).start file frames (state_of (Some header) n) rest)
    (count_first scope.length (length frames))
    (reads_on (pcap scope) (pcap scope).start file [] frames (state_of (Some header) 0) (drop 24 file)
    (state_of (Some header) (count_on scope.length 0 (length frames))) rest
    (reads_one (pcap scope) (pcap scope).start file 24 [] (state_of (Some header) 0) (step_header scope (pcap scope).start header file refl h.begin))
    (units_of scope header 0 frames (drop 24 file) rest h.records))

-- Captures.

true_false : true ≡ false → ⊥
true_false h = cc

capture_of : (scope : Scope) (file : List ℕ) (frames : List FrameValue) → IsWhole (pcap scope) file frames → IsCapture scope file frames
capture_of scope file frames whole = elim (begins scope file frames whole.last [] whole.read) [
  | AtStart none start left ↦ absurd (true_false (sym whole.ends ∙ ap (λ (x : State). is_some x.header) start))
  | Within header state read ↦ record { size = whole.size; header = header; whole = read }
]

whole_of : (scope : Scope) (file : List ℕ) (frames : List FrameValue) → IsCapture scope file frames → IsWhole (pcap scope) file frames
whole_of scope file frames capture =
    record {
      size = capture.size;
      last = state_of (Some capture.header) (number_of scope.length (length frames));
      read = read_of scope capture.header file frames [] capture.whole;
      ends = refl;
    }

-- Faults that bytes show.

shows_of : (scope : Scope) (bytes : List ℕ) (fault : PcapFault) → formats.Shows (pcap scope) bytes fault → Shows scope bytes fault
shows_of scope bytes fault h = elim (begins scope bytes h.items h.last h.rest h.read) [
  | AtStart none start left ↦ elim (broken scope h.last h.rest fault h.bad) [
    | InHeader same it ↦ shown_by_header scope bytes fault (subst (λ (xs : List ℕ). HasHeaderFault scope.links xs fault) (sym left) it)
    | TooLong old some it is ↦ absurd (none_some h.last.header old (ap (λ (x : State). x.header) start) some)
  ]
  | Within header state read ↦ elim (broken scope h.last h.rest fault h.bad) [
    | InHeader none it ↦ absurd (none_some h.last.header header none (ap (λ (x : State). x.header) state))
    | TooLong old some it is ↦
        let same : old ≡ header = some_same h.last.header old header some (ap (λ (x : State). x.header) state) in
        let long : HasLongFrame scope h.last.count bytes =
        record {
          header = header;
          frames = h.items;
          rest = h.rest;
          read = read;
          number_is = ap (λ (x : State). x.count) state;
          long = subst (λ (x : FileHeader). HasLongRecord x h.rest) same it;
        } in
        subst (λ (f : PcapFault). Shows scope bytes f) (sym is) long
  ]
]

shows_long : (scope : Scope) (k : ℕ) (bytes : List ℕ) → HasLongFrame scope k bytes → formats.Shows (pcap scope) bytes (FrameTooLong k)
shows_long scope k bytes h = record {
  items = h.frames;
  last = state_of (Some h.header) (number_of scope.length (length h.frames));
  rest = h.rest;
  read = read_of scope h.header bytes h.frames h.rest h.read;
  bad = step_long scope (state_of (Some h.header) (number_of scope.length (length h.frames))) h.header h.rest refl h.long
      ∙ ap (λ n. Bad (FrameTooLong n)) (sym h.number_is);
}

shows_back : (scope : Scope) (bytes : List ℕ) (fault : PcapFault) → Shows scope bytes fault → formats.Shows (pcap scope) bytes fault
shows_back scope bytes fault h = elim (shown scope bytes fault h) [
  | inl header ↦ record {
    items = [];
    last = (pcap scope).start;
    rest = bytes;
    read = reads_nothing (pcap scope) (pcap scope).start bytes;
    bad = step_fault scope (pcap scope).start fault bytes refl header;
  }
  | inr long ↦ subst (λ (f : PcapFault). formats.Shows (pcap scope) bytes f) (sym long.1) (shows_long scope long.0 bytes long.2)
]

fault_shown : (scope : Scope) (file : List ℕ) (fault : PcapFault) → Shows scope (seen scope.length file) fault → HasPcapFault scope file fault
fault_shown scope file BadMagic h = h
fault_shown scope file BadVersion h = h
fault_shown scope file BadLink h = h
fault_shown scope file (FrameTooLong k) h = h
fault_shown scope file (Cut k) h = absurd h
fault_shown scope file TooManyBytes h = absurd h
fault_shown scope file Memory h = absurd h

-- Too many bytes.

many_of : (scope : Scope) (file : List ℕ) → formats.HasTooManyBytes (pcap scope) file → HasTooManyBytes scope file
many_of scope file h = record { size = h.size; first = λ fault shows. h.first fault (shows_back scope (seen scope.length file) fault shows) }

many_back : (scope : Scope) (file : List ℕ) → HasTooManyBytes scope file → formats.HasTooManyBytes (pcap scope) file
many_back scope file h = record { size = h.size; first = λ fault shows. h.first fault (shows_of scope (seen scope.length file) fault shows) }

-- Files that end too early.

short_shown : (scope : Scope) (file : List ℕ) (fault : PcapFault) → IsShort scope.length (length file) → Shows scope (seen scope.length file) fault
    → formats.Shows (pcap scope) file fault
short_shown scope file fault size h =
    subst (λ (xs : List ℕ). formats.Shows (pcap scope) xs fault) (seen_short scope.length file size) (shows_back scope (seen scope.length file) fault h)

cut_of : (scope : Scope) (file : List ℕ) (last : State) → formats.IsCut (pcap scope) file last → IsCut scope last.count file
cut_of scope file last cut =
    let first : (fault : PcapFault) → Shows scope (seen scope.length file) fault → ⊥ =
    λ fault h. none_shown (pcap scope) file cut.items last cut.rest cut.read cut.part fault (short_shown scope file fault cut.size h) in
    elim (begins scope file cut.items last cut.rest cut.read) [
      | AtStart none start left ↦ elim (part_of scope last cut.rest cut.part) [
        | OfHeader same short nothing ↦ record {
          size = cut.size;
          first = first;
          ends = inl (record { size = subst (λ (xs : List ℕ). length xs < 24) (sym left) short; number_is = ap (λ (x : State). x.count) start });
        }
        | OfRecord old some never long ↦ absurd (none_some last.header old (ap (λ (x : State). x.header) start) some)
      ]
      | Within header state read ↦ elim (part_of scope last cut.rest cut.part) [
        | OfHeader none short nothing ↦ absurd (none_some last.header header none (ap (λ (x : State). x.header) state))
        | OfRecord old some never long ↦
            let same : header ≡ old = some_same last.header header old (ap (λ (x : State). x.header) state) some in
            let left : 0 < length cut.rest = elim cut.left [
              | inl left ↦ left
              | inr outside ↦ absurd (true_false (sym (ap (λ (x : State). is_some x.header) state) ∙ outside))
            ] in
            record {
              size = cut.size;
              first = first;
              ends = inr (record {
                header = header;
                frames = cut.items;
                rest = cut.rest;
                read = read;
                number_is = ap (λ (x : State). x.count) state;
                left = left;
                part = λ h. never (subst (λ (x : FileHeader). HasRecord x cut.rest) same h);
              });
            }
      ]
    ]

cut_back : (scope : Scope) (k : ℕ) (file : List ℕ) → IsCut scope k file → HasFault (pcap scope) file (Cut k)
cut_back scope k file cut =
    let seen_is : seen scope.length file ≡ file = seen_short scope.length file cut.size in
    let first : (fault : PcapFault) → Shows scope file fault → ⊥ = λ fault h. cut.first fault (subst (λ (xs : List ℕ). Shows scope xs fault) (sym seen_is) h) in
    elim cut.ends [
      | inl early ↦
          inr (
            (pcap scope).start,
            ap (λ n. Cut n) early.number_is,
            record {
              size = cut.size;
              items = [];
              rest = file;
              read = reads_nothing (pcap scope) (pcap scope).start file;
              part = step_begun scope (pcap scope).start file refl early.size (λ fault h. first fault (shown_by_header scope file fault h));
              left = inr refl;
            },
          )
      | inr inside ↦
          let last : State = state_of (Some inside.header) (number_of scope.length (length inside.frames)) in
          inr (
            last,
            ap (λ n. Cut n) inside.number_is,
            record {
              size = cut.size;
              items = inside.frames;
              rest = inside.rest;
              read = read_of scope inside.header file inside.frames inside.rest inside.read;
              part = step_part scope last inside.header inside.rest refl inside.part
                  (λ long. first (FrameTooLong (number_of scope.length (length inside.frames)))
                  (record { header = inside.header; frames = inside.frames; rest = inside.rest; read = inside.read; number_is = refl; long = long }));
              left = inl inside.left;
            },
          )
    ]

-- The two ways to say what a file is.

fault_of : (scope : Scope) (file : List ℕ) (fault : PcapFault) → HasFault (pcap scope) file fault → HasPcapFault scope file fault
fault_of scope file fault (inl (inl shows)) = fault_shown scope file fault (shows_of scope (seen scope.length file) fault shows)
fault_of scope file fault (inl (inr many)) = subst (λ (f : PcapFault). HasPcapFault scope file f) (sym many.0) (many_of scope file many.1)
fault_of scope file fault (inr cut) = subst (λ (f : PcapFault). HasPcapFault scope file f) (sym cut.1) (cut_of scope file cut.0 cut.2)

fault_back : (scope : Scope) (file : List ℕ) (fault : PcapFault) → HasPcapFault scope file fault → HasFault (pcap scope) file fault
fault_back scope file BadMagic h = inl (inl (shows_back scope (seen scope.length file) BadMagic h))
fault_back scope file BadVersion h = inl (inl (shows_back scope (seen scope.length file) BadVersion h))
fault_back scope file BadLink h = inl (inl (shows_back scope (seen scope.length file) BadLink h))
fault_back scope file (FrameTooLong k) h = inl (inl (shows_back scope (seen scope.length file) (FrameTooLong k) h))
fault_back scope file (Cut k) h = cut_back scope k file h
fault_back scope file TooManyBytes h = inl (inr (refl, many_back scope file h))
fault_back scope file Memory h = absurd h

pub judged_alike : (scope : Scope) (file : List ℕ) → JudgedAlike scope file
judged_alike scope file =
    record { capture = capture_of scope file; is_capture = whole_of scope file; fault = fault_of scope file; is_fault = fault_back scope file }
