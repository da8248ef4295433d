-- The header and the records of a file, one after another.
use Rattle.std.proofs.Common.{◌≡◌, ℕ, ◌≤◌, ◌+◌, ◌-◌, ◌*◌, List, [], ◌∷◌, ◌++◌, drop, Option, Some, None, refl, sym, ap, subst, ◌∙◌, arith}
use Rattle.cf_pcap.specs.declared.limit.Length.{Length}
use Rattle.cf_pcap.specs.declared.limit.Length.TheVariants.{Limited, Any}
use Rattle.cf_pcap.specs.Limits.{IsShort, HasRoom, count_on, num_of}
use Rattle.cf_pcap.specs.Format.{Bad, Takes, ReadsTo}
use Rattle.cf_pcap.proofs.FormatUnits.{reads_nothing, reads_one, reads_on}
use Rattle.cf_pcap.specs.declared.scope.Scope.{Scope}
use Rattle.cf_pcap.specs.declared.form.FileHeader.{FileHeader}
use Rattle.cf_pcap.specs.declared.fault.PcapFault.{PcapFault}
use Rattle.cf_pcap.specs.declared.head.HeaderShown.{HeaderShown}
use Rattle.cf_pcap.specs.declared.head.HeaderShown.TheVariants.{Short, Faulty, Stands}
use Rattle.cf_pcap.specs.Capture.{FrameValue, caplen_at, frame_at, IsFileHeader, HasRecord, HasLongRecord}
use Rattle.cf_pcap.specs.File.{State, head_of, head_found, found_at, step, pcap}
use Rattle.cf_pcap.specs.Reading.{state_of, AreRead}
use Rattle.cf_pcap.proofs.Heading.{Header, Whole, False, Begun, header_of}
use Rattle.cf_pcap.proofs.Steps.{step_at, step_record, taken, TakesHeader, TakesRecord, broken, InHeader, TooLong, head_stands, head_faulty, none_some, some_same}

-- one more record was read
pub one_more : (scope : Scope) (header : FileHeader) (k m : ℕ) (bytes : List ℕ) (frames : List FrameValue) (rest : List ℕ) (frame : FrameValue)
    → ReadsTo (pcap scope) (state_of (Some header) k) bytes frames (state_of (Some header) m) rest → HasRecord header rest → frame ≡ frame_at header (num_of scope.length m) rest
    → ReadsTo (pcap scope) (state_of (Some header) k) bytes (frames ++ frame ∷ []) (state_of (Some header) (count_on scope.length m 1))
    (drop (16 + caplen_at header rest) rest)
one_more scope header k m bytes frames rest frame read has is =
    let s : State = state_of (Some header) k in
    let at : State = state_of (Some header) m in
    let next : State = state_of (Some header) (count_on scope.length m 1) in
    let step_is : step scope at rest ≡ Takes (16 + caplen_at header rest) (frame ∷ []) next = step_record scope at header rest refl has
    ∙ ap (λ (f : FrameValue). Takes (16 + caplen_at header rest) (f ∷ []) next) (sym is) in
    reads_on (pcap scope) s bytes frames (frame ∷ []) at rest next (drop (16 + caplen_at header rest) rest) read
    (reads_one (pcap scope) at rest (16 + caplen_at header rest) (frame ∷ []) next step_is)

-- one more record has room for the number after it
pub room_next : (l : Length) (count rest size : ℕ) → 16 ≤ size → size ≤ rest → HasRoom l (16 * count + rest) → IsShort l (count + 1)
    × HasRoom l (16 * count_on l count 1 + (rest - size))
room_next Any count rest size some fits room = (tt, tt)
room_next Limited count rest size some fits room = (omega (arith, some, fits, room), omega (arith, some, fits, room))

-- where no record stands, none is taken
pub no_record : (scope : Scope) (header : FileHeader) (k : ℕ) (rest : List ℕ) → (HasRecord header rest → ⊥) → (n : ℕ) (more : List FrameValue) (u : State)
    → step scope (state_of (Some header) k) rest ≡ Takes n more u → ⊥
no_record scope header k rest never n more u h = elim (taken scope (state_of (Some header) k) rest n more u h) [
  | TakesHeader new none it len given after ↦ none_some (Some header) header none refl
  | TakesRecord old some it len given after ↦ never (subst (λ (x : FileHeader). HasRecord x rest) (some_same (Some header) old header some refl) it)
]

-- the same of a file header
pub no_head : (scope : Scope) (k : ℕ) (bytes : List ℕ) → ((header : FileHeader) → head_of scope.links bytes ≡ Stands header → ⊥)
    → (n : ℕ) (more : List FrameValue) (u : State) → step scope (state_of None k) bytes ≡ Takes n more u → ⊥
no_head scope k bytes never n more u h = elim (taken scope (state_of None k) bytes n more u h) [
  | TakesHeader new none it len given after ↦ never new (head_stands scope new bytes (header_of scope.links bytes) it)
  | TakesRecord old some it len given after ↦ none_some None old refl some
]

-- a header and what comes after it
pub after_head : (scope : Scope) (header : FileHeader) (k : ℕ) (bytes : List ℕ) (frames : List FrameValue) (t : State) (rest : List ℕ)
    → head_of scope.links bytes ≡ Stands header → AreRead scope (state_of (Some header) k) (drop 24 bytes) frames t rest
    → AreRead scope (state_of None k) bytes frames t rest
after_head scope header k bytes frames t rest is read = record {
  read = reads_on (pcap scope) (state_of None k) bytes [] frames (state_of (Some header) k) (drop 24 bytes) t rest
      (reads_one (pcap scope) (state_of None k) bytes 24 [] (state_of (Some header) k)
      (step_at scope (state_of None k) bytes ∙ ap (λ (x : HeaderShown). head_found k x) is)) read.read;
  none = read.none;
}

-- the fault of a header, by what is shown
pub fault_of_head : (scope : Scope) (s : State) (fault : PcapFault) (bytes : List ℕ) → s.header ≡ None → head_of scope.links bytes ≡ Faulty fault
    → step scope s bytes ≡ Bad fault
fault_of_head scope s fault bytes none is =
    step_at scope s bytes
    ∙ subst (λ (x : Option FileHeader). found_at scope x s.count bytes ≡ Bad fault) (sym none) (ap (λ (x : HeaderShown). head_found s.count x) is)

pub no_head_fault : (scope : Scope) (s : State) (bytes : List ℕ) → s.header ≡ None → ((fault : PcapFault) → head_of scope.links bytes ≡ Faulty fault → ⊥)
    → (fault : PcapFault) → step scope s bytes ≡ Bad fault → ⊥
no_head_fault scope s bytes none never fault h = elim (broken scope s bytes fault h) [
  | InHeader same it ↦ never fault (head_faulty scope fault bytes (header_of scope.links bytes) it)
  | TooLong old some it is ↦ none_some s.header old none some
]

pub no_long_record : (scope : Scope) (s : State) (header : FileHeader) (rest : List ℕ) → s.header ≡ Some header → (HasLongRecord header rest → ⊥)
    → (fault : PcapFault) → step scope s rest ≡ Bad fault → ⊥
no_long_record scope s header rest some never fault h = elim (broken scope s rest fault h) [
  | InHeader none it ↦ none_some s.header header none some
  | TooLong old also it is ↦ never (subst (λ (x : FileHeader). HasLongRecord x rest) (some_same s.header old header also some) it)
]

stands_same : (a b : FileHeader) → Stands a ≡ Stands b → a ≡ b
stands_same a b h = cc

faulty_stands : (fault : PcapFault) (header : FileHeader) → Faulty fault ≡ Stands header → ⊥
faulty_stands fault header h = cc

short_stands : (header : FileHeader) → Short ≡ Stands header → ⊥
short_stands header h = cc

-- a header that stands is one
pub header_at : (scope : Scope) (header : FileHeader) (bytes : List ℕ) → Header scope.links bytes → head_of scope.links bytes ≡ Stands header
    → IsFileHeader scope.links header bytes
header_at scope header bytes (Whole other is it) h = subst (λ (x : FileHeader). IsFileHeader scope.links x bytes) (stands_same other header (sym is ∙ h)) it
header_at scope header bytes (False fault is it) h = absurd (faulty_stands fault header (sym is ∙ h))
header_at scope header bytes (Begun is short none) h = absurd (short_stands header (sym is ∙ h))

-- where no header stands, nothing is read
pub nothing_read : (scope : Scope) (k : ℕ) (bytes : List ℕ) (frames : List FrameValue) → frames ≡ []
    → ((header : FileHeader) → head_of scope.links bytes ≡ Stands header → ⊥) → AreRead scope (state_of None k) bytes frames (state_of None k) bytes
nothing_read scope k bytes frames none never =
    subst (λ (fs : List FrameValue). AreRead scope (state_of None k) bytes fs (state_of None k) bytes) (sym none)
    (record { read = reads_nothing (pcap scope) (state_of None k) bytes; none = no_head scope k bytes never })
