-- What a file is, by the rules.
use Rattle.std.proofs.Common.{◌≡◌, inl, inr, ℕ, List, [], ◌∷◌, length, drop, refl, sym, ap, subst, ◌∙◌}
use Rattle.cf_pcap.specs.declared.scope.Scope.{Scope}
use Rattle.cf_pcap.specs.Capture.{FrameValue}
use Rattle.cf_pcap.specs.Format.{Wants, Bad, Takes, Part, AreUnitsThen, ReadsTo, Shows, seen, HasTooManyBytes, IsCut}
use Rattle.cf_pcap.specs.Limits.{number_of}
use Rattle.cf_pcap.proofs.Limits.{count_first}
use Rattle.cf_pcap.proofs.FormatUnits.{reads_count}
use Rattle.cf_pcap.proofs.ByKind.{one_case}
use Rattle.cf_pcapng.specs.declared.fault.Flaw.{Flaw}
use Rattle.cf_pcapng.specs.declared.fault.Flaw.TheVariants.{BadMagic, BadVersion, BadLink, FrameTooLong, BadLength, NoInterface, TooManyInterfaces}
use Rattle.cf_pcapng.specs.declared.fault.NgFault.{NgFault}
use Rattle.cf_pcapng.specs.declared.fault.NgFault.TheVariants as faults
use Rattle.cf_pcapng.specs.File.{State, fault_of, step, pcapng, IsNg, HasNgFault}
use Rattle.cf_pcapng.specs.Rules.{AreBlocksThen, BeginsWith, IsFileOf, ShowsFlaw, IsPart, EndsWithin, IsTooLong, HasFaultOf, FileByRules, blocks}
use Rattle.cf_pcapng.specs.Laws.{OneCase}
use Rattle.cf_pcapng.proofs.Steps.{Shown, stepper}
use Rattle.cf_pcapng.proofs.Ruling.{steps_by_rules}

blocks_of : (scope : Scope) (s : State) (parts : List (Part State FrameValue)) (bytes : List ℕ) (t : State) (rest : List ℕ)
    → AreUnitsThen (pcapng scope) s parts bytes t rest → AreBlocksThen scope s parts bytes t rest
blocks_of scope s [] bytes t rest h = h
blocks_of scope s (part ∷ parts) bytes t rest h =
    ((steps_by_rules scope s bytes).takes part.size part.items part.after h.0, blocks_of scope part.after parts (drop part.size bytes) t rest h.1)

units_of : (scope : Scope) (s : State) (parts : List (Part State FrameValue)) (bytes : List ℕ) (t : State) (rest : List ℕ)
    → AreBlocksThen scope s parts bytes t rest → AreUnitsThen (pcapng scope) s parts bytes t rest
units_of scope s [] bytes t rest h = h
units_of scope s (part ∷ parts) bytes t rest h =
    ((steps_by_rules scope s bytes).block part.size part.items part.after h.0, units_of scope part.after parts (drop part.size bytes) t rest h.1)

begins_with : (scope : Scope) (file : List ℕ) (frames : List FrameValue) (last : State) (rest : List ℕ)
    → ReadsTo (pcapng scope) (pcapng scope).start file frames last rest → BeginsWith scope file frames last rest
begins_with scope file frames last rest h =
    record { parts = h.parts; blocks = blocks_of scope (pcapng scope).start h.parts file last rest h.units; frames_are = h.items_are }

reads_to : (scope : Scope) (file : List ℕ) (frames : List FrameValue) (last : State) (rest : List ℕ) → BeginsWith scope file frames last rest
    → ReadsTo (pcapng scope) (pcapng scope).start file frames last rest
reads_to scope file frames last rest h =
    record { parts = h.parts; units = units_of scope (pcapng scope).start h.parts file last rest h.blocks; items_are = h.frames_are }

-- the number of frames is that of the state
number_by : (scope : Scope) (file : List ℕ) (frames : List FrameValue) (last : State) (rest : List ℕ)
    → ReadsTo (pcapng scope) (pcapng scope).start file frames last rest → last.count ≡ number_of scope.length (length frames)
number_by scope file frames last rest h =
    reads_count (pcapng scope) (stepper scope) (pcapng scope).start file frames last rest h ∙ count_first scope.length (length frames)

file_of : (scope : Scope) (file : List ℕ) (frames : List FrameValue) → IsNg scope file frames → IsFileOf scope file frames
file_of scope file frames h = record { size = h.size; last = h.last; read = begins_with scope file frames h.last [] h.read; begun = h.ends }

capture_of : (scope : Scope) (file : List ℕ) (frames : List FrameValue) → IsFileOf scope file frames → IsNg scope file frames
capture_of scope file frames h = record { size = h.size; last = h.last; read = reads_to scope file frames h.last [] h.read; ends = h.begun }

-- a flaw that is found by its place, and the number of frames before it
pub record FlawOf (scope : Scope) (bytes : List ℕ) (fault : NgFault) : Type 0 where
  pub k : ℕ
  pub flaw : Flaw
  pub fault_is : fault ≡ fault_of k flaw
  pub shows : ShowsFlaw scope bytes k flaw

flaw_of : (scope : Scope) (bytes : List ℕ) (fault : NgFault) → Shows (pcapng scope) bytes fault → FlawOf scope bytes fault
flaw_of scope bytes fault h =
    let found = (steps_by_rules scope h.last h.rest).bad fault h.bad in record {
      k = h.last.count;
      flaw = found.0;
      fault_is = found.1;
      shows = record {
        frames = h.items;
        last = h.last;
        rest = h.rest;
        read = begins_with scope bytes h.items h.last h.rest h.read;
        number_is = number_by scope bytes h.items h.last h.rest h.read;
        breaks = found.2;
      };
    }

shows_of : (scope : Scope) (bytes : List ℕ) (k : ℕ) (flaw : Flaw) → ShowsFlaw scope bytes k flaw → Shows (pcapng scope) bytes (fault_of k flaw)
shows_of scope bytes k flaw h =
    let read : ReadsTo (pcapng scope) (pcapng scope).start bytes h.frames h.last h.rest = reads_to scope bytes h.frames h.last h.rest h.read in
    let number : h.last.count ≡ k = number_by scope bytes h.frames h.last h.rest read ∙ sym h.number_is in record {
      items = h.frames;
      last = h.last;
      rest = h.rest;
      read = read;
      bad = (steps_by_rules scope h.last h.rest).flaw flaw h.breaks ∙ ap (λ n. Bad (fault_of n flaw)) number;
    }

by_flaw : (scope : Scope) (file : List ℕ) (k : ℕ) (flaw : Flaw) → ShowsFlaw scope (seen scope.length file) k flaw → HasFaultOf scope file (fault_of k flaw)
by_flaw scope file k BadMagic h = h
by_flaw scope file k BadVersion h = h
by_flaw scope file k BadLink h = h
by_flaw scope file k FrameTooLong h = h
by_flaw scope file k BadLength h = h
by_flaw scope file k NoInterface h = h
by_flaw scope file k TooManyInterfaces h = h

part_of : (scope : Scope) (s : State) (bytes : List ℕ) → step scope s bytes ≡ Wants → IsPart scope s bytes
part_of scope s bytes h = record {
  no_flaw = λ flaw breaks. wants_bad (fault_of s.count flaw) (sym h ∙ (steps_by_rules scope s bytes).flaw flaw breaks);
  no_block = λ n frames t block. wants_takes n frames t (sym h ∙ (steps_by_rules scope s bytes).block n frames t block);
} where
  wants_bad : (fault : NgFault) → ◌≡◌ {A = Shown} Wants (Bad fault) → ⊥
  wants_bad fault h = cc

  wants_takes : (n : ℕ) (frames : List FrameValue) (t : State) → ◌≡◌ {A = Shown} Wants (Takes n frames t) → ⊥
  wants_takes n frames t h = cc

wants_of : (scope : Scope) (s : State) (bytes : List ℕ) (found : Shown) → step scope s bytes ≡ found → IsPart scope s bytes → step scope s bytes ≡ Wants
wants_of scope s bytes Wants h part = h
wants_of scope s bytes (Bad fault) h part = let found = (steps_by_rules scope s bytes).bad fault h in absurd (part.no_flaw found.0 found.2)
wants_of scope s bytes (Takes n frames t) h part = absurd (part.no_block n frames t ((steps_by_rules scope s bytes).takes n frames t h))

too_long_of : (scope : Scope) (file : List ℕ) → HasTooManyBytes (pcapng scope) file → IsTooLong scope file
too_long_of scope file h = record { size = h.size; first = λ k flaw shows. h.first (fault_of k flaw) (shows_of scope (seen scope.length file) k flaw shows) }

too_many_of : (scope : Scope) (file : List ℕ) → IsTooLong scope file → HasTooManyBytes (pcapng scope) file
too_many_of scope file h =
    record { size = h.size; first = λ fault shows. let found = flaw_of scope (seen scope.length file) fault shows in h.first found.k found.flaw found.shows }

ends_of : (scope : Scope) (file : List ℕ) (last : State) → IsCut (pcapng scope) file last → EndsWithin scope file last.count
ends_of scope file last h = record {
  size = h.size;
  frames = h.items;
  last = last;
  rest = h.rest;
  read = begins_with scope file h.items last h.rest h.read;
  number_is = number_by scope file h.items last h.rest h.read;
  part = part_of scope last h.rest h.part;
  left = h.left;
}

cut_of : (scope : Scope) (file : List ℕ) (k : ℕ) → EndsWithin scope file k → HasNgFault scope file (faults.Cut k)
cut_of scope file k h =
    let read : ReadsTo (pcapng scope) (pcapng scope).start file h.frames h.last h.rest = reads_to scope file h.frames h.last h.rest h.read in
    let number : h.last.count ≡ k = number_by scope file h.frames h.last h.rest read ∙ sym h.number_is in
    inr (
      h.last,
      ap (λ n. faults.Cut n) (sym number),
      record {
        size = h.size;
        items = h.frames;
        rest = h.rest;
        read = read;
        part = wants_of scope h.last h.rest (step scope h.last h.rest) refl h.part;
        left = h.left;
      },
    )

fault_by_rules : (scope : Scope) (file : List ℕ) (fault : NgFault) → HasNgFault scope file fault → HasFaultOf scope file fault
fault_by_rules scope file fault (inl (inl shows)) =
    let found = flaw_of scope (seen scope.length file) fault shows in
    subst (λ (f : NgFault). HasFaultOf scope file f) (sym found.fault_is) (by_flaw scope file found.k found.flaw found.shows)
fault_by_rules scope file fault (inl (inr many)) = subst (λ (f : NgFault). HasFaultOf scope file f) (sym many.0) (too_long_of scope file many.1)
fault_by_rules scope file fault (inr cut) = subst (λ (f : NgFault). HasFaultOf scope file f) (sym cut.1) (ends_of scope file cut.0 cut.2)

rules_by_fault : (scope : Scope) (file : List ℕ) (fault : NgFault) → HasFaultOf scope file fault → HasNgFault scope file fault
rules_by_fault scope file (faults.BadMagic k) h = inl (inl (shows_of scope (seen scope.length file) k BadMagic h))
rules_by_fault scope file (faults.BadVersion k) h = inl (inl (shows_of scope (seen scope.length file) k BadVersion h))
rules_by_fault scope file (faults.BadLink k) h = inl (inl (shows_of scope (seen scope.length file) k BadLink h))
rules_by_fault scope file (faults.FrameTooLong k) h = inl (inl (shows_of scope (seen scope.length file) k FrameTooLong h))
rules_by_fault scope file (faults.Cut k) h = cut_of scope file k h
rules_by_fault scope file faults.TooManyBytes h = inl (inr (refl, too_many_of scope file h))
rules_by_fault scope file (faults.BadLength k) h = inl (inl (shows_of scope (seen scope.length file) k BadLength h))
rules_by_fault scope file (faults.NoInterface k) h = inl (inl (shows_of scope (seen scope.length file) k NoInterface h))
rules_by_fault scope file (faults.TooManyInterfaces k) h = inl (inl (shows_of scope (seen scope.length file) k TooManyInterfaces h))
rules_by_fault scope file faults.Memory h = absurd h

pub file_by_rules : (scope : Scope) (file : List ℕ) → FileByRules scope file
file_by_rules scope file =
    record { capture = file_of scope file; is_capture = capture_of scope file; fault = fault_by_rules scope file; is_fault = rules_by_fault scope file }

pub one_case_of : (scope : Scope) (file : List ℕ) → OneCase scope file
one_case_of scope file = one_case (blocks scope) (pcapng scope) (stepper scope) file (file_by_rules scope file)
