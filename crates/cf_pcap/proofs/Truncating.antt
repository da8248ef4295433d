-- Captures that end within a record.
use Rattle.std.proofs.Common.{◌≡◌, inl, inr, ℕ, ◌≤◌, ◌+◌, Bool, true, false, List, length, Some, None, Ok, Err, is_some, refl, sym, ap, ◌∙◌, arith, length-append}
use Rattle.cf_pcap.specs.Format.{Bad, IsCut, IsFound}
use Rattle.cf_pcap.specs.declared.scope.Scope.{Scope}
use Rattle.cf_pcap.specs.declared.fault.PcapFault.{PcapFault}
use Rattle.cf_pcap.specs.declared.fault.PcapFault.TheVariants.{FrameTooLong, Cut, TooManyBytes}
use Rattle.cf_pcap.specs.Capture.{FrameValue}
use Rattle.cf_pcap.specs.File.{State, step, pcap}
use Rattle.cf_pcap.specs.Laws.{records}
use Rattle.cf_pcap.specs.Stream.{AreGiven, PcapValue, IsRunning, IsStateOf, IsEnded}
use Rattle.cf_pcap.specs.Truncated.{HasBegun, IsTruncated, Says, Breaks, TruncatedCase}
use Rattle.cf_pcap.proofs.Steps.{TakesHeader, TakesRecord, taken, InHeader, TooLong, broken, OfHeader, OfRecord, part_of, none_some, stepper}
use Rattle.cf_pcap.proofs.Judging.{judged_alike}
use Rattle.cf_pcap.proofs.ByKind.{IsJudgedBy}
use Rattle.cf_pcap.proofs.ByKind as kinds
use Rattle.cf_pcap.proofs.Wholes.{MayEnd, begun_or_not}

may_end : (scope : Scope) → MayEnd (pcap scope)
may_end scope = record {
  start = refl;
  units = λ s bytes n items t h. elim (taken scope s bytes n items t h) [
    | TakesHeader new none it len given after ↦ ap (λ (x : State). is_some x.header) after
    | TakesRecord old some it len given after ↦ ap (λ (x : State). is_some x.header) after
  ];
}

-- an end within the file header or a record is not found by its place
not_bad : (scope : Scope) (s : State) (bytes : List ℕ) (k : ℕ) → step scope s bytes ≡ Bad (Cut k) → ⊥
not_bad scope s bytes k h = elim (broken scope s bytes (Cut k) h) [
  | InHeader none it ↦ it
  | TooLong old some it is ↦ differ is
] where
  differ : Cut k ≡ FrameTooLong s.count → ⊥
  differ e = cc

pub not_found : (scope : Scope) (file : List ℕ) (k : ℕ) → IsFound (pcap scope) file (Cut k) → ⊥
not_found scope file k (inl shows) = not_bad scope shows.last shows.rest k shows.bad
not_found scope file k (inr many) = differ many.0 where
  differ : Cut k ≡ TooManyBytes → ⊥
  differ e = cc

one_cut : (a b : ℕ) → Cut a ≡ Cut b → a ≡ b
one_cut a b h = cc

pub by : (scope : Scope) → IsJudgedBy (records scope) (pcap scope)
by scope = record {
  stepper = stepper scope;
  may_end = may_end scope;
  alike = judged_alike scope;
  longest = refl;
  cut = λ s. refl;
  one_cut = one_cut;
  unfound = not_found scope;
}

header_long : (scope : Scope) (file : List ℕ) → HasBegun file → (last : State) (cut : IsCut (pcap scope) file last) → (pcap scope).may_end last ≡ true
header_long scope file long last cut = elim (begun_or_not (pcap scope) (may_end scope) (pcap scope).start cut.read.parts file last cut.rest cut.read.units) [
  | inl none ↦ elim (part_of scope last cut.rest cut.part) [
    | OfHeader without short never ↦ let same : length file ≡ length cut.rest = ap length none.1 in absurd (omega (arith, long, short, same))
    | OfRecord old some a b ↦ absurd (none_some last.header old (ap (λ (s : State). s.header) (sym none.0)) some)
  ]
  | inr begun ↦ begun
]

whole_so : (scope : Scope) (file : List ℕ) (frames : List FrameValue) → IsTruncated scope file frames → HasBegun file
whole_so scope file frames t =
    let size : 24 ≤ length t.whole = t.front.is.whole.begin.size in
    let len : length file ≡ length t.whole + length t.front.rest = ap length t.front.file_is ∙ length-append t.whole t.front.rest in
    omega (arith, size, len)

pub truncated_case : (scope : Scope) (file : List ℕ) → TruncatedCase scope file
truncated_case scope file = kinds.truncated_case (records scope) (pcap scope) (by scope) HasBegun file (header_long scope file) (whole_so scope file)

-- What a reader answers at the end.

pub end_whole : (truncated : Bool) (scope : Scope) (stream : List ℕ) (frames : List FrameValue) (count : ℕ) → IsEnded scope stream (Ok count)
    → AreGiven scope stream frames → Says truncated scope stream frames None
end_whole truncated scope stream frames count = kinds.end_whole (records scope) (pcap scope) (by scope) truncated stream frames count

pub end_within : (reader : PcapValue) (stream : List ℕ) (frames : List FrameValue) (count : ℕ) → is_some reader.state.header ≡ true
    → IsStateOf reader stream → IsEnded reader.scope stream (Err (Cut count)) → AreGiven reader.scope stream frames
    → Says true reader.scope stream frames (Some count)
end_within reader stream frames count begun state =
    kinds.end_within (records reader.scope) (pcap reader.scope) (by reader.scope) stream frames count reader.stage (IsRunning reader stream) reader.state
    (λ run. (reader.held, run.runs)) state begun

pub end_broken : (truncated : Bool) (reader : PcapValue) (stream : List ℕ) (fault : PcapFault)
    → ((k : ℕ) → fault ≡ Cut k → truncated ≡ true → is_some reader.state.header ≡ false) → IsStateOf reader stream
    → IsEnded reader.scope stream (Err fault) → Breaks truncated reader.scope stream fault
end_broken truncated reader stream fault unbegun state =
    kinds.end_broken (records reader.scope) (pcap reader.scope) (by reader.scope) truncated stream fault reader.stage (IsRunning reader stream) reader.state
    (λ run. (reader.held, run.runs)) state unbegun
