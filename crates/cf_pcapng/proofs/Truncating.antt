-- Captures that end within a block.
use Rattle.std.proofs.Common.{◌≡◌, inl, inr, ℕ, Bool, true, false, List, [], ◌∷◌, ◌++◌, take, Option, Some, None, Ok, Err, is_some, refl, sym, ap, subst, ◌∙◌}
use Rattle.cf_pcap.specs.declared.limit.Length.{Length}
use Rattle.cf_pcap.specs.Format.{Takes, Part as UnitPart, AreUnitsThen, IsCut, IsFound}
use Rattle.cf_pcap.specs.Streams.{AreGiven}
use Rattle.cf_pcap.specs.declared.scope.Scope.{Scope}
use Rattle.cf_pcap.specs.declared.form.Order.{Order}
use Rattle.cf_pcap.specs.Capture.{FrameValue}
use Rattle.cf_pcap.proofs.ByKind.{IsJudgedBy}
use Rattle.cf_pcap.proofs.ByKind as kinds
use Rattle.cf_pcap.proofs.Wholes.{EndsIn, MayEnd, begun_or_not}
use Rattle.cf_pcapng.specs.declared.fault.Flaw.{Flaw}
use Rattle.cf_pcapng.specs.declared.fault.Flaw.TheVariants.{BadMagic, BadVersion, BadLink, FrameTooLong, BadLength, NoInterface, TooManyInterfaces}
use Rattle.cf_pcapng.specs.declared.fault.NgFault.{NgFault}
use Rattle.cf_pcapng.specs.declared.fault.NgFault.TheVariants.{Cut, TooManyBytes}
use Rattle.cf_pcapng.specs.declared.head.BlockKind.{BlockKind}
use Rattle.cf_pcapng.specs.declared.head.BlockKind.TheVariants.{SectionHeader}
use Rattle.cf_pcapng.specs.declared.content.Content.{Content}
use Rattle.cf_pcapng.specs.declared.content.Content.TheVariants.{NewSection, NewInterface, Captures, Nothing}
use Rattle.cf_pcapng.specs.File.{State, fault_of, after, step, pcapng}
use Rattle.cf_pcapng.specs.Rules.{BlockStates, IsBlock, blocks}
use Rattle.cf_pcapng.specs.Reader.{PcapNgValue, IsRunning, IsStateOf, IsEnded}
use Rattle.cf_pcapng.specs.Truncated.{IsTruncated, Says, Breaks, HasBegun, TruncatedCase}
use Rattle.cf_pcapng.proofs.Steps.{wants_not_takes, stepper}
use Rattle.cf_pcapng.proofs.Ruling.{steps_by_rules}
use Rattle.cf_pcapng.proofs.Filing.{file_by_rules}

after_some : (l : Length) (s : State) (content : Content) → is_some s.order ≡ true → is_some (after l s content).order ≡ true
after_some l s (NewSection order) h = refl
after_some l s (NewInterface interface) h = h
after_some l s (Captures packet) h = h
after_some l s Nothing h = h

-- after a block a section has begun
block_some : (scope : Scope) (s : State) (bytes : List ℕ) (n : ℕ) (frames : List FrameValue) (t : State) → IsBlock scope s bytes n frames t
    → is_some t.order ≡ true
block_some scope s bytes n frames t h = ap (λ (x : State). is_some x.order) h.after_is ∙ elim h.block.head.begins [
  | inl section ↦
      let states : BlockStates scope s.interfaces h.order SectionHeader (take n bytes) h.content =
      subst (λ (k : BlockKind). BlockStates scope s.interfaces h.order k (take n bytes) h.content) section.0 h.states in
      ap (λ (c : Content). is_some (after scope.length s c).order) states.1
  | inr other ↦ after_some scope.length s h.content (ap (λ (x : Option Order). is_some x) other.within)
]

may_end : (scope : Scope) → MayEnd (pcapng scope)
may_end scope = record { start = refl; units = λ s bytes n items t h. block_some scope s bytes n items t ((steps_by_rules scope s bytes).takes n items t h) }

-- an end within a block is not found by its place
not_flaw : (k n : ℕ) (flaw : Flaw) → Cut k ≡ fault_of n flaw → ⊥
not_flaw k n BadMagic h = cc
not_flaw k n BadVersion h = cc
not_flaw k n BadLink h = cc
not_flaw k n FrameTooLong h = cc
not_flaw k n BadLength h = cc
not_flaw k n NoInterface h = cc
not_flaw k n TooManyInterfaces h = cc

pub not_found : (scope : Scope) (file : List ℕ) (k : ℕ) → IsFound (pcapng scope) file (Cut k) → ⊥
not_found scope file k (inl shows) =
    let found = (steps_by_rules scope shows.last shows.rest).bad (Cut k) shows.bad in not_flaw k shows.last.count found.0 found.1
not_found scope file k (inr many) = differ many.0 where
  differ : Cut k ≡ TooManyBytes → ⊥
  differ e = cc

one_cut : (a b : ℕ) → Cut a ≡ Cut b → a ≡ b
one_cut a b h = cc

pub by : (scope : Scope) → IsJudgedBy (blocks scope) (pcapng scope)
by scope = record {
  stepper = stepper scope;
  may_end = may_end scope;
  alike = file_by_rules scope;
  longest = refl;
  cut = λ s. refl;
  one_cut = one_cut;
  unfound = not_found scope;
}

header_so_far : (scope : Scope) (file : List ℕ) → HasBegun scope file → (last : State) (cut : IsCut (pcapng scope) file last)
    → (pcapng scope).may_end last ≡ true
header_so_far scope file has last cut =
    let begins : step scope (pcapng scope).start file ≡ Takes has.0 has.1 has.2 =
    (steps_by_rules scope (pcapng scope).start file).block has.0 has.1 has.2 has.3 in
    elim (begun_or_not (pcapng scope) (may_end scope) (pcapng scope).start cut.read.parts file last cut.rest cut.read.units) [
      | inl none ↦
          absurd (wants_not_takes has.0 has.1 has.2
          (sym cut.part ∙ ap (λ xs. step scope last xs) (sym none.1) ∙ ap (λ (x : State). step scope x file) (sym none.0) ∙ begins))
      | inr begun ↦ begun
    ]

unbegun_start : (scope : Scope) → (pcapng scope).may_end (pcapng scope).start ≡ true → ⊥
unbegun_start scope h = cc

begun_by : (scope : Scope) (parts : List (UnitPart State FrameValue)) (file : List ℕ) (last : State) (rest : List ℕ)
    → AreUnitsThen (pcapng scope) (pcapng scope).start parts file last rest → (pcapng scope).may_end last ≡ true → HasBegun scope file
begun_by scope [] file last rest h begun = absurd (unbegun_start scope (subst (λ (x : State). (pcapng scope).may_end x ≡ true) (sym h.0) begun))
begun_by scope (part ∷ parts) file last rest h begun =
    (part.size, part.items, part.after, (steps_by_rules scope (pcapng scope).start file).takes part.size part.items part.after h.0)

whole_so : (scope : Scope) (file : List ℕ) (frames : List FrameValue) → IsTruncated scope file frames → HasBegun scope file
whole_so scope file frames t =
    let e : EndsIn (pcapng scope) file frames = kinds.ends_of (blocks scope) (pcapng scope) (by scope) file frames t in
    begun_by scope e.read.parts file e.last e.rest e.read.units e.begun

pub truncated_case : (scope : Scope) (file : List ℕ) → TruncatedCase scope file
truncated_case scope file =
    kinds.truncated_case (blocks scope) (pcapng scope) (by scope) (HasBegun scope) file (header_so_far scope file) (whole_so scope file)

-- What a reader answers at the end.

pub end_whole : (truncated : Bool) (scope : Scope) (stream : List ℕ) (frames : List FrameValue) (count : ℕ) → IsEnded scope stream (Ok count)
    → AreGiven (pcapng scope) stream frames → Says truncated scope stream frames None
end_whole truncated scope stream frames count = kinds.end_whole (blocks scope) (pcapng scope) (by scope) truncated stream frames count

pub end_within : (reader : PcapNgValue) (stream : List ℕ) (frames : List FrameValue) (count : ℕ) → is_some reader.state.order ≡ true
    → IsStateOf reader stream → IsEnded reader.scope stream (Err (Cut count)) → AreGiven (pcapng reader.scope) stream frames
    → Says true reader.scope stream frames (Some count)
end_within reader stream frames count begun state =
    kinds.end_within (blocks reader.scope) (pcapng reader.scope) (by reader.scope) stream frames count reader.stage (IsRunning reader stream) reader.state
    (λ run. (run.gone ++ reader.held, run.runs)) state begun

pub end_broken : (truncated : Bool) (reader : PcapNgValue) (stream : List ℕ) (fault : NgFault)
    → ((k : ℕ) → fault ≡ Cut k → truncated ≡ true → is_some reader.state.order ≡ false) → IsStateOf reader stream
    → IsEnded reader.scope stream (Err fault) → Breaks truncated reader.scope stream fault
end_broken truncated reader stream fault unbegun state =
    kinds.end_broken (blocks reader.scope) (pcapng reader.scope) (by reader.scope) truncated stream fault reader.stage (IsRunning reader stream) reader.state
    (λ run. (run.gone ++ reader.held, run.runs)) state unbegun
