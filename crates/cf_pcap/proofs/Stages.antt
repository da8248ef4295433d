-- Readers at a stage.
use Rattle.std.proofs.Common.{◌≡◌, inl, ℕ, List, [], ◌++◌, Some, Err, refl, sym, ap, subst}
use Rattle.cf_pcap.specs.declared.stage.Stage.{Stage}
use Rattle.cf_pcap.specs.declared.stage.Stage.TheVariants.{Running, Stopped}
use Rattle.cf_pcap.specs.Format.{Format, IsFound}
use Rattle.cf_pcap.specs.Streams.{IsStepper, IsFed}
use Rattle.cf_pcap.specs.Stages.{IsAt, IsSoundAt, AnswersFound, found_at, answer_at}
use Rattle.cf_pcap.proofs.Cases.{one_fault}
use Rattle.cf_pcap.proofs.FormatFeeding as feeding

pub running_of : {F : Type 0} (stage : Stage F) → ((fault : F) → stage ≡ Stopped fault → ⊥) → stage ≡ Running
running_of Running h = refl
running_of (Stopped fault) h = absurd (h fault refl)

-- while a reader runs, it is as one that runs
pub at_running : {S I F : Type 0} (f : Format S I F) (stream : List ℕ) (stage : Stage F) (runs : Type 0) → stage ≡ Running → IsAt f stream stage runs → runs
at_running f stream stage runs is at = subst (λ s. IsAt f stream s runs) is at

-- where it stopped, the stream has the fault
pub at_stopped : {S I F : Type 0} (f : Format S I F) (stream : List ℕ) (stage : Stage F) (runs : Type 0) (fault : F) → stage ≡ Stopped fault
    → IsAt f stream stage runs → IsFound f stream fault
at_stopped f stream stage runs fault is at = subst (λ s. IsAt f stream s runs) is at

-- the fault that a reader tells is one of the stream
pub at_found : {S I F : Type 0} (f : Format S I F) (stream : List ℕ) (stage : Stage F) (runs : Type 0) (fault : F) → found_at stage ≡ Some fault
    → IsAt f stream stage runs → IsFound f stream fault
at_found f stream Running runs fault is at = absurd (cc is)
at_found f stream (Stopped other) runs fault is at = let same : other ≡ fault = cc is in subst (λ x. IsFound f stream x) same at

-- a reader that has found a fault answers it
pub answers_stopped : {S I F : Type 0} (f : Format S I F) (fault : F) (stage : Stage F) (Runs : List ℕ → Type 0) → stage ≡ Stopped fault
    → AnswersFound f (λ stream. IsAt f stream stage (Runs stream)) (Err fault)
answers_stopped f fault stage Runs is = λ stream other state found.
    ap (λ x. Err x) (one_fault f stream fault other (inl (at_stopped f stream stage (Runs stream) fault is state)) (inl found))

-- one that a fault has stopped takes nothing
pub fed_stopped : {S I F : Type 0} (f : Format S I F) (is : IsStepper f) (fault : F) (stage : Stage F) (Runs : List ℕ → Type 0) (stream piece : List ℕ)
    → stage ≡ Stopped fault → IsAt f stream stage (Runs stream)
    → IsFed f stream piece [] (Err fault) (λ later. IsAt f later stage (Runs later))
fed_stopped f is fault stage Runs stream piece at state =
    feeding.fed_stopped f is stream piece fault (λ later. IsAt f later stage (Runs later))
    (at_stopped f stream stage (Runs stream) fault at state)
    (λ later. subst (λ s. IsAt f (stream ++ piece) s (Runs (stream ++ piece))) (sym at) later)

-- a reader at a sound stage answers no want of memory
pub no_memory : {F : Type 0} (memory : F) (held : List ℕ) (stage : Stage F) (runs : Type 0) → IsSoundAt memory held stage runs
    → answer_at stage ≡ Err memory → ⊥
no_memory memory held Running runs sound h = cc h
no_memory memory held (Stopped fault) runs sound h = sound.0 (cc h)
