-- What a reader of a stream says of it at its stage.
use Rattle.std.specs.Prelude.{◌≡◌, ℕ, List, [], Option, Some, None, Result, Ok, Err}
use Rattle.cf_pcap.specs.declared.stage.Stage.{Stage}
use Rattle.cf_pcap.specs.declared.stage.Stage.TheVariants.{Running, Stopped}
use Rattle.cf_pcap.specs.Format.{Format, IsFound}

-- what is so at a stage: this while the reader runs, and where it stopped, that the stream has the fault
abbrev pub IsAt : {S I F : Type 0} → Format S I F → List ℕ → Stage F → Type 0 → Type 0
IsAt f stream Running runs = runs
IsAt f stream (Stopped fault) runs = IsFound f stream fault

-- what holds of every reader at a stage: this while it runs, and where it stopped, it holds nothing, and want of memory didn't stop it
abbrev pub IsSoundAt : {F : Type 0} → F → List ℕ → Stage F → Type 0 → Type 0
IsSoundAt memory held Running runs = runs
IsSoundAt memory held (Stopped fault) runs = (fault ≡ memory → ⊥) × (held ≡ [])

-- a reader in this state after a stream that has found a fault answers it, and no want of memory
abbrev pub AnswersFound : {S I F : Type 0} → Format S I F → (List ℕ → Type 0) → Result (Unit {0}) F → Type 0
AnswersFound {F = F} f State answer = (stream : List ℕ) (fault : F) → State stream → IsFound f stream fault → answer ≡ Err fault

-- the fault that was found at this stage
abbrev pub found_at : {F : Type 0} → Stage F → Option F
found_at Running = None
found_at (Stopped fault) = Some fault

-- what a call that ends at this stage answers
abbrev pub answer_at : {F : Type 0} → Stage F → Result (Unit {0}) F
answer_at Running = Ok tt
answer_at (Stopped fault) = Err fault

-- the bytes that a reader keeps at a stage
abbrev pub kept_at : {F : Type 0} → Stage F → List ℕ → List ℕ
kept_at Running held = held
kept_at (Stopped fault) held = []
