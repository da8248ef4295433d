-- Whole files, and files of which only the front counts.
use Rattle.std.proofs.Common.{◌≡◌, ◌⊎◌, inl, inr, ℕ, ◌≤◌, ◌+◌, List, [], ◌++◌, length, Result, Ok, Err, MatchResult, sym, ap, subst, ◌∙◌, append-nil}
use Rattle.cf_pcap.specs.Limits.{IsAtLimit, number_of}
use Rattle.cf_pcap.specs.Format.{Format, IsWhole, HasFault}
use Rattle.cf_pcap.specs.Streams.{IsStepper, AreGiven, IsFed, IsEnded}
use Rattle.cf_pcap.proofs.Limits.{none_short, not_both, limit_long}
use Rattle.cf_pcap.proofs.FormatUnits.{reads_nothing, wants_none}
use Rattle.cf_pcap.proofs.Seen.{early_short}
use Rattle.cf_pcap.proofs.Cases.{found_more}
use Rattle.cf_pcap.proofs.Given.{given_of, one_given}

-- what a file's first bytes say of it, where they are all of it or just too many
pub fault_of_front : {S I F : Type 0} (f : Format S I F) (is : IsStepper f) (front rest : List ℕ) (fault : F) → (rest ≡ []) ⊎ IsAtLimit f.length (length front)
    → HasFault f front fault → HasFault f (front ++ rest) fault
fault_of_front f is front rest fault (inl none) h = subst (λ (xs : List ℕ). HasFault f xs fault) (sym (ap (λ xs. front ++ xs) none ∙ append-nil front)) h
fault_of_front f is front rest fault (inr full) (inl found) = inl (found_more f is front rest fault found)
fault_of_front f is front rest fault (inr full) (inr cut) = absurd (not_both f.length (length front) cut.2.size (limit_long f.length (length front) full))

-- a whole file gives its items
pub whole_gives : {S I F : Type 0} (f : Format S I F) (is : IsStepper f) (file : List ℕ) (items : List I) → IsWhole f file items → AreGiven f file items
whole_gives f is file items whole =
    given_of f file file items whole.last [] (early_short f.length file whole.size) whole.read (wants_none f whole.last [] (is.nothing whole.last))

empty_gives : {S I F : Type 0} (f : Format S I F) (is : IsStepper f) (items : List I) → AreGiven f [] items → items ≡ []
empty_gives f is items given =
    one_given f [] items [] given
    (given_of f [] [] [] f.start [] (early_short f.length [] (none_short f.length)) (reads_nothing f f.start []) (wants_none f f.start [] (is.nothing f.start)))

-- what a new reader gives of the first piece is what that piece gives as a stream
pub fed_first : {S I F : Type 0} (f : Format S I F) (is : IsStepper f) (piece : List ℕ) (given : List I) (answer : Result (Unit {0}) F)
    (State : List ℕ → Type 0) → IsFed f [] piece given answer State → AreGiven f piece given
fed_first {S} {I} f is piece given answer State fed =
    let none : fed.before ≡ [] = empty_gives f is fed.before fed.given_before in
    subst (λ (xs : List I). AreGiven f piece (xs ++ given)) none fed.given_now

-- a whole file as one piece for a new reader: the fault that a call answers is the file's
pub whole_fault : {S I F : Type 0} (f : Format S I F) (file : List ℕ) (given : List I) (fault : F) (State : List ℕ → Type 0)
    → IsFed f [] file given (Err fault) State → HasFault f file fault
whole_fault f file given fault State fed = inl fed.answer_is

-- the same, and then the end: a whole file of just the items given, or the file's fault
pub whole_fed : {S I F : Type 0} (f : Format S I F) (is : IsStepper f) (file : List ℕ) (given : List I) (State : List ℕ → Type 0)
    (answer : Result (Unit {0}) F) (end : Result ℕ F) → IsFed f [] file given answer State → ((stream : List ℕ) → State stream → IsEnded f stream end)
    → MatchResult end (λ count. IsWhole f file given × (count ≡ number_of f.length (length given))) (HasFault f file)
whole_fed {S} {I} f is file given State answer (Ok count) fed ended =
    let found = ended file fed.state in
    let same : found.0 ≡ given = one_given f file found.0 given (whole_gives f is file found.0 found.1) (fed_first f is file given answer State fed) in
    (subst (λ (xs : List I). IsWhole f file xs) same found.1, found.2 ∙ ap (λ (xs : List I). number_of f.length (length xs)) same)
whole_fed f is file given State answer (Err fault) fed ended = ended file fed.state
