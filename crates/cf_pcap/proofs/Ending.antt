-- Whole files, and files of which only the front counts.
use Rattle.std.proofs.Common.{◌≡◌, ◌⊎◌, inl, ℕ, List, [], ◌++◌, length, Result, Ok, Err, MatchResult}
use Rattle.cf_pcap.specs.Limits.{IsAtLimit, number_of}
use Rattle.cf_pcap.proofs.Cases.{found_more}
use Rattle.cf_pcap.proofs.FormatEnding as streams
use Rattle.cf_pcap.specs.declared.scope.Scope.{Scope}
use Rattle.cf_pcap.specs.declared.fault.PcapFault.{PcapFault}
use Rattle.cf_pcap.specs.Capture.{FrameValue, IsCapture, HasPcapFault}
use Rattle.cf_pcap.specs.File.{pcap}
use Rattle.cf_pcap.specs.Stream.{IsFound, PcapValue, IsStateOf, IsFed, IsEnded}
use Rattle.cf_pcap.proofs.Steps.{stepper}
use Rattle.cf_pcap.proofs.Judging.{judged_alike}

-- a fault that was found is that of every file which begins so
pub found_stays : (scope : Scope) (stream more : List ℕ) (fault : PcapFault) → IsFound scope stream fault → HasPcapFault scope (stream ++ more) fault
found_stays scope stream more fault found =
    (judged_alike scope (stream ++ more)).fault fault (inl (found_more (pcap scope) (stepper scope) stream more fault found))

-- what a file's first bytes say of it, where they are all of it or just too many
pub fault_of_front : (scope : Scope) (front rest : List ℕ) (fault : PcapFault) → (rest ≡ []) ⊎ IsAtLimit scope.length (length front)
    → HasPcapFault scope front fault
    → HasPcapFault scope (front ++ rest) fault
fault_of_front scope front rest fault whole h =
    (judged_alike scope (front ++ rest)).fault fault
    (streams.fault_of_front (pcap scope) (stepper scope) front rest fault whole ((judged_alike scope front).is_fault fault h))

-- a whole file as one piece for a new reader: the fault that `feed` answers is the file's
pub whole_fault : (file : List ℕ) (given : List FrameValue) (fault : PcapFault) (reader : PcapValue) → IsFed [] file given (Err fault) reader
    → HasPcapFault reader.scope file fault
whole_fault file given fault reader fed =
    (judged_alike reader.scope file).fault fault (streams.whole_fault (pcap reader.scope) file given fault (IsStateOf reader) fed)

-- the same, and then `finish`: a capture of just the frames given, or the file's fault
pub whole_fed : (file : List ℕ) (given : List FrameValue) (reader : PcapValue) (answer : Result (Unit {0}) PcapFault) (end : Result ℕ PcapFault)
    → IsFed [] file given answer reader → ((stream : List ℕ) → IsStateOf reader stream → IsEnded reader.scope stream end)
    → MatchResult end (λ count. IsCapture reader.scope file given × (count ≡ number_of reader.scope.length (length given))) (HasPcapFault reader.scope file)
whole_fed file given reader answer (Ok count) fed ended =
    let whole = streams.whole_fed (pcap reader.scope) (stepper reader.scope) file given (IsStateOf reader) answer (Ok count) fed ended in
    ((judged_alike reader.scope file).capture given whole.0, whole.1)
whole_fed file given reader answer (Err fault) fed ended =
    (judged_alike reader.scope file).fault fault
    (streams.whole_fed (pcap reader.scope) (stepper reader.scope) file given (IsStateOf reader) answer (Err fault) fed ended)
