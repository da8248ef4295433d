-- Each file is a capture or has one fault.
use Rattle.std.proofs.Common.{ℕ, List}
use Rattle.cf_pcap.specs.declared.scope.Scope.{Scope}
use Rattle.cf_pcap.specs.File.{pcap}
use Rattle.cf_pcap.specs.Laws.{OneCase, records}
use Rattle.cf_pcap.proofs.Steps.{stepper}
use Rattle.cf_pcap.proofs.Judging.{judged_alike}
use Rattle.cf_pcap.proofs.ByKind as kinds

pub one_case : (scope : Scope) (file : List ℕ) → OneCase scope file
one_case scope file = kinds.one_case (records scope) (pcap scope) (stepper scope) file (judged_alike scope file)
