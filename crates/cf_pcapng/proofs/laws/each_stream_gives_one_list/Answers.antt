use Rattle.cf_pcap.proofs.Given.{one_gift}
use Rattle.cf_pcapng.specs.File.{pcapng}
use Rattle.cf_pcapng.proofs.Steps.{stepper}
use Rattle.cf_pcapng.proofs.laws.each_stream_gives_one_list.Goals as goal

pub returns : goal.returns
returns c = λ scope. one_gift (pcapng scope) (stepper scope)
