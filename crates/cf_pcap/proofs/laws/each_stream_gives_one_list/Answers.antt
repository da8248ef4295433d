use Rattle.cf_pcap.proofs.Given.{one_gift}
use Rattle.cf_pcap.specs.File.{pcap}
use Rattle.cf_pcap.proofs.Steps.{stepper}
use Rattle.cf_pcap.proofs.laws.each_stream_gives_one_list.Goals as goal

pub returns : goal.returns
returns c = λ scope. one_gift (pcap scope) (stepper scope)
