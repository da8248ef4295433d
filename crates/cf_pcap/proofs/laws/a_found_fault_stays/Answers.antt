use Rattle.cf_pcap.proofs.Ending.{found_stays}
use Rattle.cf_pcap.proofs.laws.a_found_fault_stays.Goals as goal

pub returns : goal.returns
returns c = found_stays
