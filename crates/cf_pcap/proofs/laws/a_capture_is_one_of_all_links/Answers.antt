use Rattle.cf_pcap.proofs.Widening.{capture_of_all}
use Rattle.cf_pcap.proofs.laws.a_capture_is_one_of_all_links.Goals as goal

pub returns : goal.returns
returns c = capture_of_all
