use Rattle.cf_pcap.proofs.Judging.{judged_alike}
use Rattle.cf_pcap.proofs.laws.files_are_judged_alike.Goals as goal

pub returns : goal.returns
returns c = judged_alike
