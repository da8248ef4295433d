use Rattle.cf_pcap.proofs.Truncating.{truncated_case}
use Rattle.cf_pcap.proofs.laws.a_truncated_file_has_its_whole_records.Goals as goal

pub returns : goal.returns
returns c = truncated_case
