use Rattle.cf_pcapng.proofs.Filing.{one_case_of}
use Rattle.cf_pcapng.proofs.laws.each_file_is_in_one_case.Goals as goal

pub returns : goal.returns
returns c = one_case_of
