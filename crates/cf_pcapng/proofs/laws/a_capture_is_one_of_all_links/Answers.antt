use Rattle.cf_pcapng.proofs.Widening.{file_of_all}
use Rattle.cf_pcapng.proofs.laws.a_capture_is_one_of_all_links.Goals as goal

pub returns : goal.returns
returns c = file_of_all
