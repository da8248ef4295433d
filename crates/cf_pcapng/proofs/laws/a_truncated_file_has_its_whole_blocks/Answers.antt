use Rattle.cf_pcapng.proofs.Truncating.{truncated_case}
use Rattle.cf_pcapng.proofs.laws.a_truncated_file_has_its_whole_blocks.Goals as goal

pub returns : goal.returns
returns c = truncated_case
