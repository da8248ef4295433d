use Rattle.cf_headers.proofs.Flowing.{one_flow}
use Rattle.cf_headers.proofs.flow.both_directions_have_one_flow.Goals as goal

pub returns : goal.returns
returns c = one_flow
