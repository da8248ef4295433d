use Rattle.cf_history.proofs.Placed.{placed}
use Rattle.cf_query.proofs.history.questions_keep_their_place.Goals as goal

pub returns : goal.returns
returns c = placed
