use Rattle.cf_watch.proofs.Growing.{growing_stays}
use Rattle.cf_watch.proofs.laws.growing_marks_stay.Goals as goal

pub returns : goal.returns
returns c = growing_stays
