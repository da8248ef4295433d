use Rattle.cf_follow.proofs.LeftStreams.{taken_alike, watched_alike}
use Rattle.cf_follow.proofs.laws.watching_means_the_same.Goals as goal

pub returns : goal.returns
returns c = λ marks terms keeps. (watched_alike marks terms keeps, taken_alike marks terms keeps)
