use Rattle.cf_plain.proofs.Replays.{replay_of_calls, replies_of_replay}
use Rattle.cf_plain.proofs.history.replies_are_histories.Goals as goal

pub returns : goal.returns
returns c = λ shape made answers. (replay_of_calls shape made answers, λ found. replies_of_replay shape made answers found.0 found.1)
