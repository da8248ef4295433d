use Rattle.cf_history.proofs.Spelled.{spelled_is_history}
use Rattle.cf_plain.specs.Asks.{eval}
use Rattle.cf_query.proofs.Sealing.{are_told}
use Rattle.cf_query.proofs.history.seals_are_histories.Goals as goal

pub returns : goal.returns
returns c = λ shape seal passes all rise. spelled_is_history (eval shape) seal.entries passes (are_told shape seal.entries passes all) rise
