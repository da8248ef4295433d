-- How a log is closed.
use Rattle.std.specs.Prelude.{◌≡◌, ℕ, List, [], All, Result, Ok, Err}
use Rattle.std.specs.Arc.{arc_value}
use Rattle.std.specs.List.{AllZip}
use Rattle.cf_law.specs.Steps.{new_pass}
use Rattle.cf_table.specs.Values.{PassValue}
use Rattle.cf_table.specs.Moves.{HasGathered}
use Rattle.cf_log.specs.Writers.{HasJoined}
use Rattle.cf_store.specs.Homes.{AreAtHome, Comes, IsAwayAt, IsHome, Keeps, PlaceValue}
use Rattle.cf_store.specs.declared.refusals.CloseRefusal.{CloseRefusal}
use Rattle.cf_store.specs.declared.refusals.CloseRefusal.TheVariants.{Busy, Memory}
use Rattle.cf_store.specs.Opens.{IsLogWith}
use Rattle.cf_store.specs.declared.held.Log.{Log}
use Rattle.cf_store.specs.declared.held.Reader.{Reader}

-- a writer is taken, and its pass was not on its way home
abbrev pub IsTaken : List PlaceValue → Type 0
IsTaken places = (k : ℕ) × IsAwayAt places k

-- the passes of all writers, which are at home, were gathered in the root, and the pass has seen what the root has then
pub record IsEnd (log : Log) (pass : PassValue) : Type 0 where
  pub passes : List PassValue
  pub root : PassValue
  pub home : AreAtHome log.places.items passes
  pub gathered : HasGathered (arc_value log.of).log.shape log.root passes root
  pub seen : pass.view ≡ new_pass [] (root.view).seen

-- The passes of all writers were at home or came home, in the order of the writers' numbers, and were joined to the root: the log has the rows
-- of each, in order, and no others. The reader has seen what the root has then: all records that the writers have finished, each once, at its
-- offset, with its writer, and nothing else.
pub record IsClosed (log : Log) (reader : Reader) : Type 0 where
  pub passes : List PassValue
  pub root : PassValue
  pub come : AllZip Comes log.places.items passes
  pub joined : HasJoined (arc_value log.of).log log.root passes root
  pub of : arc_value reader.of ≡ arc_value log.of
  pub seen : reader.pass.view ≡ new_pass [] (root.view).seen
  pub words : reader.words.items ≡ []

-- A log was closed; or a writer is taken; or none is, and there was no memory. A log that is not closed comes back as it was, but for passes
-- that came home.
abbrev pub Closes : Log → Result Reader (Log × CloseRefusal) → Type 0
Closes m (Ok reader) = IsClosed m reader
Closes m (Err (n, Busy)) = IsLogWith n.places.items m n × AllZip Keeps m.places.items n.places.items × IsTaken n.places.items
Closes m (Err (n, Memory)) = IsLogWith n.places.items m n × AllZip Keeps m.places.items n.places.items × All IsHome n.places.items
