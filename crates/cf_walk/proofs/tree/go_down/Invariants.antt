use Rattle.cf_law.specs.Words.{spot}
use Rattle.cf_law.specs.Nibbles.{nibbles}
use Rattle.cf_walk.specs.Walks.{turn_slot}
use Rattle.cf_walk.proofs.tree.go_down.Given as goal

abbrev pub ghost-load_turn : goal.ghost-load_turn
ghost-load_turn g a = (spot (a._turn).lane (nibbles (a._turn).level (a._turn).front), turn_slot (a._turn).lane (a._turn).level (a._turn).front (a._turn).node)
