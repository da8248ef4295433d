use Rattle.cf_shape.proofs.Slots.{places_differ}
use Rattle.cf_shape.proofs.laws.places_differ.Goals as goal

pub returns : goal.returns
returns c = places_differ
