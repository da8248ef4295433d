use Rattle.cf_shape.specs.Places.Slot.{cell}
use Rattle.cf_core.proofs.Making.{word_there}
use Rattle.cf_core.proofs.world.World.ticket_place.Goals as goal

pub returns-clause-there : goal.returns-clause-there
returns-clause-there c =
    let at = rw c.shape.ensures.shape at c.place_ticket.ensures in
    rw at (word_there c.args.self.now (cell c.args.offset c.args.index) c.shape.ensures.lawful (c.requires.offset, c.requires.word))
