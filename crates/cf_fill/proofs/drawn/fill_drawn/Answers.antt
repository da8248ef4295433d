use Rattle.std.proofs.Common.{◌≡◌, rules}
use Rattle.cf_fill.specs.Filling.{IsFilled}
use Rattle.cf_fill.proofs.Drawing.{drawn_taken, drawn_memory}
use Rattle.cf_fill.proofs.drawn.fill_drawn.Goals as goal

pub returns-in-Ok-clause-filled : goal.returns-in-Ok-clause-filled
returns-in-Ok-clause-filled g c =
    drawn_taken (IsFilled c.fill_packets.new.filling) c.args.seed c.args.count c.in_ok-shelf.shelf.rest c.fill_packets.new.shelf.rest c.in-Ok.field-0
    c.requires.count c.in_ok-shelf.ensures c.in-Ok.ensures.taken

pub unreachable-requires : goal.unreachable-requires
unreachable-requires g c =
    drawn_memory (λ cut what. (what.cut ≡ cut) × IsFilled c.fill_packets.new.filling what.rows)
    c.args.seed c.args.count c.in_ok-shelf.shelf.rest c.fill_packets.new.shelf.rest c.in-Err.field-0 c.requires.count c.in_ok-shelf.ensures
    c.in-Err.ensures.taken c.in-Err.ensures.cause (search rules)
