use Rattle.cf_setup.proofs.Shapes.{lanes_belong, no_fault}
use Rattle.cf_setup.proofs.setup.shape_with.Goals as goal

pub new-requires : goal.new-requires
new-requires c = record { belong = lanes_belong c.args.schema c.args.lanes.items c.requires.lanes }

pub unreachable-requires : goal.unreachable-requires
unreachable-requires c = no_fault _ c.requires _ c.in-Err.ensures.answer
