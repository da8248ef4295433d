use Rattle.std.proofs.Common.{rules}
use Rattle.cf_shape.proofs.Bounds.{lanes_lawful}
use Rattle.cf_shape.proofs.shape.Shape.new.Goals as goal

pub lawful-requires : goal.lawful-requires
lawful-requires c = record {
  schema = rw c.schema.view_is at c.schema.invariant.0;
  few = (let h = c.in_ok-check_numbers.ensures.few in search (rules, h));
  capacity = c.in_ok-check_numbers.ensures.capacity;
  writers = c.in_ok-check_numbers.ensures.writers;
  nodes = c.in_ok-check_numbers.ensures.nodes;
  width = c.in_ok-check_numbers.ensures.width;
  lanes = lanes_lawful c.args.schema c.args.lanes.items c.requires.belong (search rules) (search rules);
}
