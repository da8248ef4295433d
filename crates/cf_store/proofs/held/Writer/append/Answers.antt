use Rattle.std.specs.Arc.{arc_value}
use Rattle.cf_store.proofs.held.Writer.append.Goals as goal

pub append_by-requires : goal.append_by-requires
append_by-requires c = record { near = c.new.ensures (arc_value c.args.self.now.of).log.shape c.args.self.now.pass.view }
