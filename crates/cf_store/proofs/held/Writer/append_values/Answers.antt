use Rattle.cf_store.proofs.Appended.{values_appended}
use Rattle.cf_store.proofs.held.Writer.append_values.Goals as goal

pub returns : goal.returns
returns c = values_appended c.args.number c.args.values.now c.args.self.now c.append.new.self c.in-Ok.row c.append.result c.in-Ok.ensures c.append.ensures
