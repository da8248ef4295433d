use Rattle.std.proofs.Common.{◌∙◌, sym}
use Rattle.cf_store.proofs.Appended.{plain_appended}
use Rattle.cf_store.proofs.held.Writer.append_plain.Goals as goal

pub returns : goal.returns
returns c =
    plain_appended c.args.number c.args.values.now c.args.self.now c.append.new.self c.in-Ok.row c.append.result
    (sym c.are_values.ensures ∙ c.if-not-are_values.false) c.in-Ok.ensures c.append.ensures
