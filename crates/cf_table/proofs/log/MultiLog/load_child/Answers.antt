use Rattle.cf_table.proofs.Calls.{calls_child, books_child}
use Rattle.cf_table.proofs.log.MultiLog.load_child.Goals as goal

pub load_as-requires-clause-lawful : goal.load_as-requires-clause-lawful
load_as-requires-clause-lawful g c =
    let s = c.args.self.now.shape in
    let p = (g.P.Pass.held c.args.pass.now).view in
    calls_child s p g.to.0 g.to.1 c.args.place c.requires.1.1.1

pub load_as-requires-clause-books : goal.load_as-requires-clause-books
load_as-requires-clause-books g c = books_child c.args.self.now.shape (g.P.Pass.held c.args.pass.now).view g.to.0 g.to.1
