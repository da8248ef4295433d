use Rattle.cf_table.proofs.Reading.{looked_then}
use Rattle.cf_query.proofs.Loaded.{still_fit}
use Rattle.cf_query.proofs.apart.group_at.Goals as goal

pub amount_at-amount-requires-clause-fit : goal.amount_at-amount-requires-clause-fit
amount_at-amount-requires-clause-fit g c =
    let f = g.P.Pass.held c.args.pass.now in
    let m = g.P.Pass.held c.key_at-key.new.pass in
    let n = g.P.Pass.held c.by_at-by.new.pass in
    still_fit c.args.shape.now f n c.requires.fit (looked_then f m n c.key_at-key.ensures.looked.only c.by_at-by.ensures.looked.only)
