use Rattle.cf_append.proofs.appends.append.Goals as goal

pub append_near-requires-clause-near : goal.append_near-requires-clause-near
append_near-requires-clause-near g c = c.new.ensures c.args.log.now.shape c.args.pass.now.view
