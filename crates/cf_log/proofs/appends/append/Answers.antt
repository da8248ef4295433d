use Rattle.cf_log.proofs.appends.append.Goals as goal

pub append_near-requires-clause-near : goal.append_near-requires-clause-near
append_near-requires-clause-near c = c.new.ensures c.args.log.now.shape c.args.pass.now.view
