use Rattle.std.proofs.Common.{subst, false}
use Rattle.cf_table.specs.Values.{PassValue}
use Rattle.cf_table.specs.Effects.{HasStepped, tail_effect}
use Rattle.cf_table.proofs.Folds.{folded}
use Rattle.cf_table.proofs.log.MultiLog.fold_token.Goals as goal

pub returns : goal.returns
returns c =
    let s = c.args.self.now.shape in
    folded s c.args.token.now c.args.other.view c.load_tail_token.new.token c.load_tail_token.result
    (subst (λ (h : PassValue). HasStepped s
    (tail_effect h.view false) h c.load_tail_token.result c.load_tail_token.new.token) c.join_token.ensures c.load_tail_token.ensures.made)
