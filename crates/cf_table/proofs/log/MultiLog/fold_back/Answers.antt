use Rattle.std.proofs.Common.{◌≡◌, [], subst}
use Rattle.cf_table.specs.Values.{PassValue}
use Rattle.cf_table.specs.Moves.{HasFolded}
use Rattle.cf_table.proofs.Counting.{folded_stays}
use Rattle.cf_table.proofs.log.MultiLog.fold_back.Goals as goal

pub returns-clause-stays : goal.returns-clause-stays
returns-clause-stays c =
    let s = c.args.self.now.shape in
    folded_stays s c.args.root.now c.args.pass.view c.fold_token.new.token
    (subst (λ (h : PassValue). HasFolded s h c.args.pass.view c.fold_token.new.token) c.root.view_is
    (subst (λ (h : PassValue). HasFolded s c.root.inside.token h.view c.fold_token.new.token) c.pass.view_is c.fold_token.ensures))
    (subst (λ (h : PassValue). (h.view).books ≡ []) c.pass.view_is c.pass.invariant)
