use Rattle.std.proofs.Common.{◌∙◌, ◌++◌, ℕ, List, ap, sym, subst}
use Rattle.cf_row.specs.declared.row.Entry.{Entry}
use Rattle.cf_walk.specs.Walks.{WentOver, leaf_places}
use Rattle.cf_walk.proofs.Walked.{walked_seen}
use Rattle.cf_walk.proofs.Ranges.{leaf_over, gap_over}
use Rattle.cf_walk.proofs.range.collect_key.Goals as goal

pub returns-in_ok-collect_leaf-in-Leaf-clause-found : goal.returns-in_ok-collect_leaf-in-Leaf-clause-found
returns-in_ok-collect_leaf-in-Leaf-clause-found g c =
    let s = c.args.log.now.shape in
    let seen = ((g.P.Pass.held c.args.pass.now).view).seen in
    let same = walked_seen (g.P.Pass.held c.args.pass.now) (g.P.Pass.held c.reach.new.pass) c.reach.ensures.walked.only in
    leaf_over s c.args.keys.lane c.args.keys.low c.args.keys.high seen c.args.found.now.items (c.collect_leaf.new.found).items c.requires.range
    (c.in_ok-collect_leaf-in-Leaf.ensures.found
    ∙ ap (λ (es : List Entry). c.args.found.now.items ++ leaf_places s c.args.keys.lane c.args.keys.low es s.writers) same)

pub returns-in-Gap-clause-found : goal.returns-in-Gap-clause-found
returns-in-Gap-clause-found g c =
    let s = c.args.log.now.shape in
    let seen = ((g.P.Pass.held c.args.pass.now).view).seen in
    let key = c.args.keys.low in
    let high = c.args.keys.high in
    let gap = c.in-Gap.ensures.reached in
    subst (λ (k : ℕ). WentOver s c.args.keys.lane key high seen c.args.found.now.items c.args.found.now.items k) (sym c.last_alike.ensures)
    (gap_over s c.args.keys.lane key high c.in-Gap.span seen c.args.found.now.items c.requires.range gap.0 gap.1)
