use Rattle.std.proofs.Common.{◌∙◌, ℕ, List, ap, sym, subst}
use Rattle.cf_row.specs.declared.row.Entry.{Entry}
use Rattle.cf_fold.specs.Quads.{quad_of}
use Rattle.cf_walk.specs.Walks.{leaf_amounts}
use Rattle.cf_walk.specs.Measures.{HasMeasured}
use Rattle.cf_walk.proofs.Walked.{measuring_then, walked_seen}
use Rattle.cf_walk.proofs.Measured.{leaf_measured, gap_measured}
use Rattle.cf_walk.proofs.measures.measure_key.Goals as goal

pub leaf_quad-requires-clause-measures : goal.leaf_quad-requires-clause-measures
leaf_quad-requires-clause-measures g c = measuring_then c.reach.ensures.walked.only c.requires.measures

pub returns-in-Leaf-clause-quad : goal.returns-in-Leaf-clause-quad
returns-in-Leaf-clause-quad g c =
    let s = c.args.log.now.shape in
    let same = walked_seen (g.P.Pass.held c.args.pass.now) (g.P.Pass.held c.reach.new.pass) c.reach.ensures.walked.only in
    leaf_measured s c.args.keys.lane c.args.keys.low c.args.keys.high ((g.P.Pass.held c.args.pass.now).view).seen c.leaf_quad.result c.requires.range
    (c.leaf_quad.ensures.quad ∙ ap (λ (es : List Entry). quad_of (leaf_amounts s c.args.keys.lane c.args.keys.low es s.writers)) same)

pub returns-in-Gap-clause-quad : goal.returns-in-Gap-clause-quad
returns-in-Gap-clause-quad g c =
    let s = c.args.log.now.shape in
    let seen = ((g.P.Pass.held c.args.pass.now).view).seen in
    let key = c.args.keys.low in
    let high = c.args.keys.high in
    let gap = c.in-Gap.ensures.reached in
    subst (λ (k : ℕ). HasMeasured s c.args.keys.lane key high seen (record { count = 0; sum = 0; least = 0; greatest = 0 }) k) (sym c.last_alike.ensures)
    (gap_measured s c.args.keys.lane key high c.in-Gap.span seen c.requires.range gap.0 gap.1)
