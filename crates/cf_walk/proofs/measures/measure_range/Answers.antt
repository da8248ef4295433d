use Rattle.std.proofs.Common.{◌≡◌, ◌∙◌, ◌+◌, ◌-◌, ◌^◌, ap, arith}
use Rattle.cf_shape.specs.Lanes.{ShapeValue}
use Rattle.cf_shape.specs.Nodes.{levels_of}
use Rattle.cf_walk.proofs.Tallied.{covers_some, covers_none}
use Rattle.cf_walk.proofs.Measured.{total_is, total_none}
use Rattle.cf_walk.proofs.measures.measure_range.Goals as goal

pub returns-then-high-low-clause-quad : goal.returns-then-high-low-clause-quad
returns-then-high-low-clause-quad g c =
    let s = c.args.log.now.shape in
    let l = c.args.lane in
    let seen = ((g.P.Pass.held c.args.pass.now).view).seen in
    let most : c.greatest_key.result + 1 ≡ 16 ^ levels_of s l = c.greatest_key.ensures ∙ ap (λ (x : ShapeValue). 16 ^ levels_of x l) c.shape.ensures.shape in
    total_none s l c.args.range.0 c.args.range.1 seen c.shape.ensures.lawful c.requires.measures.exists c.requires.measures.reads.fit
    (covers_none s l c.args.range.0 c.args.range.1 c.greatest_key.result c.min-high.result most c.min-high.ensures c.if-high-low.true)

pub returns-clause-quad : goal.returns-clause-quad
returns-clause-quad g c =
    let s = c.args.log.now.shape in
    let l = c.args.lane in
    let low = c.args.range.0 in
    let high = c.args.range.1 in
    let seen = ((g.P.Pass.held c.args.pass.now).view).seen in
    let most : c.greatest_key.result + 1 ≡ 16 ^ levels_of s l = c.greatest_key.ensures ∙ ap (λ (x : ShapeValue). 16 ^ levels_of x l) c.shape.ensures.shape in
    let le = c.if-high-low.false in
    c.measure_keys.ensures.quad
    ∙ total_is s l low high (c.min-high.result - low + 1) seen c.shape.ensures.lawful c.requires.measures.exists c.requires.measures.reads.fit
    (covers_some s l low high c.greatest_key.result c.min-high.result most c.min-high.ensures (omega (arith, le)))
