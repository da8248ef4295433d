use Rattle.std.proofs.Common.{◌<◌, ap, ◌∙◌, arith}
use Rattle.cf_fold.specs.Quads.{QuadValue, quad_of}
use Rattle.std.specs.List.{sum_by}
use Rattle.cf_scan.proofs.Chunks.{lists, parts_of_lists, lists_whole, parts_few}
use Rattle.cf_scan.proofs.total.scan_total.Goals as goal

pub merged-requires : goal.merged-requires
merged-requires g c =
    let some : 0 < 4096 = omega arith in
    let few = parts_few c.args.attr c.args.expr.now c.args.entries.now 4096 some in
    let is = ap (sum_by (λ (part : QuadValue). part.count)) (c.deref.ensures.value ∙ c.in_ok-parts.ensures) in
    record { few = omega (arith, few, is, c.requires.few) }

pub returns : goal.returns
returns g c =
    let some : 0 < 4096 = omega arith in
    let numbers = lists c.args.attr c.args.expr.now c.args.entries.now 4096 some in
    c.merged.ensures numbers (c.deref.ensures.value ∙ c.in_ok-parts.ensures ∙ parts_of_lists c.args.attr c.args.expr.now c.args.entries.now 4096 some)
    ∙ ap quad_of (lists_whole c.args.attr c.args.expr.now c.args.entries.now 4096 some)
