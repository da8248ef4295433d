use Rattle.std.proofs.Common.{◌∙◌, ℕ, ap, sym, subst}
use Rattle.cf_shape.specs.Lanes.{ShapeValue}
use Rattle.cf_window.specs.Segments.{HasEnough, with_nodes}
use Rattle.cf_window.proofs.Taken.{empty_segment, empty_value}
use Rattle.cf_window.proofs.segment.WindowSegment.open.Goals as goal

pub open-requires : goal.open-requires
open-requires c = record { one = ap (λ (s : ShapeValue). s.writers) c.in_ok-log_shape.ensures.0 ∙ c.requires.one }

pub invariant_of-result : goal.invariant_of-result
invariant_of-result c =
    let log = c.in_ok-log_shape.field-0 in
    let enough = subst (λ (n : ℕ). HasEnough log n) (sym c.nodes-nodes.ensures.nodes) c.in_ok-log_shape.ensures.1 in
    empty_segment log c.in_ok-solo.solo c.nodes-nodes.result enough c.in_ok-solo.ensures

pub returns : goal.returns
returns c =
    let log = c.in_ok-log_shape.field-0 in
    empty_value log c.args.shape c.in_ok-solo.solo c.nodes-nodes.result c.in_ok-solo.ensures
    (ap (λ (n : ℕ). with_nodes log n) c.nodes-nodes.ensures.nodes ∙ c.in_ok-log_shape.ensures.0)
