use Rattle.std.proofs.Common.{◌≡◌, ◌<◌, ◌+◌, length, rules, arith, subst}
use Rattle.cf_segments.specs.Segments.{SegmentsValue}
use Rattle.cf_segments.proofs.segments.Segments.turn.Goals as goal

pub turn_to-requires-clause-room : goal.turn_to-requires-clause-room
turn_to-requires-clause-room c =
    let few = c.self.invariant.0.few in
    let other = c.if-len-self.false in
    let len = c.len.ensures in
    let same : c.self.inside.closed.len ≡ length c.self.inside.closed.items = search rules in
    subst (λ (s : SegmentsValue). length s.closed + 1 < s.most) c.self.view_is (omega (arith, few, other, len, same))
