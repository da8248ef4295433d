use Rattle.std.proofs.Common.{◌<◌, ◌≤◌, ◌+◌, ◌∷◌, ◌++◌, [], length, ap, sym, subst, vec_capacity}
use Rattle.cf_shape.specs.Lanes.{ShapeValue}
use Rattle.cf_segments.specs.Segments.{SegmentsValue, segments_of, IsOpened, IsSegments, HasTurnedOver}
use Rattle.cf_segments.proofs.Chains.{has_turned, turn_lawful}
use Rattle.cf_segments.proofs.segments.Segments.turn_to.Goals as goal

-- the next segment is one of the shape
opened : (c : goal.After-push_reserved) → IsOpened (c.self.inside.current.log).shape c.args.next
opened c = subst (λ (h : ShapeValue). IsOpened h c.args.next) (ap (λ (s : SegmentsValue). s.shape) (sym c.self.view_is)) c.requires.next

-- there may be one more
room : (c : goal.After-push_reserved) → length c.self.inside.closed.items + 1 < c.self.inside.most
room c = subst (λ (s : SegmentsValue). length s.closed + 1 < s.most) (sym c.self.view_is) c.requires.room

pub invariant_of-self : goal.invariant_of-self
invariant_of-self c =
    let most = c.self.inside.most in
    let closed = c.self.inside.closed.items in
    let lawful : IsSegments (segments_of most (closed ++ c.self.inside.current ∷ []) c.args.next) =
    turn_lawful most closed c.self.inside.current c.args.next (opened c) (room c) c.self.invariant.0 in
    let now : IsSegments (segments_of most c.push_reserved.new.self.items c.replace-last.new.dest) =
    rw (c.push_reserved.ensures.items, c.replace-last.ensures.value, c.replace-last.ensures.after) lawful in
    let wide : most ≤ vec_capacity c.push_reserved.new.self = rw c.push_reserved.ensures.capacity c.self.invariant.1 in
    (now, wide)

pub returns : goal.returns
returns c =
    let most = c.self.inside.most in
    let closed = c.self.inside.closed.items in
    let made : HasTurnedOver (segments_of most closed c.self.inside.current) (segments_of most (closed ++ c.self.inside.current ∷ []) c.args.next) =
    has_turned most closed c.self.inside.current c.args.next (opened c) (room c) in
    let now : HasTurnedOver (segments_of most closed c.self.inside.current) (segments_of most c.push_reserved.new.self.items c.replace-last.new.dest) =
    rw (c.push_reserved.ensures.items, c.replace-last.ensures.value, c.replace-last.ensures.after) made in
    subst (λ (s : SegmentsValue). HasTurnedOver s (segments_of most c.push_reserved.new.self.items c.replace-last.new.dest)) c.self.view_is now
