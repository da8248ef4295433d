use Rattle.std.proofs.Common.{◌≡◌, IfOk, List, length, sym, subst, rules}
use Rattle.std.specs.List.{AllZip}
use Rattle.cf_segments.specs.Readers.{ArePartsOf}
use Rattle.cf_segments.specs.Segments.{SegmentsValue, KeepsAll, KeepsSegment, segments_of}
use Rattle.cf_segments.specs.declared.segments.Segment.{Segment}
use Rattle.cf_segments.proofs.Zips.{zip_long}
use Rattle.cf_segments.proofs.Changing.{written_back}
use Rattle.cf_segments.proofs.Chains.{closed_are, current_is, room_few}
use Rattle.cf_segments.proofs.Kept.{kept_both, kept_lawful}
use Rattle.cf_segments.proofs.segments.Segments.parts.Goals as goal

pub parts_of-requires-clause-closed : goal.parts_of-requires-clause-closed
parts_of-requires-clause-closed g c =
    let s : SegmentsValue = segments_of c.self.inside.most c.self.inside.closed.items c.self.inside.current in
    rw c.as_mut_slice.ensures.value (closed_are s c.self.invariant.0)

pub parts_of-requires-clause-current : goal.parts_of-requires-clause-current
parts_of-requires-clause-current g c =
    let s : SegmentsValue = segments_of c.self.inside.most c.self.inside.closed.items c.self.inside.current in
    current_is s c.self.invariant.0

pub parts_of-requires-clause-room : goal.parts_of-requires-clause-room
parts_of-requires-clause-room g c =
    let s : SegmentsValue = segments_of c.self.inside.most c.self.inside.closed.items c.self.inside.current in
    rw c.as_mut_slice.ensures.value (room_few s c.self.invariant.0)

pub invariant_of-self : goal.invariant_of-self
invariant_of-self g c =
    let most = c.self.inside.most in
    let old = c.self.inside.closed in
    let new : List Segment = c.parts_of.new.closed in
    let zip : AllZip KeepsSegment old.items new = rw c.as_mut_slice.ensures.value at c.parts_of.ensures.closed in
    let same : length new ≡ length old.items = sym (zip_long KeepsSegment old.items new zip) in
    let len : old.len ≡ length old.items = search rules in
    rw (written_back new old.items old.len same len) (
      kept_lawful _ _ (kept_both most old.items new c.self.inside.current c.parts_of.new.current zip c.parts_of.ensures.current) c.self.invariant.0,
      c.self.invariant.1,
    )

pub returns-clause-kept : goal.returns-clause-kept
returns-clause-kept g c =
    let most = c.self.inside.most in
    let old = c.self.inside.closed in
    let new : List Segment = c.parts_of.new.closed in
    let last = c.parts_of.new.current in
    let zip : AllZip KeepsSegment old.items new = rw c.as_mut_slice.ensures.value at c.parts_of.ensures.closed in
    let same : length new ≡ length old.items = sym (zip_long KeepsSegment old.items new zip) in
    let len : old.len ≡ length old.items = search rules in
    rw (written_back new old.items old.len same len)
    (subst (λ (s : SegmentsValue). KeepsAll s (segments_of most new last)) c.self.view_is
    (kept_both most old.items new c.self.inside.current last zip c.parts_of.ensures.current))

pub returns-clause-parts : goal.returns-clause-parts
returns-clause-parts g c =
    let most = c.self.inside.most in
    let made : IfOk c.parts_of.result (λ parts. ArePartsOf (segments_of most c.self.inside.closed.items c.self.inside.current) parts.items) =
    rw c.as_mut_slice.ensures.value at (c.parts_of.ensures.parts most) in
    subst (λ (s : SegmentsValue). IfOk c.parts_of.result (λ parts. ArePartsOf s parts.items)) c.self.view_is made
