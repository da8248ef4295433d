use Rattle.std.proofs.Common.{◌≡◌, List, length, sym, rules}
use Rattle.std.specs.List.{AllZip}
use Rattle.cf_segments.specs.Segments.{HasLooked, segments_of}
use Rattle.cf_segments.specs.declared.segments.Segment.{Segment}
use Rattle.cf_segments.proofs.Zips.{zip_long}
use Rattle.cf_segments.proofs.Changing.{written_back}
use Rattle.cf_segments.proofs.Chains.{closed_are, current_is, have_none, looked_lawful}
use Rattle.cf_segments.proofs.segments.Segments.read_columns.Goals as goal

pub returns-in_err-seals-clause-looked : goal.returns-in_err-seals-clause-looked
returns-in_err-seals-clause-looked g c = have_none c.args.self.now

pub read_tags-requires-clause-closed : goal.read_tags-requires-clause-closed
read_tags-requires-clause-closed g c =
    rw c.as_mut_slice-closed.ensures.value
    (λ k d lt. (closed_are (segments_of c.self.inside.most c.self.inside.closed.items c.self.inside.current) c.self.invariant.0 k d lt).of)

pub read_tags-requires-clause-current : goal.read_tags-requires-clause-current
read_tags-requires-clause-current g c = (current_is (segments_of c.self.inside.most c.self.inside.closed.items c.self.inside.current) c.self.invariant.0).of

pub invariant_of-self : goal.invariant_of-self
invariant_of-self g c =
    let old = c.self.inside.closed in
    let new : List Segment = c.read_tags.new.closed in
    let zip : AllZip HasLooked old.items new = rw c.as_mut_slice-closed.ensures.value at c.read_tags.ensures.closed in
    let same : length new ≡ length old.items = sym (zip_long HasLooked old.items new zip) in
    let len : old.len ≡ length old.items = search rules in
    rw (written_back new old.items old.len same len) (
      looked_lawful c.self.inside.most old.items new c.self.inside.current c.read_tags.new.current c.self.invariant.0 zip c.read_tags.ensures.current,
      c.self.invariant.1,
    )

pub invariant_of-self-2 : goal.invariant_of-self-2
invariant_of-self-2 g c =
    let old = c.self.inside.closed in
    let new : List Segment = c.read_tags.new.closed in
    let zip : AllZip HasLooked old.items new = rw c.as_mut_slice-closed.ensures.value at c.read_tags.ensures.closed in
    let same : length new ≡ length old.items = sym (zip_long HasLooked old.items new zip) in
    let len : old.len ≡ length old.items = search rules in
    rw (written_back new old.items old.len same len) (
      looked_lawful c.self.inside.most old.items new c.self.inside.current c.read_tags.new.current c.self.invariant.0 zip c.read_tags.ensures.current,
      c.self.invariant.1,
    )
