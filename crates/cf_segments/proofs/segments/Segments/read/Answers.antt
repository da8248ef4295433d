use Rattle.std.proofs.Common.{◌≡◌, List, length, sym, rules}
use Rattle.std.specs.List.{AllZip}
use Rattle.cf_segments.specs.Segments.{HasLooked, segments_of}
use Rattle.cf_segments.specs.declared.segments.Segment.{Segment}
use Rattle.cf_segments.proofs.Zips.{zip_long}
use Rattle.cf_segments.proofs.Changing.{written_back}
use Rattle.cf_segments.proofs.Chains.{closed_are, current_is, have_none, looked_lawful}
use Rattle.cf_segments.proofs.segments.Segments.read.Goals as goal

pub returns-in_err-seals-clause-looked : goal.returns-in_err-seals-clause-looked
returns-in_err-seals-clause-looked c = have_none c.args.self.now

pub read_all-requires-clause-closed : goal.read_all-requires-clause-closed
read_all-requires-clause-closed c =
    rw c.as_mut_slice.ensures.value
    (λ k d lt. (closed_are (segments_of c.self.inside.most c.self.inside.closed.items c.self.inside.current) c.self.invariant.0 k d lt).of)

pub read_all-requires-clause-current : goal.read_all-requires-clause-current
read_all-requires-clause-current c = (current_is (segments_of c.self.inside.most c.self.inside.closed.items c.self.inside.current) c.self.invariant.0).of

pub invariant_of-self : goal.invariant_of-self
invariant_of-self c =
    let old = c.self.inside.closed in
    let new : List Segment = c.read_all.new.closed in
    let zip : AllZip HasLooked old.items new = rw c.as_mut_slice.ensures.value at c.read_all.ensures.closed in
    let same : length new ≡ length old.items = sym (zip_long HasLooked old.items new zip) in
    let len : old.len ≡ length old.items = search rules in
    rw (written_back new old.items old.len same len) (
      looked_lawful c.self.inside.most old.items new c.self.inside.current c.read_all.new.current c.self.invariant.0 zip c.read_all.ensures.current,
      c.self.invariant.1,
    )

pub invariant_of-self-2 : goal.invariant_of-self-2
invariant_of-self-2 c =
    let old = c.self.inside.closed in
    let new : List Segment = c.read_all.new.closed in
    let zip : AllZip HasLooked old.items new = rw c.as_mut_slice.ensures.value at c.read_all.ensures.closed in
    let same : length new ≡ length old.items = sym (zip_long HasLooked old.items new zip) in
    let len : old.len ≡ length old.items = search rules in
    rw (written_back new old.items old.len same len) (
      looked_lawful c.self.inside.most old.items new c.self.inside.current c.read_all.new.current c.self.invariant.0 zip c.read_all.ensures.current,
      c.self.invariant.1,
    )
