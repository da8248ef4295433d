use Rattle.std.proofs.Common.{arith, ◌∙◌}
use Rattle.std.proofs.lemmas.List.{map_push}
use Rattle.cf_segments.specs.Segments.{SegmentsValue, HasLooked, sealed}
use Rattle.cf_segments.proofs.Zips.{zip_long}
use Rattle.cf_segments.proofs.Chains.{all_sealed}
use Rattle.cf_segments.proofs.segments.Segments.close.Goals as goal

pub into_seals-seals-requires-clause-room : goal.into_seals-seals-requires-clause-room
into_seals-seals-requires-clause-room c =
    let wide = c.in-Ok.ensures.room.1 in
    let long = zip_long HasLooked c.args.self.closed (c.read.new.self).closed c.in-Ok.ensures.looked.closed in
    omega (arith, wide, long)

pub returns : goal.returns
returns c =
    let now : SegmentsValue = c.read.new.self in
    let seals = c.into_seals-seals.ensures ∙ (map_push sealed now.closed now.current ∙ all_sealed c.args.self now c.in-Ok.ensures.looked) in
    (c.in-Ok.ensures.entries, seals)
