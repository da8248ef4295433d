use Rattle.std.proofs.Common.{[], List, sym, subst}
use Rattle.cf_segments.specs.Segments.{HoldsRows, segments_of}
use Rattle.cf_segments.specs.declared.segments.Segment.{Segment}
use Rattle.cf_segments.proofs.Chains.{open_holds}
use Rattle.cf_segments.proofs.segments.Segments.open.Goals as goal

pub returns-clause-holds : goal.returns-clause-holds
returns-clause-holds c =
    let g = c.in_ok-current.current in
    subst (λ (gs : List Segment). HoldsRows (segments_of c.args.most gs g) []) (sym c.in_ok-closed.ensures.items)
    (open_holds c.args.shape g c.in_ok-current.ensures c.args.most c.requires)
