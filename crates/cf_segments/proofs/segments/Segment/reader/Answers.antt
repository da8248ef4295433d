use Rattle.cf_segments.proofs.Kept.{forked, asked_segment}
use Rattle.cf_segments.proofs.segments.Segment.reader.Goals as goal

pub returns-clause-kept : goal.returns-clause-kept
returns-clause-kept g c =
    let is = c.requires.is in
    rw (c.fork.ensures.root) (asked_segment is.0 c.args.self.now c.tail.new.pass is.1 c.tail.ensures.asked)

pub returns-clause-reads : goal.returns-clause-reads
returns-clause-reads g c =
    let is = c.requires.is in
    forked is.0 c.args.self.now c.tail.new.pass c.fork.result is.1 c.tail.ensures.asked c.fork.ensures.of c.fork.ensures.view
