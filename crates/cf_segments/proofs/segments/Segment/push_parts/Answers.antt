use Rattle.std.proofs.Common.{◌≡◌, ◌≤◌, ◌++◌, List, length, subst}
use Rattle.std.specs.List.{flat_map}
use Rattle.std.specs.Result.{OnOk}
use Rattle.cf_row.specs.declared.row.Entry.{Entry}
use Rattle.cf_scan.specs.Parts.{entries_in}
use Rattle.cf_segments.proofs.Cutting.{asked_reads, asked_seen}
use Rattle.cf_segments.proofs.Kept.{asked_segment}
use Rattle.cf_segments.proofs.segments.Segment.push_parts.Goals as goal

pub push_parts-requires : goal.push_parts-requires
push_parts-requires g c =
    let is = c.requires.is in
    record { reads = asked_reads is.0 c.args.self.now c.tail.new.pass is.1 c.tail.ensures.asked }

pub returns-clause-kept : goal.returns-clause-kept
returns-clause-kept g c =
    let is = c.requires.is in
    rw (c.push_parts.ensures.root) (asked_segment is.0 c.args.self.now c.tail.new.pass is.1 c.tail.ensures.asked)

pub returns-clause-few : goal.returns-clause-few
returns-clause-few g c =
    let is = c.requires.is in
    subst (λ (es : List Entry). length es ≤ (c.args.self.now.log).shape.capacity)
    (asked_seen is.0 c.args.self.now c.tail.new.pass is.1 c.tail.ensures.asked) c.tail.ensures.asked.few

pub returns-clause-entries : goal.returns-clause-entries
returns-clause-entries g c =
    let is = c.requires.is in
    subst (λ (es : List Entry). OnOk c.push_parts.result
    (flat_map entries_in c.push_parts.new.parts.items ≡ flat_map entries_in c.args.parts.now.items ++ es))
    (asked_seen is.0 c.args.self.now c.tail.new.pass is.1 c.tail.ensures.asked) c.push_parts.ensures.entries
