use Rattle.std.proofs.Common.{◌<◌, ◌+◌, ◌++◌, length, map, ap, ◌∙◌, rules}
use Rattle.cf_row.specs.declared.row.Entry.{Entry}
use Rattle.cf_table.specs.Values.{IsOf}
use Rattle.cf_query.specs.Tags.{nums_of}
use Rattle.cf_segments.specs.Segments.{HasLooked, seen_of}
use Rattle.cf_segments.specs.declared.segments.Segment.{Segment}
use Rattle.cf_segments.proofs.Chains.{looked_none}
use Rattle.cf_segments.proofs.Changing.{changed_at, changed_holds, changed_long, changed_more, changed_some}
use Rattle.cf_segments.proofs.Tagging.{maps_more}
use Rattle.cf_segments.proofs.segments.push_each.Goals as goal

pub push_tags-requires : goal.push_tags-requires
push_tags-requires g c =
    let i = c.loop-segment.segment-index in
    let now = c.loop-segment.segments in
    let low : i < length now = search rules in
    record {
      of = changed_holds HasLooked
          (λ (s : Segment). IsOf s.root s.log) i c.args.segments.now now c.segment-item.result c.requires.of low c.loop-segment.invariant.looked;
    }

pub returns-in_err-push_tags-clause-looked : goal.returns-in_err-push_tags-clause-looked
returns-in_err-push_tags-clause-looked g c =
    let i = c.loop-segment.segment-index in
    let now = c.loop-segment.segments in
    let low : i < length now = search rules in
    changed_some HasLooked looked_none (i + 1) c.args.segments.now _
    (changed_more HasLooked i c.args.segments.now now c.segment-item.result c.push_tags.new.self low c.loop-segment.invariant.looked c.push_tags.ensures.looked)

pub loop-segment-preserved : goal.loop-segment-preserved
loop-segment-preserved g c =
    let i = c.loop-segment.segment-index in
    let old = c.args.segments.now in
    let now = c.loop-segment.segments in
    let d = c.segment-item.result in
    let v = c.loop-segment.invariant in
    let low : i < length now = search rules in
    let lt : i < length old = changed_long HasLooked i old now low v.looked in
    let at = changed_at HasLooked i old now d v.looked in record {
      looked = changed_more HasLooked i old now d c.push_tags.new.self low v.looked c.push_tags.ensures.looked;
      nums = maps_more (λ (e : Entry). e.row.num) c.args.nums.now.items c.loop-segment.nums.items c.push_tags.new.nums.items old i d lt v.nums
          (c.in_ok-push_tags.ensures.nums ∙ ap (λ (s : Segment). c.loop-segment.nums.items ++ nums_of (seen_of s)) at);
      writers = maps_more (λ (e : Entry). e.writer) c.args.writers.now.items c.loop-segment.writers.items c.push_tags.new.writers.items old i d lt v.writers
          (c.in_ok-push_tags.ensures.writers ∙ ap (λ (s : Segment). c.loop-segment.writers.items ++ map (λ (e : Entry). e.writer) (seen_of s)) at);
    }
