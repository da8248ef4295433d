use Rattle.std.proofs.Common.{◌≡◌, ◌<◌, ◌+◌, ◌++◌, List, length, take, get_or, sym, ap, ◌∙◌, rules}
use Rattle.std.proofs.lemmas.List.{flat_map_more, take_more}
use Rattle.std.specs.List.{flat_map}
use Rattle.cf_row.specs.declared.row.Entry.{Entry}
use Rattle.cf_table.specs.Values.{IsOf}
use Rattle.cf_segments.specs.Segments.{HasLooked, seen_of}
use Rattle.cf_segments.specs.declared.segments.Segment.{Segment}
use Rattle.cf_segments.proofs.Chains.{looked_none}
use Rattle.cf_segments.proofs.Changing.{changed_at, changed_holds, changed_long, changed_more, changed_some}
use Rattle.cf_segments.proofs.segments.push_entries.Goals as goal

pub entries-requires : goal.entries-requires
entries-requires c =
    let i = c.loop-segment.segment-index in
    let now = c.loop-segment.segments in
    let low : i < length now = search rules in
    record {
      of = changed_holds HasLooked
          (λ (g : Segment). IsOf g.root g.log) i c.args.segments.now now c.segment-item.result c.requires.of low c.loop-segment.invariant.looked;
    }

pub returns-in_err-more-clause-looked : goal.returns-in_err-more-clause-looked
returns-in_err-more-clause-looked c =
    let i = c.loop-segment.segment-index in
    let now = c.loop-segment.segments in
    let low : i < length now = search rules in
    changed_some HasLooked looked_none (i + 1) c.args.segments.now _
    (changed_more HasLooked i c.args.segments.now now c.segment-item.result c.entries.new.self low c.loop-segment.invariant.looked c.in_err-more.ensures.looked)

pub returns-in_err-append-clause-looked : goal.returns-in_err-append-clause-looked
returns-in_err-append-clause-looked c =
    let i = c.loop-segment.segment-index in
    let now = c.loop-segment.segments in
    let low : i < length now = search rules in
    changed_some HasLooked looked_none (i + 1) c.args.segments.now _
    (changed_more HasLooked i c.args.segments.now now c.segment-item.result c.entries.new.self low c.loop-segment.invariant.looked c.in_ok-more.ensures.looked)

pub loop-segment-preserved : goal.loop-segment-preserved
loop-segment-preserved c =
    let i = c.loop-segment.segment-index in
    let old = c.args.segments.now in
    let now = c.loop-segment.segments in
    let d = c.segment-item.result in
    let v = c.loop-segment.invariant in
    let low : i < length now = search rules in
    let more : List Entry = c.in_ok-more.more.items in
    let all : c.append.new.self.items ≡ c.loop-segment.entries.items ++ more = search rules in
    let same : more ≡ seen_of (get_or old i d) = c.in_ok-more.ensures.entries ∙ ap seen_of (changed_at HasLooked i old now d v.looked) in record {
      looked = changed_more HasLooked i old now d c.entries.new.self low v.looked c.in_ok-more.ensures.looked;
      entries = all
          ∙ (ap (λ (es : List Entry). es ++ more) v.entries
          ∙ (ap (λ (es : List Entry). (c.args.entries.now.items ++ flat_map seen_of (take i old)) ++ es) same
          ∙ (flat_map_more seen_of c.args.entries.now.items (take i old) (get_or old i d)
          ∙ ap (λ (gs : List Segment). c.args.entries.now.items ++ flat_map seen_of gs)
          (sym (take_more old i d (changed_long HasLooked i old now low v.looked))))));
    }
