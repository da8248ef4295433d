use Rattle.std.proofs.Common.{◌≡◌, ◌<◌, ◌≤◌, ◌+◌, ◌++◌, ◌∷◌, [], List, length, take, get_or, sym, subst, arith, rules}
use Rattle.std.proofs.lemmas.List.{take_all, take_more}
use Rattle.std.specs.List.{AllZip}
use Rattle.cf_table.specs.Values.{PassValue}
use Rattle.cf_segments.specs.Readers.{Reads}
use Rattle.cf_segments.specs.Segments.{IsSegment, KeepsSegment}
use Rattle.cf_segments.specs.declared.segments.Segment.{Segment}
use Rattle.cf_segments.proofs.Changing.{changed_all, changed_at, changed_holds, changed_long, changed_more, changed_some}
use Rattle.cf_segments.proofs.Zips.{zip_long, zip_append}
use Rattle.cf_segments.proofs.Kept.{segment_none}
use Rattle.cf_segments.proofs.readers.readers_of.Goals as goal

pub reader-requires : goal.reader-requires
reader-requires g c =
    let i = c.loop-segment.segment-index in
    let now = c.loop-segment.closed in
    let low : i < length now = search rules in
    let is = c.requires.closed in
    record {
      is = (is.0, changed_holds KeepsSegment (IsSegment is.0) i c.args.closed.now now c.segment-item.result is.1 low c.loop-segment.invariant.kept);
    }

pub loop-segment-preserved : goal.loop-segment-preserved
loop-segment-preserved g c =
    let i = c.loop-segment.segment-index in
    let old = c.args.closed.now in
    let now = c.loop-segment.closed in
    let d = c.segment-item.result in
    let v = c.loop-segment.invariant in
    let low : i < length now = search rules in
    let there : i < length old = changed_long KeepsSegment i old now low v.kept in
    let reads : Reads (get_or old i d) c.reader.result =
    subst (λ (f : Segment). Reads f c.reader.result) (changed_at KeepsSegment i old now d v.kept) c.reader.ensures.reads in
    let items : c.push.new.self.items ≡ c.loop-segment.readers.items ++ c.reader.result ∷ [] = search rules in
    record {
      kept = changed_more KeepsSegment i old now d c.reader.new.self low v.kept c.reader.ensures.kept;
      read = subst (λ (fs : List Segment). AllZip Reads fs c.push.new.self.items) (sym (take_more old i d there))
          (subst (λ (rs : List PassValue). AllZip Reads (take i old ++ get_or old i d ∷ []) rs) (sym items)
          (zip_append Reads (take i old) (get_or old i d ∷ []) c.loop-segment.readers.items (c.reader.result ∷ []) v.read (reads, tt)));
    }

pub returns-in_err-push-clause-closed : goal.returns-in_err-push-clause-closed
returns-in_err-push-clause-closed g c =
    let i = c.loop-segment.segment-index in
    let now = c.loop-segment.closed in
    let low : i < length now = search rules in
    changed_some KeepsSegment segment_none (i + 1) c.args.closed.now _
    (changed_more KeepsSegment i c.args.closed.now now c.segment-item.result c.reader.new.self low c.loop-segment.invariant.kept c.reader.ensures.kept)

pub returns-clause-read : goal.returns-clause-read
returns-clause-read g c =
    let closed = c.args.closed.now in
    let current = c.args.current.now in
    let i = c.loop-segment.segment-index in
    let past : length c.loop-segment.closed ≤ i = search rules in
    let same = zip_long KeepsSegment closed c.loop-segment.closed
    (changed_all KeepsSegment i closed c.loop-segment.closed past c.loop-segment.invariant.kept) in
    let all : take i closed ≡ closed = take_all i closed (omega (arith, past, same)) in
    let items : c.push-2.new.self.items ≡ c.loop-segment.readers.items ++ c.reader-2.result ∷ [] = search rules in
    let first : AllZip Reads closed c.loop-segment.readers.items =
    subst (λ (fs : List Segment). AllZip Reads fs c.loop-segment.readers.items) all c.loop-segment.invariant.read in
    subst (λ (rs : List PassValue). AllZip Reads (closed ++ current ∷ []) rs) (sym items)
    (zip_append Reads closed (current ∷ []) c.loop-segment.readers.items (c.reader-2.result ∷ []) first (c.reader-2.ensures.reads, tt))
