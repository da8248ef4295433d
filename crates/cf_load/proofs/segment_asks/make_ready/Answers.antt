use Rattle.std.proofs.Common.{◌≡◌, ◌*◌, ◌<◌, ℕ, ap, ap₂, sym, ◌∙◌, arith}
use Rattle.std.specs.List.{flat_map}
use Rattle.cf_shape.specs.Lanes.{ShapeValue}
use Rattle.cf_segments.specs.Segments.{SegmentsValue, KeepsSegment, entries_of, room_of, seen_of}
use Rattle.cf_load.specs.Planned.{findings_on}
use Rattle.cf_segments.proofs.Zips.{zip_long}
use Rattle.cf_segments.proofs.Kept.{goes_none, goes_then, goes_turned, kept_entries, kept_goes, kept_holds, kept_most, kept_shape, kept_told}
use Rattle.cf_load.proofs.Turned.{knows_kept, knows_turned, may_turn, turned_full, turned_room}
use Rattle.cf_load.proofs.segment_asks.make_ready.Goals as goal

pub returns-then-count-base-clause-same : goal.returns-then-count-base-clause-same
returns-then-count-base-clause-same c = goes_none c.args.segments.now

-- refused when the questions were asked

pub returns-in_err-findings-clause-same : goal.returns-in_err-findings-clause-same
returns-in_err-findings-clause-same c = kept_goes c.args.segments.now c.found_now.new.segments c.found_now.ensures.kept

pub returns-in_err-findings-clause-entries : goal.returns-in_err-findings-clause-entries
returns-in_err-findings-clause-entries c = kept_entries c.args.segments.now c.found_now.new.segments c.found_now.ensures.kept

pub returns-in_err-findings-clause-told : goal.returns-in_err-findings-clause-told
returns-in_err-findings-clause-told c = kept_told c.args.segments.now c.found_now.new.segments c.found_now.ensures.kept

pub returns-in_err-findings-clause-holds : goal.returns-in_err-findings-clause-holds
returns-in_err-findings-clause-holds c rows long holds = kept_holds c.args.segments.now c.found_now.new.segments c.found_now.ensures.kept rows holds

pub returns-in_err-findings-clause-known : goal.returns-in_err-findings-clause-known
returns-in_err-findings-clause-known c =
    knows_kept c.args.segments.now c.found_now.new.segments c.args.plan.now c.args.found.now c.found_now.ensures.kept c.requires.known

-- refused when the next segment was opened

pub returns-in_err-next-clause-same : goal.returns-in_err-next-clause-same
returns-in_err-next-clause-same c = kept_goes c.args.segments.now c.found_now.new.segments c.found_now.ensures.kept

pub returns-in_err-next-clause-entries : goal.returns-in_err-next-clause-entries
returns-in_err-next-clause-entries c = kept_entries c.args.segments.now c.found_now.new.segments c.found_now.ensures.kept

pub returns-in_err-next-clause-told : goal.returns-in_err-next-clause-told
returns-in_err-next-clause-told c = kept_told c.args.segments.now c.found_now.new.segments c.found_now.ensures.kept

pub returns-in_err-next-clause-holds : goal.returns-in_err-next-clause-holds
returns-in_err-next-clause-holds c rows long holds = kept_holds c.args.segments.now c.found_now.new.segments c.found_now.ensures.kept rows holds

pub returns-in_err-next-clause-known : goal.returns-in_err-next-clause-known
returns-in_err-next-clause-known c =
    knows_kept c.args.segments.now c.found_now.new.segments c.args.plan.now c.args.found.now c.found_now.ensures.kept c.requires.known

-- the segments turn

pub turn_to-requires-clause-room : goal.turn_to-requires-clause-room
turn_to-requires-clause-room c =
    let s : SegmentsValue = c.args.segments.now in
    let t : SegmentsValue = c.found_now.new.segments in
    let keeps = c.found_now.ensures.kept in
    let size : c.capacity.result ≡ (s.shape).capacity = c.capacity.ensures.capacity ∙ ap (λ (h : ShapeValue). h.capacity) c.shape.ensures.shape in
    let base = c.base.ensures in
    let past = c.if-count-base.false in
    let may = may_turn s c.args.count c.requires.room (omega (arith, size, base, past)) in
    let long = zip_long KeepsSegment s.closed t.closed keeps.closed in
    let most = kept_most s t keeps in
    omega (arith, may, long, most)

pub returns-clause-same : goal.returns-clause-same
returns-clause-same c =
    let s : SegmentsValue = c.args.segments.now in
    let t : SegmentsValue = c.found_now.new.segments in
    goes_then s t c.turn_to.new.self (kept_goes s t c.found_now.ensures.kept) (goes_turned t c.turn_to.new.self c.turn_to.ensures)

pub returns-clause-entries : goal.returns-clause-entries
returns-clause-entries c = c.turn_to.ensures.entries ∙ kept_entries c.args.segments.now c.found_now.new.segments c.found_now.ensures.kept

pub returns-clause-told : goal.returns-clause-told
returns-clause-told c = c.turn_to.ensures.told ∙ kept_told c.args.segments.now c.found_now.new.segments c.found_now.ensures.kept

pub returns-clause-holds : goal.returns-clause-holds
returns-clause-holds c rows long holds =
    let s : SegmentsValue = c.args.segments.now in
    let t : SegmentsValue = c.found_now.new.segments in
    let keeps = c.found_now.ensures.kept in
    let size : c.capacity.result ≡ (s.shape).capacity = c.capacity.ensures.capacity ∙ ap (λ (h : ShapeValue). h.capacity) c.shape.ensures.shape in
    let base = c.base.ensures in
    let past = c.if-count-base.false in
    c.turn_to.ensures.holds rows (kept_holds s t keeps rows holds) (turned_full s t rows c.args.count keeps holds long (omega (arith, size, base, past)))

pub returns-clause-room : goal.returns-clause-room
returns-clause-room c =
    let s : SegmentsValue = c.args.segments.now in
    let t : SegmentsValue = c.found_now.new.segments in
    let keeps = c.found_now.ensures.kept in
    let had = c.requires.holds in
    let there = had.1 in
    let size : c.capacity.result ≡ (s.shape).capacity = c.capacity.ensures.capacity ∙ ap (λ (h : ShapeValue). h.capacity) c.shape.ensures.shape in
    let base = c.base.ensures in
    let past = c.if-count-base.false in
    let all = turned_full s t had.0 c.args.count keeps had.2 had.1 (omega (arith, size, base, past)) in
    let room : room_of t ≡ room_of s = ap₂ (λ (m : ℕ) (h : ShapeValue). m * h.capacity) (kept_most s t keeps) (kept_shape s t keeps) in
    let within = c.requires.room in
    turned_room t c.turn_to.new.self c.args.count c.turn_to.ensures (omega (arith, room, within)) (omega (arith, there, all))

pub returns-clause-known : goal.returns-clause-known
returns-clause-known c =
    let s : SegmentsValue = c.args.segments.now in
    let t : SegmentsValue = c.found_now.new.segments in
    let u : SegmentsValue = c.turn_to.new.self in
    let plan = c.args.plan.now in
    let keeps = c.found_now.ensures.kept in
    let had = c.requires.holds in
    let size : c.capacity.result ≡ (s.shape).capacity = c.capacity.ensures.capacity ∙ ap (λ (h : ShapeValue). h.capacity) c.shape.ensures.shape in
    let base = c.base.ensures in
    let past = c.if-count-base.false in
    let all = turned_full s t had.0 c.args.count keeps had.2 had.1 (omega (arith, size, base, past)) in
    let made = c.found_before.ensures in
    let found : 0 < plan.rounds → c.found_before.result.findings.items ≡ findings_on t.shape plan (entries_of t) =
    λ due. ap (λ v. v.items) made.findings
    ∙ (c.in_ok-findings.ensures.found due
    ∙ (ap (λ (h : ShapeValue). findings_on h plan (entries_of s)) (sym (kept_shape s t keeps))
    ∙ ap (findings_on t.shape plan) (sym (kept_entries s t keeps)))) in
    knows_turned t u plan c.found_before.result had.0 c.turn_to.ensures (kept_holds s t keeps had.0 had.2) all made.base
    (ap (flat_map seen_of) made.closed) found
