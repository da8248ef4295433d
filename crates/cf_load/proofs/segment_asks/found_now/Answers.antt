use Rattle.std.proofs.Common.{◌≡◌, ◌++◌, IfOk, List, refl, ap, sym, subst, ◌∙◌}
use Rattle.cf_row.specs.declared.row.Entry.{Entry}
use Rattle.cf_load.specs.Planned.{findings_on}
use Rattle.cf_load.specs.Priors.{IsFoundBefore, KnowsBefore, entries_before}
use Rattle.cf_segments.specs.Segments.{SegmentsValue, KeepsAll, entries_of, seen_of, segments_of}
use Rattle.cf_segments.proofs.Chains.{current_is}
use Rattle.cf_load.proofs.Filled.{entries_split}
use Rattle.cf_segments.proofs.Kept.{kept_current, kept_lawful, segments_none}
use Rattle.cf_load.proofs.segment_asks.found_now.Goals as goal

pub findings_behind-requires-clause-of : goal.findings_behind-requires-clause-of
findings_behind-requires-clause-of c =
    let is = current_is (segments_of c.segments.inside.most c.segments.inside.closed.items c.segments.inside.current) c.segments.invariant.0 in
    (is.of, is.settled)

pub findings_behind-requires-clause-prior : goal.findings_behind-requires-clause-prior
findings_behind-requires-clause-prior c =
    subst (λ (t : SegmentsValue). IsFoundBefore t.shape c.args.plan.now c.args.prior.now) (sym c.segments.view_is) c.requires.known.is

-- the current segment was asked
kept : (c : goal.After-findings_behind)
    → KeepsAll (segments_of c.segments.inside.most c.segments.inside.closed.items c.segments.inside.current)
    (segments_of c.segments.inside.most c.segments.inside.closed.items (record { log = c.segments.inside.current.log; root = c.findings_behind.new.root }))
kept c =
    let closed = c.segments.inside.closed.items in
    let current = c.segments.inside.current in
    kept_current c.segments.inside.most closed closed current c.findings_behind.new.root (segments_none closed)
    (record { log = refl; root = c.findings_behind.ensures.keeps })

pub invariant_of-segments : goal.invariant_of-segments
invariant_of-segments c = (
  kept_lawful _ _ (kept c) c.segments.invariant.0,
  c.segments.invariant.1,
)

pub returns-clause-kept : goal.returns-clause-kept
returns-clause-kept c =
    let closed = c.segments.inside.closed.items in
    let after = segments_of c.segments.inside.most closed (record { log = c.segments.inside.current.log; root = c.findings_behind.new.root }) in
    subst (λ (s : SegmentsValue). KeepsAll s after) c.segments.view_is (kept c)

pub returns-clause-found : goal.returns-clause-found
returns-clause-found c due =
    let closed = c.segments.inside.closed.items in
    let current = c.segments.inside.current in
    let plan = c.args.plan.now in
    let prior = c.args.prior.now in
    let s : SegmentsValue = segments_of c.segments.inside.most closed current in
    let known : KnowsBefore s plan prior = subst (λ (t : SegmentsValue). KnowsBefore t plan prior) (sym c.segments.view_is) c.requires.known in
    let all : entries_before prior ++ seen_of current ≡ entries_of s =
    ap (λ (es : List Entry). es ++ seen_of current) known.entries ∙ sym (entries_split s) in
    subst (λ (t : SegmentsValue). IfOk c.findings_behind.result (λ found. found.items ≡ findings_on t.shape plan (entries_of t))) c.segments.view_is
    (subst (λ (es : List Entry). IfOk c.findings_behind.result (λ found. found.items ≡ findings_on s.shape plan es)) all (c.findings_behind.ensures.found due))
