use Rattle.std.proofs.Common.{◌≡◌, ℕ, List, max, All, ◌∙◌, sym, subst, arith}
use Rattle.rayon.specs.Lists.{chunks_of}
use Rattle.rayon.proofs.ListFacts.{IfOk-then}
use Rattle.rayon.proofs.ToStd.{chunks_of-All, chunks_of-concat, slice-map}
use Rattle.cf_row.specs.declared.row.Entry.{Entry}
use Rattle.cf_row.specs.Row.{Fits}
use Rattle.cf_plain.specs.Asks.{rows_in}
use Rattle.cf_plain.specs.Totals.{total}
use Rattle.cf_scan.specs.Scans.{FitAll}
use Rattle.cf_scan.proofs.Chunks.{all_parts}
use Rattle.cf_scan.proofs.total.chunk_totals.Goals as goal

pub collect-requires-clause-ready : goal.collect-requires-clause-ready
collect-requires-clause-ready g c =
    let entries = c.args.entries.now in
    let size : ℕ = 4096 in
    let least : max size 1 ≡ size = omega arith in
    let small = chunks_of-All size entries (omega arith) in
    let whole = chunks_of-concat size entries (omega arith) in
    let fit : All (FitAll c.args.schema.now) (chunks_of size entries) =
    λ k d lt. all_parts (λ (e : Entry). Fits c.args.schema.now e.row) (chunks_of size entries)
    (subst (FitAll c.args.schema.now) (sym whole) c.requires.fit) k d lt in
    rw (c.map.ensures.base, c.map.ensures.f, c.with_min_len.ensures.base, c.par_chunks.ensures.slice, c.par_chunks.ensures.size, least)
    (λ κs out k d lt r e. let most = small k d lt in
    ((c.requires.narrow, c.requires.suits, rw e (fit k d lt), rw e (omega (arith, most.1))), λ y h. tt))

pub returns : goal.returns
returns g c =
    let entries = c.args.entries.now in
    let size : ℕ = 4096 in
    let least : max size 1 ≡ size = omega arith in
    IfOk-then c.collect.result _ _ c.collect.ensures (λ v h.
    let chain = rw (c.map.ensures.base, c.map.ensures.f) at h.1 in
    let shown = rw (c.with_min_len.ensures.base, c.par_chunks.ensures.slice, c.par_chunks.ensures.size, least) at chain.1 in
    h.2 ∙ slice-map chain.0 (chunks_of size entries) shown (λ (chunk : List Entry). total c.args.attr c.args.expr.now (rows_in chunk)) h.0 chain.2)
