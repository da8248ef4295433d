use Rattle.std.proofs.Common.{◌≡◌, ℕ, ◌<◌, ◌-◌, ◌∙◌, length, filter, ap, sym, arith}
use Rattle.std.specs.List.{range_with_len}
use Rattle.std.proofs.lemmas.List.{length-map}
use Rattle.rayon.specs.Numbers.{nat_range}
use Rattle.rayon.proofs.ListFacts.{IfOk-then}
use Rattle.rayon.proofs.ToStd.{nat_range-All, filter_by_mask-filter, answers-by_ref}
use Rattle.cf_row.specs.declared.row.Entry.{Entry}
use Rattle.cf_row.specs.Expr.{holds_of}
use Rattle.cf_plain.specs.Asks.{rows_in, row_at}
use Rattle.cf_scan.proofs.found.scan.Goals as goal

pub collect-requires-clause-ready : goal.collect-requires-clause-ready
collect-requires-clause-ready g c =
    let ends = c.into_par_iter.ensures in
    let inside = nat_range-All (λ i. i < length c.args.entries.now) 0 (length c.args.entries.now) (λ i low high. high) in
    rw (c.filter.ensures.base, c.filter.ensures.f, ends.0, ends.1) (λ κs out k d lt. (λ r e. (rw e (inside k d lt), c.requires.suits, c.requires.fit), λ h. tt))

pub returns : goal.returns
returns g c =
    let ends = c.into_par_iter.ensures in
    let n = length c.args.entries.now in
    let whole : n - 0 ≡ n = omega arith in
    let p = λ (i : ℕ). holds_of c.args.expr.now (row_at (rows_in c.args.entries.now) i) in
    let many = length-map c.args.entries.now (λ (e : Entry). e.row) in
    IfOk-then c.collect.result _ _ c.collect.ensures (λ v h.
    let chain = rw (c.filter.ensures.base, c.filter.ensures.f) at h.1 in
    let places = chain.2 ∙ (λ i. nat_range (ends.0 i) (ends.1 i)) ∙ ap (range_with_len 0) (whole ∙ sym many) in
    h.2 ∙ chain.4 ∙ filter_by_mask-filter p chain.0 chain.1 (answers-by_ref p chain.0 chain.1 chain.3) ∙ ap (filter p) places)
