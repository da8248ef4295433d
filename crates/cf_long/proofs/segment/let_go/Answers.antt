use Rattle.std.proofs.Common.{◌≡◌, ◌∙◌, ◌<◌, ℕ, All, Err, List, ap, arith, length, map, rules, subst, sym}
use Rattle.std.proofs.lemmas.Result.{err_from_is_err_and}
use Rattle.cf_long.specs.ByRow.{IsFoundWithin, by_row}
use Rattle.cf_long.proofs.Longs.{told_all, told_within}
use Rattle.cf_long.proofs.segment.let_go.Goals as goal

pub all_by_row-requires : goal.all_by_row-requires
all_by_row-requires g c =
    let f = c.args.filling in
    let rows = c.requires.filled.0 in
    record {
      within = subst (λ (ns : List ℕ). All (IsFoundWithin (length ns)) c.in_ok-sealing.found.items) (sym c.deref.ensures.value)
          (told_within f.segments.shape f.loader.plan rows c.in_ok-sealing.sealing c.in_ok-sealing.found.items
          (c.in_ok-sealing.ensures rows c.requires.filled.1));
    }

pub returns : goal.returns
returns g c rows is numbered =
    let f = c.args.filling in
    let lawful = c.shape-lawful.ensures.lawful in
    let some : 0 < f.segments.shape.writers = (let low = lawful.writers.0 in omega (arith, low)) in
    told_all f.segments.shape f.loader.plan rows c.in_ok-sealing.sealing c.in_ok-sealing.found.items (c.in_ok-sealing.ensures rows is) c.args.first
    c.in_ok-all_by_row.field-0.items some numbered
    (c.in_ok-all_by_row.ensures ∙ ap (λ (ns : List ℕ). map (by_row c.args.first ns) c.in_ok-sealing.found.items) c.deref.ensures.value)

pub returns-in_err-sealing : goal.returns-in_err-sealing
returns-in_err-sealing g c rows is numbered =
    let same : c.from_residual.result ≡ Err c.in_err-sealing.field-0.0 = search rules in
    rw same (c.in_err-sealing.ensures rows is)

pub returns-in_err-all_by_row : goal.returns-in_err-all_by_row
returns-in_err-all_by_row g c rows is numbered =
    let p = err_from_is_err_and c.from_residual-in_err-all_by_row.result c.from_residual-in_err-all_by_row.ensures.1 in
    rw (p.1, p.2) tt
