use Rattle.std.proofs.Common.{◌≡◌, ◌∙◌, ◌-◌, ◌<◌, ◌^◌, ℕ, List, ◌∷◌, [], ◌++◌, length, length-take, take, ap, sym, arith, rules}
use Rattle.cf_row.specs.Expr.{holds_of, number_of}
use Rattle.cf_row.specs.Row.{value_at}
use Rattle.cf_row.specs.Times.{number_at}
use Rattle.cf_row.specs.declared.row.Value.{Value}
use Rattle.cf_fold.specs.Quads.{QuadValue, quad_of}
use Rattle.cf_plain.specs.Asks.{row_at, rows_in}
use Rattle.cf_plain.proofs.Amounts.{amounts_few}
use Rattle.cf_table.specs.Values.{PassValue}
use Rattle.cf_table.proofs.Reading.{looked_then}
use Rattle.cf_query.specs.Looking.{HasLooked}
use Rattle.cf_query.specs.Stretches.{stretch}
use Rattle.cf_query.proofs.Loaded.{still_fit, looked_on, looked_as, stretch_added, stretch_kept, stretch_long}
use Rattle.cf_query.proofs.Selecting.{narrow_low}
use Rattle.cf_query.proofs.scans.total_of.Goals as goal
use Rattle.cf_query.proofs.scans.total_of.Goals.{then-branch, else-branch}

pub selects-requires-clause-fit : goal.selects-requires-clause-fit
selects-requires-clause-fit g c =
    still_fit c.args.selection.now.log.shape (g.P.Pass.held c.args.pass.now) (g.P.Pass.held c.loop-place.pass) c.requires.reads.fit
    c.loop-place.invariant.looked.only

pub overflow_cast-number : goal.overflow_cast-number
overflow_cast-number g c =
    let shape = c.args.selection.now.log.shape in
    let f = g.P.Pass.held c.args.pass.now in
    let m = g.P.Pass.held c.selects.new.pass in
    let o = c.loop-place.place in
    let looked = looked_then f (g.P.Pass.held c.loop-place.pass) m c.loop-place.invariant.looked.only c.selects.ensures.looked.only in
    let long = ap (λ (h : PassValue). length (h.view).seen) looked in
    let lt = c.loop-place-test.true in
    let within = c.requires.stretch.within in
    let low : c.number.result < 2 ^ 32 =
    narrow_low shape m o c.args.attr c.number.result c.requires.lawful (still_fit shape f m c.requires.reads.fit looked) (omega (arith, long, within, lt))
    c.requires.narrow c.number.ensures.number in
    search (rules, low)

pub add-total-requires : goal.add-total-requires
add-total-requires g c =
    let seen = ((g.P.Pass.held c.args.pass.now).view).seen in
    let from = c.args.from in
    let part = stretch from c.args.to seen in
    let few = amounts_few c.args.attr c.args.selection.now.expr (take (c.loop-place.place - from) part) in
    let same = ap (λ (t : QuadValue). t.count) c.loop-place.invariant.found in
    let room = c.requires.lawful.capacity in
    let least = c.requires.reads.few in
    let long = stretch_long from c.args.to seen c.requires.stretch in
    let within = c.requires.stretch.within in
    record { few = omega (arith, few, same, room, least, long, within, length-take (c.loop-place.place - from) part) }

pub loop-place-preserved : goal.loop-place-preserved
loop-place-preserved g c =
    let o = c.loop-place.place in
    let v = c.loop-place.invariant in
    let f = g.P.Pass.held c.args.pass.now in
    let seen = (f.view).seen in
    let attr = c.args.attr in
    let expr = c.args.selection.now.expr in
    let low = v.low in
    let lt = c.loop-place-test.true in
    let b = c.in_ok-selects.field-0 in
    let holds = c.in_ok-selects.ensures.holds ∙ ap (λ (h : PassValue). holds_of expr (row_at (rows_in (h.view).seen) o)) v.looked.only in
    let asked : HasLooked f (g.P.Pass.held c.selects.new.pass) c.args.steps.now c.selects.new.steps = looked_on v.looked c.selects.ensures.looked in
    record {
      low = omega (arith, low);
      found = elim c.if-branch.branch [
        | then-branch w ↦
            let number = w.number.ensures.number in
            let value = sym (ap (λ (h : PassValue). value_at (row_at (rows_in (h.view).seen) o) attr) asked.only) ∙ number in
            let added : (xs : List ℕ) → c.loop-place.total ≡ quad_of xs → c.if-branch.total ≡ quad_of (xs ++ number_at (row_at (rows_in seen) o) attr ∷ []) =
            λ xs is. w.total-is ∙ (w.add-total.ensures.added xs is ∙ ap (λ (x : Value). quad_of (xs ++ number_of x ∷ [])) (sym value)) in
            stretch_added c.args.from c.args.to seen c.requires.stretch expr o low lt b holds attr c.loop-place.total c.if-branch.total w.if-branch.true
            v.found added
        | else-branch w ↦ w.total-is
            ∙ stretch_kept c.args.from c.args.to seen c.requires.stretch expr o low lt b holds attr c.loop-place.total w.if-branch.false v.found
      ];
      looked = elim c.if-branch.branch [
        | then-branch w ↦ looked_as (sym (ap g.P.Pass.held w.pass-is)) (sym w.steps-is) (looked_on asked w.number.ensures.looked)
        | else-branch w ↦ looked_as (sym (ap g.P.Pass.held w.pass-is)) (sym w.steps-is) asked
      ];
    }
