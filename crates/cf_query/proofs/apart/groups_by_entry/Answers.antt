use Rattle.std.proofs.Common.{◌≡◌, ◌∙◌, ◌<◌, List, length, map, ap, ap₂, sym, subst, arith}
use Rattle.std.proofs.lemmas.List.{length-map}
use Rattle.std.proofs.lemmas.Result.{IfOk-weaker}
use Rattle.cf_row.specs.declared.row.Entry.{Entry}
use Rattle.cf_row.specs.declared.expr.Atom.{Atom}
use Rattle.cf_row.specs.Expr.{holds_of}
use Rattle.cf_shape.specs.declared.lane.Lane.{Lane}
use Rattle.cf_shape.specs.Lanes.{ShapeValue, lane_at, selected_by}
use Rattle.cf_plain.specs.Asks.{row_at, rows_in}
use Rattle.cf_plain.specs.Groups.{pair_of, row_group}
use Rattle.cf_plain.specs.Segments.{merged}
use Rattle.cf_plain.proofs.Ones.{ones, ones_merge, ones_few}
use Rattle.cf_table.specs.Moves.{AreFit}
use Rattle.cf_table.specs.Values.{LogValue, PassValue}
use Rattle.cf_table.proofs.Reading.{looked_then}
use Rattle.cf_query.specs.Looking.{HasLooked}
use Rattle.cf_query.proofs.Loaded.{still_fit, looked_on, looked_as}
use Rattle.cf_query.proofs.Entries.{one_group, no_group, all_ones}
use Rattle.cf_query.proofs.apart.groups_by_entry.Goals as goal
use Rattle.cf_query.proofs.apart.groups_by_entry.Goals.{then-selected+in_ok-push, else-selected}

pub selects-requires-clause-fit : goal.selects-requires-clause-fit
selects-requires-clause-fit g c =
    subst (λ (v : LogValue). AreFit v.shape (g.P.Pass.held c.loop-offset.pass).view) (sym c.new-selection.ensures.log)
    (still_fit c.args.log.now.shape (g.P.Pass.held c.args.pass.now) (g.P.Pass.held c.loop-offset.pass) c.requires.reads.fit c.loop-offset.invariant.looked.only)

pub group_at-requires-clause-fit : goal.group_at-requires-clause-fit
group_at-requires-clause-fit g c =
    let f = g.P.Pass.held c.args.pass.now in
    let m = g.P.Pass.held c.loop-offset.pass in
    let n = g.P.Pass.held c.selects.new.pass in
    subst (λ (s : ShapeValue). AreFit s n.view) (sym c.shape-shape.ensures.shape)
    (still_fit c.args.log.now.shape f n c.requires.reads.fit (looked_then f m n c.loop-offset.invariant.looked.only c.selects.ensures.looked.only))

pub loop-offset-preserved : goal.loop-offset-preserved
loop-offset-preserved g c =
    let shape = c.args.log.now.shape in
    let lane = c.args.lane in
    let o = c.loop-offset.offset in
    let f = g.P.Pass.held c.args.pass.now in
    let m = g.P.Pass.held c.loop-offset.pass in
    let n = g.P.Pass.held c.selects.new.pass in
    let v = c.loop-offset.invariant in
    let rows = rows_in (f.view).seen in
    let test = c.loop-offset-test.true in
    let size = c.covered-offset-end.ensures in
    let lt : o < length rows = omega (arith, test, size, length-map (f.view).seen (λ (e : Entry). e.row)) in
    let expr : c.new-selection.result.expr ≡ (lane_at shape lane).select =
    c.new-selection.ensures.expr ∙ ap (λ (l : Lane). l.select) c.lane_of.ensures.lane
    ∙ ap (λ (s : ShapeValue). (lane_at s lane).select) c.shape-shape.ensures.shape in
    let b = c.in_ok-selected.selected in
    let holds : b ≡ selected_by shape lane (row_at rows o) =
    c.in_ok-selected.ensures.holds
    ∙ ap₂ (λ (e : List (List Atom)) (h : PassValue). holds_of e (row_at (rows_in (h.view).seen) o)) expr v.looked.only in
    let from = c.args.steps.now in
    let asked : HasLooked f n from c.selects.new.steps = looked_on v.looked c.selects.ensures.looked in
    record {
      found = elim c.if-selected.branch [
        | then-selected+in_ok-push w ↦
            let group : pair_of w.group_at.result ≡ row_group shape lane (row_at rows o) =
            w.group_at.ensures.group
            ∙ ap₂ (λ (s : ShapeValue) (h : PassValue). row_group s lane (row_at (rows_in (h.view).seen) o)) c.shape-shape.ensures.shape asked.only in
            rw (w.each-is, w.in_ok-push.ensures.items)
            (one_group shape lane rows o lt c.loop-offset.each.items v.found b w.group_at.result holds w.if-selected.true group)
        | else-selected w ↦ rw w.each-is (no_group shape lane rows o lt c.loop-offset.each.items v.found b holds w.if-selected.false)
      ];
      looked = elim c.if-selected.branch [
        | then-selected+in_ok-push w ↦ looked_as (sym (ap g.P.Pass.held w.pass-is)) (sym w.steps-is) (looked_on asked w.group_at.ensures.looked)
        | else-selected w ↦ looked_as (sym (ap g.P.Pass.held w.pass-is)) (sym w.steps-is) asked
      ];
    }

pub merge_groups-requires : goal.merge_groups-requires
merge_groups-requires g c =
    let seen = ((g.P.Pass.held c.args.pass.now).view).seen in
    let test = c.loop-offset-test.false in
    let size = c.covered-offset-end.ensures in
    let all = all_ones c.args.log.now.shape c.args.lane seen c.loop-offset.offset c.loop-offset.each.items (omega (arith, test, size)) c.loop-offset.invariant.found in
    let is : map pair_of c.deref.result.now ≡ ones c.args.log.now.shape c.args.lane (rows_in seen) = ap (map pair_of) c.deref.ensures.value ∙ all in
    let few = ones_few c.args.log.now.shape c.args.lane (rows_in seen) in
    let long = length-map seen (λ (e : Entry). e.row) in
    let least = c.requires.reads.few in
    let room = c.shape-shape.ensures.lawful.capacity.1 in
    record { few = rw is (omega (arith, few, long, least, room)) }

pub returns-clause-found : goal.returns-clause-found
returns-clause-found g c =
    let shape = c.args.log.now.shape in
    let seen = ((g.P.Pass.held c.args.pass.now).view).seen in
    let test = c.loop-offset-test.false in
    let size = c.covered-offset-end.ensures in
    let all = all_ones shape c.args.lane seen c.loop-offset.offset c.loop-offset.each.items (omega (arith, test, size)) c.loop-offset.invariant.found in
    let is : map pair_of c.deref.result.now ≡ ones shape c.args.lane (rows_in seen) = ap (map pair_of) c.deref.ensures.value ∙ all in
    IfOk-weaker c.merge_groups.result _ _ (λ found so. so ∙ ap merged is ∙ ones_merge shape c.args.lane (rows_in seen)) c.merge_groups.ensures
