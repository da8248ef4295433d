use Rattle.std.proofs.Common.{◌≡◌, ℕ, ◌+◌, ◌-◌, ◌<◌, ◌==◌, ◌++◌, ◌∷◌, [], List, cond, drop, length, refl, arith, ap, sym, ◌∙◌, rules}
use Rattle.std.proofs.lemmas.Option.{slice_get_read}
use Rattle.cf_fold.specs.Quads.{QuadValue, quad_of}
use Rattle.cf_row.specs.Row.{RowValue}
use Rattle.cf_shape.specs.Lanes.{measure_of}
use Rattle.cf_law.specs.Words.{spot, same_path, link_to_newest}
use Rattle.cf_law.specs.Passes.{Own}
use Rattle.cf_law.specs.Steps.{mine_chain}
use Rattle.cf_law.specs.Shapes.{layout, path_in}
use Rattle.cf_core.specs.Worlds.{amounts_with_row}
use Rattle.cf_core.proofs.Versions.{chain_end, chain_in, chain_out, newest_is, amounts_push, amounts_first, quad_few}
use Rattle.cf_core.proofs.cells.chained.Goals as goal

pub loop-at-init : goal.loop-at-init
loop-at-init c =
    let sh = layout c.args.shape.now in
    let s = spot c.args.lane c.args.path.now in
    let none : mine_chain sh s (drop (length c.args.mine.now) c.args.mine.now) ≡ [] = chain_end sh s c.args.mine.now (length c.args.mine.now) (omega arith) in
    let empty : ◌≡◌ {A = QuadValue} (record { count = 0; sum = 0; least = 0; greatest = 0 }) (quad_of []) = refl in
    let added : c.add-quad.result ≡ quad_of ([] ++ c.measure.result ∷ []) = c.add-quad.ensures.added [] empty in (
      sym (ap link_to_newest none),
      added ∙ (ap (λ (v : ℕ). quad_of ([] ++ v ∷ [])) c.measure.ensures
          ∙ ap quad_of (sym
          (amounts_first c.args.shape.now c.args.lane c.args.row.now (mine_chain sh s (drop (length c.args.mine.now) c.args.mine.now)) none))),
    )

pub has_path-requires-clause-fits : goal.has_path-requires-clause-fits
has_path-requires-clause-fits c =
    let sh = layout c.args.shape.now in
    let s = spot c.args.lane c.args.path.now in
    let mine : List Own = c.args.mine.now in
    let low : c.loop-at.at - 1 < length mine = omega (arith, c.loop-at-test.true, c.loop-at.auto.at) in
    rw c.row.ensures
    (c.requires.own.fits (c.loop-at.at - 1) c.index-mine-at.result
    (slice_get_read mine (length mine) (c.loop-at.at - 1) c.index-mine-at.result refl low c.index-mine-at.is))

pub loop-at-preserved-then-not-branch : goal.loop-at-preserved-then-not-branch
loop-at-preserved-then-not-branch c =
    let sh = layout c.args.shape.now in
    let s = spot c.args.lane c.args.path.now in
    let mine : List Own = c.args.mine.now in
    let low : c.loop-at.at - 1 < length mine = omega (arith, c.loop-at-test.true, c.loop-at.auto.at) in
    let back : c.loop-at.at - 1 + 1 ≡ c.loop-at.at = omega (arith, c.loop-at-test.true) in
    let same : c.in_ok-has_path.field-0 ≡ same_path (path_in c.args.shape.now c.index-mine-at.result.row c.args.lane) c.args.path.now =
    (let g : c.in_ok-has_path.field-0 ≡ same_path (path_in c.args.shape.now c.row.result.now c.args.lane) c.args.path.now = search
    (rules, c.in_ok-has_path.ensures) in g ∙ ap (λ (r : RowValue). same_path (path_in c.args.shape.now r c.args.lane) c.args.path.now) c.row.ensures) in
    let whole : mine_chain sh s (drop (c.loop-at.at - 1) mine) ≡ mine_chain sh s (drop c.loop-at.at mine) =
    chain_out sh s mine (c.loop-at.at - 1) c.index-mine-at.result low c.index-mine-at.is (sym same ∙ c.if-not-branch.true)
    ∙ ap (λ (n : ℕ). mine_chain sh s (drop n mine)) back in (
      c.loop-at.invariant.0 ∙ ap link_to_newest (sym whole),
      c.loop-at.invariant.1
          ∙ ap (λ (ch : List (ℕ × RowValue)). quad_of (amounts_with_row c.args.shape.now c.args.lane c.args.row.now ch)) (sym whole),
    )

pub measure-requires-in-loop-at-clause-fits : goal.measure-requires-in-loop-at-clause-fits
measure-requires-in-loop-at-clause-fits c =
    let sh = layout c.args.shape.now in
    let s = spot c.args.lane c.args.path.now in
    let mine : List Own = c.args.mine.now in
    let low : c.loop-at.at - 1 < length mine = omega (arith, c.loop-at-test.true, c.loop-at.auto.at) in
    rw c.row-in-loop-at.ensures
    (c.requires.own.fits (c.loop-at.at - 1) c.index-mine-at.result
    (slice_get_read mine (length mine) (c.loop-at.at - 1) c.index-mine-at.result refl low c.index-mine-at.is))

pub add-quad-requires-in-loop-at : goal.add-quad-requires-in-loop-at
add-quad-requires-in-loop-at c =
    let few = quad_few c.args.shape.now c.args.lane c.args.row.now
    (spot c.args.lane c.args.path.now) c.args.mine.now c.loop-at.at c.loop-at.quad c.loop-at.invariant.1 c.requires.own.few in
    record { few = omega (arith, few) }

pub loop-at-preserved : goal.loop-at-preserved
loop-at-preserved c =
    let sh = layout c.args.shape.now in
    let s = spot c.args.lane c.args.path.now in
    let mine : List Own = c.args.mine.now in
    let low : c.loop-at.at - 1 < length mine = omega (arith, c.loop-at-test.true, c.loop-at.auto.at) in
    let back : c.loop-at.at - 1 + 1 ≡ c.loop-at.at = omega (arith, c.loop-at-test.true) in
    let same : c.in_ok-has_path.field-0 ≡ same_path (path_in c.args.shape.now c.index-mine-at.result.row c.args.lane) c.args.path.now =
    (let g : c.in_ok-has_path.field-0 ≡ same_path (path_in c.args.shape.now c.row.result.now c.args.lane) c.args.path.now = search
    (rules, c.in_ok-has_path.ensures) in g ∙ ap (λ (r : RowValue). same_path (path_in c.args.shape.now r c.args.lane) c.args.path.now) c.row.ensures) in
    let x : Own = c.index-mine-at.result in
    let ch = mine_chain sh s (drop c.loop-at.at mine) in
    let whole : mine_chain sh s (drop (c.loop-at.at - 1) mine) ≡ ch ++ (x.offset, x.row) ∷ [] =
    chain_in sh s mine (c.loop-at.at - 1) x low c.index-mine-at.is (sym same ∙ c.if-not-branch.false)
    ∙ ap (λ (n : ℕ). mine_chain sh s (drop n mine) ++ (x.offset, x.row) ∷ []) back in
    let link : c.newest-previous.result ≡ cond (c.loop-at.previous == 0) (x.offset + 1) c.loop-at.previous = c.newest-previous.ensures
    ∙ ap (λ (o : ℕ). cond (c.loop-at.previous == 0) (o + 1) c.loop-at.previous) c.offset.ensures in
    let added : c.add-quad-in-loop-at.result ≡ quad_of (amounts_with_row c.args.shape.now c.args.lane c.args.row.now ch ++ c.measure-in-loop-at.result ∷ []) =
    c.add-quad-in-loop-at.ensures.added (amounts_with_row c.args.shape.now c.args.lane c.args.row.now ch) c.loop-at.invariant.1 in
    let value : c.measure-in-loop-at.result ≡ measure_of c.args.shape.now c.args.lane x.row = c.measure-in-loop-at.ensures
    ∙ ap (measure_of c.args.shape.now c.args.lane) c.row-in-loop-at.ensures in (
      newest_is ch (x.offset, x.row) c.loop-at.previous c.newest-previous.result c.loop-at.invariant.0 link ∙ ap link_to_newest (sym whole),
      added ∙ (ap (λ (v : ℕ). quad_of (amounts_with_row c.args.shape.now c.args.lane c.args.row.now ch ++ v ∷ [])) value
          ∙ ap quad_of (sym
          (ap (amounts_with_row c.args.shape.now c.args.lane c.args.row.now) whole
          ∙ amounts_push c.args.shape.now c.args.lane c.args.row.now ch (x.offset, x.row)))),
    )
