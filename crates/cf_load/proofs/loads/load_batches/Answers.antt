use Rattle.std.proofs.Common.{rules, arith, ℕ, ◌≡◌, ◌<◌, ◌≤◌, ◌+◌, ◌-◌, ◌*◌, ◌++◌, List, Err, length, take, drop, refl, sym, ap, subst, ◌∙◌, append-nil}
use Rattle.std.proofs.lemmas.List.{length-drop, length-take}
use Rattle.cf_row.specs.Row.{RowValue}
use Rattle.cf_plain.specs.declared.loaded.Live.{Live}
use Rattle.cf_segments.specs.Segments.{room_of, told_of}
use Rattle.cf_load.specs.Loaders.{LoaderValue, IsLoading, IsBatched, MayLoad}
use Rattle.cf_load.specs.Planned.{tails_of}
use Rattle.cf_segments.proofs.Kept.{goes_none, goes_then}
use Rattle.cf_load.proofs.Loading.{told_more}
use Rattle.cf_load.proofs.Loaders.{part_is, may_batch, more_of, refused_goes, same_room, some_of}
use Rattle.cf_load.proofs.loads.load_batches.Goals as goal

pub batch-requires-clause-may : goal.batch-requires-clause-may
batch-requires-clause-may g c κs within =
    let rows = c.args.rows.now in
    let b = c.loop-number.number in
    let s = c.loop-number.segments in
    let v = c.loop-number.invariant in
    let part : List RowValue = take (c.min-to.result - 4096 * b) (drop (4096 * b) rows) in
    let lt = c.loop-number-test.true in
    let many = c.div_ceil-batches.ensures in
    let to = c.min-to.ensures in
    let low : 4096 * b < length rows = omega (arith, lt, many) in
    let front = length-take (4096 * b) rows in
    let rest = length-drop (4096 * b) rows in
    let cut = length-take (c.min-to.result - 4096 * b) (drop (4096 * b) rows) in
    let most = same_room c.args.segments.now s v.same in
    let few = c.requires.few in
    let count = v.loading.count in
    subst (λ (n : ℕ). MayLoad s (c.loop-number.loader).plan n (length part)) (sym count)
    (may_batch s (c.loop-number.loader).plan (take (4096 * b) rows) (length part) v.loading.loaded (omega (arith, front, low))
    (omega (arith, cut, to)) (omega (arith, front, rest, cut, to, low, most, few)))

pub returns-in_err-batch-clause-stopped : goal.returns-in_err-batch-clause-stopped
returns-in_err-batch-clause-stopped g c =
    let rows = c.args.rows.now in
    let b = c.loop-number.number in
    let s = c.loop-number.segments in
    let t = c.batch.new.segments in
    let part : List RowValue = take (c.min-to.result - 4096 * b) (drop (4096 * b) rows) in
    let lt = c.loop-number-test.true in
    let many = c.div_ceil-batches.ensures in
    let low : 4096 * b < length rows = omega (arith, lt, many) in
    let both = more_of rows part b (part_is rows (4096 * b) c.min-to.result (omega (arith, low)) c.min-to.ensures) in
    let same : c.from_residual.result ≡ Err c.in_err-batch.field-0.0 = search rules in
    let most = same_room c.args.segments.now s c.loop-number.invariant.same in
    let few : length rows ≤ room_of s = (let few = c.requires.few in omega (arith, most, few)) in
    rw same (some_of rows (take (4096 * b) rows) part s t (4096 * b) (4096 * (b + 1)) c.in_err-batch.field-0.0 refl both few
    (c.in_err-batch.ensures.batched (take (4096 * b) rows) c.loop-number.invariant.loading))

pub loop-number-preserved : goal.loop-number-preserved
loop-number-preserved g c =
    let rows = c.args.rows.now in
    let b = c.loop-number.number in
    let v = c.loop-number.invariant in
    let s = c.loop-number.segments in
    let t = c.batch.new.segments in
    let new = c.batch.new.self in
    let part : List RowValue = take (c.min-to.result - 4096 * b) (drop (4096 * b) rows) in
    let lt = c.loop-number-test.true in
    let many = c.div_ceil-batches.ensures in
    let low : 4096 * b < length rows = omega (arith, lt, many) in
    let both = more_of rows part b (part_is rows (4096 * b) c.min-to.result (omega (arith, low)) c.min-to.ensures) in
    let d : IsBatched (take (4096 * b) rows) part c.loop-number.loader new s t = c.in_ok-batch.ensures.batched (take (4096 * b) rows) v.loading in record {
      same = goes_then c.args.segments.now s t v.same d.same;
      loading = subst (λ (rs : List RowValue). IsLoading t rs new) both d.loading;
      plan = ap (λ (l : LoaderValue). l.plan) d.loader ∙ v.plan;
      told = told_more (told_of c.args.segments.now) (told_of s) (told_of t) (c.loop-number.loader).lives d.more v.told d.told
          ∙ ap (λ (l : LoaderValue). told_of c.args.segments.now ++ tails_of l.lives) (sym d.loader);
    }

pub loop-number-init : goal.loop-number-init
loop-number-init g c = record {
  same = goes_none c.args.segments.now;
  loading = c.requires.loading;
  plan = refl;
  told = sym (append-nil (told_of c.args.segments.now)) ∙ ap (λ (ls : List Live). told_of c.args.segments.now ++ tails_of ls) (sym c.requires.none);
}

pub returns-in_err-batch-clause-same : goal.returns-in_err-batch-clause-same
returns-in_err-batch-clause-same g c =
    goes_then c.args.segments.now c.loop-number.segments c.batch.new.segments c.loop-number.invariant.same
    (refused_goes (take (4096 * c.loop-number.number) c.args.rows.now) _ c.loop-number.segments c.batch.new.segments c.in_err-batch.field-0.0
    (c.in_err-batch.ensures.batched (take (4096 * c.loop-number.number) c.args.rows.now) c.loop-number.invariant.loading))
