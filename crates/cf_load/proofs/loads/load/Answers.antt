use Rattle.std.proofs.Common.{◌≡◌, ◌≤◌, Err, length, sym, subst, arith, rules}
use Rattle.std.proofs.Math.Seq.{take-length}
use Rattle.cf_segments.specs.Segments.{HoldsRows, room_of}
use Rattle.cf_load.specs.Planned.{IsSamePlan}
use Rattle.cf_load.specs.declared.loads.LoadFault.TheVariants.{Memory}
use Rattle.cf_segments.proofs.Kept.{goes_none, goes_then, kept_goes}
use Rattle.cf_load.proofs.Loaders.{loads}
use Rattle.cf_load.proofs.loads.load.Goals as goal

pub returns-in_err-loader : goal.returns-in_err-loader
returns-in_err-loader g c =
    let few : length c.args.rows.now ≤ room_of c.args.segments.now =
    (let size = c.room.ensures in let within = c.if-rows-room.false in omega (arith, size, within)) in
    let same : c.from_residual.result ≡ Err Memory = search rules in
    rw same (few, goes_none c.args.segments.now, (0, c.requires.loaded))

pub returns-in_err-finish : goal.returns-in_err-finish
returns-in_err-finish g c =
    let rows = c.args.rows.now in
    let few : length rows ≤ room_of c.args.segments.now = (let size = c.room.ensures in let within = c.if-rows-room.false in omega (arith, size, within)) in
    let left = c.in_err-finish.ensures rows c.in_ok-load_batches.ensures.loading in
    let same : c.from_residual-in_err-finish.result ≡ Err Memory = search rules in
    rw same (
      few,
      goes_then c.args.segments.now c.load_batches.new.segments c.finish.new.segments c.in_ok-load_batches.ensures.same
          (kept_goes c.load_batches.new.segments c.finish.new.segments left.0),
      (length rows, subst (HoldsRows c.finish.new.segments) (sym (take-length rows)) left.1),
    )

pub returns : goal.returns
returns g c =
    let rows = c.args.rows.now in
    let made = c.in_ok-load_batches.ensures in
    let same : IsSamePlan c.args.plan.now (c.load_batches.new.loader).plan =
    subst (IsSamePlan c.args.plan.now) (sym made.plan) c.in_ok-loader.ensures.fresh.plan_is in
    loads rows c.args.plan.now c.load_batches.new.loader c.args.segments.now c.load_batches.new.segments c.finish.new.segments c.in_ok-finish.field-0 same
    made.loading made.same made.told (c.in_ok-finish.ensures rows made.loading)
