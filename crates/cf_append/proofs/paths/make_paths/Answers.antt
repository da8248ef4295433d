use Rattle.std.proofs.Common.{◌≡◌, ◌∙◌, ◌+◌, ◌<◌, List, Option, None, true, false, ap, length, refl, arith, rules}
use Rattle.cf_law.specs.Passes.{Pass}
use Rattle.cf_append.specs.Paths.{IsOnPath, IsFiled, HasFilings}
use Rattle.cf_append.specs.declared.paths.Filing.{Filing}
use Rattle.cf_append.proofs.Walking.{strides_none, strides_then, used_same, used_then, made_none, made_then}
use Rattle.cf_append.proofs.Pathing.{filings_still, filings_more, filings_pass, empty_first, empty_more, selected_there, keeps_more, keeps_passed, keeps_still, path_steps_none, path_steps_more, path_steps_up}
use Rattle.cf_append.proofs.paths.make_paths.Goals as goal

pub loop-lane-init : goal.loop-lane-init
loop-lane-init g c = record {
  of = c.requires.ready.of;
  rest = c.requires.ready.rest;
  strides = strides_none c.args.pass.now;
  used = used_same _ c.args.pass.now c.args.pass.now c.requires.ready.rest refl;
  long = refl;
  filed = λ lane low. absurd (omega (arith, low));
  empty = empty_first;
  near = c.requires.near;
  kept = λ lane low. absurd (omega (arith, low));
  others = λ lane from. refl;
  near_steps = λ all. refl;
  loads = omega arith;
  steps = omega (arith, path_steps_none c.args.log.now.shape);
}

pub returns-in_default-clause-made : goal.returns-in_default-clause-made
returns-in_default-clause-made g c =
    let log = c.args.log.now in
    let s = log.shape in
    let row = c.args.row.now in
    let I = c.loop-lane.invariant in
    let n = c.loop-lane.pass in
    let o = c.make_path.new.pass in
    let All = λ (p : Pass) (filed : List (Option Filing)). HasFilings s row p filed (length s.lanes) in
    made_then log (IsOnPath s row) All c.args.pass.now n o c.args.steps.now c.loop-lane.steps c.make_path.new.steps None I.strides I.used I.loads
    (made_none log (IsOnPath s row) (IsOnPath s row) (λ (p : Pass). IsFiled s row p c.loop-lane.lane) All n o c.loop-lane.steps c.make_path.new.steps
    (λ r on. on) c.in_default.ensures.made)

pub returns-in_default-clause-steps : goal.returns-in_default-clause-steps
returns-in_default-clause-steps g c =
    let s = c.args.log.now.shape in
    let k = c.loop-lane.lane in
    let low : k < length s.lanes = search rules in
    let up = path_steps_up s (Rattle.std.proofs.Common.suc k) (length s.lanes) (omega (arith, low)) in
    let more = path_steps_more s k in
    let one = c.make_path.ensures.steps in
    let so_far = c.loop-lane.invariant.steps in
    omega (arith, up, more, one, so_far)

pub loop-lane-preserved : goal.loop-lane-preserved
loop-lane-preserved g c =
    let s = c.args.log.now.shape in
    let row = c.args.row.now in
    let k = c.loop-lane.lane in
    let m = c.args.pass.now in
    let n = c.loop-lane.pass in
    let o = c.make_path.new.pass in
    let went = c.make_path.ensures.made.strides in
    let low : k < length s.lanes = search rules in
    let passes = selected_there s c.shape-shape.result.now row k c.selects.result true c.shape-shape.ensures.shape c.selects.ensures c.if-not-selects.false in
    let inside : k < length c.loop-lane.filed = search rules in record {
      of = c.make_path.ensures.made.of;
      rest = c.make_path.ensures.made.rest;
      strides = strides_then m n o c.loop-lane.invariant.strides went;
      used = used_then (IsOnPath s row) m n o c.loop-lane.invariant.used c.make_path.ensures.made.used;
      long = search rules;
      filed = filings_more s row o.view c.loop-lane.filed k c.from.result c.in-Some.filing c.from.ensures inside
          (filings_still s row n o c.loop-lane.filed k went c.loop-lane.invariant.filed) c.in-Some.ensures.made.answer;
      empty = empty_more c.loop-lane.filed k c.from.result _ c.from.ensures c.loop-lane.invariant.empty;
      near = c.make_path.ensures.near;
      kept = keeps_more s row c.loop-lane.leaves c.make_path.new.leaves k c.loop-lane.invariant.kept c.make_path.ensures.others c.in-Some.ensures.kept;
      others = λ lane from. c.make_path.ensures.others lane (λ e. omega (arith, from, e)) ∙ c.loop-lane.invariant.others lane (omega (arith, from));
      near_steps = λ all. c.make_path.ensures.near_steps
          (keeps_still s row c.args.leaves.now c.loop-lane.leaves k (c.loop-lane.invariant.others k (omega arith)) (all k low passes))
          ∙ c.loop-lane.invariant.near_steps all;
      loads = (let least = c.loop-lane.invariant.loads in let loads = c.make_path.ensures.made.loads in omega (arith, least, loads));
      steps = (let more = path_steps_more s k in let one = c.make_path.ensures.steps in let so_far = c.loop-lane.invariant.steps in
          let e : Rattle.std.proofs.Common.suc k ≡ k + 1 = omega arith in let f = ap (Rattle.cf_append.specs.Paths.path_steps s) e in
          omega (arith, more, one, so_far, f));
    }

pub loop-lane-preserved-then-not-selects : goal.loop-lane-preserved-then-not-selects
loop-lane-preserved-then-not-selects g c =
    let s = c.args.log.now.shape in
    let row = c.args.row.now in
    let k = c.loop-lane.lane in
    let I = c.loop-lane.invariant in
    let passes = selected_there s c.shape-shape.result.now row k c.selects.result false c.shape-shape.ensures.shape c.selects.ensures c.if-not-selects.true in
    record {
      of = I.of;
      rest = I.rest;
      strides = I.strides;
      used = I.used;
      long = I.long;
      filed = filings_pass s row c.loop-lane.pass.view c.loop-lane.filed k I.filed (I.empty k (omega arith)) passes;
      empty = λ lane from. I.empty lane (omega (arith, from));
      near = I.near;
      kept = keeps_passed s row c.loop-lane.leaves k I.kept passes;
      others = λ lane from. I.others lane (omega (arith, from));
      near_steps = I.near_steps;
      loads = I.loads;
      steps = (let so_far = I.steps in let up = path_steps_up s k (k + 1) (omega arith) in omega (arith, so_far, up));
    }

pub returns-in_default-clause-near_steps : goal.returns-in_default-clause-near_steps
returns-in_default-clause-near_steps g c = λ all.
    let s = c.args.log.now.shape in
    let row = c.args.row.now in
    let k = c.loop-lane.lane in
    let low : k < length s.lanes = search rules in
    let passes = selected_there s c.shape-shape.result.now row k c.selects.result true c.shape-shape.ensures.shape c.selects.ensures c.if-not-selects.false in
    c.make_path.ensures.near_steps
    (keeps_still s row c.args.leaves.now c.loop-lane.leaves k (c.loop-lane.invariant.others k (omega arith)) (all k low passes))
    ∙ c.loop-lane.invariant.near_steps all
