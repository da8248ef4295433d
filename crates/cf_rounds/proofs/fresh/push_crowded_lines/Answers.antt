use Rattle.std.proofs.Common.{◌<◌, ◌∙◌, ◌++◌, List, [], ℕ, ap, ap₂, arith, length, sym, string_bytes}
use Rattle.std.specs.List.{flat_map}
use Rattle.cf_row.proofs.Ranges.{step_range}
use Rattle.cf_watch.specs.Watched.{watched_count, watched_crowds, watched_crowds_told}
use Rattle.cf_watch.specs.declared.watched.Watched.{Watched}
use Rattle.cf_watch.proofs.Told.{told_more}
use Rattle.cf_rounds.specs.Lines.{crowded_line, crowded_lines_at}
use Rattle.cf_rounds.proofs.Keeping.{crowds_long, crowds_still, crowds_to_counted, set_as_many}
use Rattle.cf_rounds.proofs.fresh.push_crowded_lines.Goals as goal

pub returns-in_err-push_crowded_of-clause-counted : goal.returns-in_err-push_crowded_of-clause-counted
returns-in_err-push_crowded_of-clause-counted c = λ count all.
    let long = crowds_long c.args.kept.now c.loop-lane.kept c.loop-lane.lane c.loop-lane.invariant.told in
    let low : c.loop-lane.lane < length c.loop-lane.kept = omega (arith, long, c.loop-lane-test.true) in
    let is = ap watched_count c.index-kept-lane.is in
    set_as_many count c.loop-lane.lane c.loop-lane.kept c.push_crowded_of.new.kept c.index-kept-lane.result low
    (omega (arith, is, c.in_err-push_crowded_of.ensures.count))
    (crowds_to_counted c.args.kept.now c.loop-lane.kept c.loop-lane.lane count c.loop-lane.invariant.told all)

pub loop-lane-preserved : goal.loop-lane-preserved
loop-lane-preserved c =
    let old = c.args.kept.now in
    let lane = c.loop-lane.lane in
    let setup = c.args.setup.now in
    let before : List ℕ = string_bytes c.loop-lane.text in
    let name = c.name_at.ensures ∙ ap (λ (ns : List (List ℕ)). Rattle.std.specs.Prelude.slice_index_or ns lane []) c.lane_names-names.ensures.names in
    let was = crowds_still old c.loop-lane.kept lane c.index-kept-lane.result c.loop-lane-test.true c.loop-lane.invariant.told c.index-kept-lane.is in
    record {
      told = told_more watched_crowds_told old c.loop-lane.kept lane c.index-kept-lane.result c.push_crowded_of.new.kept c.loop-lane-test.true c.loop-lane.invariant.told
          c.in_ok-push_crowded_of.ensures.told;
      text = step_range (crowded_lines_at setup c.args.to old) lane (string_bytes c.args.text.now) before (string_bytes c.push_crowded_of.new.text)
          c.loop-lane.invariant.text
          (c.in_ok-push_crowded_of.ensures.lines
          ∙ ap₂ (λ (n : List ℕ) (k : Watched). before ++ flat_map (crowded_line n c.args.to) (watched_crowds k)) name (sym c.index-kept-lane.is ∙ was));
    }

pub returns-clause-counted : goal.returns-clause-counted
returns-clause-counted c = λ count all.
    crowds_to_counted c.args.kept.now c.loop-lane.kept c.loop-lane.lane count c.loop-lane.invariant.told all
