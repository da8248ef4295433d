use Rattle.std.proofs.Common.{[], string_bytes}
use Rattle.cf_row.proofs.Ranges.{step_range}
use Rattle.cf_run.specs.Lengths.{cut_line_at}
use Rattle.cf_run.proofs.long_run.with_cuts.Goals as goal

pub loop-place-preserved : goal.loop-place-preserved
loop-place-preserved c =
    step_range (cut_line_at c.args.several c.args.cuts.now) c.loop-place.place [] (string_bytes c.loop-place.lines)
    (string_bytes c.push_cut.new.text) c.loop-place.invariant c.in_ok-push_cut.ensures
