use Rattle.std.proofs.Common.{string_bytes}
use Rattle.cf_row.proofs.Ranges.{step_range}
use Rattle.cf_rounds.specs.Lines.{total_line_at}
use Rattle.cf_rounds.proofs.beat.push_beat.Goals as goal

pub loop-lane-preserved : goal.loop-lane-preserved
loop-lane-preserved c = λ view is.
    step_range (total_line_at c.args.shape.now c.args.setup.now view) c.loop-lane.lane (string_bytes c.push_at.new.text) (string_bytes c.loop-lane.text)
    (string_bytes c.push_total_at.new.text) (c.loop-lane.invariant view is) (c.in_ok-push_total_at.ensures view is)
