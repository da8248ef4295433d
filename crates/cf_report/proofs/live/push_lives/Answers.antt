use Rattle.std.proofs.Common.{◌++◌, [], string_bytes}
use Rattle.cf_plain.specs.Asks.{rows_in}
use Rattle.cf_report.specs.Report.{live_lines}
use Rattle.cf_report.proofs.Lives.{lives_step}
use Rattle.cf_report.proofs.live.push_lives.Goals as goal

pub loop-place-preserved : goal.loop-place-preserved
loop-place-preserved c =
    let e = c.in_ok-push_lines.ensures in
    let i = c.loop-place.invariant in
    lives_step c.args.setup.now (rows_in c.args.entries.now) c.args.lives.now c.loop-place.place c.index-lives-place.result (string_bytes c.loop-place.text)
    (string_bytes c.push_lines.new.text)
    (string_bytes c.args.text.now ++ live_lines c.args.setup.now
    (rows_in c.args.entries.now) [] c.args.lives.now) c.loop-place-test.true c.index-lives-place.is i e
