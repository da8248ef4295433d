use Rattle.std.proofs.Common.{rules, ◌≡◌, ◌<◌, get_or, length}
use Rattle.cf_load.proofs.Progress.{first_out}
use Rattle.cf_load.proofs.writers.run_first.Goals as goal

pub returns-in-Some-clause-out : goal.returns-in-Some-clause-out
returns-in-Some-clause-out g c =
    let some : 0 < length c.args.passes.now = search rules in
    let first : c.in-Some.pass.now ≡ get_or c.args.passes.now 0 c.in-Some.pass.now = search rules in
    first_out c.args.log.now c.args.first c.args.batch.now c.args.passes.now c.in-Some.pass.now c.write_counted.new.pass c.write_counted.result some first
    c.write_counted.ensures.out
