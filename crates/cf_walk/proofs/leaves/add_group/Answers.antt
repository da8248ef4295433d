use Rattle.std.proofs.Common.{arith, rules}
use Rattle.cf_walk.proofs.Grouping.{none_found, one_found}
use Rattle.cf_walk.proofs.leaves.add_group.Goals as goal

pub returns-in_ok-push-clause-found : goal.returns-in_ok-push-clause-found
returns-in_ok-push-clause-found g c =
    let some = c.if-count-gt0.true in
    let count = c.count.ensures in
    one_found c.args.log.now.shape c.args.keys.lane c.args.keys.low c.args.keys.high c.measure_key-last.result.0
    ((g.P.Pass.held c.args.pass.now).view).seen c.measure_key-last.result.1 c.args.groups.now.items
    (c.push.new.self).items c.shape-lawful.ensures.lawful c.requires.alone (search rules) c.requires.measures.exists c.requires.measures.reads.fit c.requires.top
    c.measure_key-last.ensures.quad (omega (arith, some, count)) (c.measure_key-last.ensures.one (omega (arith, some, count))) c.in_ok-push.ensures.items

pub returns-else-count-gt0-clause-found : goal.returns-else-count-gt0-clause-found
returns-else-count-gt0-clause-found g c =
    let none = c.if-count-gt0.false in
    let count = c.count.ensures in
    none_found c.args.log.now.shape c.args.keys.lane c.args.keys.low c.args.keys.high c.measure_key-last.result.0
    ((g.P.Pass.held c.args.pass.now).view).seen c.measure_key-last.result.1 c.args.groups.now.items c.shape-lawful.ensures.lawful c.requires.alone c.requires.measures.exists
    c.requires.measures.reads.fit c.requires.top
    c.measure_key-last.ensures.quad (omega (arith, none, count))
