use Rattle.std.proofs.Common.{◌≡◌, length, ap, arith, rules}
use Rattle.cf_law.specs.Events.WorldEvent.{acts}
use Rattle.cf_law.specs.Events.{entries_spelled, plain_at}
use Rattle.cf_row.specs.declared.row.Entry.{Entry}
use Rattle.cf_law.specs.Shapes.{layout}
use Rattle.cf_law.specs.Steps.{pass_with_tail}
use Rattle.cf_law.specs.Steps.Act.{load_tail}
use Rattle.cf_core.proofs.Making.{made, made_lawful}
use Rattle.cf_core.proofs.Tables.{tail_does, table_long}
use Rattle.cf_core.proofs.world.World.load_tail.Goals as goal

pub put-requires-clause-lawful : goal.put-requires-clause-lawful
put-requires-clause-lawful c =
    let entries : c.in_ok-entries.entries.items ≡ entries_spelled (layout c.args.self.now.shape) c.args.self.now.words c.read_tail-tail.result =
    search (rules, c.in_ok-entries.ensures) in
    let after : c.in_ok-after.after ≡ pass_with_tail c.args.asked c.read_tail-tail.result c.in_ok-entries.entries.items c.in-Some.pass.now =
    search (rules, c.in_ok-after.ensures) in
    let does = tail_does c.args.self.now c.args.number c.read_tail-tail.result c.args.asked c.in-Some.pass.now c.in_ok-after.after
    c.in_ok-entries.entries.items c.read_tail-tail.ensures.lawful c.in-Some.ensures c.read_tail-tail.ensures.tail entries after in
    made_lawful c.args.self.now c.args.number (acts (load_tail c.args.asked)) _ c.read_tail-tail.ensures.lawful does

pub returns : goal.returns
returns c =
    let entries : c.in_ok-entries.entries.items ≡ entries_spelled (layout c.args.self.now.shape) c.args.self.now.words c.read_tail-tail.result =
    search (rules, c.in_ok-entries.ensures) in
    let after : c.in_ok-after.after ≡ pass_with_tail c.args.asked c.read_tail-tail.result c.in_ok-entries.entries.items c.in-Some.pass.now =
    search (rules, c.in_ok-after.ensures) in
    let does = tail_does c.args.self.now c.args.number c.read_tail-tail.result c.args.asked c.in-Some.pass.now c.in_ok-after.after
    c.in_ok-entries.entries.items c.read_tail-tail.ensures.lawful c.in-Some.ensures c.read_tail-tail.ensures.tail entries after in
    made c.args.self.now c.put.new.self c.args.number (acts (load_tail c.args.asked)) _ _ c.put.ensures does

pub tail_loaded-requires : goal.tail_loaded-requires
tail_loaded-requires c =
    let entries : c.in_ok-entries.entries.items ≡ entries_spelled (layout c.args.self.now.shape) c.args.self.now.words c.read_tail-tail.result =
    search (rules, c.in_ok-entries.ensures) in
    let long = table_long
    (λ o. (layout c.args.self.now.shape).reads (plain_at (layout c.args.self.now.shape) c.args.self.now.words o)) c.read_tail-tail.result in
    omega (arith, ap (length {A = Entry}) entries, long)
