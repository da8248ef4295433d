use Rattle.std.proofs.Common.{◌≡◌, refl, rules}
use Rattle.cf_law.specs.Events.WorldEvent.{acts}
use Rattle.cf_law.specs.Steps.Act.{load_child}
use Rattle.cf_law.specs.Steps.{pass_with_child}
use Rattle.cf_core.specs.Worlds.{IsChildAt, NoChildAt}
use Rattle.cf_core.proofs.Making.{made, made_lawful, pass_there}
use Rattle.cf_core.proofs.Children.{child_does, child_none, child_there}
use Rattle.cf_core.proofs.world.World.load_child.Goals as goal

pub returns-in_default-2 : goal.returns-in_default-2
returns-in_default-2 c =
    let none : NoChildAt c.args.self.now c.in-Some.pass.now c.args.place = rw c.in_default-2.is at c.in_ok-spot.ensures in
    (refl, λ y does. child_none c.args.self.now c.args.number c.args.place c.in-Some.pass.now y c.in-Some.ensures none does)

pub word-found-requires : goal.word-found-requires
word-found-requires c =
    let child : IsChildAt c.args.self.now c.in-Some.pass.now c.args.place c.in-Some-2.spot = rw c.in-Some-2.is at c.in_ok-spot.ensures in
    child_there c.args.self.now c.in-Some.pass.now c.args.place c.in-Some-2.spot c.shape-held.ensures.lawful child

pub put-requires-clause-pass : goal.put-requires-clause-pass
put-requires-clause-pass c = pass_there c.args.self.now c.args.number c.in-Some.pass.now c.in-Some.ensures

pub put-requires-clause-word : goal.put-requires-clause-word
put-requires-clause-word c =
    let child : IsChildAt c.args.self.now c.in-Some.pass.now c.args.place c.in-Some-2.spot = rw c.in-Some-2.is at c.in_ok-spot.ensures in
    child_there c.args.self.now c.in-Some.pass.now c.args.place c.in-Some-2.spot c.shape-held.ensures.lawful child

pub put-requires-clause-lawful : goal.put-requires-clause-lawful
put-requires-clause-lawful c =
    let child : IsChildAt c.args.self.now c.in-Some.pass.now c.args.place c.in-Some-2.spot = rw c.in-Some-2.is at c.in_ok-spot.ensures in
    let after : c.in_ok-after.after ≡ pass_with_child c.args.place c.in-Some-2.spot c.in-Some.pass.now c.word-found.result =
    search (rules, c.in_ok-after.ensures) in
    let does = child_does c.args.self.now c.args.number c.args.place c.word-found.result c.in-Some.pass.now c.in_ok-after.after c.in-Some-2.spot
    c.in-Some.ensures child c.word-found.ensures after in
    made_lawful c.args.self.now c.args.number (acts (load_child c.args.place)) _ c.shape-held.ensures.lawful does

pub returns : goal.returns
returns c =
    let child : IsChildAt c.args.self.now c.in-Some.pass.now c.args.place c.in-Some-2.spot = rw c.in-Some-2.is at c.in_ok-spot.ensures in
    let after : c.in_ok-after.after ≡ pass_with_child c.args.place c.in-Some-2.spot c.in-Some.pass.now c.word-found.result =
    search (rules, c.in_ok-after.ensures) in
    let does = child_does c.args.self.now c.args.number c.args.place c.word-found.result c.in-Some.pass.now c.in_ok-after.after c.in-Some-2.spot
    c.in-Some.ensures child c.word-found.ensures after in
    made c.args.self.now c.put.new.self c.args.number (acts (load_child c.args.place)) _ _ c.put.ensures does
