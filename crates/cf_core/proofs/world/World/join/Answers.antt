use Rattle.std.proofs.Common.{◌≡◌, rules}
use Rattle.cf_law.specs.Events.WorldEvent.{joins}
use Rattle.cf_law.specs.Steps.{joined_pass}
use Rattle.cf_core.proofs.Making.{made, made_lawful}
use Rattle.cf_core.proofs.Handing.{joins_does}
use Rattle.cf_core.proofs.world.World.join.Goals as goal

pub unite-requires-clause-lawful : goal.unite-requires-clause-lawful
unite-requires-clause-lawful c =
    let one : c.in_ok-joined.joined ≡ joined_pass c.in-Some.pass.now c.in-Some-live.there.now = search (rules, c.in_ok-joined.ensures) in
    let rests = (c.is_at_rest.ensures).0 c.if-not-is_at_rest.false in
    let does = joins_does c.args.self.now c.args.number c.args.other c.in-Some.pass.now c.in-Some-live.there.now c.in_ok-joined.joined c.spent.result
    c.in-Some.ensures c.in-Some-live.ensures c.if-other-number.false rests one c.spent.ensures in
    made_lawful c.args.self.now c.args.number (joins c.args.other) _ c.shape-held.ensures.lawful does

pub returns : goal.returns
returns c =
    let one : c.in_ok-joined.joined ≡ joined_pass c.in-Some.pass.now c.in-Some-live.there.now = search (rules, c.in_ok-joined.ensures) in
    let rests = (c.is_at_rest.ensures).0 c.if-not-is_at_rest.false in
    let does = joins_does c.args.self.now c.args.number c.args.other c.in-Some.pass.now c.in-Some-live.there.now c.in_ok-joined.joined c.spent.result
    c.in-Some.ensures c.in-Some-live.ensures c.if-other-number.false rests one c.spent.ensures in
    made c.args.self.now c.unite.new.self c.args.number (joins c.args.other) _ _ c.unite.ensures does
