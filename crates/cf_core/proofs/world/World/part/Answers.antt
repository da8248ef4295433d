use Rattle.std.proofs.Common.{◌≡◌, ◌++◌, ◌∷◌, [], rules}
use Rattle.cf_core.proofs.Handing.{part_lawful, part_is}
use Rattle.cf_core.proofs.world.World.part.Goals as goal

pub invariant_of-self-2 : goal.invariant_of-self-2
invariant_of-self-2 c =
    let items : c.push.new.self.items ≡ c.self.inside.passes.items ++ c.args.right ∷ [] = search (rules, c.in_ok-push.ensures.items) in
    part_lawful _ c.args.self.now c.push.new.self.items c.args.number c.args.left c.args.right c.self.invariant c.self.view_is items c.requires.pass
    c.requires.lawful

pub returns : goal.returns
returns c =
    let items : c.push.new.self.items ≡ c.self.inside.passes.items ++ c.args.right ∷ [] = search (rules, c.in_ok-push.ensures.items) in
    part_is _ c.args.self.now c.push.new.self.items c.args.number c.args.left c.args.right c.self.view_is items c.requires.pass
