use Rattle.std.proofs.Common.{◌≡◌, ◌∷◌, Some, true, ap, sym, ◌∙◌, rules}
use Rattle.cf_law.specs.Words.{spot}
use Rattle.cf_law.specs.Shapes.{path_in}
use Rattle.cf_core.proofs.Heads.{leads_is, leads_only}
use Rattle.cf_core.proofs.world.World.leads.Goals as goal

pub returns-in_default-clause-none : goal.returns-in_default-clause-none
returns-in_default-clause-none c = λ e leads. c.in_default.ensures (spot c.args.at.lane leads.0) leads.2

pub returns-clause-some : goal.returns-clause-some
returns-clause-some c =
    let there : path_in c.args.self.now.shape c.args.row.now c.args.at.lane ≡ Some c.in-Some-2.path.items =
    (let raw : path_in c.shape-shape.result.now c.args.row.now c.args.at.lane ≡ Some c.in-Some-2.path.items = rw c.in-Some-2.is at c.in_ok-path.ensures in
    rw c.shape-shape.ensures.shape at raw) in
    let leaf : c.in_ok-leaf.leaf ≡ spot c.in-Some.above.now.lane (c.args.at.nibble ∷ c.in-Some.above.now.path) = search (rules, c.in_ok-leaf.ensures) in
    let items : c.deref.result.now ≡ c.in-Some-2.path.items = c.deref.ensures.value in
    λ t. leads_is c.args.self.now c.args.pass.now c.args.row.now c.args.at.lane c.args.at.node c.args.at.nibble c.in-Some.above.now c.in-Some-2.path.items
    c.in-Some.ensures
    there (sym leaf ∙ ((c.is.ensures).0 t ∙ ap (spot c.args.at.lane) items))

pub returns-clause-none : goal.returns-clause-none
returns-clause-none c =
    let there : path_in c.args.self.now.shape c.args.row.now c.args.at.lane ≡ Some c.in-Some-2.path.items =
    (let raw : path_in c.shape-shape.result.now c.args.row.now c.args.at.lane ≡ Some c.in-Some-2.path.items = rw c.in-Some-2.is at c.in_ok-path.ensures in
    rw c.shape-shape.ensures.shape at raw) in
    let leaf : c.in_ok-leaf.leaf ≡ spot c.in-Some.above.now.lane (c.args.at.nibble ∷ c.in-Some.above.now.path) = search (rules, c.in_ok-leaf.ensures) in
    let items : c.deref.result.now ≡ c.in-Some-2.path.items = c.deref.ensures.value in
    λ e leads. (let same = leads_only c.args.self.now c.args.number c.args.pass.now c.args.row.now c.args.at.lane c.args.at.node c.args.at.nibble
    c.in-Some.above.now
    c.in-Some-2.path.items c.shape-shape.ensures.lawful c.requires.live c.in-Some.ensures there leads in
    let found : c.is.result ≡ true = (c.is.ensures).1 (leaf ∙ (same ∙ ap (spot c.args.at.lane) (sym items))) in absurd (cc (found, e)))
