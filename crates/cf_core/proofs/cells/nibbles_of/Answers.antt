use Rattle.std.proofs.Common.{◌≡◌, ℕ, ◌+◌, ◌-◌, ◌/◌, ◌%◌, ◌++◌, ◌∷◌, [], List, append-nil, arith, ap, sym, ◌∙◌, rules}
use Rattle.cf_law.specs.Nibbles.{nibbles}
use Rattle.cf_core.proofs.Paths.{nibbles_none, nibbles_step}
use Rattle.cf_core.proofs.cells.nibbles_of.Goals as goal

pub loop-level-preserved : goal.loop-level-preserved
loop-level-preserved c =
    let items : c.push.new.self.items ≡ c.loop-level.path.items ++ c.loop-level.left % 16 ∷ [] = search (rules, c.in_ok-push.ensures.items) in
    ap (λ (xs : List ℕ). xs ++ nibbles (c.args.count - (c.loop-level.level + 1)) (c.loop-level.left / 16)) items
    ∙ (sym (nibbles_step c.args.count c.loop-level.level c.loop-level.left c.loop-level.path.items c.loop-level-test.true) ∙ c.loop-level.invariant)

pub returns : goal.returns
returns c =
    let none : c.args.count - c.loop-level.level ≡ 0 = omega (arith, c.loop-level-test.false) in
    sym (append-nil c.loop-level.path.items)
    ∙ (ap (λ (xs : List ℕ). c.loop-level.path.items ++ xs) (sym (ap (λ (n : ℕ). nibbles n c.loop-level.left) none ∙ nibbles_none c.loop-level.left))
    ∙ c.loop-level.invariant)
