use Rattle.std.proofs.Common.{refl, ◌≡◌, ◌-◌, ◌/◌}
use Rattle.cf_law.specs.Passes.{Pass}
use Rattle.cf_append.specs.declared.paths.Prefix.{Prefix}
use Rattle.cf_append.specs.Paths.{IsAlong, IsNodeOf, spot_of}
use Rattle.cf_append.proofs.Walking.{used_by, made_by, made_none, made_then}
use Rattle.cf_append.proofs.Pathing.{along_here, along_before}
use Rattle.cf_append.proofs.paths.+make_node.Goals as goal

abbrev before : Prefix → Prefix
before at = record { lane = at.lane; level = at.level - 1; front = at.front / 16 }

pub returns-then-at-eq1-clause-made : goal.returns-then-at-eq1-clause-made
returns-then-at-eq1-clause-made g t c =
    let at = c.args.at in
    made_by c.args.log.now (λ s. s ≡ spot_of at) (IsAlong at) (λ (p : Pass). IsNodeOf c.args.log.now.shape p (spot_of at)) c.args.pass.now
    c.first_node.new.pass c.args.steps.now c.first_node.new.steps c.first_node.result (along_here c.args.log.now.shape at c.requires.prefix)
    c.first_node.ensures.made

pub returns-in_default-clause-made : goal.returns-in_default-clause-made
returns-in_default-clause-made g t c =
    let at = c.args.at in
    made_none c.args.log.now (IsAlong (before at)) (IsAlong at) (λ (p : Pass). IsNodeOf c.args.log.now.shape p (spot_of (before at)))
    (λ (p : Pass). IsNodeOf c.args.log.now.shape p (spot_of at)) c.args.pass.now c.make_node.new.pass c.args.steps.now c.make_node.new.steps
    (along_before at (before at) c.requires.prefix.some refl refl refl) c.in_default.ensures.made

pub returns-clause-made : goal.returns-clause-made
returns-clause-made g t c =
    let at = c.args.at in
    let log = c.args.log.now in
    let m = c.args.pass.now in
    let n = c.make_node.new.pass in
    let o = c.next_node.new.pass in
    let first = c.make_node.ensures.made in
    made_then log (IsAlong at) (λ (p : Pass). IsNodeOf log.shape p (spot_of at)) m n o c.args.steps.now c.make_node.new.steps c.next_node.new.steps
    c.next_node.result first.strides
    (used_by (IsAlong (before at)) (IsAlong at) m n (along_before at (before at) c.requires.prefix.some refl refl refl) first.used) first.loads
    (made_by log (λ s. s ≡ spot_of at) (IsAlong at) (λ (p : Pass). IsNodeOf log.shape p (spot_of at)) n o c.make_node.new.steps c.next_node.new.steps
    c.next_node.result (along_here log.shape at c.requires.prefix) c.next_node.ensures.made)
