use Rattle.std.proofs.Common.{◌≡◌, ◌-◌, ◌+◌, suc, sym, ◌∙◌, arith, Ok, Err, ap}
use Rattle.cf_filter.specs.declared.atom.Joint.TheVariants.{End}
use Rattle.cf_filter.specs.Exprs.{conjunctions_at}
use Rattle.cf_filter.specs.Reading.{atom_at, joint_at}
use Rattle.cf_filter.proofs.Conjunctions.{read_on, read_start, read_and, read_or, read_end, read_bad_atom, read_bad_joint, read_full, pair, joint_and_rest}
use Rattle.cf_filter.proofs.expr.conjunctions_of.Goals as goal
use Rattle.cf_filter.proofs.expr.conjunctions_of.Goals.{in-And, in-Or+in_ok-push-in-Or}

pub loop-i-init : goal.loop-i-init
loop-i-init c = rw (c.new-closed.ensures.items, c.new-current.ensures.items) (read_start c.args.attrs.now 32 c.args.text.now)

pub returns-in-Err : goal.returns-in-Err
returns-in-Err c =
    let stopped : atom_at c.args.attrs.now c.loop-i.rest.now ≡ Err c.in-Err.stop = sym (rw c.in-Err.is at c.atom_of.ensures) in
    let more : 32 - c.loop-i._i ≡ suc (31 - c.loop-i._i) = omega arith in
    sym (read_bad_atom c.loop-i.closed.items c.loop-i.current.items c.args.attrs.now (32 - c.loop-i._i)
    (31 - c.loop-i._i) c.loop-i.rest.now c.in-Err.stop more stopped) ∙ c.loop-i.invariant

pub returns-in-Err-joint_of : goal.returns-in-Err-joint_of
returns-in-Err-joint_of c =
    let found : atom_at c.args.attrs.now c.loop-i.rest.now ≡ Ok (pair c.in-Ok.found.0 c.in-Ok.found.1.now) = sym (rw c.in-Ok.is at c.atom_of.ensures) in
    let stopped : joint_at c.in-Ok.found.1.now ≡ Err c.in-Err-joint_of.stop = sym (rw c.in-Err-joint_of.is at c.joint_of.ensures) in
    let more : 32 - c.loop-i._i ≡ suc (31 - c.loop-i._i) = omega arith in
    sym (read_bad_joint c.loop-i.closed.items c.loop-i.current.items c.args.attrs.now (32 - c.loop-i._i)
    (31 - c.loop-i._i) c.loop-i.rest.now c.in-Ok.found.1.now c.in-Ok.found.0 c.in-Err-joint_of.stop more found stopped) ∙ c.loop-i.invariant

pub returns-in-End : goal.returns-in-End
returns-in-End c =
    let rest = c.in-Ok.found.1.now in
    let after = c.in-Ok-joint_of.found.1.now in
    let found : atom_at c.args.attrs.now c.loop-i.rest.now ≡ Ok (pair c.in-Ok.found.0 rest) = sym (rw c.in-Ok.is at c.atom_of.ensures) in
    let joined : joint_at rest ≡ Ok (joint_and_rest End after) = sym (rw c.in-Ok-joint_of.is at c.joint_of.ensures)
    ∙ ap (λ l. Ok (joint_and_rest l after)) c.in-End.is in
    let more : 32 - c.loop-i._i ≡ suc (31 - c.loop-i._i) = omega arith in
    rw (c.new-in-End.ensures, c.in_ok-push-in-End.ensures.items, c.new.ensures, c.in_ok-push.ensures.items)
    (sym (read_end c.loop-i.closed.items c.loop-i.current.items c.args.attrs.now (32 - c.loop-i._i)
    (31 - c.loop-i._i) c.loop-i.rest.now rest after c.in-Ok.found.0 more found joined) ∙ c.loop-i.invariant)

pub loop-i-preserved : goal.loop-i-preserved
loop-i-preserved c =
    let rest = c.in-Ok.found.1.now in
    let after = c.in-Ok-joint_of.found.1.now in
    let found : atom_at c.args.attrs.now c.loop-i.rest.now ≡ Ok (pair c.in-Ok.found.0 rest) = sym (rw c.in-Ok.is at c.atom_of.ensures) in
    let joint : joint_at rest ≡ Ok (joint_and_rest c.in-Ok-joint_of.found.0 after) = sym (rw c.in-Ok-joint_of.is at c.joint_of.ensures) in
    let more : 32 - c.loop-i._i ≡ suc (32 - (c.loop-i._i + 1)) = omega arith in
    elim c.match-joint.branch [
      | in-And w ↦ rw (w.closed-is, w.current-is, c.in_ok-push.ensures.items)
          (sym (read_and c.loop-i.closed.items c.loop-i.current.items c.args.attrs.now (32 - c.loop-i._i)
          (32 - (c.loop-i._i + 1)) c.loop-i.rest.now rest after c.in-Ok.found.0 more found (joint ∙ ap (λ l. Ok (joint_and_rest l after)) w.in-And.is))
          ∙ c.loop-i.invariant)
      | in-Or+in_ok-push-in-Or w ↦ rw
          (w.closed-is, w.current-is, w.new-current-in-Or.ensures.items, w.in_ok-push-in-Or.ensures.items, w.new-in-Or.ensures, c.in_ok-push.ensures.items)
          (sym (read_or c.loop-i.closed.items c.loop-i.current.items c.args.attrs.now (32 - c.loop-i._i)
          (32 - (c.loop-i._i + 1)) c.loop-i.rest.now rest after c.in-Ok.found.0 more found (joint ∙ ap (λ l. Ok (joint_and_rest l after)) w.in-Or.is))
          ∙ c.loop-i.invariant)
    ]

pub returns : goal.returns
returns c =
    let none : c.loop-i._i ≡ 32 = omega arith in
    let full : read_on c.loop-i.closed.items c.loop-i.current.items c.args.attrs.now 0 c.loop-i.rest.now ≡ conjunctions_at c.args.attrs.now 32
    c.args.text.now = rw none at c.loop-i.invariant in
    rw c.unspaced.ensures (sym (read_full c.loop-i.closed.items c.loop-i.current.items c.args.attrs.now c.loop-i.rest.now) ∙ full)
