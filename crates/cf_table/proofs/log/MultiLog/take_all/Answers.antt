use Rattle.std.proofs.Common.{◌≡◌, ◌∷◌, List, length, ap, subst, arith}
use Rattle.std.proofs.lemmas.List.{nil_from_length}
use Rattle.std.specs.Vec.Iter.{into_iter_items}
use Rattle.cf_table.specs.Values.{PassValue}
use Rattle.cf_table.proofs.Homing.{AreHomeward, homeward_next, still_one, gathers_next, gathers_none}
use Rattle.cf_table.proofs.log.MultiLog.take_all.Goals as goal

pub loop-pass-preserved : goal.loop-pass-preserved
loop-pass-preserved c =
    let log = c.args.self.now in
    let v = c.loop-pass.invariant in
    let h = c.in-Some.pass in
    let rest : List PassValue = into_iter_items c.next.new.self in
    let split : into_iter_items c.loop-pass.pass-iterator ≡ h ∷ rest = c.in-Some.ensures.steps.0 in
    let one = c.take_in.ensures.one in
    let few = v.few in
    let long = ap (λ (xs : List PassValue). length xs) split in record {
      of = still_one log c.loop-pass.root c.take_in.new.root v.of c.take_in.ensures.folded.made.same;
      homeward = homeward_next log h rest (subst (AreHomeward log) split v.homeward);
      few = omega (arith, one, few, long);
      len = (let step = c.in-Some.ensures.steps.1 in let len = v.len in omega (arith, step, len, long));
      more = λ n g. v.more n (rw split (gathers_next log.shape c.loop-pass.root c.take_in.new.root n h rest c.take_in.ensures.folded g));
    }

pub returns-clause-gathers : goal.returns-clause-gathers
returns-clause-gathers c =
    c.loop-pass.invariant.more c.loop-pass.root
    (gathers_none c.args.self.now.shape c.loop-pass.root (into_iter_items c.loop-pass.pass-iterator)
    (nil_from_length (into_iter_items c.loop-pass.pass-iterator)
    (let none = c.in-None.ensures.steps.0 in let len = c.loop-pass.invariant.len in omega (arith, none, len))))
