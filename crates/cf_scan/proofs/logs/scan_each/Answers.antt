use Rattle.std.proofs.Common.{get_or, subst, rules}
use Rattle.cf_scan.specs.Parts.{HasScanned, entries_in}
use Rattle.cf_scan.specs.declared.parts.Part.{Part}
use Rattle.cf_scan.proofs.Joining.{same_flat}
use Rattle.cf_scan.proofs.logs.scan_each.Goals as goal

pub returns-clause-entries : goal.returns-clause-entries
returns-clause-entries g c =
    same_flat entries_in c.args.parts.now c.par_for_each_mut.new.s (search rules) (λ i d lt.
    let at = (c.par_for_each_mut.ensures i d lt).1 in
    let made : HasScanned c.args.shape.now c.args.ask.now (get_or c.args.parts.now i d) (get_or c.par_for_each_mut.new.s i d) =
    subst (λ (p : Part). HasScanned c.args.shape.now c.args.ask.now p (get_or c.par_for_each_mut.new.s i d)) at.argument_is
    (subst (λ (p : Part). HasScanned c.args.shape.now c.args.ask.now at.argument.now p) at.left at.call) in
    made.entries)
