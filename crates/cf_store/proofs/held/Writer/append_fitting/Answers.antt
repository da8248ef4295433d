use Rattle.std.proofs.Common.{refl, subst}
use Rattle.std.specs.Arc.{arc_value}
use Rattle.cf_append.specs.Appends.{HasAppended}
use Rattle.cf_store.specs.declared.held.Shared.{Shared}
use Rattle.cf_store.proofs.Homeward.{may_still}
use Rattle.cf_store.proofs.held.Writer.append_fitting.Goals as goal
use Rattle.cf_table.proofs.Homing.{still_one}

pub invariant_of-self : goal.invariant_of-self
invariant_of-self c =
    let writer = c.args.self.now in
    let did = subst (λ (s : Shared). HasAppended s.log.shape c.args.row.now writer.pass c.append_near.new.pass c.append_near.result) c.deref.ensures
    c.append_near.ensures.appended in
    record {
      ready = record { of = still_one (arc_value writer.of).log writer.pass c.append_near.new.pass writer.ready.of did.goes_on.same; rest = did.rest };
      homeward = may_still (arc_value writer.of).log.shape c.args.row.now writer.pass c.append_near.new.pass c.append_near.result writer.way writer.way refl
          writer.homeward did;
    }
