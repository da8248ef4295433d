use Rattle.std.proofs.Common.{◌<◌, subst}
use Rattle.cf_window.specs.Held.{WindowValue}
use Rattle.cf_window.proofs.Rows.{some_to_drop}
use Rattle.cf_window.proofs.window.Window.replace_oldest.Goals as goal

pub drop_oldest-requires : goal.drop_oldest-requires
drop_oldest-requires g c =
    let old = c.args.self.now in
    record {
      some = some_to_drop old.shape old.most old.segments c.args.row.now
          (subst (λ (w : WindowValue). 0 < w.most) c.self.view_is c.self.invariant.0.some) c.requires.needed;
    }
