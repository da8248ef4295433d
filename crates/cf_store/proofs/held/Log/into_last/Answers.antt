use Rattle.std.proofs.Common.{subst, sym}
use Rattle.std.specs.Arc.{arc_value}
use Rattle.cf_table.specs.Moves.{AreAll, HasGathered}
use Rattle.cf_table.specs.Values.{IsOf}
use Rattle.cf_store.specs.declared.held.Shared.{Shared}
use Rattle.cf_store.proofs.Closed.{all_home, gathered_aware}
use Rattle.cf_store.proofs.held.Log.into_last.Goals as goal

pub gather-requires-clause-all : goal.gather-requires-clause-all
gather-requires-clause-all c =
    subst (λ (s : Shared). AreAll s.log c.take_home.new.passes.items) (sym c.deref.ensures)
    (all_home (arc_value c.args.self.of).log c.args.self.places.items c.take_home.new.passes.items c.args.self.placed c.args.self.numbered c.take_home.ensures)

pub returns-clause-aware : goal.returns-clause-aware
returns-clause-aware c =
    gathered_aware (arc_value c.args.self.of).log c.args.self.root c.gather.new.root c.fork.result c.take_home.new.passes.items
    (subst (λ (s : Shared). HasGathered s.log.shape c.args.self.root c.take_home.new.passes.items c.gather.new.root) c.deref.ensures c.gather.ensures)
    (subst (λ (s : Shared). IsOf c.fork.result s.log) c.deref-2.ensures c.fork.ensures.of) c.fork.ensures.view
