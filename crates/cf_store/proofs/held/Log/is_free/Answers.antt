use Rattle.std.proofs.Common.{All, List, sym, subst}
use Rattle.std.specs.Arc.{arc_value}
use Rattle.cf_store.specs.Homes.{HaveLooked, PlaceValue}
use Rattle.cf_store.specs.Parts.{AreNumbered, IsPlaceOf}
use Rattle.cf_store.proofs.Homeward.{looked_placed}
use Rattle.cf_store.proofs.Numbered.{looked_numbered}
use Rattle.cf_store.proofs.Taken.{written_back}
use Rattle.cf_store.proofs.held.Log.is_free.Goals as goal

pub invariant_of-self : goal.invariant_of-self
invariant_of-self c =
    let log = c.args.self.now in
    let looked : HaveLooked log.places.items c.find_away.new.places = subst (λ (ps : List PlaceValue). HaveLooked ps c.find_away.new.places)
    c.deref_mut.ensures.value c.find_away.ensures.looked in
    let back = sym (written_back log.places.items c.find_away.new.places log.places.len looked log.places.ok.0) in
    record {
      root_of = log.root_of;
      root_new = log.root_new;
      placed = subst (All (IsPlaceOf (arc_value log.of).log)) back
          (looked_placed (arc_value log.of).log log.places.items c.find_away.new.places looked log.placed);
      numbered = subst (AreNumbered (arc_value log.of).log) back
          (looked_numbered (arc_value log.of).log log.places.items c.find_away.new.places looked log.placed log.numbered);
    }
