use Rattle.std.proofs.Common.{All, List, refl, sym, subst}
use Rattle.std.specs.Arc.{arc_value}
use Rattle.std.specs.List.{AllZip}
use Rattle.cf_store.specs.Homes.{AreAway, HaveLooked, IsHomeAt, Keeps, PlaceValue}
use Rattle.cf_store.specs.Parts.{AreNumbered, IsPlaceOf}
use Rattle.cf_store.proofs.Homeward.{looked_placed}
use Rattle.cf_store.proofs.Numbered.{looked_numbered}
use Rattle.cf_store.proofs.Taken.{keeps_all, took, took_none, written_back}
use Rattle.cf_store.proofs.held.Log.next_writer.Goals as goal

pub invariant_of-self : goal.invariant_of-self
invariant_of-self c =
    let log = c.args.self.now in
    let looked : HaveLooked log.places.items c.find_home.new.places = subst (λ (ps : List PlaceValue). HaveLooked ps c.find_home.new.places)
    c.deref_mut.ensures.value c.find_home.ensures.looked in
    record {
      root_of = log.root_of;
      root_new = log.root_new;
      placed = subst (All (IsPlaceOf (arc_value log.of).log)) (sym (written_back log.places.items c.find_home.new.places log.places.len looked log.places.ok.0))
          (looked_placed (arc_value log.of).log log.places.items c.find_home.new.places looked log.placed);
      numbered = subst (AreNumbered (arc_value log.of).log) (sym (written_back log.places.items c.find_home.new.places log.places.len looked log.places.ok.0))
          (looked_numbered (arc_value log.of).log log.places.items c.find_home.new.places looked log.placed log.numbered);
    }

pub returns-in_default : goal.returns-in_default
returns-in_default c =
    let log = c.args.self.now in
    let looked : HaveLooked log.places.items c.find_home.new.places = subst (λ (ps : List PlaceValue). HaveLooked ps c.find_home.new.places)
    c.deref_mut.ensures.value c.find_home.ensures.looked in
    let back = written_back log.places.items c.find_home.new.places log.places.len looked log.places.ok.0 in (
      record { of = refl; root = refl; places_are = refl },
      subst (AllZip Keeps log.places.items) (sym back) (keeps_all log.places.items c.find_home.new.places looked),
      subst AreAway (sym back) c.in_default.ensures.found,
    )

pub returns-in-Some-take_at : goal.returns-in-Some-take_at
returns-in-Some-take_at c =
    let log = c.args.self.now in
    let looked : HaveLooked log.places.items c.find_home.new.places = subst (λ (ps : List PlaceValue). HaveLooked ps c.find_home.new.places)
    c.deref_mut.ensures.value c.find_home.ensures.looked in
    let back = written_back log.places.items c.find_home.new.places log.places.len looked log.places.ok.0 in
    took c.in-Some.k log _ c.take_at.new.self c.in-Some-take_at.writer.value record { of = refl; root = refl; places_are = refl }
    (subst (HaveLooked log.places.items) (sym back) looked) (subst (λ (ps : List PlaceValue). IsHomeAt ps c.in-Some.k) (sym back) c.in-Some.ensures.found)
    c.in-Some-take_at.ensures

pub returns-in-None : goal.returns-in-None
returns-in-None c =
    let log = c.args.self.now in
    let looked : HaveLooked log.places.items c.find_home.new.places = subst (λ (ps : List PlaceValue). HaveLooked ps c.find_home.new.places)
    c.deref_mut.ensures.value c.find_home.ensures.looked in
    let back = written_back log.places.items c.find_home.new.places log.places.len looked log.places.ok.0 in
    took_none c.in-Some.k log _ c.take_at.new.self record { of = refl; root = refl; places_are = refl }
    (subst (HaveLooked log.places.items) (sym back) looked) (subst (λ (ps : List PlaceValue). IsHomeAt ps c.in-Some.k) (sym back) c.in-Some.ensures.found)
    c.in-None.ensures
