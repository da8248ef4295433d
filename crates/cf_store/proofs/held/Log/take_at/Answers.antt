use Rattle.std.proofs.Common.{◌≡◌, ◌∙◌, All, ◌∷◌, [], Some, slice_get, set, ap, refl, sym, subst, arith}
use Rattle.std.specs.Arc.{arc_value}
use Rattle.std.proofs.lemmas.Option.{slice_get_within}
use Rattle.cf_store.specs.Homes.{PlaceValue, taken_home}
use Rattle.cf_append.specs.Appends.{IsReady}
use Rattle.cf_store.specs.Parts.{AreNumbered, IsOfWriter, IsPlaceOf}
use Rattle.cf_store.specs.declared.held.Shared.{Shared}
use Rattle.cf_store.specs.declared.held.Writer.{Writer}
use Rattle.cf_store.proofs.Homeward.{away_placed, home_placed, may_first, placed_at, set_placed}
use Rattle.cf_store.proofs.Numbered.{away_numbered, home_numbered, set_numbered}
use Rattle.cf_store.proofs.Taken.{set_here, set_over, some_home, stands}
use Rattle.cf_store.proofs.held.Log.take_at.Goals as goal

pub returns-in_default : goal.returns-in_default
returns-in_default c = (
  record { of = refl; root = refl; places_are = refl },
  (c.requires.place, c.requires.place, c.requires.at, refl, sym (set_here c.args.self.now.places.items c.args.place c.requires.place c.requires.at)),
)

pub index_mut-requires : goal.index_mut-requires
index_mut-requires c =
    let low = slice_get_within c.args.self.now.places.items c.args.place c.requires.place c.requires.at in
    let long = c.args.self.now.places.ok.0 in omega (arith, low, long)

pub take-requires : goal.take-requires
take-requires c =
    let here = stands c.args.self.now.places.items c.args.place c.index_mut.result.now c.requires.place c.requires.at c.index_mut.ensures.value in
    some_home c.index_mut.result.now c.requires.pass (ap (λ (p : PlaceValue). p.home) here ∙ c.requires.home)

pub invariant_of-new : goal.invariant_of-new
invariant_of-new c =
    let log = c.args.self.now in
    let here = stands log.places.items c.args.place c.index_mut.result.now c.requires.place c.requires.at c.index_mut.ensures.value in
    let home = ap (λ (p : PlaceValue). p.home) (sym here) ∙ c.in-Some.ensures.0 in
    let ready : IsReady (arc_value log.of).log c.in-Some.pass =
    (placed_at (arc_value log.of).log log.places.items c.args.place c.requires.place log.placed c.requires.at).home c.in-Some.pass home in
    let mine : IsReady (arc_value c.in-Ok.of).log c.in-Some.pass = subst (λ (s : Shared). IsReady s.log c.in-Some.pass) (sym c.in-Ok.ensures) ready in record {
      ready = mine;
      homeward = may_first c.in-Some.pass c.in-Some.way (arc_value c.in-Ok.of).log c.in-Some.ensures.1 mine;
    }

pub invariant_of-self-in-Ok-new : goal.invariant_of-self-in-Ok-new
invariant_of-self-in-Ok-new c =
    let log = c.args.self.now in
    let here = stands log.places.items c.args.place c.index_mut.result.now c.requires.place c.requires.at c.index_mut.ensures.value in
    let home = ap (λ (p : PlaceValue). p.home) (sym here) ∙ c.in-Some.ensures.0 in
    let ready = (placed_at (arc_value log.of).log log.places.items c.args.place c.requires.place log.placed c.requires.at).home c.in-Some.pass home in record {
      root_of = log.root_of;
      root_new = log.root_new;
      placed = set_placed (arc_value log.of).log log.places.items c.args.place c.take.new.self log.placed
          (subst (IsPlaceOf (arc_value log.of).log) (sym c.in-Some.ensures.2) (away_placed (arc_value log.of).log c.in-Some.pass ready));
      numbered = set_numbered (arc_value log.of).log log.places.items c.args.place c.take.new.self log.numbered
          (subst (IsOfWriter c.args.place) (sym c.in-Some.ensures.2) (away_numbered c.args.place c.in-Some.pass
          ((log.numbered.each c.args.place c.requires.place c.requires.at).home c.in-Some.pass home)));
    }

pub index_mut-requires-in-Err : goal.index_mut-requires-in-Err
index_mut-requires-in-Err c =
    let low = slice_get_within c.args.self.now.places.items c.args.place c.requires.place c.requires.at in
    let long = c.args.self.now.places.ok.0 in omega (arith, low, long)

pub invariant_of-self-in-Err : goal.invariant_of-self-in-Err
invariant_of-self-in-Err c =
    let log = c.args.self.now in
    let here = stands log.places.items c.args.place c.index_mut.result.now c.requires.place c.requires.at c.index_mut.ensures.value in
    let home = ap (λ (p : PlaceValue). p.home) (sym here) ∙ c.in-Some.ensures.0 in
    let ready = (placed_at (arc_value log.of).log log.places.items c.args.place c.requires.place log.placed c.requires.at).home c.in-Some.pass home in
    let back = c.into_pass.ensures ∙ ap (λ (w : Writer). w.pass) c.in-Err.ensures.value_returned in
    record {
      root_of = log.root_of;
      root_new = log.root_new;
      placed = subst (All (IsPlaceOf (arc_value log.of).log)) (sym (set_over log.places.items c.args.place c.take.new.self c.put.new.self))
          (set_placed (arc_value log.of).log log.places.items c.args.place c.put.new.self log.placed
          (home_placed (arc_value log.of).log c.put.new.self c.in-Some.pass (ap (λ (p : PlaceValue). p.home) c.put.ensures ∙ ap Some back) ready));
      numbered = subst (AreNumbered (arc_value log.of).log) (sym (set_over log.places.items c.args.place c.take.new.self c.put.new.self))
          (set_numbered (arc_value log.of).log log.places.items c.args.place c.put.new.self log.numbered
          (home_numbered c.args.place c.put.new.self c.in-Some.pass (ap (λ (p : PlaceValue). p.home) c.put.ensures ∙ ap Some back)
          ((log.numbered.each c.args.place c.requires.place c.requires.at).home c.in-Some.pass home)));
    }

pub returns-in-Ok-new : goal.returns-in-Ok-new
returns-in-Ok-new c =
    let log = c.args.self.now in
    let here = stands log.places.items c.args.place c.index_mut.result.now c.requires.place c.requires.at c.index_mut.ensures.value in
    let home = ap (λ (p : PlaceValue). p.home) (sym here) ∙ c.in-Some.ensures.0 in
    let rest = subst
    (λ (w : Writer).
    (arc_value w.of ≡ arc_value log.of) × (w.way ≡ w.pass ∷ []) × ((x : PlaceValue) × (slice_get log.places.items c.args.place ≡ Some x)
    × (x.home ≡ Some w.pass)
    × (set log.places.items c.args.place c.take.new.self ≡ set log.places.items c.args.place (taken_home w.pass))))
    (sym c.in-Ok-new.ensures.ok) (
      c.in-Ok.ensures,
      c.in-Some.ensures.1,
      (c.requires.place, c.requires.at, home, ap (λ (p : PlaceValue). set log.places.items c.args.place p) c.in-Some.ensures.2),
    ) in (record { of = refl; root = refl; places_are = refl }, rest.0, rest.1, rest.2)

pub returns-in-Err : goal.returns-in-Err
returns-in-Err c =
    let log = c.args.self.now in
    let here = stands log.places.items c.args.place c.index_mut.result.now c.requires.place c.requires.at c.index_mut.ensures.value in
    let home = ap (λ (p : PlaceValue). p.home) (sym here) ∙ c.in-Some.ensures.0 in
    let back = c.into_pass.ensures ∙ ap (λ (w : Writer). w.pass) c.in-Err.ensures.value_returned in (
      record { of = refl; root = refl; places_are = refl },
      (
        c.requires.place,
        c.put.new.self,
        c.requires.at,
        ap (λ (p : PlaceValue). p.home) c.put.ensures ∙ ap Some back ∙ sym home,
        set_over log.places.items c.args.place c.take.new.self c.put.new.self,
      ),
    )
