use Rattle.std.proofs.Common.{◌≡◌, ◌∙◌, ◌+◌, ◌-◌, ◌<◌, ◌≤◌, ℕ, List, Some, length, slice_get, set, refl, sym, arith, length-set}
use Rattle.std.proofs.lemmas.Option.{slice_get-get_or, slice_get_past}
use Rattle.cf_law.proofs.Heads.{get_set_other, get_set_same}
use Rattle.cf_store.specs.Homes.{IsAway, PlaceValue}
use Rattle.cf_store.proofs.Looked.{away_more, home_is, home_of, none_of, looked_more, looked_none}
use Rattle.cf_store.proofs.places.find_home.Goals as goal

past : (ps : List PlaceValue) (k : ℕ) (place : PlaceValue) → length ps ≤ k → slice_get ps k ≡ Some place → ⊥
past ps k place le at = absurd (cc (sym (slice_get_past ps k le) ∙ at))

away_of : (xs ps : List PlaceValue) (i : ℕ) (p : PlaceValue) → length xs ≡ length ps → i < length ps → IsAway p
    → ((k : ℕ) (q : PlaceValue) → length xs ≤ k + i → slice_get ps k ≡ Some q → IsAway q)
    → (k : ℕ) (q : PlaceValue) → length xs ≤ k + (i + 1) → slice_get (set ps (length xs - 1 - i) p) k ≡ Some q → IsAway q
away_of xs ps i p same lt away before = away_more ps (length xs) i p (sym same) lt away before

pub loop-i-init : goal.loop-i-init
loop-i-init c = record {
  count = refl;
  looked = looked_none c.args.places.now;
  away = λ k place le at. absurd (past c.args.places.now k place (omega (arith, le)) at);
}

pub returns-then-is_home-clause-looked : goal.returns-then-is_home-clause-looked
returns-then-is_home-clause-looked c =
    let v = c.loop-i.invariant in
    let count = v.count in
    let test = c.loop-i-test.true in
    looked_more c.args.places.now c.loop-i.places (length c.args.places.now - 1 - c.loop-i.i) c.index-places-k.result c.look.new.self v.looked
    (omega (arith, count, test)) c.look.ensures.looked

pub returns-then-is_home-clause-found : goal.returns-then-is_home-clause-found
returns-then-is_home-clause-found c =
    let v = c.loop-i.invariant in
    let count = v.count in
    let test = c.loop-i-test.true in
    let k = length c.args.places.now - 1 - c.loop-i.i in
    let lt : k < length c.loop-i.places = omega (arith, count, test) in
    let home = home_of c.look.new.self
    (home_is c.loop-i.places k c.look.new.self c.index-places-k-in-loop-i.result lt (sym c.is_home.ensures ∙ c.if-is_home.true)) in
    record {
      place = c.look.new.self;
      pass = home.0;
      at = get_set_same c.loop-i.places k c.look.new.self _ (slice_get-get_or c.loop-i.places k c.look.new.self lt);
      home = home.1;
      behind = λ j other above at.
          v.away j other (omega (arith, above, test))
          (sym (get_set_other c.loop-i.places k j c.look.new.self (λ same. absurd (omega (arith, above, same)))) ∙ at);
    }

pub loop-i-preserved : goal.loop-i-preserved
loop-i-preserved c =
    let v = c.loop-i.invariant in
    let count = v.count in
    let test = c.loop-i-test.true in
    let k = length c.args.places.now - 1 - c.loop-i.i in
    let lt : k < length c.loop-i.places = omega (arith, count, test) in
    let none = none_of c.look.new.self.home
    (home_is c.loop-i.places k c.look.new.self c.index-places-k-in-loop-i.result lt (sym c.is_home.ensures ∙ c.if-is_home.false)) in
    record {
      count = count ∙ sym (length-set c.loop-i.places k c.look.new.self);
      looked = looked_more c.args.places.now c.loop-i.places k c.index-places-k.result c.look.new.self v.looked lt c.look.ensures.looked;
      away = away_of c.args.places.now c.loop-i.places c.loop-i.i c.look.new.self count (omega (arith, count, test))
          record { none = none; empty = c.look.ensures.empty none } v.away;
    }
