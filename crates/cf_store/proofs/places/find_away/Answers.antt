use Rattle.std.proofs.Common.{◌∙◌, ◌<◌, length, refl, sym, arith, length-set}
use Rattle.std.proofs.lemmas.Option.{slice_get-get_or}
use Rattle.cf_law.proofs.Heads.{get_set_same}
use Rattle.cf_store.proofs.Looked.{home_is, home_more, looked_more, looked_none, none_of}
use Rattle.cf_store.proofs.places.find_away.Goals as goal

pub loop-k-init : goal.loop-k-init
loop-k-init c = record {
  count = refl;
  looked = looked_none c.args.places.now;
  home = λ j d lt. absurd (omega (arith, lt));
}

pub returns-then-not-is_home-clause-looked : goal.returns-then-not-is_home-clause-looked
returns-then-not-is_home-clause-looked c =
    let v = c.loop-k.invariant in
    let count = v.count in
    let test = c.loop-k-test.true in
    looked_more c.args.places.now c.loop-k.places c.loop-k.k c.index-places-k.result c.look.new.self v.looked (omega (arith, count, test)) c.look.ensures.looked

pub returns-then-not-is_home-clause-found : goal.returns-then-not-is_home-clause-found
returns-then-not-is_home-clause-found c =
    let v = c.loop-k.invariant in
    let count = v.count in
    let test = c.loop-k-test.true in
    let k = c.loop-k.k in
    let lt : k < length c.loop-k.places = omega (arith, count, test) in
    let none = none_of c.look.new.self.home
    (home_is c.loop-k.places k c.look.new.self c.index-places-k-in-loop-k.result lt (sym c.is_home.ensures ∙ c.if-not-is_home.true)) in (
      c.look.new.self,
      get_set_same c.loop-k.places k c.look.new.self _ (slice_get-get_or c.loop-k.places k c.look.new.self lt),
      record { none = none; empty = c.look.ensures.empty none },
    )

pub loop-k-preserved : goal.loop-k-preserved
loop-k-preserved c =
    let v = c.loop-k.invariant in
    let count = v.count in
    let test = c.loop-k-test.true in
    let k = c.loop-k.k in
    let lt : k < length c.loop-k.places = omega (arith, count, test) in
    record {
      count = count ∙ sym (length-set c.loop-k.places k c.look.new.self);
      looked = looked_more c.args.places.now c.loop-k.places k c.index-places-k.result c.look.new.self v.looked lt c.look.ensures.looked;
      home = home_more c.loop-k.places k c.look.new.self lt
          (home_is c.loop-k.places k c.look.new.self c.index-places-k-in-loop-k.result lt (sym c.is_home.ensures ∙ c.if-not-is_home.false)) v.home;
    }
