-- A writer is taken from the last place whose pass is at home.
use Rattle.std.proofs.Common.{◌≡◌, ◌∙◌, ℕ, List, [], ◌∷◌, ◌++◌, Ok, Err, Some, None, inl, inr, zero, suc, length, drop, take, slice_get, get_or, set, true, ap, refl, sym, subst, arith, length-set}
use Rattle.std.specs.List.{AllZip}
use Rattle.std.specs.Option.{is_some}
use Rattle.std.proofs.lemmas.Option.{get_or_from_slice_get}
use Rattle.std.proofs.lemmas.List.{take_at}
use Rattle.cf_law.proofs.Heads.{get_set_other, get_set_same}
use Rattle.cf_table.specs.Values.{PassValue}
use Rattle.cf_store.specs.Homes.{Comes, HasLooked, HaveLooked, IsHomeAt, Keeps, MayCome, PlaceValue, taken_home}
use Rattle.std.specs.Arc.{arc_value}
use Rattle.cf_store.specs.Opens.{IsLogWith, IsTakenFrom, Takes, TakesAt}
use Rattle.cf_store.specs.declared.held.Log.{Log}
use Rattle.cf_store.specs.declared.held.Shared.{Shared}
use Rattle.cf_store.specs.declared.held.Writer.{Writer}
use Rattle.cf_store.specs.declared.refusals.TakeRefusal.TheVariants.{Memory as NoMemory}

pub some_is : {X : Type 0} {x y : X} → Some x ≡ Some y → x ≡ y
some_is e = cc e

pub keeps_one : (m n : PlaceValue) → HasLooked m n → Keeps m n
keeps_one m n (inl same) = inl same
keeps_one m n (inr came) = inr (came.1.0, inr (came.0, came.1.2), ap (λ (p : PlaceValue). p.home) came.1.1)

pub keeps_all : (ms ns : List PlaceValue) → HaveLooked ms ns → AllZip Keeps ms ns
keeps_all [] [] looked = tt
keeps_all [] (n ∷ ns) looked = absurd looked
keeps_all (m ∷ ms) [] looked = absurd looked
keeps_all (m ∷ ms) (n ∷ ns) looked = (keeps_one m n looked.0, keeps_all ms ns looked.1)

-- a pass that is at home after a look was there, or came
pub looked_comes : (m n : PlaceValue) (pass : PassValue) → HasLooked m n → n.home ≡ Some pass → Comes m pass
looked_comes m n pass (inl same) home = inl (ap (λ (p : PlaceValue). p.home) (sym same) ∙ home)
looked_comes m n pass (inr came) home =
    inr (came.0, subst (λ (p : PassValue). MayCome m.came p) (cc (sym (ap (λ (p : PlaceValue). p.home) came.1.1) ∙ home)) came.1.2)

pub looked_at : (ms ns : List PlaceValue) (k : ℕ) (n : PlaceValue) → HaveLooked ms ns → slice_get ns k ≡ Some n
    → (m : PlaceValue) × (slice_get ms k ≡ Some m) × HasLooked m n
looked_at [] [] k n looked at = absurd (cc at)
looked_at [] (l ∷ ns) k n looked at = absurd looked
looked_at (m ∷ ms) [] k n looked at = absurd looked
looked_at (m ∷ ms) (l ∷ ns) zero n looked at = (m, refl, subst (HasLooked m) (cc at) looked.0)
looked_at (m ∷ ms) (l ∷ ns) (suc k) n looked at = looked_at ms ns k n looked.1 at

pub looked_long : (ms ns : List PlaceValue) → HaveLooked ms ns → length ns ≡ length ms
looked_long [] [] looked = refl
looked_long [] (n ∷ ns) looked = absurd looked
looked_long (m ∷ ms) [] looked = absurd looked
looked_long (m ∷ ms) (n ∷ ns) looked = (let rest = looked_long ms ns looked.1 in omega (arith, rest))

-- the pass that is at home after the look stays so at the place
pub keeps_set : (ms ls : List PlaceValue) (k : ℕ) (l n : PlaceValue) (pass : PassValue) → HaveLooked ms ls → slice_get ls k ≡ Some l → l.home ≡ Some pass
    → n.home ≡ Some pass → AllZip Keeps ms (set ls k n)
keeps_set [] [] k l n pass looked at home after = absurd (cc at)
keeps_set [] (j ∷ ls) k l n pass looked at home after = absurd looked
keeps_set (m ∷ ms) [] k l n pass looked at home after = absurd looked
keeps_set (m ∷ ms) (j ∷ ls) zero l n pass looked at home after =
    (inr (pass, looked_comes m j pass looked.0 (ap (λ (p : PlaceValue). p.home) (some_is at) ∙ home), after), keeps_all ms ls looked.1)
keeps_set (m ∷ ms) (j ∷ ls) (suc k) l n pass looked at home after = (keeps_one m j looked.0, keeps_set ms ls k l n pass looked.1 at home after)

-- the same as what is at home there
pub still_home : (ls : List PlaceValue) (k : ℕ) (n : PlaceValue) (pass : PassValue) (at : IsHomeAt ls k) → n.home ≡ Some pass → IsHomeAt (set ls k n) k
still_home ls k n pass at home = record {
  place = n;
  pass = pass;
  at = get_set_same ls k n at.place at.at;
  home = home;
  behind = λ j other above here. at.behind j other above (sym (get_set_other ls k j n (λ same. absurd (omega (arith, above, same)))) ∙ here);
}

pub taken_from : (ms ls : List PlaceValue) (k : ℕ) (l : PlaceValue) (pass : PassValue) → HaveLooked ms ls → IsHomeAt ls k → slice_get ls k ≡ Some l
    → l.home ≡ Some pass → IsTakenFrom ms (set ls k (taken_home pass)) k pass
taken_from ms ls k l pass looked home at is =
    let gone : PlaceValue = taken_home pass in
    let before = looked_at ms ls k l looked at in
    record {
      place = before.0;
      at = before.1;
      comes = looked_comes before.0 l pass before.2 is;
      away = get_set_same ls k gone l at;
      long = length-set ls k gone ∙ looked_long ms ls looked;
      others = λ j m n other here there.
          (let found = looked_at ms ls j n looked (sym (get_set_other ls k j gone other) ∙ there) in
          keeps_one m n (subst (λ (p : PlaceValue). HasLooked p n) (some_is (sym found.1 ∙ here)) found.2));
      last = λ j other above here. home.behind j other above (sym (get_set_other ls k j gone (λ same. absurd (omega (arith, above, same)))) ∙ here);
    }

-- what stands at a place
pub stands : (ps : List PlaceValue) (k : ℕ) (d p : PlaceValue) → slice_get ps k ≡ Some p → d ≡ get_or ps k d → d ≡ p
stands ps k d p at is = is ∙ get_or_from_slice_get ps k p d at

pub some_home : (p : PlaceValue) (pass : PassValue) → p.home ≡ Some pass → is_some p.home ≡ true
some_home p pass home = ap is_some home

-- a place that is put there again, and one that is put over another
pub set_here : (ps : List PlaceValue) (k : ℕ) (p : PlaceValue) → slice_get ps k ≡ Some p → set ps k p ≡ ps
set_here [] k p at = refl
set_here (q ∷ ps) zero p at = ap (λ (x : PlaceValue). x ∷ ps) (sym (some_is at))
set_here (q ∷ ps) (suc k) p at = ap (λ (xs : List PlaceValue). q ∷ xs) (set_here ps k p at)

pub set_over : (ps : List PlaceValue) (k : ℕ) (p q : PlaceValue) → set (set ps k p) k q ≡ set ps k q
set_over [] k p q = refl
set_over (r ∷ ps) zero p q = refl
set_over (r ∷ ps) (suc k) p q = ap (λ (xs : List PlaceValue). r ∷ xs) (set_over ps k p q)

-- the places that were looked at are written back
pub written_back : (ms ls : List PlaceValue) (n : ℕ) → HaveLooked ms ls → n ≡ length ms → take n (ls ++ drop (length ls) ms) ≡ ls
written_back ms ls n looked long = take_at ls (drop (length ls) ms) n (looked_long ms ls looked ∙ sym long)

-- what taking the pass of the place that was found comes to
pub took : (k : ℕ) (m l n : Log) (w : Writer) → IsLogWith l.places.items m l → HaveLooked m.places.items l.places.items → IsHomeAt l.places.items k
    → TakesAt k l n (Some w) → Takes m n (Ok w)
took k m l n w before looked home did = (
  record { of = did.0.of ∙ before.of; root = did.0.root ∙ before.root; places_are = refl },
  did.1 ∙ ap (arc_value {X = Shared}) before.of,
  did.2,
  (
    k,
    subst (λ (ps : List PlaceValue). IsTakenFrom m.places.items ps k w.pass) (sym did.3.3)
        (taken_from m.places.items l.places.items k did.3.0 w.pass looked home did.3.1 did.3.2),
  ),
)

pub took_none : (k : ℕ) (m l n : Log) → IsLogWith l.places.items m l → HaveLooked m.places.items l.places.items → IsHomeAt l.places.items k
    → TakesAt k l n None → Takes m n (Err NoMemory)
took_none k m l n before looked home did =
    let at : did.1.0 ≡ home.place = some_is (sym did.1.2 ∙ home.at) in
    let there : did.1.0.home ≡ Some home.pass = ap (λ (p : PlaceValue). p.home) at ∙ home.home in (
      record { of = did.0.of ∙ before.of; root = did.0.root ∙ before.root; places_are = refl },
      subst (AllZip Keeps m.places.items) (sym did.1.4)
          (keeps_set m.places.items l.places.items k did.1.0 did.1.1 home.pass looked did.1.2 there (did.1.3 ∙ there)),
      (k, subst (λ (ps : List PlaceValue). IsHomeAt ps k) (sym did.1.4) (still_home l.places.items k did.1.1 home.pass home (did.1.3 ∙ there))),
    )
