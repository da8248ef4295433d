-- The places of a log stay those of its writers, in the order of their numbers.
use Rattle.std.proofs.Common.{◌≡◌, ◌∙◌, ℕ, List, [], ◌∷◌, Some, inl, inr, zero, suc, length, map, slice_get, set, All, ap, refl, sym, subst, length-set}
use Rattle.std.proofs.lemmas.List.{length-map}
use Rattle.cf_law.specs.Passes.{Pass}
use Rattle.cf_law.specs.Steps.{new_pass}
use Rattle.cf_law.specs.Events.{no_book}
use Rattle.cf_table.specs.Values.{LogValue, PassValue, book_of}
use Rattle.cf_store.specs.Homes.{Comes, HasLooked, HaveLooked, PlaceValue, at_home, taken_home}
use Rattle.cf_store.specs.Parts.{AreNumbered, IsOfWriter, IsPlaceOf}
use Rattle.cf_store.proofs.Homeward.{first_in, one_first, placed_at}
use Rattle.cf_store.proofs.Opened.{at_home_new}
use Rattle.cf_store.proofs.Taken.{looked_at, looked_long, some_is}

-- a pass that comes to a place is that of its writer
pub comes_numbered : (log : LogValue) (w : ℕ) (place : PlaceValue) (pass : PassValue) → IsPlaceOf log place → IsOfWriter w place → Comes place pass
    → (book_of pass.view).writer ≡ w
comes_numbered log w place pass placed of (inl home) = of.home pass home
comes_numbered log w place pass placed of (inr came) =
    let begins = first_in place.came (placed.away came.0) in (came.1 begins.0 begins.1).writer ∙ of.first came.0 begins.0 begins.1

pub home_numbered : (w : ℕ) (place : PlaceValue) (pass : PassValue) → place.home ≡ Some pass → (book_of pass.view).writer ≡ w → IsOfWriter w place
home_numbered w place pass is same = record {
  home = λ other at. subst (λ (p : PassValue). (book_of p.view).writer ≡ w) (some_is (sym is ∙ at)) same;
  first = λ none. absurd (cc (sym is ∙ none));
}

pub away_numbered : (w : ℕ) (pass : PassValue) → (book_of pass.view).writer ≡ w → IsOfWriter w (taken_home pass)
away_numbered w pass same = record {
  home = λ other at. absurd (cc at);
  first = λ none other at. subst (λ (p : PassValue). (book_of p.view).writer ≡ w) (one_first pass other at) same;
}

one_numbered : (log : LogValue) (w : ℕ) (m n : PlaceValue) → HasLooked m n → IsPlaceOf log m → IsOfWriter w m → IsOfWriter w n
one_numbered log w m n (inl same) placed of = subst (IsOfWriter w) (sym same) record { home = of.home; first = of.first }
one_numbered log w m n (inr came) placed of =
    home_numbered w n came.1.0 (ap (λ (p : PlaceValue). p.home) came.1.1) (comes_numbered log w m came.1.0 placed of (inr (came.0, came.1.2)))

-- places that were looked at
pub looked_numbered : (log : LogValue) (ms ns : List PlaceValue) → HaveLooked ms ns → All (IsPlaceOf log) ms → AreNumbered log ms → AreNumbered log ns
looked_numbered log ms ns looked placed numbered = record {
  count = looked_long ms ns looked ∙ numbered.count;
  each = λ k n at.
      (let found = looked_at ms ns k n looked at in
      one_numbered log k found.0 n found.2 (placed_at log ms k found.0 placed found.1) (numbered.each k found.0 found.1));
}

set_each : (W : ℕ → PlaceValue → Type 0) (ps : List PlaceValue) (k : ℕ) (p : PlaceValue)
    → ((j : ℕ) (q : PlaceValue) → slice_get ps j ≡ Some q → W j q) → W k p → (j : ℕ) (q : PlaceValue) → slice_get (set ps k p) j ≡ Some q → W j q
set_each W [] k p each one j q at = absurd (cc at)
set_each W (x ∷ ps) zero p each one zero q at = subst (W 0) (some_is at) one
set_each W (x ∷ ps) zero p each one (suc j) q at = each (suc j) q at
set_each W (x ∷ ps) (suc k) p each one zero q at = each 0 q at
set_each W (x ∷ ps) (suc k) p each one (suc j) q at = set_each (λ i. W (suc i)) ps k p (λ i r there. each (suc i) r there) one j q at

-- one place of them was changed
pub set_numbered : (log : LogValue) (ps : List PlaceValue) (k : ℕ) (p : PlaceValue) → AreNumbered log ps → IsOfWriter k p → AreNumbered log (set ps k p)
set_numbered log ps k p numbered one = record {
  count = length-set ps k p ∙ numbered.count;
  each = set_each IsOfWriter ps k p numbered.each one;
}

-- the places of new passes
pub all_numbered : (log : LogValue) (hs : List PassValue) (ps : List PlaceValue) → ps ≡ map at_home hs → length hs ≡ log.shape.writers
    → ((k : ℕ) (h : PassValue) → slice_get hs k ≡ Some h → h.view ≡ new_pass (no_book k ∷ []) []) → AreNumbered log ps
all_numbered log hs ps is count each = record {
  count = ap (λ (xs : List PlaceValue). length xs) is ∙ (length-map hs at_home ∙ count);
  each = λ k place at.
      (let found = at_home_new hs k place (sym (ap (λ (xs : List PlaceValue). slice_get xs k) is) ∙ at) in
      subst (IsOfWriter k) (sym found.1)
      (home_numbered k (at_home found.0) found.0 refl (ap (λ (v : Pass). (book_of v).writer) (each k found.0 found.2))));
}
