-- Questions that walk trees and chains.
use Rattle.std.proofs.Common.{◌≡◌, ◌∙◌, ◌≤◌, ◌<◌, ◌&&◌, ℕ, List, [], ◌∷◌, ◌++◌, Bool, true, not, Option, Some, None, is_some, Result, Ok, Err, IfErr, length, slice_get, ap, ap₂, sym, subst, refl}
use Rattle.std.proofs.lemmas.Bool.{ltb-true}
use Rattle.std.specs.declared.alloc.AllocError.{AllocError}
use Rattle.cf_row.specs.declared.row.Entry.{Entry}
use Rattle.cf_row.proofs.Bytes.{both}
use Rattle.cf_shape.specs.Lanes.{ShapeValue, lane_at}
use Rattle.cf_shape.specs.Uses.{has_measure, is_measured}
use Rattle.cf_law.specs.Words.{Spot}
use Rattle.cf_law.specs.Passes.{Cursor, Pass}
use Rattle.cf_plain.specs.Asks.{is_attr, exists, is_indexed, is_bucketed, is_aggregate, is_tally, is_measuring}
use Rattle.cf_table.specs.Values.{PassValue}
use Rattle.cf_table.specs.Moves.{Begins, OnlyLooked, SeenFirst}
use Rattle.cf_walk.specs.Walks.{OnlyWalked}
use Rattle.cf_query.specs.Asking.{HasAsked}

-- a question that suits has its lane
pub lane_there : (shape : ShapeValue) (lane : ℕ) (b : Bool) → exists shape lane && b ≡ true → lane < length shape.lanes
lane_there shape lane b suits = ltb-true lane (length shape.lanes) (both (exists shape lane) b suits).0

is_some_measure : (m : Option ℕ) → is_some m ≡ true → has_measure m ≡ true
is_some_measure None h = absurd (cc h)
is_some_measure (Some a) h = refl

-- an aggregate's lane is there and measures something
pub aggregate_there : (shape : ShapeValue) (lane : ℕ) → is_aggregate shape lane ≡ true → (lane < length shape.lanes) × (is_measured shape lane ≡ true)
aggregate_there shape lane h =
    let b = both (is_bucketed shape lane) (is_some (lane_at shape lane).measure) h in
    (lane_there shape lane (not (is_attr (lane_at shape lane).key)) b.0, is_some_measure (lane_at shape lane).measure b.1)

-- and so is a tally's
pub tally_there : (shape : ShapeValue) (lane : ℕ) → is_tally shape lane ≡ true → (lane < length shape.lanes) × (is_measured shape lane ≡ true)
tally_there shape lane h =
    let b = both (is_indexed shape lane) (is_some (lane_at shape lane).measure) h in
    (lane_there shape lane (is_attr (lane_at shape lane).key) b.0, is_some_measure (lane_at shape lane).measure b.1)

-- and so is either's
pub measuring_there : (shape : ShapeValue) (lane : ℕ) → is_measuring shape lane ≡ true → (lane < length shape.lanes) × (is_measured shape lane ≡ true)
measuring_there shape lane h =
    let b = both (exists shape lane) (is_some (lane_at shape lane).measure) h in
    (ltb-true lane (length shape.lanes) b.0, is_some_measure (lane_at shape lane).measure b.1)

-- The read tail was loaded for an ask, and then trees and chains were walked.
pub asked_walked : (shape : ShapeValue) (m n o : PassValue) → HasAsked shape m n → OnlyWalked n o → HasAsked shape m o
asked_walked shape m n o a b =
    let view : o.view ≡ record n.view { look = (o.view).look; known = (o.view).known; cursor = (o.view).cursor } = ap (λ (h : PassValue). h.view) b.same in
    let seen : (o.view).seen ≡ (n.view).seen = ap (λ (q : Pass). q.seen) view in
    record {
      same = b.same
          ∙ (ap (λ (h : PassValue). record h { view = record n.view { look = (o.view).look; known = (o.view).known; cursor = (o.view).cursor } }) a.same
          ∙ ap (λ (q : Pass). record m { view = q }) (sym view));
      tails = ap (λ (q : Pass). q.tails) view ∙ (a.tails ∙ ap (λ (es : List Entry). (m.view).tails ++ length es ∷ []) (sym seen));
      longer = subst (λ (es : List Entry). Begins (m.view).seen es) (sym seen) a.longer;
      books = ap (λ (q : Pass). q.books) view ∙ a.books;
      told = ap (λ (q : Pass). q.told) view ∙ a.told;
      stays = λ settled. seen ∙ a.stays settled;
      few = subst (λ (es : List Entry). length es ≤ shape.capacity) (sym seen) a.few;
      fit = λ k e at. a.fit k e (ap (λ (es : List Entry). slice_get es k) (sym seen) ∙ at);
      first = subst SeenFirst (sym view) a.first;
      knows = λ s node k. b.knows s node (a.knows s node k);
    }

pub walked_seen : (m n : PassValue) → OnlyWalked m n → (m.view).seen ≡ (n.view).seen
walked_seen m n walked = sym (ap (λ (h : PassValue). (h.view).seen) walked.same)

-- only words were looked at
pub walked_looked : (m n : PassValue) → OnlyLooked m n → OnlyWalked m n
walked_looked m n looked =
    let view : n.view ≡ record m.view { look = (n.view).look } = ap (λ (h : PassValue). h.view) looked in
    record {
      same = looked
          ∙ ap₂ (λ (k : List (Spot × ℕ)) (c : Option Cursor). record m { view = record m.view { look = (n.view).look; known = k; cursor = c } })
          (sym (ap (λ (q : Pass). q.known) view)) (sym (ap (λ (q : Pass). q.cursor) view));
      knows = λ s node k. (k.0, ap (λ (q : Pass). slice_get q.known k.0) view ∙ k.1);
    }

-- what holds anyway holds where memory was refused
pub refused_too : {A : Type 0} {P : Type 0} (r : Result A AllocError) → P → IfErr r (λ _. P)
refused_too (Ok a) p = tt
refused_too (Err e) p = p
