-- A host that covers its rows.
use Rattle.std.proofs.Common.{◌≡◌, ◌∙◌, ℕ, zero, suc, ◌+◌, ◌<◌, ◌≤◌, inl, inr, Bool, All, List, [], ◌∷◌, ◌++◌, length, map, take, fold, get_or, replicate, Some, slice_get, Result, Ok, Err, refl, sym, ap, ap₂, subst, arith}
use Rattle.std.proofs.lemmas.Bool.{cases_Bool}
use Rattle.std.proofs.lemmas.List.{length-map, map-append, take_more}
use Rattle.std.proofs.lemmas.Option.{slice_get-get_or}
use Rattle.std.proofs.lemmas.List.Sums.{fold-append}
use Rattle.cf_append.specs.declared.appends.AppendFault.{AppendFault}
use Rattle.cf_append.specs.declared.appends.AppendFault.TheVariants.{NodesFull}
use Rattle.cf_row.proofs.Lists.{has_left}
use Rattle.cf_plain.specs.Answered.{answer_on}
use Rattle.cf_plain.specs.Asks.{rows_in, eval, eval_rows}
use Rattle.cf_plain.specs.declared.ask.Ask.{Ask}
use Rattle.cf_plain.specs.declared.answer.Answer.{Answer}
use Rattle.cf_plain.specs.declared.answer.Body.{Body}
use Rattle.cf_row.specs.Row.{RowValue, Fits}
use Rattle.cf_row.specs.declared.row.Entry.{Entry}
use Rattle.cf_alone.proofs.Pigeons.{in_either}
use Rattle.cf_alone.specs.Needed.{IsNeeded}
use Rattle.cf_shape.specs.Lanes.{ShapeValue}
use Rattle.cf_shape.specs.Nodes.{distinct}
use Rattle.cf_law.specs.Words.{Spot}
use Rattle.cf_snapshot.specs.Courses.{IsCourse, answers_on}
use Rattle.cf_alone.specs.Alone.{HasCovered, HasUsedFor}
use Rattle.cf_alone.specs.Solos.{AreEnough, AreNeeded}
use Rattle.cf_snapshot.specs.Hosts.{HostValue, HasEnough}
use Rattle.cf_snapshot.specs.Snapshots.{SnapValue, IsSnapshot, IsOf, is_lawful, changed, after}
use Rattle.cf_snapshot.specs.declared.event.SnapEvent.{SnapEvent}
use Rattle.cf_snapshot.proofs.Lawful.{taken, passed_over}
use Rattle.cf_snapshot.proofs.Sound.{lens_kept}

-- a snapshot stays one
pub sized_after : (s : SnapValue) (e : SnapEvent) → IsSnapshot s → IsSnapshot (after s e)
sized_after s e sized = elim (cases_Bool (is_lawful s e)) [
  | inl lawful ↦
      let l = lens_kept (length s.tails) s e sized in
      subst IsSnapshot (sym (taken s e lawful)) (subst (λ (n : ℕ). IsOf n (changed s e)) (sym l.tails) l)
  | inr unlawful ↦ subst IsSnapshot (sym (passed_over s e unlawful)) sized
]

-- one event more
pub events_more : (s t : SnapValue) (e : SnapEvent) (n : ℕ) → t ≡ fold after s (replicate n e) → after t e ≡ fold after s (replicate (n + 1) e)
events_more s t e n is = ap (λ (x : SnapValue). after x e) is ∙ sym (fold-append after s (replicate n e) (e ∷ [])) ∙ ap (λ (es : List SnapEvent). fold after s es) (pushed n)
  where
    pushed : (k : ℕ) → replicate k e ++ e ∷ [] ≡ replicate (k + 1) e
    pushed zero = refl
    pushed (suc k) = let same : suc k + 1 ≡ suc (k + 1) = omega arith in rw same (ap (λ (es : List SnapEvent). e ∷ es) (pushed k))

-- the row at a place, which is covered next
module _ (rows : List RowValue) (m n : HostValue) (row : RowValue) (place : ℕ) (low : place < length rows) (is : row ≡ get_or rows place row)
    (course : IsCourse rows m) (here : length m.entries ≡ place) (same : n.shape ≡ m.shape) where
  pub stands : slice_get rows place ≡ Some row
  stands = slice_get-get_or rows place row low ∙ ap (λ (r : RowValue). Some r) (sym is)

  used_needed : (r : Result ℕ AppendFault) → HasUsedFor m.shape row m.used n.used r → AreNeeded n.shape rows n.used
  used_needed r used j s at = subst (λ (h : ShapeValue). IsNeeded h rows s) (sym same)
      (elim (in_either m.used used.spots j s (ap (λ (xs : List Spot). slice_get xs j) (sym used.is) ∙ at)) [
        | inl old ↦ course.needed old.0 s old.1
        | inr new ↦ record { place = place; row = row; at = stands; on = used.on new.0 s new.1 }
      ])

  fit_still : All (Fits (n.shape).schema) rows
  fit_still = subst (λ (h : ShapeValue). All (Fits h.schema) rows) (sym same) course.fit

  few_still : length rows ≤ (n.shape).capacity
  few_still = subst (λ (h : ShapeValue). length rows ≤ h.capacity) (sym same) course.few

  pub course_more : (o : ℕ) → HasCovered m.shape row m.entries n.entries (Ok o) → HasUsedFor m.shape row m.used n.used (Ok o) → HasEnough n
      → IsCourse rows n × (length n.entries ≡ place + 1)
  course_more o covered used enough = (
    record {
      fit = fit_still;
      few = few_still;
      within = omega (arith, long, low);
      begins = begins;
      needed = used_needed (Ok o) used;
      enough = enough;
    },
    long,
  )
    where
      entry : Entry
      entry = record { writer = 0; row = row }

      long : length n.entries ≡ place + 1
      long = (let grown = ap (λ (es : List Entry). length es) covered.2 in let push = pushed m.entries in omega (arith, grown, push, here))
        where
          pushed : (es : List Entry) → length (es ++ entry ∷ []) ≡ length es + 1
          pushed [] = refl
          pushed (e ∷ es) = (let more = pushed es in omega (arith, more))

      begins : rows_in n.entries ≡ take (length n.entries) rows
      begins = ap rows_in covered.2 ∙ map-append (λ (e : Entry). e.row) m.entries (entry ∷ []) ∙ ap (λ (rs : List RowValue). rs ++ row ∷ []) course.begins
          ∙ ap (λ (k : ℕ). take k rows ++ row ∷ []) here ∙ ap (λ (r : RowValue). take place rows ++ r ∷ []) is ∙ sym (take_more rows place row low)
          ∙ ap (λ (k : ℕ). take k rows) (sym long)

  pub course_still : HasCovered m.shape row m.entries n.entries (Err NodesFull) → HasUsedFor m.shape row m.used n.used (Err NodesFull) → IsCourse rows n
  course_still covered used = record {
    fit = fit_still;
    few = few_still;
    within = subst (λ (es : List Entry). length es ≤ length rows) (sym covered) course.within;
    begins = subst (λ (es : List Entry). rows_in es ≡ take (length es) rows) (sym covered) course.begins;
    needed = used_needed (Err NodesFull) used;
    enough = subst (λ (h : ShapeValue). AreEnough h n.entries n.used) (sym same)
        (subst (λ (es : List Entry). AreEnough m.shape es n.used) (sym covered)
        (λ needed. course.enough (λ j s at. needed j s (ap (λ (xs : List Spot). slice_get xs j) used.is ∙ has_left m.used used.spots j s at))));
  }

-- a host is never full
pub never_full : (rows : List RowValue) (m : HostValue) → IsCourse rows m → length m.entries < length rows → length m.entries ≡ (m.shape).capacity → ⊥
never_full rows m course low full = (let few = course.few in omega (arith, few, low, full))

-- where all rows are covered, there are nodes for them
pub all_enough : (rows : List RowValue) (n : HostValue) → IsCourse rows n → length n.entries ≡ length rows → distinct n.shape rows ≤ (n.shape).nodes
all_enough rows n course all =
    let whole : rows_in n.entries ≡ rows = course.begins ∙ ap (λ (k : ℕ). take k rows) all ∙ take_whole rows in
    subst (λ (rs : List RowValue). distinct n.shape rs ≤ (n.shape).nodes) whole
    (course.enough (subst (λ (rs : List RowValue). AreNeeded n.shape rs n.used) (sym whole) course.needed))
  where
    take_whole : (rs : List RowValue) → take (length rs) rs ≡ rs
    take_whole [] = refl
    take_whole (r ∷ rs) = ap (λ (xs : List RowValue). r ∷ xs) (take_whole rs)

-- the answers of a host are those on its first rows
pub answered_on : (rows : List RowValue) (host : HostValue) (asks : List Ask) → IsCourse rows host
    → map (answer_on host.shape host.entries) asks ≡ answers_on host.shape (take (length host.entries) rows) asks
answered_on rows host asks course =
    let long = length-map host.entries (λ (e : Entry). e.row) in
    ap (λ (k : ℕ). map (λ (ask : Ask). record { tail = k; body = eval_rows host.shape ask (rows_in host.entries) }) asks) (sym long)
    ∙ ap (λ (rs : List RowValue). answers_on host.shape rs asks) course.begins

-- the answer of a host, asked as it was
pub one_answer : (host m : HostValue) (ask : Ask) (answer : Answer) → m ≡ host
    → (answer.tail ≡ length m.entries) × (answer.body ≡ eval m.shape ask m.entries) → answer ≡ answer_on host.shape host.entries ask
one_answer host m ask answer same is =
    ap₂ (λ (n : ℕ) (b : Body). record { tail = n; body = b }) is.0 is.1 ∙ ap (λ (h : HostValue). answer_on h.shape h.entries ask) same

-- a host that is frozen or let go has its rows as before
pub course_kept : (rows : List RowValue) (m n : HostValue) (b : Bool) → IsCourse rows m → n ≡ record m { is_frozen = b } → IsCourse rows n
course_kept rows m n b course is = subst (IsCourse rows) (sym is) (record {
  fit = course.fit;
  few = course.few;
  within = course.within;
  begins = course.begins;
  needed = course.needed;
  enough = course.enough;
})
