-- What is noted of keys stays true when records come and when a trigger reports its marks.
use Rattle.std.proofs.Common.{◌≡◌, ℕ, zero, suc, ◌+◌, ◌<◌, ◌≤◌, Bool, true, false, not, ◌||◌, ◌==◌, List, [], ◌∷◌, ◌++◌, length, take, get_or, set, map, replicate, refl, sym, ap, ◌∙◌, inl, inr, arith, Option, Some, None}
use Rattle.std.proofs.lemmas.Bool.{and_cases, and_parts, cases_Bool, cases_eq, cases_lt, eq-eqb, false≢true, not-true, or_from, or_left, or_parts, or_right, true≢false}
use Rattle.std.proofs.Math.ListN.{get_or-eq_default}
use Rattle.std.proofs.lemmas.List.{get_or-set_other, get_or-set_same, get_or_append_left, length-map, length-set, length_push, set-get_or, take_more_set}
use Rattle.std.proofs.lemmas.List.Elements.{All-from_get_or, All-nil, All-push, All-weaker}
use Rattle.std.proofs.lemmas.List.Folds.{list_any-append, list_any_at, list_any_none}
use Rattle.std.specs.List.{All, list_any}
use Rattle.cf_fold.specs.declared.trigger.Trigger.{Trigger}
use Rattle.cf_watch.specs.Kept.{BucketValue, begun, most_triggers}
use Rattle.cf_watch.specs.Marks.{is_told, is_untold, meets, with_told}
use Rattle.cf_watch.specs.Notes.{AreAllUntoldAt, AreNotes, AreUntoldAt, ChangedAt, NotesValue, is_among, pair_at}

-- at no place: no key has an unreported mark
pub none_untold : (trigger : Trigger) (place : ℕ) (pairs : List BucketValue) → list_any (is_untold trigger place) pairs ≡ false → AreUntoldAt trigger place [] pairs
none_untold trigger place pairs none = λ at lt is. absurd (false≢true (sym none ∙ list_any_at (is_untold trigger place) pairs at (begun 0 0) lt is))

test_off : (b : Bool) → (b ≡ true → ⊥) → b ≡ false
test_off true never = absurd (never refl)
test_off false never = refl

pub untold_none : (trigger : Trigger) (place : ℕ) (pairs : List BucketValue) → AreUntoldAt trigger place [] pairs → list_any (is_untold trigger place) pairs ≡ false
untold_none trigger place pairs none =
    list_any_none (is_untold trigger place) pairs
    (All-from_get_or (λ k. is_untold trigger place k ≡ false) pairs (begun 0 0)
    (λ at lt. test_off (is_untold trigger place (pair_at pairs at)) (λ is. false≢true (none at lt is))))

not-not : (b : Bool) → not b ≡ false → b ≡ true
not-not true is = refl
not-not false is = absurd (false≢true (sym is))

-- and telling changes nothing
pub told_again : (trigger : Trigger) (place : ℕ) (pair : BucketValue) → is_untold trigger place pair ≡ false → with_told trigger place pair ≡ pair
told_again trigger place pair none = elim (cases_Bool (meets trigger pair)) [
  | inl met ↦
      let known : is_told place pair ≡ true = elim (and_cases (meets trigger pair) (not (is_told place pair)) none) [
        | inl unmet ↦ absurd (false≢true (sym unmet ∙ met))
        | inr told ↦ not-not (is_told place pair) told
      ] in
      let flags : set pair.told place true ≡ pair.told = ap (set pair.told place) (sym known) ∙ set-get_or pair.told place false in
      rw (met, flags) refl
  | inr unmet ↦ rw unmet refl
]

pub quiet_same : (trigger : Trigger) (place : ℕ) (pairs : List BucketValue) → list_any (is_untold trigger place) pairs ≡ false
    → pairs ≡ map (with_told trigger place) pairs
quiet_same trigger place [] none = refl
quiet_same trigger place (x ∷ xs) none =
    let parts = or_parts (is_untold trigger place x) (list_any (is_untold trigger place) xs) none in
    rw (told_again trigger place x parts.0, sym (quiet_same trigger place xs parts.1)) refl

-- one key more is told
pub quiet_more : (trigger : Trigger) (place : ℕ) (pairs : List BucketValue) (at : ℕ) (new d : BucketValue) → at < length pairs
    → is_untold trigger place new ≡ false → list_any (is_untold trigger place) (take at pairs) ≡ false
    → list_any (is_untold trigger place) (take (at + 1) (set pairs at new)) ≡ false
quiet_more trigger place pairs at new d lt none before =
    let test : BucketValue → Bool = is_untold trigger place in
    let len = length-set pairs at new in
    let split : take (at + 1) (set pairs at new) ≡ take at pairs ++ new ∷ [] = take_more_set pairs at new lt in
    ap (list_any test) split ∙ list_any-append test (take at pairs) (new ∷ [])
    ∙ or_from (list_any test (take at pairs)) (test new || false) before (or_from (test new) false none refl)

-- telling sets no flag back
flags_more : (flags : List Bool) (place other : ℕ) → get_or flags other false ≡ true → get_or (set flags place true) other false ≡ true
flags_more [] place other is = is
flags_more (b ∷ bs) zero zero is = refl
flags_more (b ∷ bs) zero (suc other) is = is
flags_more (b ∷ bs) (suc place) zero is = is
flags_more (b ∷ bs) (suc place) (suc other) is = flags_more bs place other is

not_more : (a b : Bool) → (a ≡ true → b ≡ true) → not b ≡ true → not a ≡ true
not_more true b more is = absurd (true≢false (sym (more refl) ∙ not-true b is))
not_more false b more is = refl

-- an unreported mark was so before too
pub told_less : (trigger later : Trigger) (place other : ℕ) (pair : BucketValue)
    → is_untold later other (with_told trigger place pair) ≡ true → is_untold later other pair ≡ true
told_less trigger later place other pair is = elim (cases_Bool (meets trigger pair)) [
  | inl met ↦
      let new = rw met at is in
      let parts = and_parts (meets later pair) (not (get_or (set pair.told place true) other false)) new in
      rw (parts.0, not_more (is_told other pair) (get_or (set pair.told place true) other false) (flags_more pair.told place other) parts.1) refl
  | inr unmet ↦ rw unmet at is
]

pub pair_told : (trigger : Trigger) (place : ℕ) (pairs : List BucketValue) (at : ℕ) → at < length pairs
    → pair_at (map (with_told trigger place) pairs) at ≡ with_told trigger place (pair_at pairs at)
pair_told trigger place [] at lt = absurd (omega (arith, lt))
pair_told trigger place (x ∷ xs) zero lt = refl
pair_told trigger place (x ∷ xs) (suc at) lt = pair_told trigger place xs at (omega (arith, lt))

-- so the places stay
pub places_stay : (trigger later : Trigger) (place other : ℕ) (places : List ℕ) (pairs : List BucketValue) → AreUntoldAt later other places pairs
    → AreUntoldAt later other places (map (with_told trigger place) pairs)
places_stay trigger later place other places pairs are = λ at lt is.
    let within : at < length pairs = let long = length-map pairs (with_told trigger place) in omega (arith, long, lt) in
    are at within (told_less trigger later place other (pair_at pairs at) (rw (pair_told trigger place pairs at within) at is))

-- A key changed whose place is noted.
among_more : (places : List ℕ) (place at : ℕ) → (is_among places at ≡ true) → is_among (places ++ place ∷ []) at ≡ true
among_more places place at is = list_any-append (λ p. p == at) places (place ∷ []) ∙ or_left (is_among places at) (is_among (place ∷ []) at) is

among_last : (places : List ℕ) (place at : ℕ) → at ≡ place → is_among (places ++ place ∷ []) at ≡ true
among_last places place at e =
    list_any-append (λ p. p == at) places (place ∷ []) ∙ or_right (is_among places at) (is_among (place ∷ []) at) (or_left (place == at) false (eq-eqb place at (sym e)))

noted_more : (trigger : Trigger) (other place : ℕ) (places : List ℕ) (pairs later : List BucketValue) → ChangedAt place pairs later
    → AreUntoldAt trigger other places pairs → AreUntoldAt trigger other (places ++ place ∷ []) later
noted_more trigger other place places pairs later changed are = λ at lt is. elim (cases_eq at place) [
  | inl e ↦ among_last places place at e
  | inr ne ↦
      let same = changed.same at lt ne in
      among_more places place at (are at same.0 (rw same.1 at is))
]

within_more : (n m : ℕ) (places : List ℕ) → n ≤ m → All (λ at. at < n) places → All (λ at. at < m) places
within_more n m places le are = All-weaker (λ at. at < n) (λ at. at < m) (λ at lt. omega (arith, lt, le)) places are

-- a key takes a record, or one begins behind the others
pub changed_set : (pairs : List BucketValue) (place : ℕ) (new : BucketValue) → place < length pairs → ChangedAt place pairs (set pairs place new)
changed_set pairs place new lt =
    let long = length-set pairs place new in
    record {
      exists = omega (arith, long, lt);
      longer = omega (arith, long);
      same = λ at low ne. (omega (arith, long, low), get_or-set_other pairs place at new (begun 0 0) ne);
    }

pub changed_push : (pairs : List BucketValue) (place : ℕ) (new : BucketValue) → place ≡ length pairs → ChangedAt place pairs (pairs ++ new ∷ [])
changed_push pairs place new is =
    let long = length_push pairs new in
    record {
      exists = omega (arith, long, is);
      longer = omega (arith, long);
      same = λ at low ne.
          let within : at < length pairs = omega (arith, long, low, ne, is) in
          (within, get_or_append_left pairs (new ∷ []) (begun 0 0) at within);
    }

-- the first record since a trigger reported its marks
pub notes_begin : (notes : NotesValue) (pairs : List BucketValue) → notes.changed ≡ false → AreNotes notes pairs
    → AreNotes (record notes { changed = true; noting = true; before = notes.told; places = [] }) pairs
notes_begin notes pairs same are = record {
  told = λ e. absurd (true≢false e);
  before = λ e. are.told same;
  within = All-nil (λ at. at < length pairs);
}

module _ (notes : NotesValue) (place : ℕ) (pairs later : List BucketValue) (changes : notes.changed ≡ true) (changed : ChangedAt place pairs later) (are : AreNotes notes pairs) where
  -- nothing is noted
  pub notes_off : notes.noting ≡ false → AreNotes notes later
  notes_off off = record {
    told = λ e. absurd (true≢false (sym changes ∙ e));
    before = λ e. absurd (false≢true (sym off ∙ e));
    within = within_more (length pairs) (length later) notes.places changed.longer are.within;
  }

  -- nothing is from then on
  pub notes_end : AreNotes (record notes { noting = false }) later
  notes_end = record {
    told = λ e. absurd (true≢false (sym changes ∙ e));
    before = λ e. absurd (false≢true e);
    within = within_more (length pairs) (length later) notes.places changed.longer are.within;
  }

  -- the place is
  pub notes_add : AreNotes (record notes { places = notes.places ++ place ∷ [] }) later
  notes_add = record {
    told = λ e. absurd (true≢false (sym changes ∙ e));
    before = λ e other trigger is. noted_more trigger other place notes.places pairs later changed (are.before e other trigger is);
    within = All-push (λ at. at < length later) notes.places place (within_more (length pairs) (length later) notes.places changed.longer are.within) changed.exists;
  }

-- The trigger of a place reports its marks.
some_same : (a b : Trigger) → ◌≡◌ {A = Option Trigger} (Some a) (Some b) → a ≡ b
some_same a b same = cc

none_some : (a : Trigger) → ◌≡◌ {A = Option Trigger} None (Some a) → ⊥
none_some a same = cc

told_more : (was : List (Option Trigger)) (now : List BucketValue) (trigger : Trigger) (place : ℕ) → list_any (is_untold trigger place) now ≡ false
    → ((other : ℕ) (later : Trigger) → get_or was other None ≡ Some later → AreUntoldAt later other [] now)
    → AreAllUntoldAt (set was place (Some trigger)) [] now
told_more was now trigger place quiet others = λ other later is. elim (cases_eq other place) [
  | inl e ↦ elim (cases_lt place (length was)) [
    | inl low ↦
        let here : get_or (set was place (Some trigger)) other None ≡ Some trigger =
        ap (λ p. get_or (set was place (Some trigger)) p None) e ∙ get_or-set_same was place (Some trigger) None low in
        let one : trigger ≡ later = some_same trigger later (sym here ∙ is) in
        none_untold later other now (ap (λ (t : Trigger). list_any (is_untold t other) now) (sym one) ∙ ap (λ p. list_any (is_untold trigger p) now) e ∙ quiet)
    | inr high ↦
        let long = length-set was place (Some trigger) in
        let beyond : length (set was place (Some trigger)) ≤ other = omega (arith, long, high, e) in
        absurd (none_some later (sym (get_or-eq_default (set was place (Some trigger)) None beyond) ∙ is))
  ]
  | inr ne ↦ others other later (sym (get_or-set_other was place other (Some trigger) None ne) ∙ is)
]

none_known : (n other : ℕ) → ◌≡◌ {A = Option Trigger} (get_or (replicate n None) other None) None
none_known zero other = refl
none_known (suc n) zero = refl
none_known (suc n) (suc other) = none_known n other

within_told : (trigger : Trigger) (place : ℕ) (pairs : List BucketValue) (places : List ℕ) → All (λ at. at < length pairs) places
    → All (λ at. at < length (map (with_told trigger place) pairs)) places
within_told trigger place pairs places are =
    let long = length-map pairs (with_told trigger place) in
    within_more (length pairs) (length (map (with_told trigger place) pairs)) places (omega (arith, long)) are

-- the first trigger since the last record
pub notes_first : (notes : NotesValue) (pairs : List BucketValue) (trigger : Trigger) (place : ℕ) → AreNotes notes pairs
    → list_any (is_untold trigger place) (map (with_told trigger place) pairs) ≡ false
    → AreNotes (record notes { changed = false; told = set (replicate most_triggers None) place (Some trigger) }) (map (with_told trigger place) pairs)
notes_first notes pairs trigger place are quiet = record {
  told = λ e. told_more (replicate most_triggers None) (map (with_told trigger place) pairs) trigger place quiet
      (λ other later is. absurd (none_some later (sym (none_known most_triggers other) ∙ is)));
  before = λ e other later is. places_stay trigger later place other notes.places pairs (are.before e other later is);
  within = within_told trigger place pairs notes.places are.within;
}

-- a further one
pub notes_next : (notes : NotesValue) (pairs : List BucketValue) (trigger : Trigger) (place : ℕ) → notes.changed ≡ false → AreNotes notes pairs
    → list_any (is_untold trigger place) (map (with_told trigger place) pairs) ≡ false
    → AreNotes (record notes { told = set notes.told place (Some trigger) }) (map (with_told trigger place) pairs)
notes_next notes pairs trigger place same are quiet = record {
  told = λ e. told_more notes.told (map (with_told trigger place) pairs) trigger place quiet
      (λ other later is. places_stay trigger later place other [] pairs (are.told same other later is));
  before = λ e other later is. places_stay trigger later place other notes.places pairs (are.before e other later is);
  within = within_told trigger place pairs notes.places are.within;
}
