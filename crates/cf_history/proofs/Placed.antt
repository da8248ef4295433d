-- Where the questions of a spelled history stand among its appends.
use Rattle.std.proofs.Common.{◌≡◌, ◌∙◌, ℕ, zero, suc, ◌+◌, ◌*◌, ◌<◌, ◌≤◌, ◌↔◌, List, [], ◌∷◌, ◌++◌, map, ◌==◌, Some, slice_get, sym, ap, subst, inl, inr, arith, append-nil}
use Rattle.std.proofs.lemmas.Bool.{eq-eqb, ne_eqb, cases_eq, cases_order}
use Rattle.std.specs.List.{filter, AllByRecursion}
use Rattle.cf_history.specs.History.{HistoryEvent, AskReply, asked_at, spell_from, spell}
use Rattle.cf_history.specs.History.HistoryEvent.{Appended, Asked}

module _ {Entry Ask Body : Type 0} where
  -- a number that never falls along a spelled history: an append's is odd, and a question's even
  abbrev rank : HistoryEvent Entry Ask Body → ℕ
  rank (Appended entry offset) = 2 * offset + 1
  rank (Asked pass told) = 2 * told.tail

  abbrev AllFrom : ℕ → List (HistoryEvent Entry Ask Body) → Type 0
  AllFrom r events = AllByRecursion (λ event. r ≤ rank event) events

  abbrev Rises : List (HistoryEvent Entry Ask Body) → Type 0
  Rises [] = Unit {0}
  Rises (event ∷ events) = AllFrom (rank event) events × Rises events

  from_less : (a b : ℕ) (events : List (HistoryEvent Entry Ask Body)) → a ≤ b → AllFrom b events → AllFrom a events
  from_less a b [] le all = tt
  from_less a b (event ∷ events) le all = ((let first = all.0 in omega (arith, le, first)), from_less a b events le all.1)

  -- events of one number, and then more of no less
  block : (r : ℕ) (xs ys : List (HistoryEvent Entry Ask Body)) → AllByRecursion (λ event. rank event ≡ r) xs → AllFrom r ys → Rises ys → AllFrom r (xs ++ ys)
      × Rises (xs ++ ys)
  block r [] ys same from rise = (from, rise)
  block r (x ∷ xs) ys same from rise =
      let rest = block r xs ys same.1 from rise in
      let first = same.0 in
      ((omega (arith, first), rest.0), (subst (λ (n : ℕ). AllFrom n (xs ++ ys)) (sym first) rest.0, rest.1))

module _ (Entry : Type 0) {Ask Body : Type 0} where
  own_ranks : (t q : ℕ) (tolds : List (AskReply Ask Body))
      → AllByRecursion (λ (event : HistoryEvent Entry Ask Body). rank event ≡ 2 * t) (map (Asked q) (filter (λ told. told.tail == t) tolds))
  own_ranks t q [] = tt
  own_ranks t q (told ∷ tolds) = elim (cases_eq told.tail t) [
    | inl e ↦ rw (eq-eqb told.tail t e) (ap (λ (n : ℕ). 2 * n) e, own_ranks t q tolds)
    | inr ne ↦ rw (ne_eqb told.tail t ne) (own_ranks t q tolds)
  ]

  same_append : (r : ℕ) (xs ys : List (HistoryEvent Entry Ask Body)) → AllByRecursion (λ (event : HistoryEvent Entry Ask Body). rank event ≡ r) xs
      → AllByRecursion (λ (event : HistoryEvent Entry Ask Body). rank event ≡ r) ys
      → AllByRecursion (λ (event : HistoryEvent Entry Ask Body). rank event ≡ r) (xs ++ ys)
  same_append r [] ys a b = b
  same_append r (x ∷ xs) ys a b = (a.0, same_append r xs ys a.1 b)

  ask_ranks : (t q : ℕ) (passes : List (List (AskReply Ask Body)))
      → AllByRecursion (λ (event : HistoryEvent Entry Ask Body). rank event ≡ 2 * t) (asked_at t q passes)
  ask_ranks t q [] = tt
  ask_ranks t q (tolds ∷ passes) =
      same_append (2 * t) (map (Asked q) (filter (λ told. told.tail == t) tolds)) (asked_at t (q + 1) passes) (own_ranks t q tolds) (ask_ranks t (q + 1) passes)

module _ {Entry Ask Body : Type 0} where
  spelled_rises : (n : ℕ) (log : List Entry) (passes : List (List (AskReply Ask Body))) → AllFrom (2 * n) (spell_from n log passes)
      × Rises (spell_from n log passes)
  spelled_rises n [] passes = rw (append-nil (asked_at n 0 passes)) at (block (2 * n) (asked_at n 0 passes) [] (ask_ranks Entry n 0 passes) tt tt)
  spelled_rises n (entry ∷ log) passes =
      let rest = spelled_rises (n + 1) log passes in
      block (2 * n) (asked_at n 0 passes) (Appended entry n ∷ spell_from (n + 1) log passes) (ask_ranks Entry n 0 passes)
      (omega arith, from_less (2 * n) (2 * (n + 1)) (spell_from (n + 1) log passes) (omega arith) rest.0)
      (from_less (2 * n + 1) (2 * (n + 1)) (spell_from (n + 1) log passes) (omega arith) rest.0, rest.1)

  from_at : (r : ℕ) (events : List (HistoryEvent Entry Ask Body)) (k : ℕ) (x : HistoryEvent Entry Ask Body) → AllFrom r events → slice_get events k ≡ Some x
      → r ≤ rank x
  from_at r [] zero x all at = absurd (cc at)
  from_at r [] (suc k) x all at = absurd (cc at)
  from_at r (y ∷ ys) zero x all at = (let same : y ≡ x = cc at in subst (λ (e : HistoryEvent Entry Ask Body). r ≤ rank e) same all.0)
  from_at r (y ∷ ys) (suc k) x all at = from_at r ys k x all.1 at

  rises_at : (events : List (HistoryEvent Entry Ask Body)) (i j : ℕ) (x y : HistoryEvent Entry Ask Body) → Rises events → i < j → slice_get events i ≡ Some x
      → slice_get events j ≡ Some y → rank x ≤ rank y
  rises_at [] zero j x y rise lt a b = absurd (cc a)
  rises_at [] (suc i) j x y rise lt a b = absurd (cc a)
  rises_at (e ∷ es) i zero x y rise lt a b = absurd (omega (arith, lt))
  rises_at (e ∷ es) zero (suc j) x y rise lt a b =
      (let same : e ≡ x = cc a in subst (λ (f : HistoryEvent Entry Ask Body). rank f ≤ rank y) same (from_at (rank e) es j y rise.0 b))
  rises_at (e ∷ es) (suc i) (suc j) x y rise lt a b = rises_at es i j x y rise.1 (omega (arith, lt)) a b

  -- an append is no question
  apart : (entry : Entry) (offset pass : ℕ) (told : AskReply Ask Body) → Some (Asked pass told) ≡ Some (Appended entry offset) → ⊥
  apart entry offset pass told same = absurd (cc same)

  pub placed : (log : List Entry) (passes : List (List (AskReply Ask Body))) (i j : ℕ) (entry : Entry) (offset pass : ℕ) (told : AskReply Ask Body)
      → slice_get (spell log passes) i ≡ Some (Appended entry offset) → slice_get (spell log passes) j ≡ Some (Asked pass told) → (i < j) ↔ (offset < told.tail)
  placed log passes i j entry offset pass told a b =
      let rise = (spelled_rises 0 log passes).1 in (
        λ before. (let le : 2 * offset + 1 ≤ 2 * told.tail = rises_at (spell log passes) i j _ _ rise before a b in omega (arith, le)),
        λ below. elim (cases_order i j) [
          | inl same ↦ absurd (apart entry offset pass told (sym (ap (λ (k : ℕ). slice_get (spell log passes) k) same ∙ b) ∙ a))
          | inr (inl lt) ↦ lt
          | inr (inr gt) ↦ absurd (let le : 2 * told.tail ≤ 2 * offset + 1 = rises_at (spell log passes) j i _ _ rise gt b a in omega (arith, le, below))
        ],
      )
