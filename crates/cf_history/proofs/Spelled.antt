-- A log with questions whose answers are their meanings on prefixes of it spells a legal history.
use Rattle.std.proofs.Common.{◌≡◌, ℕ, zero, suc, ◌+◌, ◌≤◌, ◌<◌, true, false, nat_le, List, [], ◌∷◌, ◌++◌, length, map, get_or, ◌==◌, refl, sym, ap, subst, ◌∙◌, inl, inr, arith, append_assoc, append-nil, length-append, eqb-true}
use Rattle.std.proofs.lemmas.Bool.{eq-eqb, ne_eqb, le-leb, lt-leb, cases_order, cases_eq}
use Rattle.std.proofs.lemmas.List.{take_at}
use Rattle.std.proofs.lemmas.List.Elements.{filter_map-append}
use Rattle.std.specs.List.{filter, AllByRecursion}
use Rattle.cf_history.specs.History.{HistoryEvent, AskReply, NeverFall, IsLegalFrom, IsLegal, asked_at, spell_from, spell, IsToldBy, AreToldBy, NeverGoBack, appended_by, appends_of, asked_by, asks_of, IsHistoryOf}
use Rattle.cf_history.specs.History.HistoryEvent.{Appended, Asked}

module _ {Entry Ask Body : Type 0} (eval : Ask → List Entry → Body) where
  -- questions on the list held so far, and then more
  legal_asks : (held log : List Entry) (q : ℕ) (pass : List (AskReply Ask Body)) (more : List (HistoryEvent Entry Ask Body))
      → AllByRecursion (IsToldBy eval (held ++ log)) pass → IsLegalFrom eval held more
      → IsLegalFrom eval held (map (Asked q) (filter (λ told. told.tail == length held) pass) ++ more)
  legal_asks held log q [] more told then = then
  legal_asks held log q (first ∷ pass) more told then =
      let rest : IsLegalFrom eval held (map (Asked q) (filter (λ t. t.tail == length held) pass) ++ more) = legal_asks held log q pass more told.1 then in
      elim (first.tail == length held) as
      (λ b. (first.tail == length held) ≡ b → IsLegalFrom eval held (map (Asked q) (filter (λ t. t.tail == length held) (first ∷ pass)) ++ more)) [
        | true ↦ λ yes.
            let tail : first.tail ≡ length held = eqb-true _ _ yes in
            let body : first.body ≡ eval first.ask held = told.0.1 ∙ ap (λ (xs : List Entry). eval first.ask xs) (take_at held log first.tail (sym tail)) in
            rw yes (tail, body, rest)
        | false ↦ λ no. rw no rest
      ] refl

  legal_passes : (held log : List Entry) (q : ℕ) (passes : List (List (AskReply Ask Body))) (more : List (HistoryEvent Entry Ask Body))
      → AreToldBy eval (held ++ log) passes → IsLegalFrom eval held more → IsLegalFrom eval held (asked_at (length held) q passes ++ more)
  legal_passes held log q [] more told then = then
  legal_passes held log q (pass ∷ passes) more told then =
      rw (append_assoc (map (Asked q) (filter (λ t. t.tail == length held) pass)) (asked_at (length held) (q + 1) passes) more)
      (legal_asks held log q pass (asked_at (length held) (q + 1) passes ++ more) told.0 (legal_passes held log (q + 1) passes more told.1 then))

  legal_from : (held log : List Entry) (passes : List (List (AskReply Ask Body))) → AreToldBy eval (held ++ log) passes
      → IsLegalFrom eval held (spell_from (length held) log passes)
  legal_from held [] passes told = rw (append-nil (asked_at (length held) 0 passes)) at (legal_passes held [] 0 passes [] told tt)
  legal_from held (entry ∷ log) passes told =
      let len : length (held ++ entry ∷ []) ≡ length held + 1 = length-append held (entry ∷ []) in
      let same : (held ++ entry ∷ []) ++ log ≡ held ++ entry ∷ log = append_assoc held (entry ∷ []) log in
      let rest : IsLegalFrom eval (held ++ entry ∷ []) (spell_from (length (held ++ entry ∷ [])) log passes) =
      legal_from (held ++ entry ∷ []) log passes (rw same told) in
      legal_passes held (entry ∷ log) 0 passes _ told (refl, (rw len at rest))

  pub spelled_is_legal : (log : List Entry) (passes : List (List (AskReply Ask Body))) → AreToldBy eval log passes → IsLegal eval (spell log passes)
  spelled_is_legal log passes told = legal_from [] log passes told

-- questions append nothing
module _ (Entry : Type 0) {Ask Body : Type 0} where
  no_appends_of : (q : ℕ) (tolds : List (AskReply Ask Body)) → appends_of {Entry = Entry} (map (Asked q) tolds) ≡ []
  no_appends_of q [] = refl
  no_appends_of q (told ∷ tolds) = no_appends_of q tolds

  no_appends : (t q : ℕ) (passes : List (List (AskReply Ask Body))) → appends_of {Entry = Entry} (asked_at t q passes) ≡ []
  no_appends t q [] = refl
  no_appends t q (pass ∷ passes) =
      filter_map-append (appended_by {Entry = Entry}) (map (Asked q) (filter (λ told. told.tail == t) pass)) (asked_at t (q + 1) passes)
      ∙ rw (no_appends_of q (filter (λ told. told.tail == t) pass), no_appends t (q + 1) passes) refl

  spelled_appends : (t : ℕ) (log : List Entry) (passes : List (List (AskReply Ask Body))) → appends_of (spell_from t log passes) ≡ log
  spelled_appends t [] passes = no_appends t 0 passes
  spelled_appends t (entry ∷ log) passes = filter_map-append appended_by (asked_at t 0 passes) (Appended entry t ∷ spell_from (t + 1) log passes)
      ∙ rw (no_appends t 0 passes, spelled_appends (t + 1) log passes) refl

  -- a pass's questions come from that pass alone
  own_asks : (q : ℕ) (tolds : List (AskReply Ask Body)) → asks_of {Entry = Entry} q (map (Asked q) tolds) ≡ tolds
  own_asks q [] = refl
  own_asks q (told ∷ tolds) = rw (eq-eqb q q refl) (ap (λ ts. told ∷ ts) (own_asks q tolds))

  other_asks : (p q : ℕ) (tolds : List (AskReply Ask Body)) → (q ≡ p → ⊥) → asks_of {Entry = Entry} p (map (Asked q) tolds) ≡ []
  other_asks p q [] apart = refl
  other_asks p q (told ∷ tolds) apart = rw (ne_eqb q p apart) (other_asks p q tolds apart)

  none_before : (t p q : ℕ) (passes : List (List (AskReply Ask Body))) → p < q → asks_of {Entry = Entry} p (asked_at t q passes) ≡ []
  none_before t p q [] lt = refl
  none_before t p q (pass ∷ passes) lt =
      filter_map-append (asked_by {Entry = Entry} p) (map (Asked q) (filter (λ told. told.tail == t) pass)) (asked_at t (q + 1) passes)
      ∙ rw (other_asks p q (filter (λ told. told.tail == t) pass) (λ e. omega (arith, e, lt)), none_before t p (q + 1) passes (omega (arith, lt))) refl

  asks_at : (t q p : ℕ) (passes : List (List (AskReply Ask Body)))
      → asks_of {Entry = Entry} (q + p) (asked_at t q passes) ≡ filter (λ told. told.tail == t) (get_or passes p [])
  asks_at t q p [] = refl
  asks_at t q zero (pass ∷ passes) =
      let same : q + 0 ≡ q = omega arith in
      rw same (filter_map-append (asked_by {Entry = Entry} q) (map (Asked q) (filter (λ told. told.tail == t) pass)) (asked_at t (q + 1) passes)
      ∙ rw (own_asks q (filter (λ told. told.tail == t) pass), none_before t q (q + 1) passes (omega arith))
      (append-nil (filter (λ told. told.tail == t) pass)))
  asks_at t q (suc p) (pass ∷ passes) =
      let same : q + suc p ≡ q + 1 + p = omega arith in
      rw same (filter_map-append (asked_by {Entry = Entry} (q + 1 + p)) (map (Asked q) (filter (λ told. told.tail == t) pass)) (asked_at t (q + 1) passes)
      ∙ rw (other_asks (q + 1 + p) q (filter (λ told. told.tail == t) pass) (λ e. omega (arith, e))) (asks_at t (q + 1) p passes))

-- tails that never fall, one after the other
module _ {Ask Body : Type 0} where
  none_at : (t n : ℕ) (tolds : List (AskReply Ask Body)) → t < n → AllByRecursion (λ m. n ≤ m) (map (λ told. told.tail) tolds)
      → filter (λ told. told.tail == t) tolds ≡ []
  none_at t n [] lt above = refl
  none_at t n (told ∷ tolds) lt above = rw (ne_eqb told.tail t (λ e. omega (arith, e, lt, above.0))) (none_at t n tolds lt above.1)

  split_rising : (t : ℕ) (tolds : List (AskReply Ask Body)) → NeverFall (map (λ told. told.tail) tolds)
      → filter (λ told. told.tail == t) tolds ++ filter (λ told. nat_le (t + 1) told.tail) tolds ≡ filter (λ told. nat_le t told.tail) tolds
  split_rising t [] rise = refl
  split_rising t (told ∷ tolds) rise =
      let rest : filter (λ x. x.tail == t) tolds ++ filter (λ x. nat_le (t + 1) x.tail) tolds ≡ filter (λ x. nat_le t x.tail) tolds =
      split_rising t tolds rise.1 in
      elim (cases_order told.tail t) [
        | inl e ↦ rw (eq-eqb told.tail t e, lt-leb (t + 1) told.tail (omega (arith, e)), le-leb t told.tail (omega (arith, e))) (ap (λ ts. told ∷ ts) rest)
        | inr (inl lt) ↦ rw (ne_eqb told.tail t (λ e. omega (arith, e, lt)), lt-leb (t + 1) told.tail (omega (arith, lt)), lt-leb t told.tail lt) rest
        | inr (inr gt) ↦
            let none : filter (λ x. x.tail == t) tolds ≡ [] = none_at t told.tail tolds gt rise.0 in
            let rest' : filter (λ x. nat_le (t + 1) x.tail) tolds ≡ filter (λ x. nat_le t x.tail) tolds = rw none at rest in
            rw (ne_eqb told.tail t (λ e. omega (arith, e, gt)), le-leb (t + 1) told.tail (omega (arith, gt)), le-leb t told.tail (omega (arith, gt)), none)
            (ap (λ ts. told ∷ ts) rest')
      ]

  last_ones : (t : ℕ) (tolds : List (AskReply Ask Body)) → AllByRecursion (λ told. told.tail ≤ t) tolds
      → filter (λ told. told.tail == t) tolds ≡ filter (λ told. nat_le t told.tail) tolds
  last_ones t [] below = refl
  last_ones t (told ∷ tolds) below =
      elim (cases_eq told.tail t) [
        | inl e ↦ rw (eq-eqb told.tail t e, le-leb t told.tail (omega (arith, e))) (ap (λ ts. told ∷ ts) (last_ones t tolds below.1))
        | inr ne ↦ rw (ne_eqb told.tail t ne, lt-leb t told.tail (omega (arith, ne, below.0))) (last_ones t tolds below.1)
      ]

  each_pass : (P : List (AskReply Ask Body) → Type 0) → P [] → (p : ℕ) (passes : List (List (AskReply Ask Body))) → AllByRecursion P passes
      → P (get_or passes p [])
  each_pass P none p [] all = none
  each_pass P none zero (pass ∷ passes) all = all.0
  each_pass P none (suc p) (pass ∷ passes) all = each_pass P none p passes all.1

  from_zero : (tolds : List (AskReply Ask Body)) → filter (λ told. nat_le 0 told.tail) tolds ≡ tolds
  from_zero [] = refl
  from_zero (told ∷ tolds) = rw (le-leb 0 told.tail (omega arith)) (ap (λ ts. told ∷ ts) (from_zero tolds))

module _ {Entry Ask Body : Type 0} where
  spelled_asks : (t p : ℕ) (log : List Entry) (passes : List (List (AskReply Ask Body))) → NeverFall (map (λ told. told.tail) (get_or passes p []))
      → AllByRecursion (λ told. told.tail ≤ t + length log) (get_or passes p [])
      → asks_of p (spell_from t log passes) ≡ filter (λ told. nat_le t told.tail) (get_or passes p [])
  spelled_asks t p [] passes rise below =
      let same : 0 + p ≡ p = omega arith in
      (rw same at (asks_at Entry t 0 p passes))
      ∙ last_ones t (get_or passes p []) (subst (λ n. AllByRecursion (λ told. told.tail ≤ n) (get_or passes p [])) (omega arith) below)
  spelled_asks t p (entry ∷ log) passes rise below =
      let same : 0 + p ≡ p = omega arith in
      let now : asks_of {Entry = Entry} p (asked_at t 0 passes) ≡ filter (λ told. told.tail == t) (get_or passes p []) =
      rw same at (asks_at Entry t 0 p passes) in
      let more : asks_of p (spell_from (t + 1) log passes) ≡ filter (λ told. nat_le (t + 1) told.tail) (get_or passes p []) =
      spelled_asks (t + 1) p log passes rise (subst (λ n. AllByRecursion (λ told. told.tail ≤ n) (get_or passes p [])) (omega arith) below) in
      filter_map-append (asked_by p) (asked_at t 0 passes) (Appended entry t ∷ spell_from (t + 1) log passes)
      ∙ rw (now, more) (split_rising t (get_or passes p []) rise)

  tails_below : (eval : Ask → List Entry → Body) (log : List Entry) (tolds : List (AskReply Ask Body)) → AllByRecursion (IsToldBy eval log) tolds
      → AllByRecursion (λ told. told.tail ≤ 0 + length log) tolds
  tails_below eval log [] all = tt
  tails_below eval log (told ∷ tolds) all = (omega (arith, all.0.0), tails_below eval log tolds all.1)

  pub spelled_is_history : (eval : Ask → List Entry → Body) (log : List Entry) (passes : List (List (AskReply Ask Body))) → AreToldBy eval log passes
      → NeverGoBack passes → IsHistoryOf eval log passes (spell log passes)
  spelled_is_history eval log passes told rise = record {
    legal = spelled_is_legal eval log passes told;
    appends = spelled_appends Entry 0 log passes;
    asks = λ p. spelled_asks 0 p log passes (each_pass (λ pass. NeverFall (map (λ t. t.tail) pass)) tt p passes rise)
        (tails_below eval log (get_or passes p []) (each_pass (AllByRecursion (IsToldBy eval log)) tt p passes told)) ∙ from_zero (get_or passes p []);
  }
