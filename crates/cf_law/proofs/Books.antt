-- The book of a writer, as the tickets change.
use Rattle.std.proofs.Common.{◌≡◌, ℕ, ◌+◌, ◌<◌, ◌==◌, ◌≢◌, zero, suc, List, [], ◌∷◌, ◌++◌, length, set, Option, Some, None, slice_get, cond, Bool, true, false, inl, inr, refl, arith, ap, ap₂, sym, ◌∙◌, subst}
use Rattle.cf_row.proofs.Truths.{eq_false, eq_from, eq_true}
use Rattle.cf_row.specs.Row.{RowValue}
use Rattle.std.proofs.lemmas.Bool.{cases_Bool}
use Rattle.cf_law.specs.Words.{Ticket, fresh_ticket}
use Rattle.cf_law.specs.Passes.{Own, Flight}
use Rattle.cf_law.specs.Steps.{ticket_of, fresh_flight}
use Rattle.cf_law.specs.Lawful.{mine_in, flight_in}

abbrev pub flight_of : ℕ → Ticket → Flight
flight_of o t = record { offset = o; row = t.row; filled = t.filled; linked = t.linked }

abbrev pub own_of : ℕ → Ticket → Own
own_of o t = record { offset = o; row = t.row }

-- what the head of a list adds, by whether it is the writer's and finished
mine_if : Bool → Bool → ℕ → Ticket → List Own → List Own
mine_if a d k t xs = cond a (cond d (own_of k t ∷ xs) xs) xs

flight_if : Bool → Bool → ℕ → Ticket → Option Flight → Option Flight
flight_if a d k t x = cond a (cond d x (Some (flight_of k t))) x

mine_cons : (w k : ℕ) (t : Ticket) (ts : List Ticket) (a d : Bool) → (t.writer == w) ≡ a → t.is_done ≡ d
    → mine_in w k (t ∷ ts) ≡ mine_if a d k t (mine_in w (suc k) ts)
unfolding mine_in mine_if
mine_cons w k t ts a d e f = ap₂ (λ (x y : Bool). cond x (cond y (own_of k t ∷ mine_in w (suc k) ts) (mine_in w (suc k) ts)) (mine_in w (suc k) ts)) e f

flight_cons : (w k : ℕ) (t : Ticket) (ts : List Ticket) (a d : Bool) → (t.writer == w) ≡ a → t.is_done ≡ d
    → flight_in w k (t ∷ ts) ≡ flight_if a d k t (flight_in w (suc k) ts)
unfolding flight_in flight_if
flight_cons w k t ts a d e f = ap₂ (λ (x y : Bool). cond x (cond y (flight_in w (suc k) ts) (Some (flight_of k t))) (flight_in w (suc k) ts)) e f

mine_other : (d : Bool) (k : ℕ) (t : Ticket) (xs : List Own) → mine_if false d k t xs ≡ xs
unfolding mine_if
mine_other d k t xs = refl

mine_done : (k : ℕ) (t : Ticket) (xs : List Own) → mine_if true true k t xs ≡ own_of k t ∷ xs
unfolding mine_if
mine_done k t xs = refl

mine_open : (k : ℕ) (t : Ticket) (xs : List Own) → mine_if true false k t xs ≡ xs
unfolding mine_if
mine_open k t xs = refl

flight_other : (d : Bool) (k : ℕ) (t : Ticket) (x : Option Flight) → flight_if false d k t x ≡ x
unfolding flight_if
flight_other d k t x = refl

flight_done : (k : ℕ) (t : Ticket) (x : Option Flight) → flight_if true true k t x ≡ x
unfolding flight_if
flight_done k t x = refl

flight_open : (k : ℕ) (t : Ticket) (x : Option Flight) → flight_if true false k t x ≡ Some (flight_of k t)
unfolding flight_if
flight_open k t x = refl

-- the two lists with a head that is another's, finished, or in flight
pub other_cons : (w k : ℕ) (t : Ticket) (ts : List Ticket) → (t.writer == w) ≡ false → (mine_in w k (t ∷ ts) ≡ mine_in w (suc k) ts)
    × (flight_in w k (t ∷ ts) ≡ flight_in w (suc k) ts)
other_cons w k t ts e =
    (mine_cons w k t ts false t.is_done e refl ∙ mine_other t.is_done k t _, flight_cons w k t ts false t.is_done e refl ∙ flight_other t.is_done k t _)

pub done_cons : (w k : ℕ) (t : Ticket) (ts : List Ticket) → (t.writer == w) ≡ true → t.is_done ≡ true
    → (mine_in w k (t ∷ ts) ≡ own_of k t ∷ mine_in w (suc k) ts) × (flight_in w k (t ∷ ts) ≡ flight_in w (suc k) ts)
done_cons w k t ts e d = (mine_cons w k t ts true true e d ∙ mine_done k t _, flight_cons w k t ts true true e d ∙ flight_done k t _)

pub open_cons : (w k : ℕ) (t : Ticket) (ts : List Ticket) → (t.writer == w) ≡ true → t.is_done ≡ false → (mine_in w k (t ∷ ts) ≡ mine_in w (suc k) ts)
    × (flight_in w k (t ∷ ts) ≡ Some (flight_of k t))
open_cons w k t ts e d = (mine_cons w k t ts true false e d ∙ mine_open k t _, flight_cons w k t ts true false e d ∙ flight_open k t _)

mine_nil : (w k : ℕ) → mine_in w k [] ≡ []
unfolding mine_in
mine_nil w k = refl

flight_nil : (w k : ℕ) → flight_in w k [] ≡ None
unfolding flight_in
flight_nil w k = refl

-- the ticket in flight stands in the log
pub flight_found : (w k : ℕ) (log : List Ticket) (f : Flight) → flight_in w k log ≡ Some f → (j : ℕ) × (f.offset ≡ k + j)
    × (slice_get log j ≡ Some (ticket_of w f))
flight_found w k [] f h = absurd (cc (flight_nil w k, h))
flight_found w k (t ∷ ts) f h = elim (cases_Bool (t.writer == w)) [
  | inr e ↦ let r = flight_found w (suc k) ts f (sym (other_cons w k t ts e).1 ∙ h) in (suc r.0, omega (arith, r.1), r.2)
  | inl e ↦ elim (cases_Bool t.is_done) [
    | inl d ↦ let r = flight_found w (suc k) ts f (sym (done_cons w k t ts e d).1 ∙ h) in (suc r.0, omega (arith, r.1), r.2)
    | inr d ↦
        let same : flight_of k t ≡ f = cc ((open_cons w k t ts e d).1, h) in
        let at : t ≡ ticket_of w (flight_of k t) =
        ap₂ (λ (a : ℕ) (b : Bool). record { writer = a; row = t.row; filled = t.filled; linked = t.linked; is_done = b }) (eq_from t.writer w e) d in (
          0,
          omega (arith, ap (λ (g : Flight). g.offset) same),
          ap (λ (z : Ticket). Some z) at ∙ ap (λ (g : Flight). Some (ticket_of w g)) same,
        )
  ]
]

-- a writer with none in flight has finished all its tickets
pub none_flying : (w k : ℕ) (log : List Ticket) (i : ℕ) (t : Ticket) → flight_in w k log ≡ None → slice_get log i ≡ Some t → t.writer ≡ w → t.is_done ≡ true
none_flying w k [] i t h at e = absurd (cc at)
none_flying w k (x ∷ xs) i t h at e = elim (cases_Bool (x.writer == w)) [
  | inr f ↦ rest (λ j g. none_flying w (suc k) xs j t (sym (other_cons w k x xs f).1 ∙ h) g e) i at (λ g. absurd (cc (f, eq_true x.writer w g)))
  | inl f ↦ elim (cases_Bool x.is_done) [
    | inl d ↦ rest (λ j g. none_flying w (suc k) xs j t (sym (done_cons w k x xs f d).1 ∙ h) g e) i at (λ g. d)
    | inr d ↦ absurd (cc ((open_cons w k x xs f d).1, h))
  ]
]
  where
    rest : ((j : ℕ) → slice_get xs j ≡ Some t → t.is_done ≡ true) → (i : ℕ) → slice_get (x ∷ xs) i ≡ Some t → (x.writer ≡ w → x.is_done ≡ true)
        → t.is_done ≡ true
    rest r zero a head = let same : x ≡ t = cc a in subst (λ (z : Ticket). z.is_done ≡ true) same (head (ap (λ (z : Ticket). z.writer) same ∙ e))
    rest r (suc i) a head = r i a

-- Another writer's ticket changes, or comes.
pub set_other : (w v k o : ℕ) (log : List Ticket) (t u : Ticket) → slice_get log o ≡ Some t → t.writer ≡ w → u.writer ≡ w → v ≢ w
    → (mine_in v k (set log o u) ≡ mine_in v k log) × (flight_in v k (set log o u) ≡ flight_in v k log)
set_other w v k o [] t u at tw uw ne = absurd (cc at)
set_other w v k zero (x ∷ xs) t u at tw uw ne =
    let same : x ≡ t = cc at in
    let a = other_cons v k u xs (eq_false u.writer v (λ e. ne (sym e ∙ uw))) in
    let b = other_cons v k x xs (eq_false x.writer v (λ e. ne (sym e ∙ (ap (λ (z : Ticket). z.writer) same ∙ tw)))) in
    (a.0 ∙ sym b.0, a.1 ∙ sym b.1)
set_other w v k (suc o) (x ∷ xs) t u at tw uw ne = let r = set_other w v (suc k) o xs t u at tw uw ne in
    elim (cases_Bool (x.writer == v)) [
      | inr e ↦ let a = other_cons v k x (set xs o u) e in let b = other_cons v k x xs e in (a.0 ∙ (r.0 ∙ sym b.0), a.1 ∙ (r.1 ∙ sym b.1))
      | inl e ↦ elim (cases_Bool x.is_done) [
        | inl d ↦ let a = done_cons v k x (set xs o u) e d in let b = done_cons v k x xs e d in
            (a.0 ∙ (ap (λ (ys : List Own). own_of k x ∷ ys) r.0 ∙ sym b.0), a.1 ∙ (r.1 ∙ sym b.1))
        | inr d ↦ let a = open_cons v k x (set xs o u) e d in let b = open_cons v k x xs e d in (a.0 ∙ (r.0 ∙ sym b.0), a.1 ∙ sym b.1)
      ]
    ]

pub push_other : (w v k : ℕ) (log : List Ticket) (u : Ticket) → u.writer ≡ w → v ≢ w → (mine_in v k (log ++ u ∷ []) ≡ mine_in v k log)
    × (flight_in v k (log ++ u ∷ []) ≡ flight_in v k log)
push_other w v k [] u uw ne = let a = other_cons v k u [] (eq_false u.writer v (λ e. ne (sym e ∙ uw))) in
    (a.0 ∙ (mine_nil v (suc k) ∙ sym (mine_nil v k)), a.1 ∙ (flight_nil v (suc k) ∙ sym (flight_nil v k)))
push_other w v k (x ∷ xs) u uw ne = let r = push_other w v (suc k) xs u uw ne in
    elim (cases_Bool (x.writer == v)) [
      | inr e ↦ let a = other_cons v k x (xs ++ u ∷ []) e in let b = other_cons v k x xs e in (a.0 ∙ (r.0 ∙ sym b.0), a.1 ∙ (r.1 ∙ sym b.1))
      | inl e ↦ elim (cases_Bool x.is_done) [
        | inl d ↦ let a = done_cons v k x (xs ++ u ∷ []) e d in let b = done_cons v k x xs e d in
            (a.0 ∙ (ap (λ (ys : List Own). own_of k x ∷ ys) r.0 ∙ sym b.0), a.1 ∙ (r.1 ∙ sym b.1))
        | inr d ↦ let a = open_cons v k x (xs ++ u ∷ []) e d in let b = open_cons v k x xs e d in (a.0 ∙ (r.0 ∙ sym b.0), a.1 ∙ sym b.1)
      ]
    ]

-- The own ticket in flight changes.
pub set_open : (w k j : ℕ) (log : List Ticket) (f : Flight) (u : Ticket) → flight_in w k log ≡ Some f → f.offset ≡ k + j
    → slice_get log j ≡ Some (ticket_of w f) → u.writer ≡ w → u.is_done ≡ false
    → (mine_in w k (set log j u) ≡ mine_in w k log) × (flight_in w k (set log j u) ≡ Some (flight_of (k + j) u))
set_open w k j [] f u h at there uw ud = absurd (cc there)
set_open w k zero (x ∷ xs) f u h at there uw ud =
    let same : x ≡ ticket_of w f = cc there in
    let a = open_cons w k u xs (eq_true u.writer w uw) ud in
    let b = open_cons w k x xs (eq_true x.writer w (ap (λ (z : Ticket). z.writer) same)) (ap (λ (z : Ticket). z.is_done) same) in
    (a.0 ∙ sym b.0, a.1 ∙ ap (λ (n : ℕ). Some (flight_of n u)) (let e : k ≡ k + 0 = omega arith in e))
set_open w k (suc j) (x ∷ xs) f u h at there uw ud =
    let deep = λ (r : flight_in w (suc k) xs ≡ Some f). set_open w (suc k) j xs f u r (omega (arith, at)) there uw ud in
    let next : suc k + j ≡ k + suc j = omega arith in
    let fly = ap (λ (n : ℕ). Some (flight_of n u)) next in
    elim (cases_Bool (x.writer == w)) [
      | inr e ↦ let a = other_cons w k x (set xs j u) e in let b = other_cons w k x xs e in let r = deep (sym b.1 ∙ h) in
          (a.0 ∙ (r.0 ∙ sym b.0), a.1 ∙ (r.1 ∙ fly))
      | inl e ↦ elim (cases_Bool x.is_done) [
        | inl d ↦ let a = done_cons w k x (set xs j u) e d in let b = done_cons w k x xs e d in let r = deep (sym b.1 ∙ h) in
            (a.0 ∙ (ap (λ (ys : List Own). own_of k x ∷ ys) r.0 ∙ sym b.0), a.1 ∙ (r.1 ∙ fly))
        | inr d ↦ let first : flight_of k x ≡ f = cc ((open_cons w k x xs e d).1, h) in absurd (omega (arith, at, ap (λ (g : Flight). g.offset) first))
      ]
    ]

none_left : (w k : ℕ) (log : List Ticket) → ((i : ℕ) (t : Ticket) → slice_get log i ≡ Some t → t.writer ≡ w → ⊥) → (mine_in w k log ≡ [])
    × (flight_in w k log ≡ None)
none_left w k [] h = (mine_nil w k, flight_nil w k)
none_left w k (x ∷ xs) h =
    let a = other_cons w k x xs (eq_false x.writer w (h 0 x refl)) in
    let r = none_left w (suc k) xs (λ i t at e. h (suc i) t at e) in
    (a.0 ∙ r.0, a.1 ∙ r.1)

-- it is finished, and none of the writer's stands after it
pub set_done : (w k j : ℕ) (log : List Ticket) (f : Flight) (u : Ticket) → flight_in w k log ≡ Some f → f.offset ≡ k + j
    → slice_get log j ≡ Some (ticket_of w f) → u.writer ≡ w → u.is_done ≡ true
    → ((i : ℕ) (t : Ticket) → slice_get log i ≡ Some t → t.writer ≡ w → j < i → ⊥)
    → (mine_in w k (set log j u) ≡ mine_in w k log ++ own_of (k + j) u ∷ []) × (flight_in w k (set log j u) ≡ None)
set_done w k j [] f u h at there uw ud last = absurd (cc there)
set_done w k zero (x ∷ xs) f u h at there uw ud last =
    let same : x ≡ ticket_of w f = cc there in
    let a = done_cons w k u xs (eq_true u.writer w uw) ud in
    let b = open_cons w k x xs (eq_true x.writer w (ap (λ (z : Ticket). z.writer) same)) (ap (λ (z : Ticket). z.is_done) same) in
    let r = none_left w (suc k) xs (λ i t e g. last (suc i) t e g (omega arith)) in
    let here : k ≡ k + 0 = omega arith in (
      a.0 ∙ (ap (λ (ys : List Own). own_of k u ∷ ys) r.0
          ∙ (ap (λ (n : ℕ). own_of n u ∷ []) here ∙ ap (λ (ys : List Own). ys ++ own_of (k + 0) u ∷ []) (sym (b.0 ∙ r.0)))),
      a.1 ∙ r.1,
    )
set_done w k (suc j) (x ∷ xs) f u h at there uw ud last =
    let deep = λ (r : flight_in w (suc k) xs ≡ Some f). set_done w (suc k) j xs f u r (omega (arith, at)) there uw ud
    (λ i t e g lt. last (suc i) t e g (omega arith)) in
    let next : suc k + j ≡ k + suc j = omega arith in
    let own = λ (ys : List Own). ap (λ (n : ℕ). ys ++ own_of n u ∷ []) next in
    elim (cases_Bool (x.writer == w)) [
      | inr e ↦ let a = other_cons w k x (set xs j u) e in let b = other_cons w k x xs e in let r = deep (sym b.1 ∙ h) in
          (a.0 ∙ (r.0 ∙ (own (mine_in w (suc k) xs) ∙ ap (λ (ys : List Own). ys ++ own_of (k + suc j) u ∷ []) (sym b.0))), a.1 ∙ r.1)
      | inl e ↦ elim (cases_Bool x.is_done) [
        | inl d ↦ let a = done_cons w k x (set xs j u) e d in let b = done_cons w k x xs e d in let r = deep (sym b.1 ∙ h) in (
          a.0 ∙ (ap (λ (ys : List Own). own_of k x ∷ ys) (r.0 ∙ own (mine_in w (suc k) xs))
              ∙ ap (λ (ys : List Own). ys ++ own_of (k + suc j) u ∷ []) (sym b.0)),
          a.1 ∙ r.1,
        )
        | inr d ↦ let first : flight_of k x ≡ f = cc ((open_cons w k x xs e d).1, h) in absurd (omega (arith, at, ap (λ (g : Flight). g.offset) first))
      ]
    ]

-- A ticket comes.
pub push_own : (w k : ℕ) (log : List Ticket) (r : RowValue) → flight_in w k log ≡ None
    → (mine_in w k (log ++ fresh_ticket w r ∷ []) ≡ mine_in w k log) × (flight_in w k (log ++ fresh_ticket w r ∷ []) ≡ Some (fresh_flight (k + length log) r))
push_own w k [] r h =
    let a = open_cons w k (fresh_ticket w r) [] (eq_true w w refl) refl in
    let here : k ≡ k + 0 = omega arith in
    (a.0 ∙ (mine_nil w (suc k) ∙ sym (mine_nil w k)), a.1 ∙ ap (λ (n : ℕ). Some (fresh_flight n r)) here)
push_own w k (x ∷ xs) r h =
    let deep = λ (q : flight_in w (suc k) xs ≡ None). push_own w (suc k) xs r q in
    let next : suc k + length xs ≡ k + suc (length xs) = omega arith in
    let fly = ap (λ (n : ℕ). Some (fresh_flight n r)) next in
    elim (cases_Bool (x.writer == w)) [
      | inr e ↦ let a = other_cons w k x (xs ++ fresh_ticket w r ∷ []) e in let b = other_cons w k x xs e in let q = deep (sym b.1 ∙ h) in
          (a.0 ∙ (q.0 ∙ sym b.0), a.1 ∙ (q.1 ∙ fly))
      | inl e ↦ elim (cases_Bool x.is_done) [
        | inl d ↦ let a = done_cons w k x (xs ++ fresh_ticket w r ∷ []) e d in let b = done_cons w k x xs e d in let q = deep (sym b.1 ∙ h) in
            (a.0 ∙ (ap (λ (ys : List Own). own_of k x ∷ ys) q.0 ∙ sym b.0), a.1 ∙ (q.1 ∙ fly))
        | inr d ↦ absurd (cc ((open_cons w k x xs e d).1, h))
      ]
    ]
