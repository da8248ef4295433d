-- The entries of a writer in a leaf, of those that were seen.
use Rattle.std.proofs.Common.{◌≡◌, ◌∙◌, ℕ, zero, suc, ◌<◌, ◌≤◌, ◌==◌, inl, inr, List, [], ◌∷◌, ◌++◌, length, Bool, true, cond, Option, Some, None, slice_get, refl, ap, arith}
use Rattle.std.proofs.lemmas.Bool.{cases_Bool, cases_lt}
use Rattle.std.proofs.lemmas.Option.{slice_get_within}
use Rattle.cf_row.proofs.Truths.{eq_from, eq_true}
use Rattle.cf_row.specs.Row.{RowValue}
use Rattle.cf_row.specs.declared.row.Entry.{Entry}
use Rattle.cf_law.specs.Words.{Spot, Layout, same_path}
use Rattle.cf_law.proofs.Chains.{same_path_true, same_path_intro}
use Rattle.cf_law.specs.Readers.{IsIn, pick_at, picks}

pub pick_none : (sh : Layout) (w : ℕ) (s : Spot) (o : ℕ) (e : Entry) → (IsIn sh w s e → ⊥) → pick_at sh w s o (Some e) ≡ []
pick_none sh w s o e out =
    let test = same_path (sh.path e.row s.lane) s.path in
    elim (cases_Bool (e.writer == w)) [
      | inl a ↦ elim (cases_Bool test) [
        | inl b ↦ absurd (out (eq_from e.writer w a, same_path_true (sh.path e.row s.lane) s.path b))
        | inr b ↦ ap (λ (x : Bool). cond x (cond test ((o, e.row) ∷ []) []) []) a ∙ ap (λ (x : Bool). cond x ((o, e.row) ∷ []) []) b
      ]
      | inr a ↦ ap (λ (x : Bool). cond x (cond test ((o, e.row) ∷ []) []) []) a
    ]

pub pick_some : (sh : Layout) (w : ℕ) (s : Spot) (o : ℕ) (e : Entry) → IsIn sh w s e → pick_at sh w s o (Some e) ≡ (o, e.row) ∷ []
pick_some sh w s o e is =
    let test = same_path (sh.path e.row s.lane) s.path in
    let a : (e.writer == w) ≡ true = eq_true e.writer w is.0 in
    let b : test ≡ true = ap (λ (q : Option (List ℕ)). same_path q s.path) is.1 ∙ same_path_intro s.path in
    ap (λ (x : Bool). cond x (cond test ((o, e.row) ∷ []) []) []) a ∙ ap (λ (x : Bool). cond x ((o, e.row) ∷ []) []) b

-- an entry at this place is the next
pub picks_next : (sh : Layout) (w : ℕ) (s : Spot) (seen : List Entry) (o : ℕ)
    → picks sh w s seen (suc o) ≡ pick_at sh w s o (slice_get seen o) ++ picks sh w s seen o
unfolding picks
picks_next sh w s seen o = refl

pub picks_zero : (sh : Layout) (w : ℕ) (s : Spot) (seen : List Entry) → picks sh w s seen 0 ≡ []
unfolding picks
picks_zero sh w s seen = refl

-- no entry of the leaf stands from k on and before n
abbrev pub NoneBetween : Layout → ℕ → Spot → List Entry → ℕ → ℕ → Type 0
NoneBetween sh w s seen k n = (i : ℕ) (e : Entry) → k ≤ i → i < n → slice_get seen i ≡ Some e → IsIn sh w s e → ⊥

pub picks_skip : (sh : Layout) (w : ℕ) (s : Spot) (seen : List Entry) (k n : ℕ) → k ≤ n → NoneBetween sh w s seen k n
    → picks sh w s seen n ≡ picks sh w s seen k
picks_skip sh w s seen k zero le none = (let e : 0 ≡ k = omega (arith, le) in ap (picks sh w s seen) e)
picks_skip sh w s seen k (suc n) le none = elim (cases_lt n k) [
  | inl past ↦ (let e : suc n ≡ k = omega (arith, le, past) in ap (picks sh w s seen) e)
  | inr low ↦ picks_next sh w s seen n
      ∙ (ap (λ (xs : List (ℕ × RowValue)). xs ++ picks sh w s seen n) (here (slice_get seen n) refl low)
      ∙ picks_skip sh w s seen k n low (λ i e a b. none i e a (omega (arith, b))))
]
  where
    here : (e : Option Entry) → slice_get seen n ≡ e → k ≤ n → pick_at sh w s n (slice_get seen n) ≡ []
    here None at low = ap (pick_at sh w s n) at
    here (Some e) at low = ap (pick_at sh w s n) at ∙ pick_none sh w s n e (none n e low (omega arith) at)

-- past the end there are no more
pub picks_past : (sh : Layout) (w : ℕ) (s : Spot) (seen : List Entry) (n : ℕ) → length seen ≤ n → picks sh w s seen n ≡ picks sh w s seen (length seen)
picks_past sh w s seen n le =
    picks_skip sh w s seen (length seen) n le (λ i e a b at is. let lt = slice_get_within seen i e at in absurd (omega (arith, a, lt)))
