-- One record more.
use Rattle.std.proofs.Common.{◌≡◌, ℕ, zero, suc, ◌+◌, ◌/◌, ◌^◌, List, [], ◌∷◌, ◌++◌, refl, sym, ap, ◌∙◌, arith, add-one, append-nil}
use Rattle.std.specs.List.{flat_map, range_with_len}
use Rattle.std.proofs.lemmas.List.{flat_map_more}
use Rattle.cf_make.specs.Generated.{next_state, state, draw_of, record_of, record_at, file_header, generated_bytes}

range_more : (a n j : ℕ) → a + n ≡ j → range_with_len a (suc n) ≡ range_with_len a n ++ j ∷ []
range_more a zero j h = let same : a ≡ j = omega (arith, h) in ap (λ x. x ∷ []) same
range_more a (suc n) j h = ap (λ xs. a ∷ xs) (range_more (a + 1) n j (omega (arith, h)))

pub none : (seed : ℕ) (bytes : List ℕ) → bytes ≡ file_header → bytes ≡ generated_bytes seed 0
unfolding generated_bytes
none seed bytes h = h ∙ sym (append-nil file_header)

pub first : (seed : ℕ) → seed ≡ state seed 0
unfolding state
first seed = refl

-- the state after one step more
pub stepped : (seed k now after : ℕ) → now ≡ state seed k → after ≡ next_state now → after ≡ state seed (k + 1)
unfolding state
stepped seed k now after h step =
    rw (add-one k) (step ∙ ap next_state h)

-- the record of the state after k + 1 steps comes after records 0 to k - 1
pub grown : (seed k after bits : ℕ) (held new : List ℕ) → held ≡ generated_bytes seed k → after ≡ state seed (k + 1) → bits ≡ after / 2 ^ 32
    → new ≡ held ++ record_of k bits → new ≡ generated_bytes seed (k + 1)
unfolding generated_bytes record_at draw_of
grown seed k after bits held new h step draw put =
    let same : bits ≡ state seed (suc k) / 2 ^ 32 = draw ∙ ap (λ x. x / 2 ^ 32) (rw (add-one k) at step) in
    put
    ∙ ap (λ x. held ++ record_of k x) same
    ∙ ap (λ xs. xs ++ record_at seed k) h
    ∙ flat_map_more (record_at seed) file_header (range_with_len 0 k) k
    ∙ ap (λ xs. file_header ++ flat_map (record_at seed) xs) (sym (range_more 0 k k (omega arith)) ∙ ap (range_with_len 0) (sym (add-one k)))
