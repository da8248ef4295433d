-- The first line of a text.
use Rattle.std.proofs.Common.{◌≡◌, ℕ, suc, ◌+◌, ◌<◌, List, [], ◌∷◌, ◌++◌, length, take, drop, true, false, cond, refl, sym, ap, ◌∙◌, arith, append_assoc, append-nil, length-append}
use Rattle.std.specs.List.{prefix_len}
use Rattle.std.specs.Str.Lines.{strip_carriage_return}
use Rattle.cf_filter.specs.declared.bytes.Class.TheVariants.{Except}
use Rattle.cf_filter.specs.Tokens.{passes}
use Rattle.cf_lines.specs.Lines.{lines_after, lines_of}

one_more : (n : ℕ) → 1 + n ≡ suc n
one_more n = omega arith

lines_more : (begun : List ℕ) (b : ℕ) (bs : List ℕ)
    → lines_after begun (b ∷ bs) ≡ cond (passes (Except 10) b) (lines_after (begun ++ b ∷ []) bs) (strip_carriage_return begun ∷ lines_after [] bs)
unfolding lines_after
lines_more [] b bs = refl
lines_more (c ∷ cs) b bs = refl

-- a line that ends where no byte is left
last_after : (begun bytes : List ℕ) → 0 < length begun + length bytes → drop (prefix_len (passes (Except 10)) bytes) bytes ≡ []
    → lines_after begun bytes ≡ (begun ++ take (prefix_len (passes (Except 10)) bytes) bytes) ∷ []
unfolding lines_after
last_after [] [] some h = absurd (omega arith)
last_after (c ∷ cs) [] some h = ap (λ xs. xs ∷ []) (sym (append-nil (c ∷ cs)))
last_after begun (b ∷ bs) some h = lines_more begun b bs ∙
    (elim (passes (Except 10) b) as
    (λ t. passes (Except 10) b ≡ t → drop (cond t (1 + prefix_len (passes (Except 10)) bs) 0) (b ∷ bs) ≡ []
    → cond t (lines_after (begun ++ b ∷ []) bs) (strip_carriage_return begun ∷ lines_after [] bs) ≡
    (begun ++ take (cond t (1 + prefix_len (passes (Except 10)) bs) 0) (b ∷ bs)) ∷ []) [
      | true ↦ λ e k.
          let rest : drop (prefix_len (passes (Except 10)) bs) bs ≡ [] = rw one_more at k in
          last_after (begun ++ b ∷ []) bs
          (let n : length (begun ++ b ∷ []) ≡ length begun + length (b ∷ []) = length-append begun (b ∷ []) in omega (arith, n)) rest
          ∙ ap (λ xs. xs ∷ []) (append_assoc begun (b ∷ []) (take (prefix_len (passes (Except 10)) bs) bs))
          ∙ rw (one_more (prefix_len (passes (Except 10)) bs)) refl
      | false ↦ λ e k. absurd (clash b bs k)
    ] refl h)
  where
    clash : (b : ℕ) (bs : List ℕ) → b ∷ bs ≡ [] → ⊥
    clash b bs e = cc

pub last_line : (bytes : List ℕ) → 0 < length bytes → drop (prefix_len (passes (Except 10)) bytes) bytes ≡ []
    → lines_of bytes ≡ take (prefix_len (passes (Except 10)) bytes) bytes ∷ lines_of (drop (prefix_len (passes (Except 10)) bytes) bytes)
unfolding lines_after
last_line bytes some h = last_after [] bytes (omega arith) h ∙ ap (λ rest. take (prefix_len (passes (Except 10)) bytes) bytes ∷ lines_of rest) (sym h)

-- a line that has an end
ended_after : (begun bytes : List ℕ) → 0 < length (drop (prefix_len (passes (Except 10)) bytes) bytes)
    → lines_after begun bytes ≡ strip_carriage_return (begun ++ take (prefix_len (passes (Except 10)) bytes) bytes) ∷ lines_of
    (drop 1 (drop (prefix_len (passes (Except 10)) bytes) bytes))
ended_after begun [] h = absurd (omega arith)
ended_after begun (b ∷ bs) h = lines_more begun b bs ∙
    (elim (passes (Except 10) b) as
    (λ t. passes (Except 10) b ≡ t → 0 < length (drop (cond t (1 + prefix_len (passes (Except 10)) bs) 0) (b ∷ bs))
    → cond t (lines_after (begun ++ b ∷ []) bs) (strip_carriage_return begun ∷ lines_after [] bs) ≡ strip_carriage_return
    (begun ++ take (cond t (1 + prefix_len (passes (Except 10)) bs) 0) (b ∷ bs)) ∷ lines_of
    (drop 1 (drop (cond t (1 + prefix_len (passes (Except 10)) bs) 0) (b ∷ bs)))) [
      | true ↦ λ e k.
          let rest : 0 < length (drop (prefix_len (passes (Except 10)) bs) bs) = rw one_more at k in
          ended_after (begun ++ b ∷ []) bs rest
          ∙ ap (λ xs. strip_carriage_return xs ∷ lines_of (drop 1 (drop (prefix_len (passes (Except 10)) bs) bs)))
          (append_assoc begun (b ∷ []) (take (prefix_len (passes (Except 10)) bs) bs)) ∙ rw (one_more (prefix_len (passes (Except 10)) bs)) refl
      | false ↦ λ e k. ap (λ xs. strip_carriage_return xs ∷ lines_of bs) (sym (append-nil begun))
    ] refl h)

pub ended_line : (bytes : List ℕ) → 0 < length (drop (prefix_len (passes (Except 10)) bytes) bytes)
    → lines_of bytes ≡ strip_carriage_return (take (prefix_len (passes (Except 10)) bytes) bytes) ∷ lines_of
    (drop 1 (drop (prefix_len (passes (Except 10)) bytes) bytes))
ended_line bytes h = ended_after [] bytes h
