-- A text that is written piece by piece.
use Rattle.std.proofs.Common.{◌≡◌, ℕ, zero, suc, ◌≤◌, ◌∷◌, arith, List, [], ◌++◌, length, take, drop, Option, refl, sym, ap, ◌∙◌, append_assoc}
use Rattle.std.proofs.lemmas.List.{length-take, take-append-drop}
use Rattle.std.specs.Io.KnownBytes.{Appends}
use Rattle.std.proofs.KnownBytes.{Appends-nil, Appends-trans}

-- the text up to the rest is written
pub record IsWritten (before now : Option (List ℕ)) (text rest : List ℕ) : Type 0 where
  pub front : List ℕ
  pub text_is : text ≡ front ++ rest
  pub written : Appends before now front

pub written_none : (now : Option (List ℕ)) (text : List ℕ) → IsWritten now now text text
written_none now text = record { front = []; text_is = refl; written = Appends-nil now }

pub written_more : (before now next : Option (List ℕ)) (text rest taken after : List ℕ) (n : ℕ) → IsWritten before now text rest → Appends now next taken
    → taken ≡ take n rest → after ≡ drop n rest → IsWritten before next text after
written_more before now next text rest taken after n old appends is left = record {
  front = old.front ++ taken;
  text_is = old.text_is ∙ ap (λ xs. old.front ++ xs) (sym (take-append-drop n rest)) ∙ sym (append_assoc old.front (take n rest) (drop n rest))
      ∙ rw (is, left) refl;
  written = Appends-trans before now next old.front taken old.written appends;
}

pub take_of_take : {X : Type 0} (n m : ℕ) (xs : List X) → n ≤ length (take m xs) → take n (take m xs) ≡ take n xs
take_of_take zero m xs le = refl
take_of_take (suc n) zero xs le = absurd (omega (arith, le))
take_of_take (suc n) (suc m) [] le = refl
take_of_take (suc n) (suc m) (x ∷ xs) le = ap (λ ys. x ∷ ys) (take_of_take n m xs (omega (arith, le)))

-- the front of the next piece is the front of the rest
pub take_of_piece : {X : Type 0} (n m : ℕ) (piece rest : List X) → piece ≡ take m rest → n ≤ length piece → take n piece ≡ take n rest
take_of_piece {X} n m piece rest same le = let within : n ≤ length (take m rest) = rw same at le in ap (take n) same ∙ take_of_take n m rest within

-- what a device takes of the next piece is there in the rest
pub within_piece : {X : Type 0} (n m : ℕ) (piece rest : List X) → piece ≡ take m rest → n ≤ length piece → n ≤ length rest
within_piece n m piece rest same le = let within : n ≤ length (take m rest) = rw same at le in omega (arith, within, length-take m rest)
