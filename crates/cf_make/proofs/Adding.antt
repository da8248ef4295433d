-- Pieces one after another at the end of a buffer.
use Rattle.std.proofs.Common.{◌≡◌, ℕ, List, ◌++◌, append_assoc}

pub two : (old a b : List ℕ) → (old ++ a) ++ b ≡ old ++ (a ++ b)
two old a b = simp append_assoc

pub three : (old a b c : List ℕ) → ((old ++ a) ++ b) ++ c ≡ old ++ ((a ++ b) ++ c)
three old a b c = simp append_assoc

pub four : (old a b c d : List ℕ) → (((old ++ a) ++ b) ++ c) ++ d ≡ old ++ (((a ++ b) ++ c) ++ d)
four old a b c d = simp append_assoc

-- of four pieces the last three as one
pub one_and_three : (old a b c d : List ℕ) → (((old ++ a) ++ b) ++ c) ++ d ≡ old ++ (a ++ ((b ++ c) ++ d))
one_and_three old a b c d = simp append_assoc

pub six : (old a b c d e f : List ℕ) → (((((old ++ a) ++ b) ++ c) ++ d) ++ e) ++ f ≡ old ++ (((((a ++ b) ++ c) ++ d) ++ e) ++ f)
six old a b c d e f = simp append_assoc

pub seven : (old a b c d e f g : List ℕ) → ((((((old ++ a) ++ b) ++ c) ++ d) ++ e) ++ f) ++ g ≡ old ++ ((((((a ++ b) ++ c) ++ d) ++ e) ++ f) ++ g)
seven old a b c d e f g = simp append_assoc
