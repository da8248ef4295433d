-- A file that was read to its end.
use Rattle.std.proofs.Common.{◌≡◌, ℕ, List, [], length, drop, Option, Some, sym, subst, inr, arith}
use Rattle.std.proofs.lemmas.List.{drop_all}
use Rattle.cf_outside.specs.Files.{File}
use Rattle.cf_intake.specs.Files.{HasLeft, IsStopped, Grammar, IsReadAs}

-- it is taken whole
pub whole_taken : {A : Type 0} (g : Grammar A) (told : Option (List File)) (name : List ℕ) (start now : Option (List ℕ)) (what : A)
    → IsReadAs g told name now what → IsStopped told name g.limit start now
whole_taken {A} g told name start now what read =
    let all : drop (length read.0.bytes) read.0.bytes ≡ [] = drop_all (length read.0.bytes) read.0.bytes (omega arith) in
    inr (
      read.0.bytes,
      read.0.file,
      record { count = length read.0.bytes; most = read.0.few; left = subst (λ (xs : List ℕ). HasLeft told now (Some xs)) (sym all) read.1 },
    )
