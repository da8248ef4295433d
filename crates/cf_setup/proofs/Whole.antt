-- One more line of a setup.
use Rattle.std.proofs.Common.{◌≡◌, ℕ, ◌+◌, List, [], ◌∷◌, Ok, Err, refl, ap, ◌∙◌, length, arith}
use Rattle.cf_filter.specs.Tokens.{unspaced}
use Rattle.cf_setup.specs.declared.fault.LineFault.{LineFault}
use Rattle.cf_setup.specs.declared.fault.LineFault.TheVariants.{Breaks, Memory}
use Rattle.cf_setup.specs.Codes.{code_number}
use Rattle.cf_lines.specs.Lines.{lines_of, lines_after}
use Rattle.cf_setup.specs.Drafts.{DraftValue}
use Rattle.cf_setup.specs.Reading.{setup_from, settled_or, said, Takes, fault_at, Answers}

pub line_ok : (number : ℕ) (before new : DraftValue) (bytes line rest : List ℕ) → lines_of bytes ≡ line ∷ lines_of rest
    → said number before (unspaced line) ≡ Ok new → setup_from number before (lines_of bytes) ≡ setup_from (number + 1) new (lines_of rest)
unfolding setup_from
line_ok number before new bytes line rest e h = ap (setup_from number before) e ∙ rw h refl

line_err : (number code : ℕ) (before : DraftValue) (bytes line rest : List ℕ) → lines_of bytes ≡ line ∷ lines_of rest
    → said number before (unspaced line) ≡ Err code → setup_from number before (lines_of bytes) ≡ Err (number, code)
unfolding setup_from
line_err number code before bytes line rest e h = ap (setup_from number before) e ∙ rw h refl

pub line_stops : (number : ℕ) (fault : LineFault) (before : DraftValue) (bytes line rest : List ℕ) → lines_of bytes ≡ line ∷ lines_of rest
    → Takes (Err fault) (said number before (unspaced line)) → Answers (Err (fault_at number fault)) (setup_from number before (lines_of bytes))
line_stops number (Breaks code) before bytes line rest e h = line_err number (code_number code) before bytes line rest e h
line_stops number Memory before bytes line rest e h = tt

pub line_none : (number : ℕ) (before : DraftValue) (bytes : List ℕ) → bytes ≡ []
    → setup_from number before (lines_of bytes) ≡ settled_or number before before.schema
unfolding setup_from lines_after
line_none number before bytes e = ap (λ b. setup_from number before (lines_of b)) e

pub empty_is : (xs : List ℕ) → length xs ≡ 0 → xs ≡ []
empty_is [] h = refl
empty_is (x ∷ xs) h = absurd (omega (arith, h))
