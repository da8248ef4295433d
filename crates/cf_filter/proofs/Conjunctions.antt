-- What has been read stands before what is read of the rest.
use Rattle.std.proofs.Common.{◌≡◌, ℕ, suc, List, [], ◌∷◌, ◌++◌, Result, Ok, Err, refl, ap, sym, ◌∙◌, append_assoc}
use Rattle.cf_row.specs.declared.schema.Attr.{Attr}
use Rattle.cf_row.specs.declared.expr.Atom.{Atom}
use Rattle.cf_filter.specs.declared.fault.OffenceAt.{OffenceAt}
use Rattle.cf_filter.specs.declared.fault.Offence.TheVariants.{TooLong}
use Rattle.cf_filter.specs.declared.atom.Joint.{Joint}
use Rattle.cf_filter.specs.declared.atom.Joint.TheVariants.{End, And, Or}
use Rattle.cf_filter.specs.Reading.{seen_by, atom_at, joint_at, stop_at}
use Rattle.cf_filter.specs.Exprs.{with_atom, conjunctions_at, joined_by}
use Rattle.cf_filter.specs.Tokens.{unspaced}

-- the closed conjunctions, the open one and the others
abbrev pub preceded : List (List Atom) → List Atom → List (List Atom) → List (List Atom)
preceded closed [] others = closed ++ others
preceded closed (a ∷ more) [] = closed ++ (a ∷ more) ∷ []
preceded closed (a ∷ more) (atoms ∷ others) = closed ++ ((a ∷ more) ++ atoms) ∷ others

abbrev pub read_on : List (List Atom) → List Atom → List Attr → ℕ → List ℕ → Result (List (List Atom)) OffenceAt
read_on closed open_atoms attrs n text = seen_by (preceded closed open_atoms) (conjunctions_at attrs n text)

abbrev pub pair : Atom → List ℕ → Atom × List ℕ
pair atom rest = (atom, rest)

abbrev pub joint_and_rest : Joint → List ℕ → Joint × List ℕ
joint_and_rest joint rest = (joint, rest)

pub read_start : (attrs : List Attr) (n : ℕ) (text : List ℕ) → read_on [] [] attrs n text ≡ conjunctions_at attrs n text
read_start attrs n text = elim (conjunctions_at attrs n text) as (λ r. seen_by (preceded [] []) r ≡ r) [ Ok xs ↦ refl | Err e ↦ refl ]

preceded_and : (closed : List (List Atom)) (open_atoms : List Atom) (atom : Atom) (others : List (List Atom))
    → preceded closed open_atoms (with_atom atom others) ≡ preceded closed (open_atoms ++ atom ∷ []) others
preceded_and closed [] atom [] = refl
preceded_and closed [] atom (x ∷ xs) = refl
preceded_and closed (a ∷ more) atom [] = refl
preceded_and closed (a ∷ more) atom (x ∷ xs) = ap (λ ys. closed ++ (a ∷ ys) ∷ xs) (sym (append_assoc more (atom ∷ []) x))

preceded_or : (closed : List (List Atom)) (open_atoms : List Atom) (atom : Atom) (others : List (List Atom))
    → preceded closed open_atoms ((atom ∷ []) ∷ others) ≡ preceded (closed ++ (open_atoms ++ atom ∷ []) ∷ []) [] others
preceded_or closed [] atom others = sym (append_assoc closed ((atom ∷ []) ∷ []) others)
preceded_or closed (a ∷ more) atom others = sym (append_assoc closed (((a ∷ more) ++ atom ∷ []) ∷ []) others)

joined_and : (closed : List (List Atom)) (open_atoms : List Atom) (atom : Atom) (r : Result (List (List Atom)) OffenceAt)
    → seen_by (preceded closed open_atoms) (seen_by (with_atom atom) r) ≡ seen_by (preceded closed (open_atoms ++ atom ∷ [])) r
joined_and closed open_atoms atom (Ok xs) = ap Ok (preceded_and closed open_atoms atom xs)
joined_and closed open_atoms atom (Err e) = refl

joined_or : (closed : List (List Atom)) (open_atoms : List Atom) (atom : Atom) (r : Result (List (List Atom)) OffenceAt)
    → seen_by (preceded closed open_atoms) (seen_by (λ others. (atom ∷ []) ∷ others) r) ≡ seen_by (preceded (closed ++ (open_atoms ++ atom ∷ []) ∷ []) []) r
joined_or closed open_atoms atom (Ok xs) = ap Ok (preceded_or closed open_atoms atom xs)
joined_or closed open_atoms atom (Err e) = refl

-- one step at a text with at least one atom allowed
step_by : (attrs : List Attr) (m n : ℕ) (text rest after : List ℕ) (atom : Atom) (joint : Joint) → m ≡ suc n → atom_at attrs text ≡ Ok (pair atom rest)
    → joint_at rest ≡ Ok (joint_and_rest joint after) → conjunctions_at attrs m text ≡ joined_by atom joint (conjunctions_at attrs n after)
unfolding conjunctions_at
step_by attrs m n text rest after atom joint e a l = rw (e, a, l) refl

pub read_and : (closed : List (List Atom)) (open_atoms : List Atom) (attrs : List Attr) (m n : ℕ) (text rest after : List ℕ) (atom : Atom) → m ≡ suc n
    → atom_at attrs text ≡ Ok (pair atom rest) → joint_at rest ≡ Ok (joint_and_rest And after)
    → read_on closed open_atoms attrs m text ≡ read_on closed (open_atoms ++ atom ∷ []) attrs n after
read_and closed open_atoms attrs m n text rest after atom e a l = ap (seen_by (preceded closed open_atoms)) (step_by attrs m n text rest after atom And e a l)
    ∙ joined_and closed open_atoms atom (conjunctions_at attrs n after)

pub read_or : (closed : List (List Atom)) (open_atoms : List Atom) (attrs : List Attr) (m n : ℕ) (text rest after : List ℕ) (atom : Atom) → m ≡ suc n
    → atom_at attrs text ≡ Ok (pair atom rest) → joint_at rest ≡ Ok (joint_and_rest Or after)
    → read_on closed open_atoms attrs m text ≡ read_on (closed ++ (open_atoms ++ atom ∷ []) ∷ []) [] attrs n after
read_or closed open_atoms attrs m n text rest after atom e a l = ap (seen_by (preceded closed open_atoms)) (step_by attrs m n text rest after atom Or e a l)
    ∙ joined_or closed open_atoms atom (conjunctions_at attrs n after)

pub read_end : (closed : List (List Atom)) (open_atoms : List Atom) (attrs : List Attr) (m n : ℕ) (text rest after : List ℕ) (atom : Atom) → m ≡ suc n
    → atom_at attrs text ≡ Ok (pair atom rest) → joint_at rest ≡ Ok (joint_and_rest End after)
    → read_on closed open_atoms attrs m text ≡ Ok (closed ++ (open_atoms ++ atom ∷ []) ∷ [])
read_end closed open_atoms attrs m n text rest after atom e a l = ap (seen_by (preceded closed open_atoms)) (step_by attrs m n text rest after atom End e a l)
    ∙ ap Ok (last open_atoms)
  where
    last : (xs : List Atom) → preceded closed xs ((atom ∷ []) ∷ []) ≡ closed ++ (xs ++ atom ∷ []) ∷ []
    last [] = refl
    last (x ∷ xs) = refl

pub read_bad_atom : (closed : List (List Atom)) (open_atoms : List Atom) (attrs : List Attr) (m n : ℕ) (text : List ℕ) (stop : OffenceAt) → m ≡ suc n
    → atom_at attrs text ≡ Err stop → read_on closed open_atoms attrs m text ≡ Err stop
unfolding conjunctions_at
read_bad_atom closed open_atoms attrs m n text stop e a = rw (e, a) refl

pub read_bad_joint : (closed : List (List Atom)) (open_atoms : List Atom) (attrs : List Attr) (m n : ℕ) (text rest : List ℕ) (atom : Atom) (stop : OffenceAt)
    → m ≡ suc n → atom_at attrs text ≡ Ok (pair atom rest) → joint_at rest ≡ Err stop → read_on closed open_atoms attrs m text ≡ Err stop
unfolding conjunctions_at
read_bad_joint closed open_atoms attrs m n text rest atom stop e a l = rw (e, a, l) refl

-- no more atoms are allowed
pub read_full : (closed : List (List Atom)) (open_atoms : List Atom) (attrs : List Attr) (text : List ℕ)
    → read_on closed open_atoms attrs 0 text ≡ Err (stop_at TooLong (unspaced text))
unfolding conjunctions_at
read_full closed open_atoms attrs text = refl
