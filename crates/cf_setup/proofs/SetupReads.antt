-- A setup is read just as its lines say.
use Rattle.std.proofs.Common.{◌≡◌, ℕ, ◌+◌, ◌≤◌, List, [], ◌∷◌, ◌++◌, length, Bool, true, false, cond, nat_lt, Option, Some, None, Result, Ok, Err, refl, sym, ap, ◌∙◌, arith, subst, suc}
use Rattle.std.proofs.lemmas.Bool.{ltb-true, ltb-false, lt-ltb, le-ltb}
use Rattle.cf_row.specs.declared.schema.Attr.{Attr}
use Rattle.cf_filter.specs.Tokens.{unspaced}
use Rattle.cf_filter.specs.Grammar.{Only}
use Rattle.cf_lines.specs.Lines.{is_silent, lines_of}
use Rattle.cf_setup.specs.Drafts.{DraftValue, nothing_stated}
use Rattle.cf_setup.specs.Setups.{SetupValue, settled}
use Rattle.cf_setup.specs.SetupText.{LineSaid, AllSaid, SetupText}
use Rattle.cf_setup.specs.SetupText.LineSaid.{silent, spoken}
use Rattle.cf_setup.specs.SetupText.SetupText.{whole, faulty, empty, large}
use Rattle.cf_setup.specs.Reading.{line_read, said, settled_or, setup_from, setup_at}
use Rattle.cf_setup.proofs.LineReads.{line_only}

said_only : (number : ℕ) (before : DraftValue) (line : List ℕ) (read : Result DraftValue ℕ) → LineSaid number before line read
    → said number before (unspaced line) ≡ read
said_only number before line read (silent s e) = rw s (sym e)
said_only number before line read (spoken s h) = let one = line_only number before (unspaced line) in rw s (sym (one.only read h))

said_holds : (number : ℕ) (before : DraftValue) (line : List ℕ) → LineSaid number before line (said number before (unspaced line))
said_holds number before line = by (is_silent (unspaced line)) refl
  where
    by : (b : Bool) → is_silent (unspaced line) ≡ b → LineSaid number before line (cond b (Ok before) (line_read number before (unspaced line)))
    by true b = silent b refl
    by false b = spoken b (let one = line_only number before (unspaced line) in one.holds)

-- lawful lines are passed over
passed : (number : ℕ) (before new : DraftValue) (front rest : List (List ℕ)) → AllSaid number before front new
    → setup_from number before (front ++ rest) ≡ setup_from (length front + number) new rest
unfolding setup_from
passed number before new [] rest h = ap (λ n. setup_from n before rest) (zero_more number) ∙ ap (λ s. setup_from (0 + number) s rest) (sym h)
  where
    zero_more : (n : ℕ) → n ≡ 0 + n
    zero_more n = omega arith
passed number before new (line ∷ front) rest h =
    let next = h.0 in
    let one : said number before (unspaced line) ≡ Ok next = said_only number before line (Ok next) h.1 in
    let more : setup_from (number + 1) next (front ++ rest) ≡ setup_from (length front + (number + 1)) new rest = passed (number + 1) next new front rest h.2 in
    rw one (more ∙ ap (λ n. setup_from n new rest) (shift (length front) number))
  where
    shift : (n k : ℕ) → n + (k + 1) ≡ suc n + k
    shift n k = omega arith

append_nothing : (xs : List (List ℕ)) → xs ++ [] ≡ xs
append_nothing [] = refl
append_nothing (x ∷ xs) = ap (λ ys. x ∷ ys) (append_nothing xs)

-- all lines are lawful
ended : (bytes : List ℕ) (stated : DraftValue) → AllSaid 1 nothing_stated (lines_of bytes) stated
    → setup_from 1 nothing_stated (lines_of bytes) ≡ settled_or (length (lines_of bytes) + 1) stated stated.schema
unfolding setup_from
ended bytes stated all = ap (setup_from 1 nothing_stated) (sym (append_nothing (lines_of bytes))) ∙ passed 1 nothing_stated stated (lines_of bytes) [] all

setup_same : (bytes : List ℕ) (read : Result SetupValue (ℕ × ℕ)) → SetupText bytes read → read ≡ setup_at bytes
unfolding setup_from
setup_same bytes read (whole stated attrs size all some e) =
    let q : setup_from 1 nothing_stated (lines_of bytes) ≡ Ok (settled stated attrs) = ended bytes stated all
    ∙ ap (settled_or (length (lines_of bytes) + 1) stated) some in
    e ∙ rw (le-ltb 65536 (length bytes) size) (sym q)
setup_same bytes read (faulty front rest line before code size lines all bad e) =
    let p : setup_from 1 nothing_stated (front ++ line ∷ rest) ≡ setup_from (length front + 1) before (line ∷ rest) =
    passed 1 nothing_stated before front (line ∷ rest) all in
    let one : said (length front + 1) before (unspaced line) ≡ Err code = said_only (length front + 1) before line (Err code) bad in
    let stop : setup_from (length front + 1) before (line ∷ rest) ≡ Err (length front + 1, code) = rw one refl in
    let q : setup_from 1 nothing_stated (lines_of bytes) ≡ Err (length front + 1, code) = ap (setup_from 1 nothing_stated) lines ∙ p ∙ stop in
    e ∙ rw (le-ltb 65536 (length bytes) size) (sym q)
setup_same bytes read (empty stated size all none e) =
    let q : setup_from 1 nothing_stated (lines_of bytes) ≡ Err (length (lines_of bytes) + 1, 2) = ended bytes stated all
    ∙ ap (settled_or (length (lines_of bytes) + 1) stated) none in
    e ∙ rw (le-ltb 65536 (length bytes) size) (sym q)
setup_same bytes read (large size e) = e ∙ rw (lt-ltb 65536 (length bytes) size) refl

-- either some line is the first faulty one, or all are lawful
pub data Ending (number : ℕ) (before : DraftValue) (lines : List (List ℕ)) : Type 0 where
  all : (new : DraftValue) → AllSaid number before lines new → Ending number before lines
  first : (front rest : List (List ℕ)) (line : List ℕ) (at_fault : DraftValue) (code : ℕ) → lines ≡ front ++ line ∷ rest
      → AllSaid number before front at_fault → LineSaid (length front + number) at_fault line (Err code) → Ending number before lines

ending : (number : ℕ) (before : DraftValue) (lines : List (List ℕ)) → Ending number before lines
ending number before [] = all before refl
ending number before (line ∷ lines) = by (λ next. ending (number + 1) next lines) (said number before (unspaced line)) refl
  where
    shift : (n k : ℕ) → n + (k + 1) ≡ suc n + k
    shift n k = omega arith

    zero_more : (n : ℕ) → n ≡ 0 + n
    zero_more n = omega arith

    more : (next : DraftValue) → LineSaid number before line (Ok next) → Ending (number + 1) next lines → Ending number before (line ∷ lines)
    more next h (all new k) = all new (next, h, k)
    more next h (first front rest bad at_fault code e k f) =
        first (line ∷ front) rest bad at_fault code (ap (λ xs. line ∷ xs) e) (next, h, k)
        (subst (λ (n : ℕ). LineSaid n at_fault bad (Err code)) (shift (length front) number) f)

    by : ((next : DraftValue) → Ending (number + 1) next lines) → (r : Result DraftValue ℕ) → said number before (unspaced line) ≡ r
        → Ending number before (line ∷ lines)
    by later (Ok next) e = more next (subst (λ (r : Result DraftValue ℕ). LineSaid number before line r) e (said_holds number before line)) (later next)
    by later (Err code) e =
        first [] lines line before code refl refl
        (subst (λ (n : ℕ). LineSaid n before line (Err code)) (zero_more number)
        (subst (λ (r : Result DraftValue ℕ). LineSaid number before line r) e (said_holds number before line)))

setup_holds : (bytes : List ℕ) → (read : Result SetupValue (ℕ × ℕ)) × SetupText bytes read
setup_holds bytes = by (nat_lt 65536 (length bytes)) refl
  where
    last : length bytes ≤ 65536 → (new : DraftValue) → AllSaid 1 nothing_stated (lines_of bytes) new → (o : Option (List Attr)) → new.schema ≡ o
        → (read : Result SetupValue (ℕ × ℕ)) × SetupText bytes read
    last size new h (Some attrs) o = (Ok (settled new attrs), whole new attrs size h o refl)
    last size new h None o = (Err (length (lines_of bytes) + 1, 2), empty new size h o refl)

    small : length bytes ≤ 65536 → Ending 1 nothing_stated (lines_of bytes) → (read : Result SetupValue (ℕ × ℕ)) × SetupText bytes read
    small size (all new h) = last size new h new.schema refl
    small size (first front rest line at_fault code e h f) = (Err (length front + 1, code), faulty front rest line at_fault code size e h f refl)

    by : (b : Bool) → nat_lt 65536 (length bytes) ≡ b → (read : Result SetupValue (ℕ × ℕ)) × SetupText bytes read
    by true b = (Err (0, 9), large (ltb-true 65536 (length bytes) b) refl)
    by false b = small (ltb-false 65536 (length bytes) b) (ending 1 nothing_stated (lines_of bytes))

-- each text has one outcome, and it is what is read
pub setup_only : (bytes : List ℕ) → Only (SetupText bytes) (setup_at bytes)
setup_only bytes = let h = setup_holds bytes in
    record { holds = subst (λ (r : Result SetupValue (ℕ × ℕ)). SetupText bytes r) (setup_same bytes h.0 h.1) h.1; only = λ other k. setup_same bytes other k }
