-- Several files that are read one after another.
use Rattle.std.proofs.Common.{◌≡◌, ℕ, ◌++◌, zero, suc, ◌+◌, ◌<◌, List, [], ◌∷◌, length, take, drop, get_or, Option, Some, None, All, refl, sym, ap, ◌∙◌, subst, inl, inr, arith}
use Rattle.std.proofs.lemmas.List.{map-append}
use Rattle.std.proofs.lemmas.List.Elements.{All-append, All-cons, All-nil}
use Rattle.std.specs.Borrow.{Bor}
use Rattle.cf_outside.specs.Files.{File}
use Rattle.cf_row.specs.Row.{RowValue}
use Rattle.cf_intake.specs.Files.{HasLeft, Grammar, IsFileAs, IsFileRefused, Halts}
use Rattle.cf_intake.specs.Files.IsFileRefused.{missing, broken}
use Rattle.cf_intake.specs.Parts.{rows_each, captured, captured_each}
use Rattle.cf_intake.specs.declared.rows.Captured.{Captured}
use Rattle.cf_intake.specs.Several.{names_in, AreFilesAs, AreFilesRefused, AreStopped, AreReadAs, AreHalted}
use Rattle.cf_intake.specs.declared.refusal.Halt.{Halt}
use Rattle.cf_intake.specs.declared.refusal.Halt.TheVariants.{Refused, Stopped}
use Rattle.cf_intake.specs.declared.refusal.Refusal.{Refusal}

-- one more file says something
pub one_more : {A : Type 0} (g : Grammar A) (told : Option (List File)) (names : List (List ℕ)) (whats : List A) (name : List ℕ) (what : A)
    → AreFilesAs g told names whats → IsFileAs g told name what → AreFilesAs g told (names ++ name ∷ []) (whats ++ what ∷ [])
one_more {A} g told [] [] name what said is = (is, tt)
one_more {A} g told [] (w ∷ whats) name what said is = absurd said
one_more {A} g told (n ∷ names) [] name what said is = absurd said
one_more {A} g told (n ∷ names) (w ∷ whats) name what said is = (said.0, one_more g told names whats name what said.1 is)

-- a file is refused after others that were read to their ends
refused_after : {A : Type 0} (g : Grammar A) (told : Option (List File)) (front : List (List ℕ)) (whats : List A) (name : List ℕ) (rest : List (List ℕ))
    (now : Option (List ℕ)) (why : Refusal) → AreFilesAs g told front whats → IsFileRefused g told name (Some []) now why
    → AreFilesRefused g told (front ++ name ∷ rest) (Some []) now why
refused_after {A} g told [] whats name rest now why said refused = inl refused
refused_after {A} g told (n ∷ front) [] name rest now why said refused = absurd said
refused_after {A} g told (n ∷ front) (w ∷ whats) name rest now why said refused =
    inr (w, said.0, refused_after g told front whats name rest now why said.1 refused)

-- a stop after others that were read to their ends
stopped_after : {A : Type 0} (g : Grammar A) (told : Option (List File)) (front : List (List ℕ)) (whats : List A) (rest : List (List ℕ))
    (now : Option (List ℕ)) → AreFilesAs g told front whats → AreStopped g told rest (Some []) now → AreStopped g told (front ++ rest) (Some []) now
stopped_after {A} g told [] whats rest now said stopped = stopped
stopped_after {A} g told (n ∷ front) [] rest now said stopped = absurd said
stopped_after {A} g told (n ∷ front) (w ∷ whats) rest now said stopped = inr (w, said.0, stopped_after g told front whats rest now said.1 stopped)

pub halted_after : {A : Type 0} (g : Grammar A) (told : Option (List File)) (front : List (List ℕ)) (whats : List A) (name : List ℕ) (rest : List (List ℕ))
    (now : Option (List ℕ)) (halt : Halt) → AreFilesAs g told front whats → Halts g told name (Some []) now halt
    → AreHalted g told (front ++ name ∷ rest) (Some []) now halt
halted_after {A} g told front whats name rest now (Refused why) said halts = refused_after g told front whats name rest now why said halts
halted_after {A} g told front whats name rest now (Stopped stop) said halts = stopped_after g told front whats (name ∷ rest) now said (inl halts)

-- a stop before the next file was opened
unopened : {A : Type 0} (g : Grammar A) (told : Option (List File)) (rest : List (List ℕ)) (now : Option (List ℕ)) → HasLeft told now (Some [])
    → AreStopped g told rest (Some []) now
unopened {A} g told [] now end = end
unopened {A} g told (name ∷ rest) now end = inl (inl end)

pub stopped_between : {A : Type 0} (g : Grammar A) (told : Option (List File)) (front : List (List ℕ)) (whats : List A) (rest : List (List ℕ))
    (now : Option (List ℕ)) → AreFilesAs g told front whats → HasLeft told now (Some []) → AreStopped g told (front ++ rest) (Some []) now
stopped_between {A} g told front whats rest now said end = stopped_after g told front whats rest now said (unopened g told rest now end)

-- files that were read to their ends are taken whole
pub all_taken : {A : Type 0} (g : Grammar A) (told : Option (List File)) (names : List (List ℕ)) (now : Option (List ℕ)) (whats : List A)
    → AreReadAs g told names now whats → AreStopped g told names (Some []) now
all_taken {A} g told [] now [] read = read.1
all_taken {A} g told [] now (w ∷ whats) read = absurd read.0
all_taken {A} g told (n ∷ names) now [] read = absurd read.0
all_taken {A} g told (n ∷ names) now (w ∷ whats) read = inr (w, read.0.0, all_taken g told names now whats (read.0.1, read.1))

-- what may be left where memory runs out after a file was refused
pub refused_stopped : {A : Type 0} (g : Grammar A) (told : Option (List File)) (names : List (List ℕ)) (before now : Option (List ℕ)) (why : Refusal)
    → AreFilesRefused g told names before now why → AreStopped g told names before now
refused_stopped {A} g told [] before now why refused = absurd refused
refused_stopped {A} g told (n ∷ names) before now why (inl (missing none left is)) = inl (inl left)
refused_stopped {A} g told (n ∷ names) before now why (inl (broken bytes place code file breaks left is)) =
    inl (inr (bytes, file, record { count = g.limit; most = omega arith; left = left }))
refused_stopped {A} g told (n ∷ names) before now why (inr later) = inr (later.0, later.1, refused_stopped g told names (Some []) now why later.2)

-- what is refused of several files has the refusal of a missing file, or of one that breaks the grammar
pub files_refusal : {A : Type 0} (g : Grammar A) (told : Option (List File)) (names : List (List ℕ)) (before now : Option (List ℕ)) (P : Refusal → Type 0)
    → ((name : List ℕ) (start : Option (List ℕ)) (w : Refusal) → IsFileRefused g told name start now w → P w) → (why : Refusal)
    → AreFilesRefused g told names before now why → P why
files_refusal {A} g told [] before now P each why refused = absurd refused
files_refusal {A} g told (n ∷ names) before now P each why (inl one) = each n before why one
files_refusal {A} g told (n ∷ names) before now P each why (inr later) = files_refusal g told names (Some []) now P each why later.2

-- the names before one, that one, and those after it
pub names_split : (names : List (Bor (List ℕ))) (i : ℕ) (d : Bor (List ℕ)) → i < length names
    → names_in names ≡ names_in (take i names) ++ (get_or names i d).now ∷ names_in (drop (suc i) names)
names_split [] i d lt = absurd (omega (arith, lt))
names_split (n ∷ names) zero d lt = refl
names_split (n ∷ names) (suc i) d lt = ap (λ (ts : List (List ℕ)). n.now ∷ ts) (names_split names i d (omega (arith, lt)))

pub names_more : (names : List (Bor (List ℕ))) (i : ℕ) (d : Bor (List ℕ)) → i < length names
    → names_in (take (i + 1) names) ≡ names_in (take i names) ++ (get_or names i d).now ∷ []
names_more [] i d lt = absurd (omega (arith, lt))
names_more (n ∷ names) zero d lt = refl
names_more (n ∷ names) (suc i) d lt =
    let e : suc i + 1 ≡ suc (i + 1) = omega arith in
    rw e (ap (λ (ts : List (List ℕ)). n.now ∷ ts) (names_more names i d (omega (arith, lt))))

-- after a file was read to its end
pub halts_after : {A : Type 0} (g : Grammar A) (told : Option (List File)) (name : List ℕ) (mid now : Option (List ℕ)) → HasLeft told mid (Some [])
    → (halt : Halt) → Halts g told name mid now halt → Halts g told name (Some []) now halt
halts_after {A} g (Some files) name mid now end halt halts = subst (λ (m : Option (List ℕ)). Halts g (Some files) name m now halt) end halts
halts_after {A} g None name mid now end (Refused why) (missing none left is) = missing none tt is
halts_after {A} g None name mid now end (Refused why) (broken bytes place code file breaks left is) = broken bytes place code file breaks left is
halts_after {A} g None name mid now end (Stopped stop) (inl same) = inl tt
halts_after {A} g None name mid now end (Stopped stop) (inr taken) = inr taken

-- one more host
pub more_hosts : (hosts now : List Captured) (host : Captured) → now ≡ hosts ++ host ∷ [] → rows_each now ≡ rows_each hosts ++ host.rows.items ∷ []
more_hosts hosts now host grown = ap rows_each grown ∙ map-append (λ (h : Captured). h.rows.items) hosts (host ∷ [])

pub more_captured : (hosts now : List Captured) (host : Captured) → now ≡ hosts ++ host ∷ [] → captured_each now ≡ captured_each hosts ++ captured host ∷ []
more_captured hosts now host grown = ap captured_each grown ∙ map-append captured hosts (host ∷ [])

pub all_more : (P : List RowValue → Type 0) (hosts now : List Captured) (host : Captured) → now ≡ hosts ++ host ∷ [] → All P (rows_each hosts)
    → P host.rows.items → All P (rows_each now)
all_more P hosts now host grown all has =
    subst (All P) (sym (more_hosts hosts now host grown))
    (All-append P (rows_each hosts) (host.rows.items ∷ []) all (All-cons P host.rows.items [] has (All-nil P)))
