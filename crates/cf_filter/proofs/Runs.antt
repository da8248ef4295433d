-- The longest run at the front.
use Rattle.std.proofs.Common.{◌≡◌, ℕ, suc, ◌+◌, List, [], ◌∷◌, ◌++◌, length, take, drop, Bool, true, false, cond, Option, Some, None, refl, sym, ap, ◌∙◌, arith}
use Rattle.std.specs.List.{prefix_len, list_all}
use Rattle.std.specs.Str.{bytes_eq}
use Rattle.std.proofs.lemmas.List.{take_at, drop_at, take-append-drop}
use Rattle.std.proofs.lemmas.Bool.{and_parts}
use Rattle.std.proofs.lemmas.Slice.Eq.{bytes_eq-Decides}
use Rattle.cf_filter.specs.declared.bytes.Class.{Class}
use Rattle.cf_filter.specs.declared.bytes.Class.TheVariants.{Space}
use Rattle.cf_filter.specs.Tokens.{passes, run, past, unspaced, strip_at, IsRun, IsAfterSpaces}

-- a run ends where the test fails
pub run_front : (p : ℕ → Bool) (word rest : List ℕ) → list_all p word ≡ true → prefix_len p rest ≡ 0 → prefix_len p (word ++ rest) ≡ length word
run_front p [] rest all stop = stop
run_front p (x ∷ word) rest all stop =
    let both = and_parts (p x) (list_all p word) all in
    let more : prefix_len p (word ++ rest) ≡ length word = run_front p word rest both.1 stop in
    rw (both.0, more) (omega arith)

pub one_more : (n : ℕ) → 1 + n ≡ suc n
one_more n = omega arith

run_passes : (p : ℕ → Bool) (xs : List ℕ) → list_all p (take (prefix_len p xs) xs) ≡ true
run_passes p [] = refl
run_passes p (x ∷ xs) = elim (p x) as (λ b. p x ≡ b → list_all p (take (cond b (1 + prefix_len p xs) 0) (x ∷ xs)) ≡ true) [
  | true ↦ λ e. rw (one_more (prefix_len p xs), e) (run_passes p xs)
  | false ↦ λ e. refl
] refl

run_stops : (p : ℕ → Bool) (xs : List ℕ) → prefix_len p (drop (prefix_len p xs) xs) ≡ 0
run_stops p [] = refl
run_stops p (x ∷ xs) = elim (p x) as (λ b. p x ≡ b → prefix_len p (drop (cond b (1 + prefix_len p xs) 0) (x ∷ xs)) ≡ 0) [
  | true ↦ λ e. rw (one_more (prefix_len p xs)) (run_stops p xs)
  | false ↦ λ e. rw e refl
] refl

pub run_is : (class : Class) (text : List ℕ) → IsRun class text (run class text) (past class text)
run_is class text =
    record {
      whole = sym (take-append-drop (prefix_len (passes class) text) text);
      within = run_passes (passes class) text;
      ends = run_stops (passes class) text;
    }

pub run_only : (class : Class) (text word rest : List ℕ) → IsRun class text word rest → (word ≡ run class text) × (rest ≡ past class text)
run_only class text word rest h =
    let n : prefix_len (passes class) text ≡ length word = ap (prefix_len (passes class)) h.whole ∙ run_front (passes class) word rest h.within h.ends in (
      sym (rw n (ap (take (length word)) h.whole ∙ take_at word rest (length word) refl)),
      sym (rw n (ap (drop (length word)) h.whole ∙ drop_at word rest (length word) refl)),
    )

pub spaces_is : (text : List ℕ) → IsAfterSpaces text (unspaced text)
spaces_is text = (run Space text, run_is Space text)

pub spaces_only : (text here : List ℕ) → IsAfterSpaces text here → here ≡ unspaced text
spaces_only text here h = (run_only Space text h.0 here h.1).1

same_bytes : (xs : List ℕ) → bytes_eq xs xs ≡ true
same_bytes xs = (bytes_eq-Decides xs xs).1 refl

pub strip_front : (prefix rest : List ℕ) → strip_at prefix (prefix ++ rest) ≡ Some rest
strip_front prefix rest = rw (take_at prefix rest (length prefix) refl, drop_at prefix rest (length prefix) refl, same_bytes prefix) refl

pub chosen : {A : Type 0} (b : Bool) (x : A) (y : Option A) (z : A) → cond b (Some x) None ≡ Some z → (b ≡ true) × (x ≡ z)
chosen true x y z h = (refl, cc)
chosen false x y z h = cc

pub strip_found : (prefix bytes rest : List ℕ) → strip_at prefix bytes ≡ Some rest → bytes ≡ prefix ++ rest
strip_found prefix bytes rest h =
    let found = chosen (bytes_eq (take (length prefix) bytes) prefix) (drop (length prefix) bytes) None rest h in
    let front : take (length prefix) bytes ≡ prefix = (bytes_eq-Decides (take (length prefix) bytes) prefix).0 found.0 in
    sym (take-append-drop (length prefix) bytes) ∙ ap (λ xs. xs ++ drop (length prefix) bytes) front ∙ ap (λ xs. prefix ++ xs) found.1

-- no rest is found only where the prefix doesn't stand at the front
pub strip_none : (prefix bytes rest : List ℕ) → strip_at prefix bytes ≡ None → bytes ≡ prefix ++ rest → ⊥
strip_none prefix bytes rest none e = let some : strip_at prefix bytes ≡ Some rest = ap (strip_at prefix) e ∙ strip_front prefix rest in cc
