-- Paths of rows in lanes, and the words of tickets that are passed over.
use Rattle.std.proofs.Common.{◌≡◌, ℕ, ◌+◌, ◌-◌, ◌<◌, ◌≤◌, zero, suc, List, [], ◌∷◌, ◌++◌, length, take, drop, get_or, cond, Bool, true, false, Option, Some, None, ◌==◌, refl, arith, ap, sym, ◌∙◌}
use Rattle.std.proofs.lemmas.Bool.{eq-eqb, ne_eqb}
use Rattle.std.proofs.lemmas.List.{drop_more, drop_all}
use Rattle.cf_row.specs.Row.{RowValue}
use Rattle.cf_row.specs.Words.{word_count}
use Rattle.cf_shape.specs.declared.lane.Lane.{Lane}
use Rattle.cf_shape.specs.Lanes.{ShapeValue, lane_at, no_lane}
use Rattle.cf_shape.specs.Uses.{cell_count, cell_words, cells_before, ticket_words, use_at}
use Rattle.cf_shape.proofs.Counts.{count_cons, count_none}
use Rattle.cf_shape.proofs.Used.{plain_at, version_at}
use Rattle.cf_law.specs.Words.{Layout, Ticket, has, same_path}
use Rattle.cf_law.specs.Law.{Skips, IsWhole}
use Rattle.cf_law.proofs.Chains.{same_bool, same_path_true, same_path_intro}
use Rattle.cf_law.specs.Nibbles.{nibbles}
use Rattle.cf_law.specs.Steps.{IsNext}
use Rattle.cf_law.specs.Shapes.{layout}
use Rattle.cf_law.proofs.Paths.{skips_any}
use Rattle.cf_law.proofs.Nibbles.{nibbles_more}
use Rattle.cf_core.specs.Worlds.{HasCell, IsPlainUse, IsCellUse, IsPassed, ArePassed, draft}

-- the words before a lane's cell
count_take : (xs : List Lane) (l : ℕ) → l < length xs → cell_count (take (l + 1) xs) ≡ cell_count (take l xs) + cell_words (get_or xs l no_lane)
count_take [] l lt = absurd (omega arith)
count_take (x ∷ xs) zero lt = omega (arith, count_cons x [], count_none)
count_take (x ∷ xs) (suc l) lt =
    let e : cell_count (take (suc l + 1) (x ∷ xs)) ≡ cell_words x + cell_count (take (l + 1) xs) =
    ap (λ (n : ℕ). cell_count (take n (x ∷ xs))) (let f : suc l + 1 ≡ suc (l + 1) = omega arith in f) ∙ count_cons x (take (l + 1) xs) in
    let w : cell_words (get_or (x ∷ xs) (suc l) no_lane) ≡ cell_words (get_or xs l no_lane) = refl in
    omega (arith, e, w, count_cons x (take l xs), count_take xs l (omega arith))

pub cells_first : (s : ShapeValue) → cells_before s 0 ≡ 0
cells_first s = count_none

pub cells_next : (s : ShapeValue) (l : ℕ) → l < length s.lanes → cells_before s (l + 1) ≡ cells_before s l + cell_words (lane_at s l)
cells_next s l lt = count_take s.lanes l lt

pub cell_use : (s : ShapeValue) (i l j : ℕ) → i ≡ word_count s.schema + 1 + cells_before s l + j → HasCell s l j → IsCellUse s i l j
cell_use s i l j e has = (has, ap (use_at s) e ∙ version_at s l j has.0 has.1)

pub plain_use : (s : ShapeValue) (i : ℕ) → i < word_count s.schema + 1 → IsPlainUse s i
plain_use s i lt = (lt, plain_at s i lt)

pub passed_any : (s : ShapeValue) (t : Ticket) (i : ℕ) → IsPassed s t.row i → Skips (layout s) t (use_at s i)
passed_any s t i h = skips_any (layout s) (draft t.row 0) t (use_at s i) refl h

pub any_passed : (s : ShapeValue) (t : Ticket) (i : ℕ) → Skips (layout s) t (use_at s i) → IsPassed s t.row i
any_passed s t i h = skips_any (layout s) t (draft t.row 0) (use_at s i) refl h

pub whole_is : (s : ShapeValue) (row : RowValue) (filled last : ℕ) → suc last ≡ ticket_words s → ArePassed s row filled last
    → IsWhole (layout s) (draft row filled)
whole_is s row filled last e passed k ge lt = passed_any s (draft row filled) k (passed k ge (omega arith))

pub whole_only : (s : ShapeValue) (row : RowValue) (filled last : ℕ) → suc last ≡ ticket_words s → IsWhole (layout s) (draft row filled)
    → ArePassed s row filled last
whole_only s row filled last e whole k ge lt = any_passed s (draft row filled) k (whole k ge (omega arith))

-- the same of any ticket of the row that is filled so far
pub next_any : (sh : Layout) (t u : Ticket) (i : ℕ) → t.row ≡ u.row → t.filled ≡ u.filled → IsNext sh t i → IsNext sh u i
next_any sh t u i e f next = record {
  from = (let h = next.from in omega (arith, h, f));
  skipped = λ k ge low. skips_any sh t u (sh.use_of k) e (next.skipped k (omega (arith, ge, f)) low);
  wanted = λ h. next.wanted (skips_any sh u t (sh.use_of i) (sym e) h);
  within = next.within;
}

pub whole_any : (sh : Layout) (t u : Ticket) → t.row ≡ u.row → t.filled ≡ u.filled → IsWhole sh t → IsWhole sh u
whole_any sh t u e f whole k ge lt = skips_any sh t u (sh.use_of k) e (whole k (omega (arith, ge, f)) lt)

-- lanes in a list
pub has_none : (l : ℕ) → has [] l ≡ false
unfolding has
has_none l = refl

has_cons : (x : ℕ) (xs : List ℕ) (l : ℕ) → has (x ∷ xs) l ≡ cond (x == l) true (has xs l)
unfolding has
has_cons x xs l = refl

pub has_here : (xs : List ℕ) (i l : ℕ) → i < length xs → get_or xs i 0 ≡ l → has (drop i xs) l ≡ true
has_here xs i l lt e =
    ap (λ (ys : List ℕ). has ys l) (drop_more xs i 0 lt)
    ∙ (has_cons (get_or xs i 0) (drop (i + 1) xs) l ∙ ap (λ (b : Bool). cond b true (has (drop (i + 1) xs) l)) (eq-eqb (get_or xs i 0) l e))

pub has_later : (xs : List ℕ) (i l : ℕ) → i < length xs → (get_or xs i 0 ≡ l → ⊥) → has (drop i xs) l ≡ has (drop (i + 1) xs) l
has_later xs i l lt ne =
    ap (λ (ys : List ℕ). has ys l) (drop_more xs i 0 lt)
    ∙ (has_cons (get_or xs i 0) (drop (i + 1) xs) l ∙ ap (λ (b : Bool). cond b true (has (drop (i + 1) xs) l)) (ne_eqb (get_or xs i 0) l ne))

pub has_end : (xs : List ℕ) (i l : ℕ) → length xs ≤ i → has (drop i xs) l ≡ false
has_end xs i l le = ap (λ (ys : List ℕ). has ys l) (drop_all i xs le) ∙ has_none l

-- nibbles one by one
pub nibbles_none : (k : ℕ) → nibbles 0 k ≡ []
unfolding nibbles
nibbles_none k = refl

pub nibbles_step : (n i k : ℕ) (path : List ℕ) → i < n
    → path ++ nibbles (n - i) k ≡ (path ++ Rattle.std.proofs.Common.◌%◌ k 16 ∷ []) ++ nibbles (n - (i + 1)) (Rattle.std.proofs.Common.◌/◌ k 16)
nibbles_step n i k path lt =
    let e : n - i ≡ suc (n - (i + 1)) = omega arith in
    ap (λ (m : ℕ). path ++ nibbles m k) e ∙ (ap (λ (q : List ℕ). path ++ q) (nibbles_more (n - (i + 1)) k)
    ∙ sym (Rattle.std.proofs.Common.append_assoc path (Rattle.std.proofs.Common.◌%◌ k 16 ∷ []) (nibbles (n - (i + 1)) (Rattle.std.proofs.Common.◌/◌ k 16))))

-- paths are compared as lists
pub path_same : (o : Option (List ℕ)) (own p : List ℕ) (b : Bool) → o ≡ Some own → (b ≡ true → own ≡ p) → (own ≡ p → b ≡ true) → b ≡ same_path o p
path_same o own p b e to from = same_bool b (same_path o p)
    (λ h. ap (λ (x : Option (List ℕ)). same_path x p) (e ∙ ap (λ (q : List ℕ). Some q) (to h)) ∙ same_path_intro p)
    (λ h. from (let s : ◌≡◌ {A = Option (List ℕ)} (Some own) (Some p) = sym e ∙ same_path_true o p h in let q : own ≡ p = cc s in q))

pub path_other : (o : Option (List ℕ)) (p : List ℕ) → o ≡ None → false ≡ same_path o p
path_other o p e = same_bool false (same_path o p) (λ h. absurd (cc h)) (λ h. absurd (let s = same_path_true o p h in cc (s, e)))
