-- The words that a packet's row is made of spell its values.
use Rattle.std.proofs.Common.{◌≡◌, ℕ, zero, suc, pred, ◌+◌, List, [], ◌∷◌, ◌++◌, length, map, take, drop, get_or, refl, sym, ap, ap₂, subst, ◌∙◌, arith, append_assoc, length-append, append-nil}
use Rattle.std.proofs.lemmas.List.{drop_all, drop-drop}
use Rattle.std.proofs.Math.Seq.{take-append_seam}
use Rattle.cf_row.specs.declared.row.Value.{Value}
use Rattle.cf_row.specs.declared.row.Value.TheVariants.{Num}
use Rattle.cf_row.specs.Words.{value_words, values_words}
use Rattle.cf_row.proofs.Spelling.{words_cons, words_none}

-- numbers are their own words
pub numbers_spell : (words : List ℕ) → values_words (map Num words) ≡ words
numbers_spell [] = words_none
numbers_spell (word ∷ words) = words_cons (Num word) (map Num words) ∙ ap (λ (ws : List ℕ). word ∷ ws) (numbers_spell words)

pub words_append : (vs ws : List Value) → values_words (vs ++ ws) ≡ values_words vs ++ values_words ws
words_append [] ws = ap (λ (xs : List ℕ). xs ++ values_words ws) (sym words_none)
words_append (v ∷ vs) ws =
    words_cons v (vs ++ ws)
    ∙ (ap (λ (xs : List ℕ). value_words v ++ xs) (words_append vs ws)
    ∙ (sym (append_assoc (value_words v) (values_words vs) (values_words ws))
    ∙ ap (λ (xs : List ℕ). xs ++ values_words ws) (sym (words_cons v vs))))

-- the numbers of a list from a place on, so many
abbrev pub numbers_from : ℕ → ℕ → List ℕ → List ℕ
numbers_from at zero xs = []
numbers_from at (suc n) xs = get_or xs at 0 ∷ numbers_from (suc at) n xs

from_second : (at n : ℕ) (x : ℕ) (xs : List ℕ) → numbers_from (suc at) n (x ∷ xs) ≡ numbers_from at n xs
from_second at zero x xs = refl
from_second at (suc n) x xs = ap (λ (ys : List ℕ). get_or xs at 0 ∷ ys) (from_second (suc at) n x xs)

-- a list of so many numbers
pub some_first : (n : ℕ) (xs : List ℕ) → length xs ≡ n → xs ≡ numbers_from 0 n xs
some_first zero [] is = refl
some_first zero (x ∷ xs) is = absurd (cc is)
some_first (suc n) [] is = absurd (cc is)
some_first (suc n) (x ∷ xs) is = ap (λ (ys : List ℕ). x ∷ ys) (some_first n xs (ap pred is) ∙ sym (from_second 0 n x xs))

pub six : (xs : List ℕ) → length xs ≡ 6 → xs ≡ get_or xs 0 0 ∷ get_or xs 1 0 ∷ get_or xs 2 0 ∷ get_or xs 3 0 ∷ get_or xs 4 0 ∷ get_or xs 5 0 ∷ []
six xs is = some_first 6 xs is

-- the numbers before and between the addresses, and behind them those of the other headers
pub common_spell : (a b c m n e k v : ℕ) (mac smac : Value) (ns ts : List ℕ) (network transport : List Value)
    → value_words mac ≡ m ∷ [] → value_words smac ≡ n ∷ [] → map Num ns ≡ network → map Num ts ≡ transport
    → a ∷ b ∷ c ∷ m ∷ n ∷ e ∷ k ∷ (ns ++ (ts ++ v ∷ []))
    ≡ values_words (Num a ∷ Num b ∷ Num c ∷ mac ∷ smac ∷ Num e ∷ Num k ∷ (network ++ (transport ++ Num v ∷ [])))
common_spell a b c m n e k v mac smac ns ts network transport first second by over =
    let last : values_words (transport ++ Num v ∷ []) ≡ ts ++ v ∷ [] =
    words_append transport (Num v ∷ []) ∙ ap₂ (λ (x y : List ℕ). x ++ y) (ap values_words (sym over) ∙ numbers_spell ts) (numbers_spell (v ∷ [])) in
    let rest : values_words (network ++ (transport ++ Num v ∷ [])) ≡ ns ++ (ts ++ v ∷ []) =
    words_append network (transport ++ Num v ∷ []) ∙ ap₂ (λ (x y : List ℕ). x ++ y) (ap values_words (sym by) ∙ numbers_spell ns) last in
    let front : values_words (Num a ∷ Num b ∷ Num c ∷ mac ∷ smac ∷ Num e ∷ Num k ∷ []) ≡ a ∷ b ∷ c ∷ m ∷ n ∷ e ∷ k ∷ [] =
    words_append (Num a ∷ Num b ∷ Num c ∷ []) (mac ∷ smac ∷ Num e ∷ Num k ∷ [])
    ∙ ap₂ (λ (x y : List ℕ). x ++ y) (numbers_spell (a ∷ b ∷ c ∷ []))
    (words_cons mac (smac ∷ Num e ∷ Num k ∷ [])
    ∙ ap₂ (λ (x y : List ℕ). x ++ y) first
    (words_cons smac (Num e ∷ Num k ∷ []) ∙ ap₂ (λ (x y : List ℕ). x ++ y) second (numbers_spell (e ∷ k ∷ [])))) in
    sym (words_append (Num a ∷ Num b ∷ Num c ∷ mac ∷ smac ∷ Num e ∷ Num k ∷ []) (network ++ (transport ++ Num v ∷ []))
    ∙ ap₂ (λ (x y : List ℕ). x ++ y) front rest)

-- the same where the numbers of the other headers stand in lists of six
pub row_spell : (a b c m n e k v : ℕ) (mac smac : Value) (ns ts : List ℕ) (network transport : List Value) → length ns ≡ 6 → length ts ≡ 6
    → value_words mac ≡ m ∷ [] → value_words smac ≡ n ∷ [] → map Num ns ≡ network → map Num ts ≡ transport
    → a ∷ b ∷ c ∷ m ∷ n ∷ e ∷ k
    ∷ get_or ns 0 0 ∷ get_or ns 1 0 ∷ get_or ns 2 0 ∷ get_or ns 3 0 ∷ get_or ns 4 0 ∷ get_or ns 5 0
    ∷ get_or ts 0 0 ∷ get_or ts 1 0 ∷ get_or ts 2 0 ∷ get_or ts 3 0 ∷ get_or ts 4 0 ∷ get_or ts 5 0 ∷ v ∷ []
    ≡ values_words (Num a ∷ Num b ∷ Num c ∷ mac ∷ smac ∷ Num e ∷ Num k ∷ (network ++ (transport ++ Num v ∷ [])))
row_spell a b c m n e k v mac smac ns ts network transport by over first second are those =
    ap₂ (λ (x y : List ℕ). a ∷ b ∷ c ∷ m ∷ n ∷ e ∷ k ∷ (x ++ (y ++ v ∷ []))) (sym (six ns by)) (sym (six ts over))
    ∙ common_spell a b c m n e k v mac smac ns ts network transport first second are those

-- a list put where others stood behind another
pub two_put : (n m : ℕ) (xs ys zs : List ℕ) → length xs ≡ n → length zs ≡ m → take n (xs ++ zs) ++ (ys ++ drop m (drop n (xs ++ zs))) ≡ xs ++ ys
two_put n m xs ys zs is many =
    let front : take n (xs ++ zs) ≡ xs = subst (λ k. take k (xs ++ zs) ≡ xs) is (take-append_seam xs zs) in
    let none : drop m (drop n (xs ++ zs)) ≡ [] =
    drop-drop m n (xs ++ zs) ∙ drop_all (n + m) (xs ++ zs) (omega (arith, is, many, length-append xs zs)) in
    ap₂ (λ (us vs : List ℕ). us ++ (ys ++ vs)) front none ∙ ap (λ (us : List ℕ). xs ++ us) (append-nil ys)

pub first_are : (n : ℕ) (xs ys : List ℕ) → length xs ≡ n → take n (xs ++ ys) ≡ xs
first_are n xs ys is = subst (λ k. take k (xs ++ ys) ≡ xs) is (take-append_seam xs ys)

-- what `packet6` has behind the words of both schemas
pub rest_spell : (common ns ms : List ℕ) (shared addresses more : List Value)
    → common ≡ values_words shared → map Num ns ≡ addresses → map Num ms ≡ more → common ++ (ns ++ ms) ≡ values_words (shared ++ (addresses ++ more))
rest_spell common ns ms shared addresses more spell are those =
    let numbers : values_words (addresses ++ more) ≡ ns ++ ms =
    words_append addresses more
    ∙ ap₂ (λ (x y : List ℕ). x ++ y) (ap values_words (sym are) ∙ numbers_spell ns) (ap values_words (sym those) ∙ numbers_spell ms) in
    ap₂ (λ (x y : List ℕ). x ++ y) spell (sym numbers) ∙ sym (words_append shared (addresses ++ more))
