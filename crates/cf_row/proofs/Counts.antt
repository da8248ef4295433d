-- The number of words.
use Rattle.std.proofs.Common.{◌≡◌, ℕ, ◌+◌, ◌*◌, ◌<◌, ◌≤◌, List, [], ◌∷◌, length, drop, get_or, refl, arith, ap, sym, ◌∙◌}
use Rattle.std.proofs.lemmas.List.{drop_more, drop_all}
use Rattle.cf_row.specs.declared.schema.Attr.{Attr}
use Rattle.cf_row.specs.declared.schema.Kind.{Kind}
use Rattle.cf_row.specs.declared.schema.Kind.TheVariants.{U8, U16, U32, U64, Bytes}
use Rattle.cf_row.specs.Words.{word_count, words_of_kind}

kind_low : (k : Kind) → words_of_kind k ≤ 2
kind_low U8 = omega arith
kind_low U16 = omega arith
kind_low U32 = omega arith
kind_low U64 = omega arith
kind_low (Bytes n) = grind arith

pub count_none : word_count [] ≡ 0
unfolding word_count
count_none = refl

pub count_cons : (x : Attr) (xs : List Attr) → word_count (x ∷ xs) ≡ words_of_kind x.kind + word_count xs
unfolding word_count
count_cons x xs = refl

pub count_low : (attrs : List Attr) → word_count attrs ≤ 2 * length attrs
count_low [] = omega (arith, count_none)
count_low (x ∷ xs) = omega (arith, count_cons x xs, kind_low x.kind, count_low xs)

pub count_more : (xs : List Attr) (i : ℕ) (d : Attr) → i < length xs
    → word_count (drop i xs) ≡ words_of_kind (get_or xs i d).kind + word_count (drop (i + 1) xs)
count_more xs i d lt = ap word_count (drop_more xs i d lt) ∙ count_cons (get_or xs i d) (drop (i + 1) xs)

pub count_step : (xs : List Attr) (i : ℕ) (x : Attr) → i < length xs → x ≡ get_or xs i x
    → word_count (drop i xs) ≡ words_of_kind x.kind + word_count (drop (i + 1) xs)
count_step xs i x lt is = count_more xs i x lt ∙ ap (λ (a : Attr). words_of_kind a.kind + word_count (drop (i + 1) xs)) (sym is)

pub count_end : (xs : List Attr) (i : ℕ) → length xs ≤ i → word_count (drop i xs) ≡ 0
count_end xs i le = ap word_count (drop_all i xs le) ∙ count_none
