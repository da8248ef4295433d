-- Entries cut into lists, and more lists of numbers.
use Rattle.std.proofs.Common.{◌≡◌, ℕ, ◌+◌, ◌<◌, List, [], ◌∷◌, ◌++◌, length, map, flat_map, take, get_or, refl, sym, ap, ◌∙◌, arith}
use Rattle.std.specs.List.{sum_by}
use Rattle.std.proofs.lemmas.List.{length-append, take_more, append-nil}
use Rattle.std.proofs.lemmas.List.Sums.{sum_by-cons}
use Rattle.std.proofs.lemmas.List.Concat.{flat_map-append}
use Rattle.cf_row.specs.declared.row.Entry.{Entry}
use Rattle.cf_row.specs.declared.expr.Atom.{Atom}
use Rattle.cf_fold.specs.Quads.{QuadValue, quad_of}
use Rattle.cf_plain.proofs.Amounts.{amounts_in, amounts_append}

module _ (attr : ℕ) (expr : List (List Atom)) where
  -- entries cut into lists
  pub amounts_concat : (chunks : List (List Entry))
      → flat_map (λ (ns : List ℕ). ns) (map (amounts_in attr expr) chunks) ≡ amounts_in attr expr (flat_map (λ (es : List Entry). es) chunks)
  amounts_concat [] = refl
  amounts_concat (chunk ∷ chunks) = ap (λ ns. amounts_in attr expr chunk ++ ns) (amounts_concat chunks)
      ∙ sym (amounts_append attr expr chunk (flat_map (λ (es : List Entry). es) chunks))

-- one more list
pub lists_more : (lists : List (List ℕ)) (i : ℕ) → i < length lists
    → flat_map (λ (ns : List ℕ). ns) (take (i + 1) lists) ≡ flat_map (λ (ns : List ℕ). ns) (take i lists) ++ get_or lists i []
lists_more lists i lt =
    let own = λ (ns : List ℕ). ns in
    let last = get_or lists i [] in
    ap (flat_map own) (take_more lists i [] lt) ∙ flat_map-append own (take i lists) (last ∷ [])
    ∙ ap (λ ns. flat_map own (take i lists) ++ ns) (append-nil last)

-- how many numbers some lists have
pub lists_count : (lists : List (List ℕ)) → sum_by (λ (part : QuadValue). part.count) (map quad_of lists) ≡ length (flat_map (λ (ns : List ℕ). ns) lists)
lists_count [] = refl
lists_count (ns ∷ lists) =
    let count = λ (part : QuadValue). part.count in
    let first : sum_by count (map quad_of (ns ∷ lists)) ≡ length ns + sum_by count (map quad_of lists) = sum_by-cons count (quad_of ns) (map quad_of lists) in
    omega (arith, first, lists_count lists, length-append ns (flat_map (λ (xs : List ℕ). xs) lists))
