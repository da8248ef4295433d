-- Entries cut into chunks.
use Rattle.std.proofs.Common.{◌≡◌, ◌≤◌, map, sym, ap, ◌∙◌, ℕ, zero, suc, ◌<◌, List, [], ◌∷◌, length, get_or, flat_map, All, arith}
use Rattle.std.specs.List.{sum_by}
use Rattle.std.proofs.lemmas.Simd.{map-map}
use Rattle.rayon.specs.Lists.{chunks_of}
use Rattle.rayon.proofs.ListFacts.{All-parts}
use Rattle.rayon.proofs.ToStd.{chunks_of-concat}
use Rattle.cf_row.specs.declared.row.Entry.{Entry}
use Rattle.cf_row.specs.declared.expr.Atom.{Atom}
use Rattle.cf_fold.specs.Quads.{QuadValue, quad_of}
use Rattle.cf_plain.specs.Asks.{rows_in}
use Rattle.cf_plain.specs.Totals.{total}
use Rattle.cf_plain.proofs.Amounts.{amounts_in, amounts_few}
use Rattle.cf_scan.proofs.Amounts.{amounts_concat, lists_count}

-- what holds of each element holds of each element of each chunk
pub all_parts : {X : Type 0} (P : X → Type 0) (lists : List (List X)) → All P (flat_map (λ (xs : List X). xs) lists) → (k : ℕ) (d : List X) → k < length lists
    → All P (get_or lists k d)
all_parts P [] all k d lt = absurd (omega arith)
all_parts P (xs ∷ lists) all zero d lt = (All-parts P xs (flat_map (λ ys. ys) lists) all).0
all_parts P (xs ∷ lists) all (suc k) d lt = all_parts P lists (All-parts P xs (flat_map (λ ys. ys) lists) all).1 k d (omega (arith, lt))

module _ (attr : ℕ) (expr : List (List Atom)) (entries : List Entry) (size : ℕ) (some : 0 < size) where
  -- the quads of the chunks
  abbrev pub parts : List QuadValue
  parts = map (λ (chunk : List Entry). total attr expr (rows_in chunk)) (chunks_of size entries)

  -- the numbers of the chunks
  abbrev pub lists : List (List ℕ)
  lists = map (amounts_in attr expr) (chunks_of size entries)

  pub parts_of_lists : parts ≡ map quad_of lists
  parts_of_lists = sym (map-map quad_of (amounts_in attr expr) (chunks_of size entries))

  pub lists_whole : flat_map (λ (ns : List ℕ). ns) lists ≡ amounts_in attr expr entries
  lists_whole = amounts_concat attr expr (chunks_of size entries) ∙ ap (amounts_in attr expr) (chunks_of-concat size entries some)

  pub parts_few : sum_by (λ (part : QuadValue). part.count) parts ≤ length entries
  parts_few =
      let count = ap (sum_by (λ (part : QuadValue). part.count)) parts_of_lists ∙ lists_count lists ∙ ap length lists_whole in
      omega (arith, count, amounts_few attr expr entries)
