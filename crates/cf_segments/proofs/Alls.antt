-- Lists of which each element is such.
use Rattle.std.proofs.Common.{ℕ, zero, suc, List, [], ◌∷◌, ◌++◌, drop, map}
use Rattle.std.specs.List.{flat_map, AllByRecursion}

module _ {X : Type 0} where
  -- what holds of each holds of all
  pub every : (P : X → Type 0) (xs : List X) → ((x : X) → P x) → AllByRecursion P xs
  every P [] each = tt
  every P (x ∷ xs) each = (each x, every P xs each)

  -- two lists, one after the other
  pub all_append : (P : X → Type 0) (xs ys : List X) → AllByRecursion P xs → AllByRecursion P ys → AllByRecursion P (xs ++ ys)
  all_append P [] ys first then = then
  all_append P (x ∷ xs) ys first then = (first.0, all_append P xs ys first.1 then)

  -- what is left of a list
  pub all_drop : (P : X → Type 0) (n : ℕ) (xs : List X) → AllByRecursion P xs → AllByRecursion P (drop n xs)
  all_drop P zero xs all = all
  all_drop P (suc n) [] all = tt
  all_drop P (suc n) (x ∷ xs) all = all_drop P n xs all.1

  -- what follows from what holds of each
  pub all_weaker : (P Q : X → Type 0) (xs : List X) → ((x : X) → P x → Q x) → AllByRecursion P xs → AllByRecursion Q xs
  all_weaker P Q [] less all = tt
  all_weaker P Q (x ∷ xs) less all = (less x all.0, all_weaker P Q xs less all.1)

  -- two facts of each
  pub all_both : (P Q : X → Type 0) (xs : List X) → AllByRecursion P xs → AllByRecursion Q xs → AllByRecursion (λ x. P x × Q x) xs
  all_both P Q [] ps qs = tt
  all_both P Q (x ∷ xs) ps qs = ((ps.0, qs.0), all_both P Q xs ps.1 qs.1)

module _ {X Y : Type 0} (P : Y → Type 0) where
  -- what holds of each image
  pub all_map : (f : X → Y) (xs : List X) → AllByRecursion (λ x. P (f x)) xs → AllByRecursion P (map f xs)
  all_map f [] all = tt
  all_map f (x ∷ xs) all = (all.0, all_map f xs all.1)

  -- and back
  pub all_unmap : (f : X → Y) (xs : List X) → AllByRecursion P (map f xs) → AllByRecursion (λ x. P (f x)) xs
  all_unmap f [] all = tt
  all_unmap f (x ∷ xs) all = (all.0, all_unmap f xs all.1)

  -- what holds of each part
  pub all_flat : (f : X → List Y) (xs : List X) → ((x : X) → AllByRecursion P (f x)) → AllByRecursion P (flat_map f xs)
  all_flat f [] each = tt
  all_flat f (x ∷ xs) each = all_append P (f x) (flat_map f xs) (each x) (all_flat f xs each)
