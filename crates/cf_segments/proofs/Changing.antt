-- The elements of a list are changed one after the other.
use Rattle.std.proofs.Common.{◌≡◌, ◌<◌, ◌≤◌, ◌+◌, ℕ, List, [], ◌∷◌, ◌++◌, length, take, drop, get_or, set, sym, ap, subst, ◌∙◌, arith, append-nil}
use Rattle.std.proofs.Math.Seq.{drop-drop, get_or-drop, drop-set-lt, take-length, drop-length}
use Rattle.std.proofs.lemmas.List.{length-drop, take_more, take_more_set, take_all, take-append-drop}
use Rattle.std.specs.List.{All, AllZip}
use Rattle.cf_segments.proofs.Zips.{zip_append}

module _ {X : Type 0} (R : X → X → Type 0) where
  -- the elements before some place have changed so, and those from it on have not
  pub record Changed (i : ℕ) (xs ys : List X) : Type 0 where
    pub front : AllZip R (take i xs) (take i ys)
    pub rest : drop i ys ≡ drop i xs

  -- the element at that place is what it was
  pub changed_at : (i : ℕ) (xs ys : List X) (d : X) → Changed i xs ys → get_or ys i d ≡ get_or xs i d
  changed_at i xs ys d changed =
      let at : i + 0 ≡ i = omega arith in
      ap (λ (k : ℕ). get_or ys k d) (sym at)
      ∙ (sym (get_or-drop i ys 0 d) ∙ (ap (λ (zs : List X). get_or zs 0 d) changed.rest ∙ (get_or-drop i xs 0 d ∙ ap (λ (k : ℕ). get_or xs k d) at)))

  pub changed_long : (i : ℕ) (xs ys : List X) → i < length ys → Changed i xs ys → i < length xs
  changed_long i xs ys low changed = (let same = ap length changed.rest in omega (arith, same, low, length-drop i xs, length-drop i ys))

  -- what held of each before holds of it
  pub changed_holds : (P : X → Type 0) (i : ℕ) (xs ys : List X) (d : X) → All P xs → i < length ys → Changed i xs ys → P (get_or ys i d)
  changed_holds P i xs ys d all low changed = subst P (sym (changed_at i xs ys d changed)) (all i d (changed_long i xs ys low changed))

  -- it changes too
  pub changed_more : (i : ℕ) (xs ys : List X) (d z : X) → i < length ys → Changed i xs ys → R (get_or ys i d) z → Changed (i + 1) xs (set ys i z)
  changed_more i xs ys d z low changed made = record {
    front = subst (λ (zs : List X). AllZip R zs (take (i + 1) (set ys i z))) (sym (take_more xs i d (changed_long i xs ys low changed)))
        (subst (λ (zs : List X). AllZip R (take i xs ++ get_or xs i d ∷ []) zs) (sym now)
        (zip_append R (take i xs) (get_or xs i d ∷ []) (take i ys) (z ∷ []) changed.front
        (subst (λ (x : X). R x z) (changed_at i xs ys d changed) made, tt)));
    rest = drop-set-lt (i + 1) ys i z (omega arith) ∙ (sym (drop-drop 1 i ys) ∙ (ap (drop 1) changed.rest ∙ drop-drop 1 i xs));
  }
    where
      now : take (i + 1) (set ys i z) ≡ take i ys ++ z ∷ []
      now = take_more_set ys i z low

  -- all have changed
  pub changed_all : (i : ℕ) (xs ys : List X) → length ys ≤ i → Changed i xs ys → AllZip R xs ys
  changed_all i xs ys past changed =
      let same = ap length changed.rest in
      let long : length xs ≤ i = omega (arith, same, past, length-drop i xs, length-drop i ys) in
      subst (λ (zs : List X). AllZip R zs ys) (take_all i xs long) (subst (AllZip R (take i xs)) (take_all i ys past) changed.front)

  -- where what has not changed has changed so too
  pub changed_some : ((x : X) → R x x) → (i : ℕ) (xs ys : List X) → Changed i xs ys → AllZip R xs ys
  changed_some none i xs ys changed =
      subst (λ (zs : List X). AllZip R zs ys) (take-append-drop i xs)
      (subst (AllZip R (take i xs ++ drop i xs)) (take-append-drop i ys)
      (zip_append R (take i xs) (drop i xs) (take i ys) (drop i ys) changed.front (subst (AllZip R (drop i xs)) (sym changed.rest) (each (drop i xs)))))
    where
      each : (zs : List X) → AllZip R zs zs
      each [] = tt
      each (z ∷ zs) = (none z, each zs)

-- what was lent out of a vector and written is all of it
pub written_back : {X : Type 0} (new items : List X) (len : ℕ) → length new ≡ length items → len ≡ length items
    → take len (new ++ drop (length new) items) ≡ new
written_back new items len e f =
    let none : drop (length new) items ≡ [] = ap (λ n. drop n items) e ∙ drop-length items in
    rw (none, append-nil new, f, ← e) (take-length new)
