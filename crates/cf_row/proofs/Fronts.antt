-- Marked items are moved to the front, one after another.
use Rattle.std.proofs.Common.{◌≡◌, ◌∙◌, ℕ, ◌+◌, ◌<◌, ◌≤◌, Bool, true, false, List, [], ◌∷◌, ◌++◌, length, take, drop, set, get_or, ap, ap₂, sym, arith, append-nil, length-append}
use Rattle.std.proofs.lemmas.List.{drop_more, drop-set-lt, take_more_set, take_all}
use Rattle.cf_row.specs.Keeping.{keep}
use Rattle.cf_row.proofs.Keeping.{keep_front, keep_more}

-- Of the first items the marked ones stand in front, and those behind the place stand where they stood.
pub record IsFront {X : Type 0} (kept : List Bool) (initial items : List X) (count place : ℕ) : Type 0 where
  pub few : count ≤ place
  pub number : count ≡ length (keep (take place kept) (take place initial))
  pub front : take count items ≡ keep (take place kept) (take place initial)
  pub rest : drop place items ≡ drop place initial

module _ {X : Type 0} (marks : List Bool) (initial items : List X) (count place : ℕ) (d : X) (is : IsFront marks initial items count place)
    (low : place < length marks) (high : place < length items) (same : length items ≡ length initial) where
  both_ends : get_or items place d ∷ drop (place + 1) items ≡ get_or initial place d ∷ drop (place + 1) initial
  both_ends = sym (drop_more items place d high) ∙ (is.rest ∙ drop_more initial place d (omega (arith, high, same)))

  item_same : get_or items place d ≡ get_or initial place d
  item_same = ap (λ (xs : List X). get_or xs 0 d) both_ends

  rest_same : drop (place + 1) items ≡ drop (place + 1) initial
  rest_same = ap (λ (xs : List X). drop 1 xs) both_ends

  abbrev seen : List X
  seen = keep (take place marks) (take place initial)

  pub front_moved : get_or marks place false ≡ true → IsFront marks initial (set items count (get_or items place d)) (count + 1) (place + 1)
  front_moved marked =
      let few = is.few in
      let number = is.number in
      let more : keep (take (place + 1) marks) (take (place + 1) initial) ≡ seen ++ get_or initial place d ∷ [] =
      rw marked at (keep_more marks initial place false d low (omega (arith, high, same))) in
      record {
        few = omega (arith, few);
        number = (let l = length-append seen (get_or initial place d ∷ []) in let m = ap (λ (xs : List X). length xs) more in omega (arith, l, m, number));
        front = take_more_set items count (get_or items place d) (omega (arith, few, high))
            ∙ (ap₂ (λ (xs : List X) (x : X). xs ++ x ∷ []) is.front item_same ∙ sym more);
        rest = drop-set-lt (place + 1) items count (get_or items place d) (omega (arith, few)) ∙ rest_same;
      }

  pub front_stays : get_or marks place false ≡ false → IsFront marks initial items count (place + 1)
  front_stays unmarked =
      let few = is.few in
      let more : keep (take (place + 1) marks) (take (place + 1) initial) ≡ seen ++ [] =
      rw unmarked at (keep_more marks initial place false d low (omega (arith, high, same))) in
      let stays = more ∙ append-nil seen in
      record {
        few = omega (arith, few);
        number = is.number ∙ sym (ap (λ (xs : List X). length xs) stays);
        front = is.front ∙ sym stays;
        rest = rest_same;
      }

-- at the end all marks have been looked at
pub front_end : {X : Type 0} (marks : List Bool) (initial items : List X) (count place : ℕ) → IsFront marks initial items count place → place ≡ length marks
    → (take count items ≡ keep marks initial) × (count ≡ length (keep marks initial))
front_end {X = X} marks initial items count place is ends =
    let all : keep (take place marks) (take place initial) ≡ keep marks initial =
    ap₂ (λ (ms : List Bool) (n : ℕ). keep ms (take n initial)) (take_all place marks (omega (arith, ends))) ends ∙ keep_front marks initial in
    (is.front ∙ all, is.number ∙ ap (λ (xs : List X). length xs) all)

-- a list that has a place has an item
pub some_item : {X : Type 0} (xs : List X) (place : ℕ) → place < length xs → X
some_item [] place low = absurd (omega (arith, low))
some_item (x ∷ xs) place low = x
