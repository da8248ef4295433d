-- What is found in segments that stand one behind the other.
use Rattle.std.proofs.Common.{◌≡◌, ◌∙◌, ℕ, ◌+◌, ◌*◌, ◌^◌, ◌<◌, ◌≤◌, List, [], ◌∷◌, ◌++◌, length, take, get_or, sym, ap, ap₂, subst, arith, length-append, append-nil}
use Rattle.std.proofs.Math.Nat.{mul-le-mul_right}
use Rattle.std.proofs.lemmas.List.Concat.{flat_map-append}
use Rattle.std.proofs.lemmas.List.{map-append, take_more}
use Rattle.cf_row.specs.Row.{RowValue}
use Rattle.cf_shape.specs.Lanes.{ShapeValue}
use Rattle.cf_plain.specs.Segments.{CanJoin, finding_in, joined}
use Rattle.cf_plain.specs.declared.ask.Ask.{Ask}
use Rattle.cf_plain.specs.declared.finding.Finding.{Finding}
use Rattle.cf_plain.proofs.Joined.{findings_can_join, findings_join}
use Rattle.cf_window.specs.Segments.{WindowSegmentValue}
use Rattle.cf_window.specs.Held.{rows_each}
use Rattle.cf_window.specs.Windows.{rows_in_all}

-- the rows of the first segments
abbrev pub rows_to : List WindowSegmentValue → ℕ → List RowValue
rows_to xs i = rows_in_all (rows_each (take i xs))

abbrev pub rows_all : List WindowSegmentValue → List RowValue
rows_all xs = rows_in_all (rows_each xs)

rows_append : (xs ys : List WindowSegmentValue) → rows_all (xs ++ ys) ≡ rows_all xs ++ rows_all ys
rows_append xs ys = ap rows_in_all (map-append (λ (s : WindowSegmentValue). s.rows) xs ys)
    ∙ flat_map-append (λ (rows : List RowValue). rows) (rows_each xs) (rows_each ys)

pub rows_more : (xs : List WindowSegmentValue) (i : ℕ) (d : WindowSegmentValue) → i < length xs → rows_to xs (i + 1) ≡ rows_to xs i ++ (get_or xs i d).rows
rows_more xs i d low = ap rows_all (take_more xs i d low)
    ∙ (rows_append (take i xs) (get_or xs i d ∷ []) ∙ ap (λ (rs : List RowValue). rows_to xs i ++ rs) (append-nil (get_or xs i d).rows))

module _ (shape : ShapeValue) (ask : Ask) (xs now : List WindowSegmentValue) (i : ℕ) (d : WindowSegmentValue) (low : i < length now) (same : now ≡ xs)
    (few : length xs * shape.capacity ≤ 2 ^ 20) (count : ℕ) (found : Finding) (count_is : count ≡ length (rows_to xs i))
    (found_is : found ≡ finding_in shape ask (rows_to xs i)) (tail : ℕ) (more : Finding) (shape_is : (get_or now i d).shape ≡ shape)
    (tail_is : tail ≡ length (get_or now i d).rows) (more_is : more ≡ finding_in (get_or now i d).shape ask (get_or now i d).rows)
    (so_far : count ≤ i * shape.capacity) (short : length (get_or now i d).rows ≤ ((get_or now i d).shape).capacity) where
  there : i < length xs
  there = subst (λ (ys : List WindowSegmentValue). i < length ys) same low

  abbrev one : List RowValue
  one = (get_or now i d).rows

  next : rows_to xs (i + 1) ≡ rows_to xs i ++ one
  next = rows_more xs i d there ∙ ap (λ (ys : List WindowSegmentValue). rows_to xs i ++ (get_or ys i d).rows) (sym same)

  more_so : more ≡ finding_in shape ask one
  more_so = more_is ∙ ap (λ (s : ShapeValue). finding_in s ask one) shape_is

  pub count_next : count + tail ≡ length (rows_to xs (i + 1))
  count_next = ap₂ (λ (a b : ℕ). a + b) count_is tail_is ∙ (sym (length-append (rows_to xs i) one) ∙ ap (λ (rs : List RowValue). length rs) (sym next))

  pub low_next : count + tail ≤ (i + 1) * shape.capacity
  low_next =
      let one_short : length one ≤ shape.capacity = subst (λ (s : ShapeValue). length one ≤ s.capacity) shape_is short in
      omega (arith, so_far, one_short, tail_is)

  pub count_few : count + tail ≤ 2 ^ 20
  count_few = (let low = low_next in
      let more : (i + 1) * shape.capacity ≤ length xs * shape.capacity = mul-le-mul_right shape.capacity (let at = there in omega (arith, at)) in
      omega (arith, low, more, few))

  pub can : CanJoin count found more
  can =
      let a = count_is in
      let b = tail_is in
      let all = count_few in
      rw (count_is, found_is, more_so) (findings_can_join shape ask (rows_to xs i) one (omega (arith, a, b, all)))

  pub found_next : (both : Finding) → both ≡ joined count found more → both ≡ finding_in shape ask (rows_to xs (i + 1))
  found_next both is = is ∙ (rw (count_is, found_is, more_so) (findings_join shape ask (rows_to xs i) one) ∙ ap (finding_in shape ask) (sym next))
