-- The places of the entries of a range of keys.
use Rattle.std.proofs.Common.{◌≡◌, ◌∙◌, ℕ, zero, suc, min, ◌+◌, ◌-◌, ◌*◌, ◌/◌, ◌%◌, ◌<◌, ◌≤◌, List, [], ◌++◌, length, map, refl, sym, ap, ap₂, arith}
use Rattle.std.proofs.lemmas.List.{append_assoc, append-nil}
use Rattle.std.proofs.Math.Nat.{div-eq_of_lt-le, div-add-mod', add-mul, mod-lt}
use Rattle.cf_row.specs.Row.{RowValue}
use Rattle.cf_row.specs.declared.row.Entry.{Entry}
use Rattle.cf_shape.specs.Lanes.{ShapeValue}
use Rattle.cf_law.specs.Shapes.{layout}
use Rattle.cf_walk.specs.Walks.{IsGap, WentOver, leaf_of, chain_places, leaf_places, range_places}
use Rattle.cf_walk.proofs.Picked.{picks_skip, picks_zero}

-- no leaf, and no range, without an entry has a place
chain_nothing : (shape : ShapeValue) (lane key k span w : ℕ) (seen : List Entry) → IsGap shape lane key span seen → k / span ≡ key / span
    → chain_places shape lane k seen w ≡ []
chain_nothing shape lane key k span w seen gap begins =
    ap (λ (xs : List (ℕ × RowValue)). map (λ x. x.0) xs)
    (picks_skip (layout shape) w (leaf_of shape lane k) seen 0 (length seen) (omega arith) (λ i e a b at is. gap i k e at is.1 begins)
    ∙ picks_zero (layout shape) w (leaf_of shape lane k) seen)

leaf_nothing : (shape : ShapeValue) (lane key k span n : ℕ) (seen : List Entry) → IsGap shape lane key span seen → k / span ≡ key / span
    → leaf_places shape lane k seen n ≡ []
unfolding leaf_places
leaf_nothing shape lane key k span zero seen gap begins = refl
leaf_nothing shape lane key k span (suc w) seen gap begins =
    ap₂ (λ (xs ys : List ℕ). xs ++ ys) (leaf_nothing shape lane key k span w seen gap begins) (chain_nothing shape lane key k span w seen gap begins)

range_nothing : (shape : ShapeValue) (lane key span n : ℕ) (seen : List Entry) → IsGap shape lane key span seen
    → ((k : ℕ) → key ≤ k → k < key + n → k / span ≡ key / span) → range_places shape lane key seen n ≡ []
unfolding range_places
range_nothing shape lane key span zero seen gap begins = refl
range_nothing shape lane key span (suc n) seen gap begins =
    ap₂ (λ (xs ys : List ℕ). xs ++ ys) (range_nothing shape lane key span n seen gap (λ k le lt. begins k le (omega (arith, lt))))
    (leaf_nothing shape lane key (key + n) span shape.writers seen gap (begins (key + n) (omega arith) (omega arith)))

-- the keys that begin alike
begins_alike : (key span k : ℕ) → 0 < span → key ≤ k → k ≤ key + (span - 1 - key % span) → k / span ≡ key / span
begins_alike key span k some le most =
    let q = key / span in
    let whole : q * span + key % span ≡ key = div-add-mod' key span in
    let more : (q + 1) * span ≡ q * span + 1 * span = add-mul q 1 span in
    let small : key % span < span = mod-lt key some in
    div-eq_of_lt-le {k = q} span {m = k} (omega (arith, whole, le)) (omega (arith, whole, more, small, most, some))

pub gap_over : (shape : ShapeValue) (lane key high span : ℕ) (seen : List Entry) (items : List ℕ) → key ≤ high → 0 < span → IsGap shape lane key span seen
    → WentOver shape lane key high seen items items (key + min (span - 1 - key % span) (high - key))
gap_over shape lane key high span seen items le some gap =
    let last = key + min (span - 1 - key % span) (high - key) in
    record {
      from = omega arith;
      upto = omega (arith, le);
      found = sym (append-nil items)
          ∙ ap (λ (xs : List ℕ). items ++ xs)
          (sym (range_nothing shape lane key span (last - key + 1) seen gap (λ k a b. begins_alike key span k some a (omega (arith, a, b)))));
    }

pub range_zero : (shape : ShapeValue) (lane low : ℕ) (seen : List Entry) → range_places shape lane low seen 0 ≡ []
unfolding range_places
range_zero shape lane low seen = refl

range_one : (shape : ShapeValue) (lane key : ℕ) (seen : List Entry) → range_places shape lane key seen 1 ≡ leaf_places shape lane key seen shape.writers
unfolding range_places
range_one shape lane key seen = (let e : key + 0 ≡ key = omega arith in ap (λ (k : ℕ). leaf_places shape lane k seen shape.writers) e)

pub leaf_over : (shape : ShapeValue) (lane key high : ℕ) (seen : List Entry) (before after : List ℕ) → key ≤ high
    → after ≡ before ++ leaf_places shape lane key seen shape.writers → WentOver shape lane key high seen before after key
leaf_over shape lane key high seen before after le is =
    let one : key - key + 1 ≡ 1 = omega arith in
    record {
      from = omega arith;
      upto = le;
      found = is ∙ ap (λ (xs : List ℕ). before ++ xs) (sym (ap (range_places shape lane key seen) one ∙ range_one shape lane key seen));
    }

-- one range after another
range_then : (shape : ShapeValue) (lane low n m : ℕ) (seen : List Entry)
    → range_places shape lane low seen (n + m) ≡ range_places shape lane low seen n ++ range_places shape lane (low + n) seen m
unfolding range_places
range_then shape lane low n zero seen =
    (let e : n + 0 ≡ n = omega arith in ap (range_places shape lane low seen) e ∙ sym (append-nil (range_places shape lane low seen n)))
range_then shape lane low n (suc m) seen =
    let e : n + suc m ≡ suc (n + m) = omega arith in
    let f : low + (n + m) ≡ low + n + m = omega arith in
    ap (range_places shape lane low seen) e
    ∙ (ap (λ (xs : List ℕ). xs ++ leaf_places shape lane (low + (n + m)) seen shape.writers) (range_then shape lane low n m seen)
    ∙ (append_assoc (range_places shape lane low seen n) (range_places shape lane (low + n) seen m) (leaf_places shape lane (low + (n + m)) seen shape.writers)
    ∙ ap (λ (k : ℕ). range_places shape lane low seen n ++ (range_places shape lane (low + n) seen m ++ leaf_places shape lane k seen shape.writers)) f))

pub over_then : (shape : ShapeValue) (lane low high first last : ℕ) (seen old : List Entry) (before middle after : List ℕ) → old ≡ seen
    → WentOver shape lane low high seen before middle first → WentOver shape lane (first + 1) high old middle after last
    → WentOver shape lane low high seen before after last
over_then shape lane low high first last seen old before middle after same a b =
    let x = a.from in
    let y = b.from in
    let e : low + (first - low + 1) ≡ first + 1 = omega (arith, x) in
    let f : first - low + 1 + (last - (first + 1) + 1) ≡ last - low + 1 = omega (arith, x, y) in
    record {
      from = omega (arith, x, y);
      upto = b.upto;
      found = b.found
          ∙ (ap₂ (λ (xs ys : List ℕ). xs ++ ys) a.found (ap (λ (es : List Entry). range_places shape lane (first + 1) es (last - (first + 1) + 1)) same)
          ∙ (append_assoc before (range_places shape lane low seen (first - low + 1)) (range_places shape lane (first + 1) seen (last - (first + 1) + 1))
          ∙ ap (λ (xs : List ℕ). before ++ xs)
          (ap (λ (k : ℕ). range_places shape lane low seen (first - low + 1) ++ range_places shape lane k seen (last - (first + 1) + 1)) (sym e)
          ∙ (sym (range_then shape lane low (first - low + 1) (last - (first + 1) + 1) seen) ∙ ap (range_places shape lane low seen) f))));
    }
