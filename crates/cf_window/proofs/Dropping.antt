-- The oldest segment is dropped before a row comes.
use Rattle.std.proofs.Common.{◌≡◌, ◌∙◌, ℕ, ◌-◌, ◌<◌, ◌≤◌, suc, List, [], ◌∷◌, ◌++◌, length, drop, Bool, true, false, not, ◌&&◌, cond, nat_lt, nat_le, slice_index_or, refl, sym, ap, ap₂, subst, arith}
use Rattle.std.proofs.lemmas.Bool.Decides.{nat_tests}
use Rattle.cf_row.specs.Row.{RowValue}
use Rattle.cf_row.proofs.Bytes.{both}
use Rattle.cf_shape.specs.Lanes.{ShapeValue}
use Rattle.cf_window.specs.Held.{ComesThen, WindowValue}
use Rattle.cf_window.specs.Windows.{after_row, drops, goes_in, last_of, takes, with_last}

last_drop : (x y : List RowValue) (ys : List (List RowValue)) → last_of (x ∷ y ∷ ys) ≡ last_of (y ∷ ys)
last_drop x y ys =
    let a : length (x ∷ y ∷ ys) - 1 ≡ suc (length ys) = omega arith in
    let b : length (y ∷ ys) - 1 ≡ length ys = omega arith in
    ap (λ (k : ℕ). slice_index_or (x ∷ y ∷ ys) k []) a ∙ sym (ap (λ (k : ℕ). slice_index_or (y ∷ ys) k []) b)

some_long : (x : List RowValue) (xs : List (List RowValue)) → nat_lt 0 (length (x ∷ xs)) ≡ true
some_long x xs = grind (arith, nat_tests)

-- what the last segment does not take it does not take then
pub refused_still : (shape : ShapeValue) (xs : List (List RowValue)) (row : RowValue) → goes_in shape xs row ≡ false → goes_in shape (drop 1 xs) row ≡ false
refused_still shape [] row e = e
refused_still shape (x ∷ []) row e = refl
refused_still shape (x ∷ y ∷ ys) row e =
    ap₂ (λ (b : Bool) (rows : List RowValue). b && takes shape rows row) (some_long y ys ∙ sym (some_long x (y ∷ ys))) (sym (last_drop x y ys)) ∙ e

pub out_of : (b : Bool) → not b ≡ true → b ≡ false
out_of true e = absurd (cc e)
out_of false e = refl

abbrev pub after_by : List (List RowValue) → RowValue → Bool → Bool → List (List RowValue)
after_by xs row b c = cond {A = List (List RowValue)} b (with_last xs row) (cond {A = List (List RowValue)} c (drop 1 xs) xs ++ (row ∷ []) ∷ [])

-- then the row comes as it would have come
pub comes_then : (shape : ShapeValue) (most : ℕ) (xs : List (List RowValue)) (row : RowValue) → 0 < length xs → length xs ≤ most
    → drops shape most xs row ≡ true → (drops shape most (drop 1 xs) row ≡ false) × (after_row shape most (drop 1 xs) row ≡ after_row shape most xs row)
comes_then shape most xs row some few is =
    let parts = both (not (goes_in shape xs row)) (nat_le most (length xs)) is in
    let out : goes_in shape xs row ≡ false = out_of (goes_in shape xs row) parts.0 in
    let still : goes_in shape (drop 1 xs) row ≡ false = refused_still shape xs row out in
    let long = Rattle.std.proofs.lemmas.List.length-drop 1 xs in
    let room : nat_le most (length (drop 1 xs)) ≡ false = (let less : length (drop 1 xs) < most = omega (arith, some, few, long) in grind (arith, nat_tests)) in
    let none : drops shape most (drop 1 xs) row ≡ false = ap₂ (λ (a b : Bool). not a && b) still room in
    (none, ap₂ (λ (b c : Bool). after_by (drop 1 xs) row b c) still none ∙ sym (ap₂ (λ (b c : Bool). after_by xs row b c) out is))

-- The same of a window that its caller holds.
pub refused_after : (old : WindowValue) (shape : ShapeValue) (xs ys : List (List RowValue)) (row : RowValue) → old.shape ≡ shape → old.segments ≡ xs
    → ys ≡ drop 1 xs → goes_in old.shape old.segments row ≡ false → goes_in shape ys row ≡ false
refused_after old shape xs ys row shape_is are dropped out =
    ap (λ (zs : List (List RowValue)). goes_in shape zs row) dropped
    ∙ refused_still shape xs row
    (subst (λ (s : ShapeValue). goes_in s xs row ≡ false) shape_is (subst (λ (zs : List (List RowValue)). goes_in old.shape zs row ≡ false) are out))

pub comes_after : (old new : WindowValue) (xs : List (List RowValue)) (row : RowValue) → old.shape ≡ new.shape → old.most ≡ new.most → old.segments ≡ xs
    → new.segments ≡ drop 1 xs → 0 < length old.segments → length xs ≤ new.most → drops old.shape old.most old.segments row ≡ true → ComesThen old row new
comes_after old new xs row shape_is most_is are dropped some few is =
    let all = dropped ∙ ap (λ (zs : List (List RowValue)). drop 1 zs) (sym are) in
    let r = comes_then old.shape old.most old.segments row some (rw (are, most_is) few) is in
    record {
      room = ap₂ (λ (s : ShapeValue) (n : ℕ). drops s n new.segments row) (sym shape_is) (sym most_is)
          ∙ (ap (λ (zs : List (List RowValue)). drops old.shape old.most zs row) all ∙ r.0);
      same = ap₂ (λ (s : ShapeValue) (n : ℕ). after_row s n new.segments row) (sym shape_is) (sym most_is)
          ∙ (ap (λ (zs : List (List RowValue)). after_row old.shape old.most zs row) all ∙ r.1);
    }
