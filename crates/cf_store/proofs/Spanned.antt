-- What is seen of logs that stand one behind the other.
use Rattle.std.proofs.Common.{◌≡◌, ◌∙◌, ◌==◌, ◌<◌, ◌≤◌, ◌+◌, ◌-◌, ◌*◌, ℕ, zero, suc, Bool, List, [], ◌∷◌, ◌++◌, length, take, get_or, inl, inr, refl, sym, ap, subst, arith, length-append, append-nil, if◌then◌else◌}
use Rattle.std.specs.List.{AllZip}
use Rattle.std.proofs.lemmas.Bool.{eq-eqb, ne_eqb, cases_eq}
use Rattle.std.proofs.lemmas.List.{map-append, append_assoc, length-map, length-take, get_or_append_left, get_or-append-add, take-append-le, take_all}
use Rattle.std.proofs.Math.Seq.{take-append-add}
use Rattle.cf_row.specs.declared.row.Entry.{Entry}
use Rattle.cf_row.specs.Row.{RowValue}
use Rattle.cf_plain.specs.Asks.{no_row, row_at, rows_in}
use Rattle.cf_table.specs.Values.{PassValue}
use Rattle.cf_store.specs.Spans.{IsLast, passes_of, seen_each, seen_in}
use Rattle.cf_store.specs.Ends.{seen_upto}
use Rattle.cf_store.specs.declared.held.Reader.{Reader}

-- a log that is full, and one that is not
pub seen_full : (capacity : ℕ) (log : List Entry) (logs : List (List Entry)) → length log ≡ capacity
    → seen_in capacity (log ∷ logs) ≡ log ++ seen_in capacity logs
seen_full capacity log logs full =
    ap (λ (b : Bool). log ++ (if b then seen_in capacity logs else [])) (eq-eqb (length log) capacity full)

pub seen_open : (capacity : ℕ) (log : List Entry) (logs : List (List Entry)) → (length log ≡ capacity → ⊥) → seen_in capacity (log ∷ logs) ≡ log
seen_open capacity log logs room =
    ap (λ (b : Bool). log ++ (if b then seen_in capacity logs else [])) (ne_eqb (length log) capacity room) ∙ append-nil log

-- the last log shows all that is seen of it
pub seen_alone : (capacity : ℕ) (log : List Entry) → seen_in capacity (log ∷ []) ≡ log
seen_alone capacity log = elim (cases_eq (length log) capacity) [
  | inl full ↦ seen_full capacity log [] full ∙ append-nil log
  | inr room ↦ seen_open capacity log [] room
]

-- of the logs behind the first one the next is looked at, and so on
pub last_less : (capacity : ℕ) (log : List Entry) (logs : List (List Entry)) (last : ℕ) → IsLast capacity (log ∷ logs) (suc last) → IsLast capacity logs last
last_less capacity log logs last is = record {
  within = (let within = is.within in omega (arith, within));
  full = λ k low. is.full (suc k) (omega (arith, low));
  stops = λ more. is.stops (omega (arith, more));
}

-- what is seen ends with the last log that is looked at
pub seen_last : (capacity : ℕ) (first : PassValue) (others : List Reader) (last : ℕ) → IsLast capacity (seen_each (first ∷ passes_of others)) last
    → seen_in capacity (seen_each (first ∷ passes_of others)) ≡ seen_upto first others last
seen_last capacity first [] zero is = seen_alone capacity (first.view).seen
seen_last capacity first [] (suc last) is = absurd (let within = is.within in omega (arith, within))
seen_last capacity first (reader ∷ others) zero is = seen_open capacity (first.view).seen (seen_each (passes_of (reader ∷ others))) (is.stops (omega arith))
seen_last capacity first (reader ∷ others) (suc last) is =
    seen_full capacity (first.view).seen (seen_each (passes_of (reader ∷ others))) (is.full 0 (omega arith))
    ∙ ap (λ (es : List Entry). (first.view).seen ++ es)
    (seen_last capacity reader.pass others last (last_less capacity (first.view).seen (seen_each (passes_of (reader ∷ others))) last is))

pub seen_as_last : (capacity least : ℕ) (first : PassValue) (others : List Reader) (last : ℕ) → least ≡ capacity
    → IsLast least (seen_each (first ∷ passes_of others)) last → seen_upto first others last ≡ seen_in capacity (seen_each (first ∷ passes_of others))
seen_as_last capacity least first others last same is =
    sym (seen_last capacity first others last (subst (λ (n : ℕ). IsLast n (seen_each (first ∷ passes_of others)) last) same is))

-- one log more
pub upto_more : (first : PassValue) (others : List Reader) (i : ℕ) (d : Reader) → i < length others
    → seen_upto first others (suc i) ≡ seen_upto first others i ++ ((get_or others i d).pass.view).seen
upto_more first [] i d low = absurd (omega (arith, low))
upto_more first (reader ∷ others) zero d low = refl
upto_more first (reader ∷ others) (suc i) d low =
    ap (λ (es : List Entry). (first.view).seen ++ es) (upto_more reader.pass others i d (omega (arith, low)))
    ∙ sym (append_assoc (first.view).seen (seen_upto reader.pass others i) ((get_or others i d).pass.view).seen)

-- all logs but the last are full
pub upto_long : (capacity : ℕ) (first : PassValue) (others : List Reader) (last : ℕ)
    → ((k : ℕ) → k < last → length (get_or (seen_each (first ∷ passes_of others)) k []) ≡ capacity) → last ≤ length others
    → length (seen_upto first others last) ≡ last * capacity + length (get_or (seen_each (first ∷ passes_of others)) last [])
upto_long capacity first others zero full low = omega arith
upto_long capacity first [] (suc last) full low = absurd (omega (arith, low))
upto_long capacity first (reader ∷ others) (suc last) full low =
    let front = full 0 (omega arith) in
    let all = length-append (first.view).seen (seen_upto reader.pass others last) in
    let rest = upto_long capacity reader.pass others last (λ k below. full (suc k) (omega (arith, below))) (omega (arith, low)) in
    omega (arith, front, all, rest)

seen_at : (first : PassValue) (others : List Reader) (j : ℕ) (d : Reader) → j < length others
    → get_or (seen_each (first ∷ passes_of others)) (suc j) [] ≡ ((get_or others j d).pass.view).seen
seen_at first [] j d low = absurd (omega (arith, low))
seen_at first (r ∷ others) zero d low = refl
seen_at first (r ∷ others) (suc j) d low = seen_at r.pass others j d (omega (arith, low))

each_long : (first : PassValue) (others : List Reader) → length (seen_each (first ∷ passes_of others)) ≡ length others + 1
each_long first others =
    let passes = length-map others (λ (r : Reader). r.pass) in
    let all = length-map (first ∷ passes_of others) (λ (p : PassValue). (p.view).seen) in
    omega (arith, passes, all)

-- how many records are seen, up to the last log, which is not the first
pub covered_by : (capacity least : ℕ) (first : PassValue) (others : List Reader) (last : ℕ) (d : Reader) (more : ℕ) → least ≡ capacity
    → IsLast least (seen_each (first ∷ passes_of others)) last → (last ≡ 0 → ⊥) → more ≡ length ((get_or others (last - 1) d).pass.view).seen
    → last * least + more ≡ length (seen_in capacity (seen_each (first ∷ passes_of others)))
covered_by capacity least first others zero d more same is some more_is = absurd (some refl)
covered_by capacity least first others (suc j) d more same is some more_is =
    let now : IsLast capacity (seen_each (first ∷ passes_of others)) (suc j) =
    subst (λ (n : ℕ). IsLast n (seen_each (first ∷ passes_of others)) (suc j)) same is in
    let within = now.within in
    let long = each_long first others in
    let low : j < length others = omega (arith, within, long) in
    let all = ap (λ (es : List Entry). length es) (seen_last capacity first others (suc j) now) in
    let parts = upto_long capacity first others (suc j) now.full (omega (arith, low)) in
    let back : suc j - 1 ≡ j = omega arith in
    let here = ap (λ (es : List Entry). length es) (seen_at first others j d low) in
    let there : more ≡ length ((get_or others j d).pass.view).seen =
    more_is ∙ ap (λ (k : ℕ). length ((get_or others k d).pass.view).seen) back in
    let sum : suc j * least ≡ suc j * capacity = ap (λ (n : ℕ). suc j * n) same in
    omega (arith, all, parts, here, there, sum)

rows_left : (xs ys : List Entry) (k : ℕ) → k < length xs → row_at (rows_in (xs ++ ys)) k ≡ row_at (rows_in xs) k
rows_left xs ys k low =
    ap (λ (rs : List RowValue). row_at rs k) (map-append (λ (e : Entry). e.row) xs ys)
    ∙ get_or_append_left (rows_in xs) (rows_in ys) no_row k (let long = length-map xs (λ (e : Entry). e.row) in omega (arith, long, low))

rows_right : (xs ys : List Entry) (k : ℕ) → row_at (rows_in (xs ++ ys)) (length xs + k) ≡ row_at (rows_in ys) k
rows_right xs ys k =
    ap (λ (rs : List RowValue). row_at rs (length xs + k)) (map-append (λ (e : Entry). e.row) xs ys)
    ∙ ap (λ (n : ℕ). row_at (rows_in xs ++ rows_in ys) (n + k)) (sym (length-map xs (λ (e : Entry). e.row)))
    ∙ get_or-append-add (rows_in xs) (rows_in ys) k no_row

-- a place of a log, as one of all that is seen
pub record IsPlaceIn (capacity : ℕ) (logs : List (List Entry)) (part place : ℕ) : Type 0 where
  pub part_low : part < length logs
  pub place_low : place < length (get_or logs part [])
  pub row : row_at (rows_in (seen_in capacity logs)) (part * capacity + place) ≡ row_at (rows_in (get_or logs part [])) place

pub place_in : (capacity : ℕ) (logs : List (List Entry)) (part place : ℕ) → ((k : ℕ) → k < length logs → length (get_or logs k []) ≤ capacity)
    → place < capacity → part * capacity + place < length (seen_in capacity logs) → IsPlaceIn capacity logs part place
place_in capacity [] part place short low within = absurd (omega (arith, within))
place_in capacity (log ∷ logs) zero place short low within = elim (cases_eq (length log) capacity) [
  | inl full ↦ (let there : place < length log = omega (arith, full, low) in record {
    part_low = omega arith;
    place_low = there;
    row = ap (λ (es : List Entry). row_at (rows_in es) (0 * capacity + place)) (seen_full capacity log logs full)
        ∙ (let e : 0 * capacity + place ≡ place = omega arith in ap (λ (k : ℕ). row_at (rows_in (log ++ seen_in capacity logs)) k) e)
        ∙ rows_left log (seen_in capacity logs) place there;
  })
  | inr room ↦ (let long = ap (λ (es : List Entry). length es) (seen_open capacity log logs room) in
      let there : place < length log = omega (arith, within, long) in record {
        part_low = omega arith;
        place_low = there;
        row = ap (λ (es : List Entry). row_at (rows_in es) (0 * capacity + place)) (seen_open capacity log logs room)
            ∙ (let e : 0 * capacity + place ≡ place = omega arith in ap (λ (k : ℕ). row_at (rows_in log) k) e);
      })
]
place_in capacity (log ∷ logs) (suc part) place short low within = elim (cases_eq (length log) capacity) [
  | inl full ↦ (let long = ap (λ (es : List Entry). length es) (seen_full capacity log logs full) in
      let both = length-append log (seen_in capacity logs) in
      let rest = place_in capacity logs part place (λ k below. short (suc k) (omega (arith, below))) low (omega (arith, within, long, both, full)) in
      let part_low = rest.part_low in
      record {
        part_low = omega (arith, part_low);
        place_low = rest.place_low;
        row = ap (λ (es : List Entry). row_at (rows_in es) (suc part * capacity + place)) (seen_full capacity log logs full)
            ∙ (let e : suc part * capacity + place ≡ length log + (part * capacity + place) = omega (arith, full) in
            ap (λ (k : ℕ). row_at (rows_in (log ++ seen_in capacity logs)) k) e)
            ∙ (rows_right log (seen_in capacity logs) (part * capacity + place) ∙ rest.row);
      })
  | inr room ↦ (let long = ap (λ (es : List Entry). length es) (seen_open capacity log logs room) in
      let most = short 0 (omega arith) in
      absurd (room (omega (arith, within, long, most))))
]

-- the second list begins with the first
abbrev pub FrontOf : List Entry → List Entry → Type 0
FrontOf xs ys = take (length xs) ys ≡ xs

same_where_full : (xs ys : List Entry) → FrontOf xs ys → length ys ≤ length xs → ys ≡ xs
same_where_full xs ys front long = sym (take_all (length xs) ys long) ∙ front

front_long : (xs ys : List Entry) → FrontOf xs ys → length xs ≤ length ys
front_long xs ys front =
    let taken = length-take (length xs) ys in
    let same = ap (λ (es : List Entry). length es) front in
    omega (arith, taken, same)

-- what was seen is the beginning of what is seen now, if each log has shown no less
pub seen_longer : (capacity : ℕ) (before after : List (List Entry)) → AllZip FrontOf before after
    → ((k : ℕ) → k < length after → length (get_or after k []) ≤ capacity) → FrontOf (seen_in capacity before) (seen_in capacity after)
seen_longer capacity [] [] fronts short = refl
seen_longer capacity [] (y ∷ ys) fronts short = absurd fronts
seen_longer capacity (x ∷ xs) [] fronts short = absurd fronts
seen_longer capacity (x ∷ xs) (y ∷ ys) fronts short = elim (cases_eq (length x) capacity) [
  | inl full ↦ (let most = short 0 (omega arith) in
      let same : y ≡ x = same_where_full x y fronts.0 (omega (arith, full, most)) in
      let rest = seen_longer capacity xs ys fronts.1 (λ k below. short (suc k) (omega (arith, below))) in
      let now : seen_in capacity (y ∷ ys) ≡ x ++ seen_in capacity ys =
      seen_full capacity y ys (ap (λ (es : List Entry). length es) same ∙ full) ∙ ap (λ (es : List Entry). es ++ seen_in capacity ys) same in
      let was = seen_full capacity x xs full in
      rw (was, now, length-append x (seen_in capacity xs)) (take-append-add x (seen_in capacity ys) (length (seen_in capacity xs))
      ∙ ap (λ (es : List Entry). x ++ es) rest))
  | inr room ↦ (let was = seen_open capacity x xs room in
      let long : length x ≤ length y = front_long x y fronts.0 in
      rw was (take-append-le (length x) y (if length y == capacity then seen_in capacity ys else []) long ∙ fronts.0))
]
