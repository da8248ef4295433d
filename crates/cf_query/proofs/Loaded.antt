-- Entries that were seen fit, and are gone over.
use Rattle.std.proofs.Common.{◌≡◌, ◌∙◌, ◌+◌, ◌-◌, ◌<◌, ◌≤◌, ℕ, Bool, true, false, cond, List, [], ◌∷◌, ◌++◌, length, filter, take, drop, get_or, Some, slice_get, ap, ap₂, sym, subst, append-nil, arith}
use Rattle.std.specs.List.{range_with_len}
use Rattle.std.proofs.lemmas.List.{get_or-drop, get_or-take, length-drop, length-map, length-take, take_all}
use Rattle.std.proofs.lemmas.Option.{slice_get-get_or}
use Rattle.cf_row.specs.Row.{Fits, RowValue}
use Rattle.cf_row.specs.Expr.{holds_of}
use Rattle.cf_row.specs.declared.expr.Atom.{Atom}
use Rattle.cf_row.specs.declared.schema.Attr.{Attr}
use Rattle.cf_row.specs.Times.{number_at}
use Rattle.cf_fold.specs.Quads.{QuadValue, quad_of}
use Rattle.cf_row.specs.declared.row.Entry.{Entry}
use Rattle.cf_shape.specs.Lanes.{ShapeValue}
use Rattle.cf_plain.specs.Asks.{places, rows_in, row_at}
use Rattle.cf_plain.proofs.Scanned.{place_more}
use Rattle.cf_plain.specs.Totals.{total}
use Rattle.cf_plain.proofs.Amounts.{amounts_in, amounts_more}
use Rattle.cf_table.specs.Values.{PassValue}
use Rattle.cf_table.specs.Moves.{OnlyLooked, AreFit}
use Rattle.cf_table.proofs.Reading.{no_entry, looked_then}
use Rattle.cf_walk.proofs.Tallied.{fits_of, row_is}
use Rattle.cf_query.specs.Looking.{HasLooked}
use Rattle.cf_query.specs.Stretches.{IsStretch, stretch}

-- an entry that was seen fits, also where words were looked at since
pub held_fits : (shape : ShapeValue) (attrs : List Attr) (m n : PassValue) (o : ℕ) (e : Entry) → AreFit shape m.view → OnlyLooked m n → attrs ≡ shape.schema
    → slice_get (n.view).seen o ≡ Some e → Fits attrs e.row
held_fits shape attrs m n o e fit looked schema at =
    subst (λ (kinds : List Attr). Fits kinds e.row) (sym schema)
    (fits_of shape e (fit o e (sym (ap (λ (h : PassValue). slice_get (h.view).seen o) looked) ∙ at)))

-- The places of the entries of which an expression holds, and one entry more.
abbrev holds_at : List (List Atom) → List Entry → ℕ → Bool
holds_at expr seen place = holds_of expr (row_at (rows_in seen) place)

scanned_more : (expr : List (List Atom)) (seen : List Entry) (o : ℕ) (b : Bool) (found : List ℕ) → b ≡ holds_at expr seen o
    → found ≡ filter (holds_at expr seen) (range_with_len 0 o) → found ++ cond b (o ∷ []) [] ≡ filter (holds_at expr seen) (range_with_len 0 (o + 1))
scanned_more expr seen o b found holds is =
    ap₂ (λ (xs : List ℕ) (t : Bool). xs ++ cond t (o ∷ []) []) is holds ∙ sym (place_more (holds_at expr seen) o)

pub scanned_one : (expr : List (List Atom)) (seen : List Entry) (o : ℕ) (b : Bool) (found after : List ℕ) → b ≡ holds_at expr seen o → b ≡ true
    → found ≡ filter (holds_at expr seen) (range_with_len 0 o) → after ≡ found ++ o ∷ [] → after ≡ filter (holds_at expr seen) (range_with_len 0 (o + 1))
scanned_one expr seen o b found after holds passes is push = push
    ∙ (ap (λ (t : Bool). found ++ cond t (o ∷ []) []) (sym passes) ∙ scanned_more expr seen o b found holds is)

pub scanned_none : (expr : List (List Atom)) (seen : List Entry) (o : ℕ) (b : Bool) (found : List ℕ) → b ≡ holds_at expr seen o → b ≡ false
    → found ≡ filter (holds_at expr seen) (range_with_len 0 o) → found ≡ filter (holds_at expr seen) (range_with_len 0 (o + 1))
scanned_none expr seen o b found holds fails is = sym (append-nil found)
    ∙ (ap (λ (t : Bool). found ++ cond t (o ∷ []) []) (sym fails) ∙ scanned_more expr seen o b found holds is)

-- What is added up of the entries of which an expression holds, and of one entry more.
module _ (attr : ℕ) (expr : List (List Atom)) (seen : List Entry) (o : ℕ) (lt : o < length seen) where
  abbrev here : RowValue
  here = row_at (rows_in seen) o

  amounts_with : amounts_in attr expr (take (o + 1) seen) ≡ amounts_in attr expr (take o seen) ++ cond (holds_of expr here) (number_at here attr ∷ []) []
  amounts_with =
      let row = row_is seen o (get_or seen o no_entry) (slice_get-get_or seen o no_entry lt) in
      amounts_more attr expr seen o no_entry lt
      ∙ ap (λ (r : RowValue). amounts_in attr expr (take o seen) ++ cond (holds_of expr r) (number_at r attr ∷ []) []) row

  pub summed_one : (b : Bool) (before after : QuadValue) → b ≡ holds_of expr here → b ≡ true → before ≡ total attr expr (rows_in (take o seen))
      → ((xs : List ℕ) → before ≡ quad_of xs → after ≡ quad_of (xs ++ number_at here attr ∷ [])) → after ≡ total attr expr (rows_in (take (o + 1) seen))
  summed_one b before after holds passes is added =
      added (amounts_in attr expr (take o seen)) is
      ∙ ap quad_of (ap (λ (t : Bool). amounts_in attr expr (take o seen) ++ cond t (number_at here attr ∷ []) []) (sym passes ∙ holds) ∙ sym amounts_with)

  pub summed_none : (b : Bool) (before : QuadValue) → b ≡ holds_of expr here → b ≡ false → before ≡ total attr expr (rows_in (take o seen))
      → before ≡ total attr expr (rows_in (take (o + 1) seen))
  summed_none b before holds fails is =
      is ∙ ap quad_of
      (sym (append-nil (amounts_in attr expr (take o seen)))
      ∙ ap (λ (t : Bool). amounts_in attr expr (take o seen) ++ cond t (number_at here attr ∷ []) []) (sym fails ∙ holds) ∙ sym amounts_with)

-- what fits still does where words were looked at since
pub still_fit : (shape : ShapeValue) (m n : PassValue) → AreFit shape m.view → OnlyLooked m n → AreFit shape n.view
still_fit shape m n fit looked = subst (λ (h : PassValue). AreFit shape h.view) (sym looked) fit

-- The pass looked, and looked again.
pub looked_on : {m n o : PassValue} {a b c : ℕ} → HasLooked m n a b → HasLooked n o b c → HasLooked m o a c
looked_on {m} {n} {o} x y = record {
  only = looked_then m n o x.only y.only;
  loads = let one = x.loads in let two = y.loads in omega (arith, one, two);
}

pub looked_as : {m n o : PassValue} {a b c : ℕ} → n ≡ o → b ≡ c → HasLooked m n a b → HasLooked m o a c
looked_as {m} {n} {o} {a} {b} {c} pass steps x =
    subst (λ (h : PassValue). HasLooked m h a c) pass (subst (λ (k : ℕ). HasLooked m n a k) steps x)

-- A stretch of what was seen is gone over.
module _ (from to : ℕ) (seen : List Entry) (is : IsStretch from to seen) where
  abbrev part : List Entry
  part = stretch from to seen

  pub stretch_long : length part ≡ to - from
  stretch_long = omega (arith, length-take (to - from) (drop from seen), length-drop from seen, is.ends, is.within)

  pub stretch_row : (o : ℕ) → from ≤ o → o < to → row_at (rows_in part) (o - from) ≡ row_at (rows_in seen) o
  stretch_row o low lt =
      let k = o - from in
      let there : from + k ≡ o = omega (arith, low) in
      let same : get_or part k no_entry ≡ get_or seen o no_entry = get_or-take (to - from) (drop from seen) k no_entry (omega (arith, low, lt))
      ∙ (get_or-drop from seen k no_entry ∙ ap (λ (i : ℕ). get_or seen i no_entry) there) in
      let here = row_is part k (get_or part k no_entry) (slice_get-get_or part k no_entry (omega (arith, low, lt, stretch_long))) in
      let whole = row_is seen o (get_or seen o no_entry) (slice_get-get_or seen o no_entry (omega (arith, lt, is.within))) in
      sym here ∙ (ap (λ (e : Entry). e.row) same ∙ whole)

  module _ (expr : List (List Atom)) (o : ℕ) (low : from ≤ o) (lt : o < to) (b : Bool) (holds : b ≡ holds_at expr seen o) where
    holds_there : b ≡ holds_at expr part (o - from)
    holds_there = holds ∙ ap (holds_of expr) (sym (stretch_row o low lt))

    next : o - from + 1 ≡ o + 1 - from
    next = omega (arith, low)

    pub stretch_one : (found after : List ℕ) → b ≡ true → found ≡ filter (holds_at expr part) (range_with_len 0 (o - from)) → after ≡ found ++ (o - from) ∷ []
        → after ≡ filter (holds_at expr part) (range_with_len 0 (o + 1 - from))
    stretch_one found after passes so_far push = scanned_one expr part (o - from) b found after holds_there passes so_far push
        ∙ ap (λ (n : ℕ). filter (holds_at expr part) (range_with_len 0 n)) next

    pub stretch_none : (found : List ℕ) → b ≡ false → found ≡ filter (holds_at expr part) (range_with_len 0 (o - from))
        → found ≡ filter (holds_at expr part) (range_with_len 0 (o + 1 - from))
    stretch_none found fails so_far = scanned_none expr part (o - from) b found holds_there fails so_far
        ∙ ap (λ (n : ℕ). filter (holds_at expr part) (range_with_len 0 n)) next

    pub stretch_added : (attr : ℕ) (before after : QuadValue) → b ≡ true → before ≡ total attr expr (rows_in (take (o - from) part))
        → ((xs : List ℕ) → before ≡ quad_of xs → after ≡ quad_of (xs ++ number_at (row_at (rows_in seen) o) attr ∷ []))
        → after ≡ total attr expr (rows_in (take (o + 1 - from) part))
    stretch_added attr before after passes so_far added =
        summed_one attr expr part (o - from) (omega (arith, low, lt, stretch_long)) b before after holds_there passes so_far
        (λ xs same. added xs same ∙ ap (λ (r : RowValue). quad_of (xs ++ number_at r attr ∷ [])) (sym (stretch_row o low lt)))
        ∙ ap (λ (n : ℕ). total attr expr (rows_in (take n part))) next

    pub stretch_kept : (attr : ℕ) (before : QuadValue) → b ≡ false → before ≡ total attr expr (rows_in (take (o - from) part))
        → before ≡ total attr expr (rows_in (take (o + 1 - from) part))
    stretch_kept attr before fails so_far =
        summed_none attr expr part (o - from) (omega (arith, low, lt, stretch_long)) b before holds_there fails so_far
        ∙ ap (λ (n : ℕ). total attr expr (rows_in (take n part))) next

  -- all of it
  pub stretch_scanned : (expr : List (List Atom)) (o : ℕ) (found : List ℕ) → to ≤ o → o ≤ to
      → found ≡ filter (holds_at expr part) (range_with_len 0 (o - from)) → found ≡ places (holds_of expr) (rows_in part)
  stretch_scanned expr o found past least so_far =
      let long : o - from ≡ length (rows_in part) = omega (arith, past, least, stretch_long, length-map part (λ (e : Entry). e.row)) in
      so_far ∙ ap (λ (n : ℕ). filter (holds_at expr part) (range_with_len 0 n)) long

  pub stretch_summed : (attr : ℕ) (expr : List (List Atom)) (o : ℕ) (found : QuadValue) → to ≤ o
      → found ≡ total attr expr (rows_in (take (o - from) part)) → found ≡ total attr expr (rows_in part)
  stretch_summed attr expr o found past so_far =
      so_far ∙ ap (λ (es : List Entry). total attr expr (rows_in es)) (take_all (o - from) part (omega (arith, past, stretch_long)))
