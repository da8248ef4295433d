-- The fields of a record and their values.
use Rattle.std.proofs.Common.{true, List, ℕ, zero, suc, Option, ◌≡◌, ◌≢◌, ◌<◌, ◌+◌, ◌≤◌, ◌∙◌, sym, refl, ap, ap₂, Some, None, [], ◌∷◌, ◌++◌, length, take, slice_get, arith, option_map}
use Rattle.std.proofs.lemmas.Option.{slice_get-get_or, slice_get-map}
use Rattle.csv.specs.Records.{field_at}
use Rattle.cf_row.specs.declared.schema.Attr.{Attr}
use Rattle.cf_row.specs.declared.row.Value.{Value}
use Rattle.cf_row.specs.Row.{values_fit}
use Rattle.cf_filter.specs.Grammar.{ValueText}
use Rattle.cf_filter.proofs.Lawful.{value_fits}
use Rattle.cf_records.specs.Records.{names_of, HaveValues}

pub field_got : (fields : List (List ℕ)) (column : ℕ) → field_at fields column ≡ slice_get fields column
unfolding field_at
field_got [] column = refl
field_got (field ∷ fields) zero = refl
field_got (field ∷ fields) (suc column) = field_got fields column

pub there : {X : Type 0} (xs : List X) (i : ℕ) (x : X) → i < length xs → slice_get xs i ≡ None → ⊥
there {X} xs i x lt none = let some = slice_get-get_or xs i x lt in cc (some, none)

-- one more value
pub one_value : (attrs : List Attr) (fields : List (List ℕ)) (values : List Value) (column : ℕ) (attr : Attr) (field : List ℕ) (value : Value)
    → HaveValues (take column attrs) (take column fields) values → slice_get attrs column ≡ Some attr → slice_get fields column ≡ Some field
    → ValueText attr.kind field value → HaveValues (take (column + 1) attrs) (take (column + 1) fields) (values ++ (value ∷ []))
one_value [] fields values column attr field value before attr_is field_is text = cc attr_is
one_value (a ∷ attrs) [] values column attr field value before attr_is field_is text = cc field_is
one_value (a ∷ attrs) (f ∷ fields) [] zero attr field value before attr_is field_is text =
    let same_attr : a ≡ attr = cc attr_is in
    let same_field : f ≡ field = cc field_is in
    (rw (sym same_attr, sym same_field) at text, tt)
one_value (a ∷ attrs) (f ∷ fields) (v ∷ values) zero attr field value before attr_is field_is text = absurd before
one_value (a ∷ attrs) (f ∷ fields) [] (suc column) attr field value before attr_is field_is text = absurd before
one_value (a ∷ attrs) (f ∷ fields) (v ∷ values) (suc column) attr field value before attr_is field_is text =
    let e : suc column + 1 ≡ suc (column + 1) = omega arith in
    rw e (before.0, one_value attrs fields values column attr field value before.1 attr_is field_is text)

-- one more name
pub one_name : (attrs : List Attr) (fields : List (List ℕ)) (column : ℕ) (attr : Attr) → take column fields ≡ names_of (take column attrs)
    → slice_get attrs column ≡ Some attr → slice_get fields column ≡ Some attr.name → take (column + 1) fields ≡ names_of (take (column + 1) attrs)
one_name [] fields column attr same attr_is field_is = cc attr_is
one_name (a ∷ attrs) [] column attr same attr_is field_is = cc field_is
one_name (a ∷ attrs) (f ∷ fields) zero attr same attr_is field_is = let e : f ≡ a.name = cc (attr_is, field_is) in ap (λ (x : List ℕ). x ∷ []) e
one_name (a ∷ attrs) (f ∷ fields) (suc column) attr same attr_is field_is =
    let head : f ≡ a.name = cc same in
    let tail : take column fields ≡ names_of (take column attrs) = cc same in
    let e : suc column + 1 ≡ suc (column + 1) = omega arith in
    rw e (ap₂ ◌∷◌ head (one_name attrs fields column attr tail attr_is field_is))

-- another name
pub other_name : (attrs : List Attr) (fields : List (List ℕ)) (column : ℕ) (attr : Attr) → slice_get attrs column ≡ Some attr
    → (slice_get fields column ≡ Some attr.name → ⊥) → fields ≢ names_of attrs
other_name attrs fields column attr attr_is other same =
    let named : slice_get (names_of attrs) column ≡ option_map (λ (a : Attr). a.name) (slice_get attrs column) =
    slice_get-map (λ (a : Attr). a.name) attrs column in
    let got : slice_get fields column ≡ slice_get (names_of attrs) column = ap (λ (xs : List (List ℕ)). slice_get xs column) same in
    other (got ∙ named ∙ ap (λ (o : Option Attr). option_map (λ (a : Attr). a.name) o) attr_is)

-- values of the texts are of the kinds
pub values_are_fit : (attrs : List Attr) (fields : List (List ℕ)) (values : List Value) → HaveValues attrs fields values → values_fit attrs values ≡ true
values_are_fit [] [] [] have = refl
values_are_fit [] [] (v ∷ values) have = absurd have
values_are_fit [] (f ∷ fields) values have = absurd have
values_are_fit (a ∷ attrs) [] values have = absurd have
values_are_fit (a ∷ attrs) (f ∷ fields) [] have = absurd have
values_are_fit (a ∷ attrs) (f ∷ fields) (v ∷ values) have = rw (value_fits a.kind f v have.0) (values_are_fit attrs fields values have.1)
