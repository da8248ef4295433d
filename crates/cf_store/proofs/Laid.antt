-- Values of rows are shown.
use Rattle.std.proofs.Common.{◌≡◌, ◌<◌, ℕ, List, [], ◌∷◌, true, Some, length, map, slice_get, slice_index_or, zero, suc, refl, arith}
use Rattle.cf_row.specs.declared.schema.Attr.{Attr}
use Rattle.cf_row.specs.declared.row.Value.{Value}
use Rattle.cf_row.specs.Row.{is_of_kind, values_fit}
use Rattle.cf_row.proofs.Bytes.{both}

-- a row that fits has a value for each attribute
pub fit_long : (attrs : List Attr) (values : List Value) → values_fit attrs values ≡ true → length values ≡ length attrs
fit_long [] [] h = refl
fit_long [] (v ∷ values) h = absurd (cc h)
fit_long (a ∷ attrs) [] h = absurd (cc h)
fit_long (a ∷ attrs) (v ∷ values) h =
    let rest = fit_long attrs values (both (is_of_kind a.kind v) (values_fit attrs values) h).1 in omega (arith, rest)

pub mapped_at : {A B : Type 0} (f : A → B) (xs : List A) (k : ℕ) (d : A) → k < length xs → slice_get (map f xs) k ≡ Some (f (slice_index_or xs k d))
mapped_at f [] k d lt = absurd (omega (arith, lt))
mapped_at f (x ∷ xs) zero d lt = refl
mapped_at f (x ∷ xs) (suc k) d lt = mapped_at f xs k d (omega (arith, lt))
