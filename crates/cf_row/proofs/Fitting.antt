-- Which values fit a schema.
use Rattle.std.proofs.Common.{◌≡◌, ℕ, suc, ◌<◌, ◌≤◌, Bool, true, false, ◌&&◌, nat_lt, ◌==◌, List, [], ◌∷◌, length, drop, get_or, refl, arith}
use Rattle.std.proofs.lemmas.Bool.{le-leb, lt-ltb, eq-eqb}
use Rattle.std.specs.List.{list_all}
use Rattle.cf_row.specs.declared.schema.Attr.{Attr}
use Rattle.cf_row.specs.declared.row.Value.{Value}
use Rattle.cf_row.specs.Row.{is_of_kind, values_fit, is_byte_string}

and_false : (b : Bool) → (b && false) ≡ false
and_false true = refl
and_false false = refl

-- as many values as attributes
pub values_apart : (attrs : List Attr) (values : List Value) → (length attrs ≡ length values → ⊥) → values_fit attrs values ≡ false
values_apart [] [] apart = absurd (apart refl)
values_apart [] (value ∷ values) apart = refl
values_apart (attr ∷ attrs) [] apart = refl
values_apart (attr ∷ attrs) (value ∷ values) apart =
    rw (values_apart attrs values (λ same. apart (omega (arith, same)))) (and_false (is_of_kind attr.kind value))

pub bytes_low : (xs : List ℕ) → ((k : ℕ) → k < length xs → get_or xs k 0 < 256) → list_all (λ byte. nat_lt byte 256) xs ≡ true
bytes_low [] low = refl
bytes_low (x ∷ xs) low =
    let first : x < 256 = low 0 (omega arith) in rw (lt-ltb x 256 first) (bytes_low xs (λ k lt. low (suc k) (omega (arith, lt))))

pub byte_string : (len : ℕ) (bytes : List ℕ) → len ≤ 16 → length bytes ≡ 16 → list_all (λ byte. nat_lt byte 256) bytes ≡ true
    → list_all (λ byte. byte == 0) (drop len bytes) ≡ is_byte_string len bytes
byte_string len bytes few size low = rw (le-leb len 16 few, eq-eqb (length bytes) 16 size, low) refl
