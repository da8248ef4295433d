-- Keys of rows that fit are numbers of 64 bits.
use Rattle.std.proofs.Common.{◌≡◌, ℕ, zero, suc, ◌/◌, ◌<◌, ◌^◌, true, false, List, [], ◌∷◌, get_or, map, fold, None, refl, sym, inl, inr, arith}
use Rattle.std.proofs.Math.Nat.{div-le_self}
use Rattle.std.proofs.lemmas.Bool.{and_parts, cases_order, eq-eqb, false≢true, le-ltb, lt-ltb, ltb-true, ne_eqb}
use Rattle.std.specs.List.{AllByRecursion}
use Rattle.std.specs.Option.{unwrap_or}
use Rattle.cf_row.specs.declared.schema.Attr.{Attr}
use Rattle.cf_row.specs.declared.schema.Kind.{Kind}
use Rattle.cf_row.specs.declared.schema.Kind.TheVariants.{U8, U16, U32, U64, Bytes}
use Rattle.cf_row.specs.declared.row.Value.{Value}
use Rattle.cf_row.specs.declared.row.Value.TheVariants.{Num, Raw}
use Rattle.cf_row.specs.Row.{Fits, RowValue, is_of_kind, values_fit}
use Rattle.cf_row.specs.Expr.{number_of}
use Rattle.cf_row.specs.Times.{time_of}
use Rattle.cf_shape.specs.Lanes.{ShapeValue, by_in, by_of, group_key, has_by, key_by, key_of, lane_at}
use Rattle.cf_shape.specs.declared.lane.Key.{Key}
use Rattle.cf_shape.specs.declared.lane.Key.TheVariants as keys
use Rattle.cf_plain.specs.Groups.{ascending, insert_into}
use Rattle.cf_watch.specs.Pairs.{apart_by}

value_low : (kind : Kind) (value : Value) → is_of_kind kind value ≡ true → number_of value < 2 ^ 64
value_low U8 (Num n) fits = let lt : n < 2 ^ 8 = ltb-true n (2 ^ 8) fits in omega arith
value_low U16 (Num n) fits = let lt : n < 2 ^ 16 = ltb-true n (2 ^ 16) fits in omega arith
value_low U32 (Num n) fits = let lt : n < 2 ^ 32 = ltb-true n (2 ^ 32) fits in omega arith
value_low U64 (Num n) fits = ltb-true n (2 ^ 64) fits
value_low (Bytes k) (Num n) fits = absurd (false≢true fits)
value_low kind (Raw len bytes) fits = omega arith

values_low : (attrs : List Attr) (values : List Value) (i : ℕ) → values_fit attrs values ≡ true → number_of (get_or values i (Num 0)) < 2 ^ 64
values_low [] [] i fits = omega arith
values_low [] (value ∷ values) i fits = absurd (false≢true fits)
values_low (attr ∷ attrs) [] i fits = absurd (false≢true fits)
values_low (attr ∷ attrs) (value ∷ values) zero fits = value_low attr.kind value (and_parts (is_of_kind attr.kind value) (values_fit attrs values) fits).0
values_low (attr ∷ attrs) (value ∷ values) (suc i) fits = values_low attrs values i (and_parts (is_of_kind attr.kind value) (values_fit attrs values) fits).1

bucket_low : (shape : ShapeValue) (row : RowValue) → Fits shape.schema row → time_of shape.schema row / shape.width < 2 ^ 64
bucket_low shape row fits =
    let low : time_of shape.schema row < 2 ^ 64 = values_low shape.schema row.values _ fits in
    let le = div-le_self (time_of shape.schema row) shape.width in omega (arith, low, le)

by_key : (shape : ShapeValue) (key : Key) (row : RowValue) → Fits shape.schema row → key_by shape key row < 2 ^ 64
by_key shape (keys.Attr attr) row fits = values_low shape.schema row.values attr fits
by_key shape keys.Bucket row fits = bucket_low shape row fits
by_key shape (keys.BucketBy attr) row fits = bucket_low shape row fits

pub key_low : (shape : ShapeValue) (lane : ℕ) (row : RowValue) → Fits shape.schema row → key_of shape lane row < 2 ^ 64
key_low shape lane row fits = by_key shape (lane_at shape lane).key row fits

in_low : (shape : ShapeValue) (key : Key) (row : RowValue) → Fits shape.schema row → unwrap_or (by_in key row) 0 < 2 ^ 64
in_low shape (keys.Attr attr) row fits = omega arith
in_low shape keys.Bucket row fits = omega arith
in_low shape (keys.BucketBy attr) row fits = values_low shape.schema row.values attr fits

pub by_low : (shape : ShapeValue) (lane : ℕ) (row : RowValue) → Fits shape.schema row → apart_by shape lane row < 2 ^ 64
by_low shape lane row fits = in_low shape (lane_at shape lane).key row fits

-- a lane that keeps no keys apart
no_by : (key : Key) (row : RowValue) → has_by key ≡ false → by_in key row ≡ None
no_by (keys.Attr attr) row none = refl
no_by keys.Bucket row none = refl
no_by (keys.BucketBy attr) row none = absurd (false≢true (sym none))

pub plain_key : (shape : ShapeValue) (lane : ℕ) (row : RowValue) → has_by (lane_at shape lane).key ≡ false → group_key shape lane row ≡ key_of shape lane row
plain_key shape lane row none = let e : by_of shape lane row ≡ None = no_by (lane_at shape lane).key row none in rw e refl

pub plain_keys : (shape : ShapeValue) (lane : ℕ) (rows : List RowValue) → has_by (lane_at shape lane).key ≡ false
    → map (group_key shape lane) rows ≡ map (key_of shape lane) rows
plain_keys shape lane [] none = refl
plain_keys shape lane (row ∷ rows) none = rw (plain_key shape lane row none, plain_keys shape lane rows none) refl

-- ascending numbers
abbrev pub AreLow : List ℕ → Type 0
AreLow ns = AllByRecursion (λ n. n < 2 ^ 64) ns

low_into : (ns : List ℕ) (n : ℕ) → AreLow ns → n < 2 ^ 64 → AreLow (insert_into ns n)
low_into [] n low lt = (lt, tt)
low_into (m ∷ ms) n low lt = elim (cases_order n m) [
  | inl e ↦ rw (le-ltb n m (omega (arith, e)), eq-eqb n m e) low
  | inr (inl below) ↦ rw (lt-ltb n m below) (lt, low)
  | inr (inr above) ↦ rw (le-ltb n m (omega (arith, above)), ne_eqb n m (λ e. omega (arith, e, above))) (low.0, low_into ms n low.1 lt)
]

low_from : (ms ns : List ℕ) → AreLow ms → AreLow ns → AreLow (fold insert_into ms ns)
low_from ms [] low lows = low
low_from ms (n ∷ ns) low lows = low_from (insert_into ms n) ns (low_into ms n low lows.0) lows.1

pub low_ascending : (ns : List ℕ) → AreLow ns → AreLow (ascending ns)
low_ascending ns low = low_from [] ns tt low
