-- The keys of lanes, and how many nibbles they have.
use Rattle.std.proofs.Common.{◌≡◌, ◌∙◌, ℕ, zero, suc, ◌^◌, ◌<◌, ◌≤◌, List, [], ◌∷◌, length, get_or, true, false, ◌&&◌, Option, Some, None, slice_get, refl, sym, ap, arith}
use Rattle.std.specs.List.{list_all}
use Rattle.std.proofs.lemmas.Bool.{ltb-true}
use Rattle.std.proofs.Math.Nat.{div-le_self}
use Rattle.cf_row.specs.declared.schema.Attr.{Attr}
use Rattle.cf_row.specs.declared.schema.Kind.{Kind}
use Rattle.cf_row.specs.declared.schema.Kind.TheVariants.{U8, U16, U32, U64, Bytes}
use Rattle.cf_row.specs.declared.row.Value.{Value}
use Rattle.cf_row.specs.declared.row.Value.TheVariants.{Num, Raw}
use Rattle.cf_row.specs.Row.{RowValue, Fits, is_of_kind, values_fit, value_at}
use Rattle.cf_row.specs.Expr.{is_of_schema, number_of}
use Rattle.cf_row.specs.Times.{number_at, time_of}
use Rattle.cf_row.specs.Schema.{ts_place}
use Rattle.cf_row.proofs.Bytes.{both}
use Rattle.cf_shape.specs.declared.lane.Lane.{Lane}
use Rattle.cf_shape.specs.declared.lane.Key.{Key}
use Rattle.cf_shape.specs.declared.lane.Key.TheVariants as keys
use Rattle.cf_shape.specs.Lanes.{ShapeValue, IsShape, no_lane, lane_at, bucket_of, key_by, key_of, has_by, by_in, both_keys, group_key, option_passes, is_number, is_lawful_key, is_lawful_measure, is_lawful_lane}
use Rattle.cf_shape.specs.Nodes.{nibbles_of_kind, nibbles_of_attr, nibbles_of_key, levels_of}

lawful_at : (attrs : List Attr) (lanes : List Lane) (l : ℕ) → list_all (is_lawful_lane attrs) lanes ≡ true → l < length lanes
    → is_lawful_lane attrs (get_or lanes l no_lane) ≡ true
lawful_at attrs [] l h lt = absurd (omega (arith, lt))
lawful_at attrs (x ∷ xs) zero h lt = (both (is_lawful_lane attrs x) (list_all (is_lawful_lane attrs) xs) h).0
lawful_at attrs (x ∷ xs) (suc l) h lt = lawful_at attrs xs l (both (is_lawful_lane attrs x) (list_all (is_lawful_lane attrs) xs) h).1 (omega (arith, lt))

lawful_key : (shape : ShapeValue) (l : ℕ) → IsShape shape → l < length shape.lanes → is_lawful_key shape.schema (lane_at shape l).key ≡ true
lawful_key shape l is lt =
    let lane = lane_at shape l in
    let all = lawful_at shape.schema shape.lanes l is.lanes lt in
    let front = both (is_of_schema shape.schema lane.select && is_lawful_key shape.schema lane.key) (is_lawful_measure shape.schema lane.measure) all in
    (both (is_of_schema shape.schema lane.select) (is_lawful_key shape.schema lane.key) front.0).1

kind_levels : (k : Kind) → is_number k ≡ true → (2 ≤ nibbles_of_kind k) × (nibbles_of_kind k ≤ 16)
kind_levels (Bytes n) h = absurd (cc)
kind_levels U8 h = (omega arith, omega arith)
kind_levels U16 h = (omega arith, omega arith)
kind_levels U32 h = (omega arith, omega arith)
kind_levels U64 h = (omega arith, omega arith)

attr_levels : (o : Option Attr) → option_passes is_number o ≡ true → (2 ≤ nibbles_of_attr o) × (nibbles_of_attr o ≤ 16)
attr_levels None h = absurd (cc)
attr_levels (Some attr) h = kind_levels attr.kind h

key_levels : (attrs : List Attr) (key : Key) → is_lawful_key attrs key ≡ true → (2 ≤ nibbles_of_key attrs key) × (nibbles_of_key attrs key ≤ 16)
key_levels attrs (keys.Attr a) h = attr_levels (slice_get attrs a) h
key_levels attrs keys.Bucket h = (omega arith, omega arith)
key_levels attrs (keys.BucketBy a) h = (omega arith, omega arith)

-- a lane's keys have between 2 and 16 nibbles
pub some_levels : (shape : ShapeValue) (l : ℕ) → IsShape shape → l < length shape.lanes → (2 ≤ levels_of shape l) × (levels_of shape l ≤ 16)
some_levels shape l is lt = key_levels shape.schema (lane_at shape l).key (lawful_key shape l is lt)

-- A key of a row that fits is below all numbers of more nibbles.
number_small : (k : Kind) (v : Value) → is_of_kind k v ≡ true → is_number k ≡ true → number_of v < 16 ^ nibbles_of_kind k
number_small U8 (Num n) h num = ltb-true n (2 ^ 8) h
number_small U16 (Num n) h num = ltb-true n (2 ^ 16) h
number_small U32 (Num n) h num = ltb-true n (2 ^ 32) h
number_small U64 (Num n) h num = ltb-true n (2 ^ 64) h
number_small (Bytes k) v h num = absurd (cc)
number_small U8 (Raw l b) h num = absurd (cc)
number_small U16 (Raw l b) h num = absurd (cc)
number_small U32 (Raw l b) h num = absurd (cc)
number_small U64 (Raw l b) h num = absurd (cc)

value_small : (k : Kind) (v : Value) → is_of_kind k v ≡ true → number_of v < 2 ^ 64
value_small U8 (Num n) h = (let lt = ltb-true n (2 ^ 8) h in omega (arith, lt))
value_small U16 (Num n) h = (let lt = ltb-true n (2 ^ 16) h in omega (arith, lt))
value_small U32 (Num n) h = (let lt = ltb-true n (2 ^ 32) h in omega (arith, lt))
value_small U64 (Num n) h = ltb-true n (2 ^ 64) h
value_small (Bytes k) (Num n) h = absurd (cc)
value_small U8 (Raw l b) h = omega arith
value_small U16 (Raw l b) h = omega arith
value_small U32 (Raw l b) h = omega arith
value_small U64 (Raw l b) h = omega arith
value_small (Bytes k) (Raw l b) h = omega arith

value_fits : (attrs : List Attr) (values : List Value) (a : ℕ) (attr : Attr) → values_fit attrs values ≡ true → slice_get attrs a ≡ Some attr
    → is_of_kind attr.kind (get_or values a (Num 0)) ≡ true
value_fits [] values a attr fits at = absurd (cc)
value_fits (x ∷ xs) [] a attr fits at = absurd (cc)
value_fits (x ∷ xs) (v ∷ vs) zero attr fits at =
    (let e : x ≡ attr = cc at in ap (λ (y : Attr). is_of_kind y.kind v) (sym e) ∙ (both (is_of_kind x.kind v) (values_fit xs vs) fits).0)
value_fits (x ∷ xs) (v ∷ vs) (suc a) attr fits at = value_fits xs vs a attr (both (is_of_kind x.kind v) (values_fit xs vs) fits).1 at

number_fits : (attrs : List Attr) (values : List Value) (a : ℕ) → values_fit attrs values ≡ true → number_of (get_or values a (Num 0)) < 2 ^ 64
number_fits [] [] a fits = omega arith
number_fits [] (v ∷ vs) a fits = absurd (cc)
number_fits (x ∷ xs) [] a fits = absurd (cc)
number_fits (x ∷ xs) (v ∷ vs) zero fits = value_small x.kind v (both (is_of_kind x.kind v) (values_fit xs vs) fits).0
number_fits (x ∷ xs) (v ∷ vs) (suc a) fits = number_fits xs vs a (both (is_of_kind x.kind v) (values_fit xs vs) fits).1

attr_small : (attrs : List Attr) (row : RowValue) (a : ℕ) (attr : Option Attr) → values_fit attrs row.values ≡ true → slice_get attrs a ≡ attr
    → option_passes is_number attr ≡ true → number_at row a < 16 ^ nibbles_of_attr attr
attr_small attrs row a None fits at lawful = absurd (cc)
attr_small attrs row a (Some attr) fits at lawful = number_small attr.kind (value_at row a) (value_fits attrs row.values a attr fits at) lawful

bucket_small : (shape : ShapeValue) (row : RowValue) → Fits shape.schema row → bucket_of shape row < 16 ^ 16
bucket_small shape row fits =
    let t = number_fits shape.schema row.values (ts_place shape.schema) fits in
    let d = div-le_self (time_of shape.schema row) shape.width in
    omega (arith, t, d)

key_small_by : (shape : ShapeValue) (row : RowValue) (key : Key) → Fits shape.schema row → is_lawful_key shape.schema key ≡ true
    → key_by shape key row < 16 ^ nibbles_of_key shape.schema key
key_small_by shape row (keys.Attr a) fits lawful = attr_small shape.schema row a (slice_get shape.schema a) fits refl lawful
key_small_by shape row keys.Bucket fits lawful = bucket_small shape row fits
key_small_by shape row (keys.BucketBy a) fits lawful = bucket_small shape row fits

pub key_small : (shape : ShapeValue) (l : ℕ) (row : RowValue) → IsShape shape → l < length shape.lanes → Fits shape.schema row
    → key_of shape l row < 16 ^ levels_of shape l
key_small shape l row is lt fits = key_small_by shape row (lane_at shape l).key fits (lawful_key shape l is lt)

-- The rows of a key that aren't kept apart go by the key alone.
alone_by : (shape : ShapeValue) (row : RowValue) (key : Key) → has_by key ≡ false → both_keys (key_by shape key row) (by_in key row) ≡ key_by shape key row
alone_by shape row (keys.Attr a) alone = refl
alone_by shape row keys.Bucket alone = refl
alone_by shape row (keys.BucketBy a) alone = absurd (cc)

pub key_alone : (shape : ShapeValue) (l : ℕ) → has_by (lane_at shape l).key ≡ false → (row : RowValue) → group_key shape l row ≡ key_of shape l row
key_alone shape l alone row = alone_by shape row (lane_at shape l).key alone
