-- Keys have two nibbles at least.
use Rattle.std.proofs.Common.{◌≡◌, ℕ, ◌<◌, zero, suc, List, [], ◌∷◌, length, get_or, Bool, true, false, ◌&&◌, Option, Some, None, slice_get, refl, arith}
use Rattle.std.specs.List.{list_all}
use Rattle.cf_row.specs.declared.schema.Attr.{Attr}
use Rattle.cf_row.specs.declared.schema.Kind.{Kind}
use Rattle.cf_row.specs.declared.schema.Kind.TheVariants.{U8, U16, U32, U64, Bytes}
use Rattle.cf_row.specs.Expr.{is_of_schema}
use Rattle.cf_shape.specs.declared.lane.Lane.{Lane}
use Rattle.cf_shape.specs.declared.lane.Key.{Key}
use Rattle.cf_shape.specs.declared.lane.Key.TheVariants as keys
use Rattle.cf_shape.specs.Lanes.{ShapeValue, IsShape, lane_at, no_lane, is_number, option_passes, is_lawful_lane, is_lawful_key, is_lawful_measure}
use Rattle.cf_shape.specs.Nodes.{levels_of, nibbles_of_kind, nibbles_of_attr, nibbles_of_key}

both_left : (a b : Bool) → a && b ≡ true → a ≡ true
both_left true b both = refl
both_left false b both = both

both_right : (a b : Bool) → a && b ≡ true → b ≡ true
both_right true b both = both
both_right false b both = cc

pub lawful_at : (attrs : List Attr) (lanes : List Lane) (lane : ℕ) → lane < length lanes → list_all (is_lawful_lane attrs) lanes ≡ true
    → is_lawful_lane attrs (get_or lanes lane no_lane) ≡ true
lawful_at attrs [] lane lt all = absurd (omega (arith, lt))
lawful_at attrs (first ∷ lanes) zero lt all = both_left _ _ all
lawful_at attrs (first ∷ lanes) (suc lane) lt all = lawful_at attrs lanes lane (omega (arith, lt)) (both_right _ _ all)

kind_levels : (kind : Kind) → is_number kind ≡ true → 1 < nibbles_of_kind kind
kind_levels U8 h = omega arith
kind_levels U16 h = omega arith
kind_levels U32 h = omega arith
kind_levels U64 h = omega arith
kind_levels (Bytes k) h = absurd (cc h)

attr_levels : (attr : Option Attr) → option_passes is_number attr ≡ true → 1 < nibbles_of_attr attr
attr_levels None h = absurd (cc h)
attr_levels (Some attr) h = kind_levels attr.kind h

key_levels : (attrs : List Attr) (key : Key) → is_lawful_key attrs key ≡ true → 1 < nibbles_of_key attrs key
key_levels attrs (keys.Attr attr) h = attr_levels (slice_get attrs attr) h
key_levels attrs keys.Bucket h = omega arith
key_levels attrs (keys.BucketBy attr) h = omega arith

pub levels_two : (s : ShapeValue) (l : ℕ) → IsShape s → l < length s.lanes → 1 < levels_of s l
levels_two s l is lt =
    let lane = lane_at s l in
    let a = both_left (is_of_schema s.schema lane.select && is_lawful_key s.schema lane.key) (is_lawful_measure s.schema lane.measure)
    (lawful_at s.schema s.lanes l lt is.lanes) in
    key_levels s.schema lane.key (both_right (is_of_schema s.schema lane.select) (is_lawful_key s.schema lane.key) a)
