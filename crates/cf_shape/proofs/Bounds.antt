-- The words of a lawful shape are few, so no sum of places overflows.
use Rattle.std.proofs.Common.{◌≡◌, ◌+◌, ◌*◌, ◌≤◌, true, ◌&&◌, List, [], ◌∷◌, refl, arith}
use Rattle.std.specs.List.{list_all}
use Rattle.std.proofs.lemmas.Bool.{and_from}
use Rattle.cf_row.specs.declared.schema.TheConstants.{MOST_ATTRS}
use Rattle.cf_row.proofs.Truths.{both}
use Rattle.cf_row.specs.declared.schema.Attr.{Attr}
use Rattle.cf_row.specs.Expr.{is_of_schema}
use Rattle.cf_shape.specs.declared.lane.Lane.{Lane}
use Rattle.cf_shape.specs.Faults.{AreLanesOf, is_lane_of, key_exists, measure_exists, have_good_keys, have_good_measures}
use Rattle.std.proofs.lemmas.Nat.{mul-le}
use Rattle.cf_row.proofs.Counts as rows
use Rattle.cf_shape.specs.Lanes.{ShapeValue, IsShape, is_lawful_lane, is_lawful_key, is_lawful_measure}
use Rattle.cf_shape.specs.Uses.{ticket_words}
use Rattle.cf_shape.specs.Places.{sizes_of, roots_at, nodes_at, word_total}
use Rattle.cf_shape.proofs.Counts.{count_low}

pub ticket_few : (s : ShapeValue) → IsShape s → ticket_words s ≤ 2 * MOST_ATTRS + 50
ticket_few s is = let a = is.schema.few in let b = is.few in omega (arith, a, b, rows.count_low s.schema, count_low s.lanes)

pub roots_small : (s : ShapeValue) → IsShape s → roots_at (sizes_of s) ≤ 65536 * (2 * MOST_ATTRS + 50) + 2
roots_small s is = omega (arith, mul-le s.capacity (ticket_words s) 65536 (2 * MOST_ATTRS + 50) is.capacity.1 (ticket_few s is))

pub nodes_small : (s : ShapeValue) → IsShape s → nodes_at (sizes_of s) ≤ 65536 * (2 * MOST_ATTRS + 50) + 258
nodes_small s is = let b = is.few in omega (arith, b, roots_small s is)

pub writers_nodes_small : (s : ShapeValue) → IsShape s → s.writers * s.nodes ≤ 983040
writers_nodes_small s is = mul-le s.writers s.nodes 15 65536 is.writers.1 is.nodes

pub total_small : (s : ShapeValue) → IsShape s → word_total (sizes_of s) ≤ 65536 * (2 * MOST_ATTRS + 50) + 236912898
total_small s is =
    let b = is.writers.1 in
    let few : 1 + 16 * s.writers ≤ 241 = omega (arith, b) in
    omega (arith, nodes_small s is, mul-le (s.writers * s.nodes) (1 + 16 * s.writers) 983040 241 (writers_nodes_small s is) few)

pub lanes_lawful : (attrs : List Attr) (lanes : List Lane) → AreLanesOf attrs lanes → have_good_keys attrs lanes ≡ true
    → have_good_measures attrs lanes ≡ true → list_all (is_lawful_lane attrs) lanes ≡ true
lanes_lawful attrs [] of keys measures = refl
lanes_lawful attrs (x ∷ xs) of keys measures =
    let o = both (is_lane_of attrs x) (list_all (is_lane_of attrs) xs) of in
    let p = both (is_of_schema attrs x.select && key_exists attrs x.key) (measure_exists attrs x.measure) o.0 in
    let q = both (is_of_schema attrs x.select) (key_exists attrs x.key) p.0 in
    let k = both (is_lawful_key attrs x.key) (have_good_keys attrs xs) keys in
    let m = both (is_lawful_measure attrs x.measure) (have_good_measures attrs xs) measures in
    and_from (is_lawful_lane attrs x) (list_all (is_lawful_lane attrs) xs)
    (and_from (is_of_schema attrs x.select && is_lawful_key attrs x.key) (is_lawful_measure attrs x.measure)
    (and_from (is_of_schema attrs x.select) (is_lawful_key attrs x.key) q.0 k.0) m.0)
    (lanes_lawful attrs xs o.1 k.1 m.1)
