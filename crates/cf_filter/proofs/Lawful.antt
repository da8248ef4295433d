-- An expression that was read is of the schema.
use Rattle.std.proofs.Common.{◌≡◌, ℕ, zero, suc, ◌+◌, ◌*◌, ◌-◌, ◌/◌, ◌%◌, ◌^◌, ◌≤◌, ◌<◌, List, [], ◌∷◌, ◌++◌, length, drop, Bool, true, false, ◌&&◌, ◌||◌, not, cond, nat_le, nat_lt, Some, Result, Ok, Err, refl, sym, ap, ◌∙◌, subst, arith, ◌==◌, slice_get, slice_index, length-append}
use Rattle.std.specs.List.{list_all}
use Rattle.std.specs.Str.{bytes_eq}
use Rattle.std.proofs.lemmas.Bool.{and_parts, and_from, leb-true, leb-false, lt-ltb, le-leb, le-ltb, eq-eqb}
use Rattle.std.proofs.lemmas.List.{drop-append-le}
use Rattle.std.proofs.lemmas.List.Folds.{list_all-append}
use Rattle.std.proofs.lemmas.Nat.{pow-add, pow_pos}
use Rattle.std.proofs.Math.ListN.{drop_of_length-le}
use Rattle.std.proofs.Math.Nat.{mul-le-mul_left, lt_of_mul-lt-mul_left, mul-suc}
use Rattle.cf_row.specs.declared.schema.Attr.{Attr}
use Rattle.cf_row.specs.declared.schema.Kind.{Kind}
use Rattle.cf_row.specs.declared.schema.Kind.TheVariants.{U32, Bytes}
use Rattle.cf_row.specs.declared.row.Value.{Value}
use Rattle.cf_row.specs.declared.row.Value.TheVariants.{Num}
use Rattle.cf_row.specs.declared.expr.Atom.{Atom}
use Rattle.cf_row.specs.declared.expr.Op.{Op}
use Rattle.cf_row.specs.declared.expr.Op.TheVariants.{Eq, Ne, Lt, Le, Gt, Ge, Within, Outside}
use Rattle.cf_row.specs.Row.{is_of_kind, is_byte_string}
use Rattle.cf_row.specs.Expr.{suits_kind, is_range, atom_suits_attr, atom_suits, atom_count, is_of_schema, IsOfSchema}
use Rattle.cf_filter.specs.declared.bytes.Class.TheVariants as classes
use Rattle.cf_filter.specs.declared.fault.OffenceAt.{OffenceAt}
use Rattle.cf_filter.specs.declared.atom.Joint.{Joint}
use Rattle.cf_filter.specs.declared.atom.Joint.TheVariants.{End, And, Or}
use Rattle.cf_filter.specs.Tokens.{is_digit, is_between}
use Rattle.cf_filter.specs.Values.{digit_of, digit_from, pair_at, pairs, number_at}
use Rattle.cf_filter.specs.Ranges.{net_from}
use Rattle.cf_filter.specs.Reading.{attr_from, seen_by}
use Rattle.cf_filter.specs.Exprs.{with_atom}
use Rattle.cf_filter.specs.Grammar.{AreBytes, address_of, ValueText, RangeText, BoundsRead, AtomRead, JoinedRead, ConjunctionsRead, ExprRead}
use Rattle.cf_filter.specs.Grammar.ValueText.{decimal, hexadecimal, dotted, bytes}
use Rattle.cf_filter.specs.Grammar.RangeText.{ends, net}
use Rattle.cf_filter.specs.Grammar.ExprRead.{star, conjunctions}
use Rattle.cf_filter.proofs.ValueLaws.{run_all}

-- byte strings

digit_small : (b : ℕ) → digit_of b ≤ 15
digit_small b = by (is_digit b) refl (is_between 65 70 b) refl (is_between 97 102 b) refl
  where
    by : (d : Bool) → is_digit b ≡ d → (c : Bool) → is_between 65 70 b ≡ c → (s : Bool) → is_between 97 102 b ≡ s
        → cond d (b - 48) (cond c (b - 55) (cond s (b - 87) 0)) ≤ 15
    by true d c e s f = let both = and_parts (nat_le 48 b) (nat_le b 57) d in let high = leb-true b 57 both.1 in omega (arith, high)
    by false d true e s f = let both = and_parts (nat_le 65 b) (nat_le b 70) e in let high = leb-true b 70 both.1 in omega (arith, high)
    by false d false e true f = let both = and_parts (nat_le 97 b) (nat_le b 102) f in let high = leb-true b 102 both.1 in omega (arith, high)
    by false d false e false f = omega arith

pair_small : (digits : List ℕ) (i : ℕ) → pair_at digits i < 256
pair_small digits i = by (nat_lt (2 * i + 1) (length digits))
  where
    by : (t : Bool) → cond t (digit_from digits (2 * i) * 16 + digit_from digits (2 * i + 1)) 0 < 256
    by true = let high = digit_small (slice_index digits (2 * i)) in let low = digit_small (slice_index digits (2 * i + 1)) in omega (arith, high, low)
    by false = omega arith

pair_past : (len : ℕ) (digits : List ℕ) (i : ℕ) → length digits ≡ 2 * len → len ≤ i → pair_at digits i ≡ 0
pair_past len digits i size past = rw (le-ltb (2 * i + 1) (length digits) (omega (arith, size, past))) refl

pairs_length : (n : ℕ) (digits : List ℕ) → length (pairs n digits) ≡ n
unfolding pairs
pairs_length zero digits = refl
pairs_length (suc n) digits = let more : length (pairs n digits) ≡ n = pairs_length n digits in length-append (pairs n digits) (pair_at digits n ∷ [])
    ∙ omega (arith, more)

pairs_low : (n : ℕ) (digits : List ℕ) → list_all (λ byte. nat_lt byte 256) (pairs n digits) ≡ true
unfolding pairs
pairs_low zero digits = refl
pairs_low (suc n) digits =
    list_all-append (λ byte. nat_lt byte 256) (pairs n digits) (pair_at digits n ∷ [])
    ∙ rw (pairs_low n digits, lt-ltb (pair_at digits n) 256 (pair_small digits n)) refl

pairs_zero : (len n : ℕ) (digits : List ℕ) → length digits ≡ 2 * len → list_all (λ byte. byte == 0) (drop len (pairs n digits)) ≡ true
unfolding pairs
pairs_zero len zero digits size = ap (list_all (λ byte. byte == 0)) (drop_of_length-le {A = ℕ} [] (omega arith))
pairs_zero len (suc n) digits size = by (pairs_zero len n digits size) (nat_le len n) refl
  where
    by : list_all (λ byte. byte == 0) (drop len (pairs n digits)) ≡ true → (t : Bool) → nat_le len n ≡ t
        → list_all (λ byte. byte == 0) (drop len (pairs n digits ++ pair_at digits n ∷ [])) ≡ true
    by before_zero true t =
        let past = leb-true len n t in
        let size_of = pairs_length n digits in
        let zero_here : pair_at digits n ≡ 0 = pair_past len digits n size past in
        ap (list_all (λ byte. byte == 0)) (drop-append-le len (pairs n digits) (pair_at digits n ∷ []) (omega (arith, past, size_of)))
        ∙ list_all-append (λ byte. byte == 0) (drop len (pairs n digits)) (pair_at digits n ∷ [])
        ∙ rw (before_zero, zero_here) refl
    by before_zero false t =
        let before = leb-false len n t in
        let size_of = pairs_length n digits in
        let whole = length-append (pairs n digits) (pair_at digits n ∷ []) in
        ap (list_all (λ byte. byte == 0)) (drop_of_length-le (pairs n digits ++ pair_at digits n ∷ []) (omega (arith, before, size_of, whole)))

pairs_are : (len : ℕ) (digits : List ℕ) → len ≤ 16 → length digits ≡ 2 * len → is_byte_string len (pairs 16 digits) ≡ true
pairs_are len digits few size =
    rw (le-leb len 16 few, eq-eqb (length (pairs 16 digits)) 16 (pairs_length 16 digits), pairs_low 16 digits) (pairs_zero len 16 digits size)

-- values and ranges

pub value_fits : (kind : Kind) (text : List ℕ) (value : Value) → ValueText kind text value → is_of_kind kind value ≡ true
value_fits kind text value (decimal run v fits) = fits
value_fits kind text value (hexadecimal digits whole run v fits) = fits
value_fits kind text value (dotted a b c d parts small k v) =
    ap (λ kind. is_of_kind kind value) k ∙ ap (is_of_kind U32) v ∙ lt-ltb (address_of a b c d) (2 ^ 32) (address_small a b c d small)
  where
    address_small : (a b c d : List ℕ) → AreBytes a b c d → address_of a b c d < 2 ^ 32
    address_small a b c d small = omega (arith, small.first, small.second, small.third, small.fourth)
value_fits kind text value (bytes len digits k whole run size v) =
    let all = run_all classes.Hex 1 32 digits run in
    ap (λ kind. is_of_kind kind value) k ∙ ap (is_of_kind (Bytes len)) v
    ∙ and_from (len == len) (is_byte_string len (pairs 16 digits)) (eq-eqb len len refl) (pairs_are len digits (omega (arith, all.1, size)) size)

-- the last address that shares its first bits with one below 2^32
net_high : (address bits : ℕ) → address < 2 ^ 32 → bits ≤ 32 → (address - address % 2 ^ (32 - bits)) + (2 ^ (32 - bits) - 1) < 2 ^ 32
net_high address bits small few =
    let size : ℕ = 2 ^ (32 - bits) in
    let some : 0 < size = pow_pos (32 - bits) in
    let split : 32 ≡ (32 - bits) + bits = omega (arith, few) in
    let whole : 2 ^ 32 ≡ size * 2 ^ bits = ap (λ n. 2 ^ n) split ∙ pow-add 2 (32 - bits) bits in
    let parts : size * (address / size) + address % size ≡ address = omega (arith, some) in
    let below : size * (address / size) < size * 2 ^ bits = omega (arith, parts, whole, small) in
    let count : address / size < 2 ^ bits = lt_of_mul-lt-mul_left size below in
    let more : size * suc (address / size) ≤ size * 2 ^ bits = mul-le-mul_left size (omega (arith, count)) in
    let step = mul-suc size (address / size) in
    omega (arith, parts, more, step, whole, some)

pub record AreOfKind (kind : Kind) (range : Value × Value) : Type 0 where
  pub low : is_of_kind kind range.0 ≡ true
  pub high : is_of_kind kind range.1 ≡ true

net_fits : (kind : Kind) (address bits : ℕ) → kind ≡ U32 → address < 2 ^ 32 → bits ≤ 32 → AreOfKind kind (net_from address bits)
net_fits kind address bits k small few =
    let high = net_high address bits small few in record {
      low = ap (λ kind. is_of_kind kind (Num (address - address % 2 ^ (32 - bits)))) k
          ∙ lt-ltb (address - address % 2 ^ (32 - bits)) (2 ^ 32) (omega (arith, small));
      high = ap (λ kind. is_of_kind kind (Num ((address - address % 2 ^ (32 - bits)) + (2 ^ (32 - bits) - 1)))) k
          ∙ lt-ltb ((address - address % 2 ^ (32 - bits)) + (2 ^ (32 - bits) - 1)) (2 ^ 32) high;
    }

address_below : (a b c d : List ℕ) → AreBytes a b c d → address_of a b c d < 2 ^ 32
address_below a b c d small = omega (arith, small.first, small.second, small.third, small.fourth)

range_fits : (kind : Kind) (text : List ℕ) (range : Value × Value) → RangeText kind text range → AreOfKind kind range
range_fits kind text range (ends low high e n first last order) = record { low = value_fits kind low range.0 first; high = value_fits kind high range.1 last }
range_fits kind text range (net a b c d front bits e p small digits few k r) =
    subst (AreOfKind kind) (sym r) (net_fits kind (address_of a b c d) (number_at 10 bits) k (address_below a b c d small) few)

twice_fits : (kind : Kind) (text : List ℕ) (range : Value × Value) → ValueText kind text range.0 × (range.1 ≡ range.0) → AreOfKind kind range
twice_fits kind text range h = let low = value_fits kind text range.0 h.0 in record { low = low; high = ap (is_of_kind kind) h.1 ∙ low }

bounds_fit : (kind : Kind) (op : Op) (text : List ℕ) (range : Value × Value) → BoundsRead kind op text (Ok range) → AreOfKind kind range
bounds_fit kind Within text range h = range_fits kind text range h
bounds_fit kind Outside text range h = range_fits kind text range h
bounds_fit kind Eq text range h = twice_fits kind text range h
bounds_fit kind Ne text range h = twice_fits kind text range h
bounds_fit kind Lt text range h = twice_fits kind text range h
bounds_fit kind Le text range h = twice_fits kind text range h
bounds_fit kind Gt text range h = twice_fits kind text range h
bounds_fit kind Ge text range h = twice_fits kind text range h

-- attributes

-- the attribute at that place has that kind
pub record Stands (attrs : List Attr) (place : ℕ) (kind : Kind) : Type 0 where
  pub attr : Attr
  pub here : slice_get attrs place ≡ Some attr
  pub kind_is : attr.kind ≡ kind

abbrev placed : ℕ → Kind → ℕ × Kind
placed place kind = (place, kind)

attr_stands : (attrs : List Attr) (i : ℕ) (name : List ℕ) (found : ℕ × Kind) → attr_from i attrs name ≡ Some found → (j : ℕ) × (found.0 ≡ i + j)
    × Stands attrs j found.1
attr_stands [] i name found e = cc
attr_stands (attr ∷ attrs) i name found e = by (bytes_eq attr.name name) e (attr_stands attrs (i + 1) name found)
  where
    by : (t : Bool) → cond t (Some (i, attr.kind)) (attr_from (i + 1) attrs name) ≡ Some found
        → (attr_from (i + 1) attrs name ≡ Some found → (j : ℕ) × (found.0 ≡ (i + 1) + j) × Stands attrs j found.1)
        → (j : ℕ) × (found.0 ≡ i + j) × Stands (attr ∷ attrs) j found.1
    by true e more =
        let same : placed i attr.kind ≡ found = cc in
        (0, omega (arith, ap (λ p. p.0) same), record { attr = attr; here = refl; kind_is = ap (λ p. p.1) same })
    by false e more =
        let later = more e in
        let stands = later.2 in
        (suc later.0, omega (arith, later.1), record { attr = stands.attr; here = stands.here; kind_is = stands.kind_is })

pub named_stands : (attrs : List Attr) (name : List ℕ) (found : ℕ × Kind) → attr_from 0 attrs name ≡ Some found → Stands attrs found.0 found.1
named_stands attrs name found e =
    let h = attr_stands attrs 0 name found e in
    let place : h.0 ≡ found.0 = omega (arith, h.1) in
    subst (λ (j : ℕ). Stands attrs j found.1) place h.2

-- atoms

or_true : (b : Bool) → (b || true) ≡ true
or_true true = refl
or_true false = refl

atom_good : (attrs : List Attr) (kind : Kind) (atom : Atom) → Stands attrs atom.attr kind → suits_kind kind atom.op ≡ true → is_of_kind kind atom.low ≡ true
    → is_of_kind kind atom.high ≡ true → atom_suits attrs atom ≡ true
atom_good attrs kind atom stands suits low high =
    ap (atom_suits_attr atom) stands.here
    ∙ ap (λ kind. (suits_kind kind atom.op && is_of_kind kind atom.low) && (not (is_range atom.op) || is_of_kind kind atom.high)) stands.kind_is
    ∙ rw (suits, low, high) (or_true (not (is_range atom.op)))

abbrev atom_rest : Atom → List ℕ → Atom × List ℕ
atom_rest atom rest = (atom, rest)

pub atom_fits : (attrs : List Attr) (text : List ℕ) (found : Atom × List ℕ) → AtomRead attrs text (Ok found) → atom_suits attrs found.0 ≡ true
atom_fits attrs text found h =
    let name = h.0 in
    let name_read = h.1 in
    let then_op = h.2 in
    let op = then_op.0 in
    let op_read = then_op.1 in
    let then_ends = then_op.2 in
    let range = then_ends.0 in
    let ends_read = then_ends.1 in
    let is : atom_rest (record { attr = name.0.0; op = op.0; low = range.0.0; high = range.0.1 }) range.1 ≡ found = same then_ends.2 in
    let fit = bounds_fit name.0.1 op.0 ends_read.1 range.0 ends_read.4 in
    subst (λ (x : Atom × List ℕ). atom_suits attrs x.0 ≡ true) is
    (atom_good attrs name.0.1 (record { attr = name.0.0; op = op.0; low = range.0.0; high = range.0.1 })
    (named_stands attrs name_read.1 name.0 name_read.5) op_read.3 fit.low fit.high)
  where
    same : {p q : Atom × List ℕ} → ◌≡◌ {A = Result (Atom × List ℕ) OffenceAt} (Ok p) (Ok q) → q ≡ p
    same e = cc

-- conjunctions

pub record IsGood (attrs : List Attr) (n : ℕ) (expr : List (List Atom)) : Type 0 where
  pub few : atom_count expr ≤ n
  pub suit : list_all (list_all (atom_suits attrs)) expr ≡ true

alone_good : (attrs : List Attr) (n : ℕ) (atom : Atom) → atom_suits attrs atom ≡ true → IsGood attrs (suc n) ((atom ∷ []) ∷ [])
alone_good attrs n atom good = record { few = omega arith; suit = rw good refl }

with_good : (attrs : List Attr) (n : ℕ) (atom : Atom) (others : List (List Atom)) → atom_suits attrs atom ≡ true → IsGood attrs n others
    → IsGood attrs (suc n) (with_atom atom others)
with_good attrs n atom [] good h = alone_good attrs n atom good
with_good attrs n atom (atoms ∷ others) good h = let few = h.few in record { few = omega (arith, few); suit = rw good h.suit }

before_good : (attrs : List Attr) (n : ℕ) (atom : Atom) (others : List (List Atom)) → atom_suits attrs atom ≡ true → IsGood attrs n others
    → IsGood attrs (suc n) ((atom ∷ []) ∷ others)
before_good attrs n atom others good h = let few = h.few in record { few = omega (arith, few); suit = rw good h.suit }

ok_same : {x y : List (List Atom)} → ◌≡◌ {A = Result (List (List Atom)) OffenceAt} (Ok x) (Ok y) → y ≡ x
ok_same e = cc

joined_good : (attrs : List Attr) (n : ℕ) (atom : Atom) (joint : Joint) (Later : Result (List (List Atom)) OffenceAt → Type 0) (expr : List (List Atom))
    → atom_suits attrs atom ≡ true → ((xs : List (List Atom)) → Later (Ok xs) → IsGood attrs n xs) → JoinedRead atom joint Later (Ok expr)
    → IsGood attrs (suc n) expr
joined_good attrs n atom End Later expr good later h = subst (IsGood attrs (suc n)) (ok_same h) (alone_good attrs n atom good)
joined_good attrs n atom And Later expr good later h = by h.0 h.1 h.2
  where
    by : (r : Result (List (List Atom)) OffenceAt) → Later r → Ok expr ≡ seen_by (with_atom atom) r → IsGood attrs (suc n) expr
    by (Ok xs) l e = subst (IsGood attrs (suc n)) (ok_same e) (with_good attrs n atom xs good (later xs l))
    by (Err stop) l e = cc
joined_good attrs n atom Or Later expr good later h = by h.0 h.1 h.2
  where
    by : (r : Result (List (List Atom)) OffenceAt) → Later r → Ok expr ≡ seen_by (λ others. (atom ∷ []) ∷ others) r → IsGood attrs (suc n) expr
    by (Ok xs) l e = subst (IsGood attrs (suc n)) (ok_same e) (before_good attrs n atom xs good (later xs l))
    by (Err stop) l e = cc

conjunctions_good : (attrs : List Attr) (n : ℕ) (text : List ℕ) (expr : List (List Atom)) → ConjunctionsRead attrs n text (Ok expr) → IsGood attrs n expr
conjunctions_good attrs zero text expr h = clash h.2
  where
    clash : {stop : OffenceAt} → ◌≡◌ {A = Result (List (List Atom)) OffenceAt} (Ok expr) (Err stop) → IsGood attrs zero expr
    clash e = cc
conjunctions_good attrs (suc n) text expr h =
    let atom = h.0 in
    let then_joint = h.2 in
    let joint = then_joint.0 in
    joined_good attrs n atom.0 joint.0 (ConjunctionsRead attrs n joint.1) expr (atom_fits attrs text atom h.1)
    (λ xs l. conjunctions_good attrs n joint.1 xs l) then_joint.2

good_schema : (attrs : List Attr) (expr : List (List Atom)) → IsGood attrs 32 expr → IsOfSchema attrs expr
good_schema attrs expr h = rw (le-leb (atom_count expr) 32 h.few) h.suit

pub expr_fits : (attrs : List Attr) (text : List ℕ) (expr : List (List Atom)) → ExprRead attrs text (Ok expr) → IsOfSchema attrs expr
expr_fits attrs text expr (star rest sp h) = ap (is_of_schema attrs) h.1
expr_fits attrs text expr (conjunctions here sp none h) = good_schema attrs expr (conjunctions_good attrs 32 text expr h)
