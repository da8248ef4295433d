-- A row of a packet is made of its words as they are.
use Rattle.std.proofs.Common.{◌≡◌, ℕ, suc, zero, ◌≤◌, ◌^◌, true, nat_lt, List, [], ◌∷◌, length, map, refl, arith}
use Rattle.std.proofs.lemmas.List.{length-map}
use Rattle.std.specs.List.{list_all}
use Rattle.std.proofs.lemmas.Bool.{and_from, and_parts, lt-ltb, ltb-true}
use Rattle.cf_row.specs.declared.schema.TheConstants.{MOST_ATTRS}
use Rattle.cf_row.specs.declared.schema.Attr.{Attr}
use Rattle.cf_row.specs.declared.schema.Kind.{Kind}
use Rattle.cf_row.specs.declared.schema.Kind.TheVariants.{U8, U16, U32, U64, Bytes}
use Rattle.cf_row.specs.declared.row.Value.{Value}
use Rattle.cf_row.specs.declared.row.Value.TheVariants.{Num, Raw}
use Rattle.cf_row.specs.Row.{values_fit, is_of_kind}
use Rattle.cf_row.specs.Schema.{has_good_size}
use Rattle.cf_row.specs.Words.{values_words}
use Rattle.cf_row.specs.Kept.{AreKept, attrs_of, kind_of, len_of, values_kept}
use Rattle.cf_row.proofs.Kept.{packed_kept}

number_kept : (n m : ℕ) → nat_lt n m ≡ true → m ≤ 2 ^ 64 → nat_lt n (2 ^ 64) ≡ true
number_kept n m low few = let lt = ltb-true n m low in lt-ltb n (2 ^ 64) (omega (arith, lt, few))

-- a value of a kind of a schema is of the kind that is kept for its length
wide_fits : (k : Kind) (v : Value) → has_good_size k ≡ true → is_of_kind k v ≡ true → is_of_kind (kind_of (len_of k)) v ≡ true
wide_fits U8 (Num n) good is = number_kept n (2 ^ 8) is (omega arith)
wide_fits U16 (Num n) good is = number_kept n (2 ^ 16) is (omega arith)
wide_fits U32 (Num n) good is = number_kept n (2 ^ 32) is (omega arith)
wide_fits U64 (Num n) good is = is
wide_fits (Bytes zero) v good is = absurd (cc good)
wide_fits (Bytes (suc k)) v good is = is
wide_fits U8 (Raw len bytes) good is = absurd (cc is)
wide_fits U16 (Raw len bytes) good is = absurd (cc is)
wide_fits U32 (Raw len bytes) good is = absurd (cc is)
wide_fits U64 (Raw len bytes) good is = absurd (cc is)

all_wide : (attrs : List Attr) (vs : List Value) → list_all (λ attr. has_good_size attr.kind) attrs ≡ true → values_fit attrs vs ≡ true
    → values_fit (attrs_of (map (λ attr. len_of attr.kind) attrs)) vs ≡ true
all_wide [] [] good fits = refl
all_wide [] (v ∷ vs) good fits = absurd (cc fits)
all_wide (a ∷ attrs) [] good fits = absurd (cc fits)
all_wide (a ∷ attrs) (v ∷ vs) good fits =
    let g = and_parts (has_good_size a.kind) (list_all (λ (attr : Attr). has_good_size attr.kind) attrs) good in
    let f = and_parts (is_of_kind a.kind v) (values_fit attrs vs) fits in
    and_from _ _ (wide_fits a.kind v g.0 f.0) (all_wide attrs vs g.1 f.1)

-- words that spell values of a schema are kept as they are
pub words_kept : (attrs : List Attr) (vs : List Value) (words : List ℕ) → list_all (λ attr. has_good_size attr.kind) attrs ≡ true
    → length attrs ≤ MOST_ATTRS → values_fit attrs vs ≡ true → words ≡ values_words vs
    → AreKept (map (λ attr. len_of attr.kind) attrs) words × (values_kept (map (λ attr. len_of attr.kind) attrs) words ≡ vs)
words_kept attrs vs words good few fits spell =
    packed_kept (map (λ attr. len_of attr.kind) attrs) words vs (omega (arith, few, length-map attrs (λ (attr : Attr). len_of attr.kind))) spell
    (all_wide attrs vs good fits)
