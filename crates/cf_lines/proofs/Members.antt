-- The members of a list, read one after another.
use Rattle.std.proofs.Common.{◌≡◌, ◌≤◌, ℕ, zero, suc, ◌<◌, List, [], ◌∷◌, ◌++◌, length, drop, true, false, nat_le, ◌==◌, Option, Some, None, refl, sym, ap, arith, append_assoc, All, get_or, inl, inr, ◌||◌}
use Rattle.std.specs.List.{list_all}
use Rattle.std.specs.Option.{option_map}
use Rattle.std.proofs.lemmas.Bool.{le-leb, lt-leb, leb-true, and_parts, or_cases, eqb-true}
use Rattle.cf_row.specs.declared.schema.Attr.{Attr}
use Rattle.cf_row.specs.declared.schema.SchemaFault.{SchemaFault}
use Rattle.cf_row.specs.declared.schema.SchemaFault.TheVariants.{TooMany, NameTwice, NoTs, BadSize, Memory}
use Rattle.cf_row.specs.Schema.{IsSchema, HasFault}
use Rattle.cf_filter.specs.declared.bytes.Class.TheVariants as classes
use Rattle.cf_filter.specs.Tokens.{passes, run, past, is_between}
use Rattle.cf_lines.specs.Schemas.{member_at, attrs_at, is_schema, schema_at}

-- the attributes so far and those of the members that are left
abbrev pub read_on : List Attr → ℕ → List ℕ → Option (List Attr)
read_on front n text = option_map (λ more. front ++ more) (attrs_at n text)

pub read_start : (n : ℕ) (text : List ℕ) → read_on [] n text ≡ attrs_at n text
read_start n text = elim (attrs_at n text) as (λ o. option_map (λ more. [] ++ more) o ≡ o) [ Some xs ↦ refl | None ↦ refl ]

pub read_bad : (front : List Attr) (m n : ℕ) (text : List ℕ) → m ≡ suc n → member_at (run (classes.Except 44) text) ≡ None → read_on front m text ≡ None
unfolding attrs_at
read_bad front m n text e h = rw (e, h) refl

pub read_last : (front : List Attr) (m n : ℕ) (text : List ℕ) (attr : Attr) → m ≡ suc n → member_at (run (classes.Except 44) text) ≡ Some attr
    → (length (past (classes.Except 44) text) == 0) ≡ true → read_on front m text ≡ Some (front ++ attr ∷ [])
unfolding attrs_at
read_last front m n text attr e h last = rw (e, h, last) refl

joined : (front : List Attr) (attr : Attr) (o : Option (List Attr))
    → option_map (λ more. front ++ more) (option_map (λ attrs. attr ∷ attrs) o) ≡ option_map (λ more. (front ++ attr ∷ []) ++ more) o
joined front attr (Some xs) = ap Some (sym (append_assoc front (attr ∷ []) xs))
joined front attr None = refl

pub read_more : (front : List Attr) (m n : ℕ) (text : List ℕ) (attr : Attr) → m ≡ suc n → member_at (run (classes.Except 44) text) ≡ Some attr
    → (length (past (classes.Except 44) text) == 0) ≡ false → read_on front m text ≡ read_on (front ++ attr ∷ []) n (drop 1 (past (classes.Except 44) text))
unfolding attrs_at
read_more front m n text attr e h more = rw (e, h, more) (joined front attr (attrs_at n (drop 1 (past (classes.Except 44) text))))

pub read_full : (front : List Attr) (text : List ℕ) → read_on front 0 text ≡ None
unfolding attrs_at
read_full front text = refl

-- the tests of a schema

pub schema_is : (attrs : List Attr) → IsSchema attrs → length attrs ≤ 24 → is_schema attrs ≡ true
schema_is attrs h few = rw (le-leb (length attrs) 24 few, h.apart, h.stamped, h.sized) refl

pub schema_is_not : (attrs : List Attr) (fault : SchemaFault) → HasFault attrs fault → is_schema attrs ≡ false
schema_is_not attrs TooMany h = rw (lt-leb (length attrs) 24 h) refl
schema_is_not attrs NameTwice h = rw (le-leb (length attrs) 24 h.0, h.1) refl
schema_is_not attrs NoTs h = rw (le-leb (length attrs) 24 h.0, h.1, h.2) refl
schema_is_not attrs BadSize h = rw (le-leb (length attrs) 24 h.0, h.1, h.2, h.3) refl
schema_is_not attrs Memory h = absurd h

pub schema_some : (list : List ℕ) (attrs : List Attr) → attrs_at 24 list ≡ Some attrs → IsSchema attrs → length attrs ≤ 24
    → schema_at list ≡ Some attrs
schema_some list attrs e h few = rw (e, schema_is attrs h few) refl

pub schema_none : (list : List ℕ) (attrs : List Attr) (fault : SchemaFault) → attrs_at 24 list ≡ Some attrs → HasFault attrs fault → schema_at list ≡ None
schema_none list attrs fault e h = rw (e, schema_is_not attrs fault h) refl

-- names are of ASCII bytes

name_byte_low : (b : ℕ) → passes classes.Name b ≡ true → b < 128
name_byte_low b h = elim (or_cases (is_between 97 122 b || is_between 48 57 b) (b == 95) h) [
  | inl p ↦ elim (or_cases (is_between 97 122 b) (is_between 48 57 b) p) [
    | inl q ↦ let both = and_parts (nat_le 97 b) (nat_le b 122) q in let high = leb-true b 122 both.1 in omega (arith, high)
    | inr q ↦ let both = and_parts (nat_le 48 b) (nat_le b 57) q in let high = leb-true b 57 both.1 in omega (arith, high)
  ]
  | inr p ↦ let e = eqb-true b 95 p in omega (arith, e)
]

low_at : (bytes : List ℕ) (k d : ℕ) → list_all (passes classes.Name) bytes ≡ true → k < length bytes → get_or bytes k d < 128
low_at [] k d h lt = absurd (omega (arith, lt))
low_at (b ∷ bytes) zero d h lt = let both = and_parts (passes classes.Name b) (list_all (passes classes.Name) bytes) h in name_byte_low b both.0
low_at (b ∷ bytes) (suc k) d h lt = let both = and_parts (passes classes.Name b) (list_all (passes classes.Name) bytes) h in
    low_at bytes k d both.1 (omega (arith, lt))

pub all_low : (bytes : List ℕ) → list_all (passes classes.Name) bytes ≡ true → All (λ b. b < 128) bytes
all_low bytes h = λ k d lt. low_at bytes k d h lt
