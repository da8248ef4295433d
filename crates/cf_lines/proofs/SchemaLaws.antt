-- Lists of attributes are read just as they are written.
use Rattle.std.proofs.Common.{◌≡◌, ◌⊎◌, ℕ, zero, suc, ◌+◌, ◌-◌, ◌≤◌, List, [], ◌∷◌, ◌++◌, length, map, drop, Bool, true, false, ◌&&◌, ◌||◌, not, cond, nat_le, nat_lt, ◌==◌, Option, Some, None, IfSome, refl, sym, ap, ◌∙◌, arith, subst, codes, inl, inr, append-nil}
use Rattle.std.specs.List.{list_all, list_any, join_with_byte, prefix_len}
use Rattle.std.specs.Option.{option_map, option_and_then}
use Rattle.std.specs.Str.{bytes_eq}
use Rattle.std.proofs.lemmas.Bool.{and_parts, and_from, false≢true, leb-true, le-leb, lt-ltb, le-ltb, ltb-true, ltb-false, eqb-true, ne_eqb, or_cases}
use Rattle.std.proofs.lemmas.Option.{option_and_then_some, cond_some}
use Rattle.std.proofs.lemmas.Slice.Eq.{bytes_eq-Decides}
use Rattle.std.proofs.lemmas.List.Folds.{list_all-append}
use Rattle.cf_row.specs.declared.schema.Attr.{Attr}
use Rattle.cf_row.specs.declared.schema.Kind.{Kind}
use Rattle.cf_row.specs.declared.schema.Kind.TheVariants.{U8, U16, U32, U64, Bytes}
use Rattle.cf_row.specs.Schema.{IsSchema, has_name_twice, is_time_stamp, has_good_size}
use Rattle.cf_filter.specs.declared.bytes.Class.TheVariants as classes
use Rattle.cf_filter.specs.Tokens.{passes, run, past, strip_at, is_between, IsRun}
use Rattle.cf_filter.specs.Reading.{begins_with}
use Rattle.cf_filter.specs.Values.{is_run_of}
use Rattle.cf_filter.proofs.Runs.{run_is, run_only, strip_found}
use Rattle.cf_filter.proofs.ValueLaws.{run_all}
use Rattle.cf_filter.proofs.Parts.{some_len, empty_is}
use Rattle.cf_lines.specs.Lines.{is_name}
use Rattle.cf_lines.specs.Schemas.{size_text, kind_text, member_text, is_spelled, ListText, size_at, kind_named, member_at, attrs_at, is_schema, schema_at}
use Rattle.cf_lines.proofs.Members.{schema_is}

-- sizes

size_only : (n : ℕ) → 1 ≤ n → n ≤ 16 → size_at (size_text n) ≡ Some n
size_only n low high = by (nat_lt n 10) refl
  where
    back : (n k : ℕ) → (k + n) - k ≡ n
    back n k = omega arith

    over : (n : ℕ) → 10 ≤ n → (38 + n) - 38 ≡ n
    over n h = omega arith

    by : (b : Bool) → nat_lt n 10 ≡ b → size_at (cond b ((48 + n) ∷ []) (49 ∷ (38 + n) ∷ [])) ≡ Some n
    by true b = let small = ltb-true n 10 b in rw (le-leb 49 (48 + n) (omega (arith, low)), le-leb (48 + n) 57 (omega (arith, small))) (ap Some (back n 48))
    by false b = let large = ltb-false n 10 b in rw (le-leb 48 (38 + n) (omega (arith, large)), le-leb (38 + n) 54 (omega (arith, high))) (ap Some (back n 38))

pub record IsSizeText (digits : List ℕ) (n : ℕ) : Type 0 where
  pub whole : digits ≡ size_text n
  pub low : 1 ≤ n
  pub high : n ≤ 16

size_found : (digits : List ℕ) (n : ℕ) → size_at digits ≡ Some n → IsSizeText digits n
size_found [] n h = cc
size_found (a ∷ []) n h =
    let found = cond_some (is_between 49 57 a) (a - 48) n h in
    let both = and_parts (nat_le 49 a) (nat_le a 57) found.0 in
    let low = leb-true 49 a both.0 in
    let high = leb-true a 57 both.1 in
    let n_is = found.1 in
    let digit : 48 + n ≡ a = omega (arith, low, n_is) in
    record { whole = rw (lt-ltb n 10 (omega (arith, high, n_is, low)), digit) refl; low = omega (arith, low, n_is); high = omega (arith, high, n_is) }
size_found (a ∷ b ∷ []) n h =
    let found = cond_some ((a == 49) && is_between 48 54 b) (b - 38) n h in
    let parts = and_parts (a == 49) (is_between 48 54 b) found.0 in
    let both = and_parts (nat_le 48 b) (nat_le b 54) parts.1 in
    let first = eqb-true a 49 parts.0 in
    let low = leb-true 48 b both.0 in
    let high = leb-true b 54 both.1 in
    let n_is = found.1 in
    let digit : 38 + n ≡ b = omega (arith, low, n_is) in
    record { whole = rw (le-ltb n 10 (omega (arith, low, n_is)), digit, first) refl; low = omega (arith, low, n_is); high = omega (arith, high, n_is) }
size_found (a ∷ b ∷ c ∷ more) n h = cc

-- kinds

size_bounds : (n : ℕ) → has_good_size (Bytes n) ≡ true → (1 ≤ n) × (n ≤ 16)
size_bounds n h = let both = and_parts (nat_le 1 n) (nat_le n 16) h in (leb-true 1 n both.0, leb-true n 16 both.1)

kind_only : (kind : Kind) → has_good_size kind ≡ true → kind_named (kind_text kind) ≡ Some kind
kind_only U8 h = refl
kind_only U16 h = refl
kind_only U32 h = refl
kind_only U64 h = refl
kind_only (Bytes n) h = let bounds = size_bounds n h in ap (option_map Bytes) (size_only n bounds.0 bounds.1)

pub record IsKindText (text : List ℕ) (kind : Kind) : Type 0 where
  pub whole : text ≡ kind_text kind
  pub sized : has_good_size kind ≡ true

kind_step : (text word : List ℕ) (this kind : Kind) (other : Option Kind) → word ≡ kind_text this → has_good_size this ≡ true
    → cond (bytes_eq text word) (Some this) other ≡ Some kind → (other ≡ Some kind → IsKindText text kind) → IsKindText text kind
kind_step text word this kind other w good h more =
    elim (bytes_eq text word) as (λ b. bytes_eq text word ≡ b → cond b (Some this) other ≡ Some kind → IsKindText text kind) [
      | true ↦ λ e k. let same : this ≡ kind = cc in subst (IsKindText text) same (record { whole = (bytes_eq-Decides text word).0 e ∙ w; sized = good })
      | false ↦ λ e k. more k
    ] refl h

string_found : (text : List ℕ) (kind : Kind) → option_map Bytes (option_and_then size_at (strip_at (codes "b") text)) ≡ Some kind → IsKindText text kind
string_found text kind h = by (strip_at (codes "b") text) refl h
  where
    sized_by : (digits : List ℕ) → strip_at (codes "b") text ≡ Some digits → (o : Option ℕ) → size_at digits ≡ o → option_map Bytes o ≡ Some kind
        → IsKindText text kind
    sized_by digits e None o k = cc
    sized_by digits e (Some n) o k =
        let is = size_found digits n o in
        let same : Bytes n ≡ kind = cc in
        subst (IsKindText text) same (record {
          whole = strip_found (codes "b") text digits e ∙ ap (λ xs. codes "b" ++ xs) is.whole;
          sized = and_from (nat_le 1 n) (nat_le n 16) (le-leb 1 n is.low) (le-leb n 16 is.high);
        })

    by : (o : Option (List ℕ)) → strip_at (codes "b") text ≡ o → option_map Bytes (option_and_then size_at o) ≡ Some kind → IsKindText text kind
    by None e k = cc
    by (Some digits) e k = sized_by digits e (size_at digits) refl k

kind_found : (text : List ℕ) (kind : Kind) → kind_named text ≡ Some kind → IsKindText text kind
kind_found text kind h =
    kind_step text (codes "u8") U8 kind _ refl refl h
    (λ h1. kind_step text (codes "u16") U16 kind _ refl refl h1
    (λ h2. kind_step text (codes "u32") U32 kind _ refl refl h2
    (λ h3. kind_step text (codes "u64") U64 kind _ refl refl h3 (λ h4. string_found text kind h4))))

-- a byte of a name is none of the separators, and so of a kind

name_byte : (b other : ℕ) → passes classes.Name b ≡ true → (other ≡ 44) ⊎ (other ≡ 58) → passes (classes.Except other) b ≡ true
name_byte b other h which = rw (ne_eqb b other (apart which)) refl
  where
    range : ((97 ≤ b) × (b ≤ 122)) ⊎ (((48 ≤ b) × (b ≤ 57)) ⊎ (b ≡ 95))
    range = elim (or_cases (is_between 97 122 b || is_between 48 57 b) (b == 95) h) [
      | inl p ↦ elim (or_cases (is_between 97 122 b) (is_between 48 57 b) p) [
        | inl q ↦ let both = and_parts (nat_le 97 b) (nat_le b 122) q in inl (leb-true 97 b both.0, leb-true b 122 both.1)
        | inr q ↦ let both = and_parts (nat_le 48 b) (nat_le b 57) q in inr (inl (leb-true 48 b both.0, leb-true b 57 both.1))
      ]
      | inr p ↦ inr (inr (eqb-true b 95 p))
    ]

    clash : (n : ℕ) → (n ≡ 44) ⊎ (n ≡ 58) → ((97 ≤ n) × (n ≤ 122)) ⊎ (((48 ≤ n) × (n ≤ 57)) ⊎ (n ≡ 95)) → ⊥
    clash n (inl e) (inl r) = let low = r.0 in omega (arith, e, low)
    clash n (inr e) (inl r) = let low = r.0 in omega (arith, e, low)
    clash n (inl e) (inr (inl r)) = let low = r.0 in omega (arith, e, low)
    clash n (inr e) (inr (inl r)) = let high = r.1 in omega (arith, e, high)
    clash n (inl e) (inr (inr r)) = omega (arith, e, r)
    clash n (inr e) (inr (inr r)) = omega (arith, e, r)

    apart : (other ≡ 44) ⊎ (other ≡ 58) → b ≡ other → ⊥
    apart (inl e) same = clash b (inl (same ∙ e)) range
    apart (inr e) same = clash b (inr (same ∙ e)) range

name_plain : (name : List ℕ) (other : ℕ) → list_all (passes classes.Name) name ≡ true → (other ≡ 44) ⊎ (other ≡ 58)
    → list_all (passes (classes.Except other)) name ≡ true
name_plain [] other h which = refl
name_plain (b ∷ name) other h which =
    let both = and_parts (passes classes.Name b) (list_all (passes classes.Name) name) h in
    and_from (passes (classes.Except other) b) (list_all (passes (classes.Except other)) name) (name_byte b other both.0 which)
    (name_plain name other both.1 which)

kind_plain : (kind : Kind) → list_all (passes (classes.Except 44)) (kind_text kind) ≡ true
kind_plain U8 = refl
kind_plain U16 = refl
kind_plain U32 = refl
kind_plain U64 = refl
kind_plain (Bytes n) = by (nat_lt n 10) refl
  where
    by : (b : Bool) → nat_lt n 10 ≡ b → list_all (passes (classes.Except 44)) (codes "b" ++ cond b ((48 + n) ∷ []) (49 ∷ (38 + n) ∷ [])) ≡ true
    by true b = rw (ne_eqb (48 + n) 44 (λ e. omega (arith, e))) refl
    by false b = let large = ltb-false n 10 b in rw (ne_eqb (38 + n) 44 (λ e. omega (arith, e, large))) refl

-- members

name_all : (name : List ℕ) → is_name 16 name ≡ true → list_all (passes classes.Name) name ≡ true
name_all name h =
    let both = and_parts (begins_with classes.Letter name) (is_run_of classes.Name 1 16 name) h in
    let all = run_all classes.Name 1 16 name both.1 in all.2

member_plain : (attr : Attr) → is_spelled attr ≡ true → list_all (passes (classes.Except 44)) (member_text attr) ≡ true
member_plain attr h =
    list_all-append (passes (classes.Except 44)) attr.name (58 ∷ kind_text attr.kind)
    ∙ rw (name_plain attr.name 44 (name_all attr.name h) (inl refl)) (kind_plain attr.kind)

member_only : (attr : Attr) → is_spelled attr ≡ true → has_good_size attr.kind ≡ true → member_at (member_text attr) ≡ Some attr
unfolding member_at
member_only attr h good =
    let is : IsRun (classes.Except 58) (member_text attr) attr.name (58 ∷ kind_text attr.kind) =
    record { whole = refl; within = name_plain attr.name 58 (name_all attr.name h) (inr refl); ends = refl } in
    let cut = run_only (classes.Except 58) (member_text attr) attr.name (58 ∷ kind_text attr.kind) is in
    rw (← cut.0, ← cut.1, kind_only attr.kind good, h) refl

pub record IsMember (member : List ℕ) (attr : Attr) : Type 0 where
  pub whole : member ≡ member_text attr
  pub spelled : is_spelled attr ≡ true
  pub sized : has_good_size attr.kind ≡ true

member_found : (member : List ℕ) (attr : Attr) → member_at member ≡ Some attr → IsMember member attr
unfolding member_at
member_found member attr h =
    option_and_then_some _ (strip_at (codes ":") (past (classes.Except 58) member)) attr h (λ text et ht.
    option_and_then_some _ (kind_named text) attr ht (λ kind ek hk.
    let found = cond_some (is_name 16 (run (classes.Except 58) member)) (record { name = run (classes.Except 58) member; kind = kind }) attr hk in
    let is = kind_found text kind ek in
    let cut = run_is (classes.Except 58) member in
    let whole : member ≡ run (classes.Except 58) member ++ 58 ∷ kind_text kind = cut.whole
    ∙ ap (λ rest. run (classes.Except 58) member ++ rest)
    (strip_found (codes ":") (past (classes.Except 58) member) text et ∙ ap (λ xs. 58 ∷ xs) is.whole) in
    subst (IsMember member) found.1 (record { whole = whole; spelled = found.0; sized = is.sized })))

-- lists

pub record IsList (list : List ℕ) (attrs : List Attr) : Type 0 where
  pub some : 1 ≤ length attrs
  pub written : list ≡ join_with_byte 44 (map member_text attrs)
  pub spelled : list_all is_spelled attrs ≡ true
  pub sized : list_all (λ attr. has_good_size attr.kind) attrs ≡ true

attrs_only : (attrs : List Attr) (n : ℕ) → 1 ≤ length attrs → length attrs ≤ n → list_all is_spelled attrs ≡ true
    → list_all (λ attr. has_good_size attr.kind) attrs ≡ true → attrs_at n (join_with_byte 44 (map member_text attrs)) ≡ Some attrs
unfolding attrs_at
attrs_only [] n some few spelled sized = absurd (omega (arith, some))
attrs_only (attr ∷ attrs) zero some few spelled sized = absurd (omega (arith, few))
attrs_only (attr ∷ []) (suc n) some few spelled sized =
    let good = and_parts (is_spelled attr) true spelled in
    let fit = and_parts (has_good_size attr.kind) true sized in
    let is : IsRun (classes.Except 44) (member_text attr) (member_text attr) [] =
    record { whole = sym (append-nil (member_text attr)); within = member_plain attr good.0; ends = refl } in
    let cut = run_only (classes.Except 44) (member_text attr) (member_text attr) [] is in
    rw (← cut.0, ← cut.1, member_only attr good.0 fit.0) refl
attrs_only (attr ∷ (next ∷ more)) (suc n) some few spelled sized =
    let good = and_parts (is_spelled attr) (list_all is_spelled (next ∷ more)) spelled in
    let fit = and_parts (has_good_size attr.kind) (list_all (λ attr. has_good_size attr.kind) (next ∷ more)) sized in
    let rest : List ℕ = join_with_byte 44 (map member_text (next ∷ more)) in
    let is : IsRun (classes.Except 44) (member_text attr ++ 44 ∷ rest) (member_text attr) (44 ∷ rest) =
    record { whole = refl; within = member_plain attr good.0; ends = refl } in
    let cut = run_only (classes.Except 44) (member_text attr ++ 44 ∷ rest) (member_text attr) (44 ∷ rest) is in
    let later : attrs_at n rest ≡ Some (next ∷ more) = attrs_only (next ∷ more) n (omega arith) (omega (arith, few)) good.1 fit.1 in
    rw (← cut.0, ← cut.1, member_only attr good.0 fit.0, some_len 44 rest, later) refl

-- what follows the first member begins with a comma
comma : (rest : List ℕ) → prefix_len (passes (classes.Except 44)) rest ≡ 0 → (length rest == 0) ≡ false → rest ≡ 44 ∷ drop 1 rest
comma [] h some = cc
comma (b ∷ bs) h some = by (b == 44) refl h
  where
    by : (t : Bool) → (b == 44) ≡ t → cond (not t) (1 + prefix_len (passes (classes.Except 44)) bs) 0 ≡ 0 → b ∷ bs ≡ 44 ∷ bs
    by true t k = ap (λ x. x ∷ bs) (eqb-true b 44 t)
    by false t k = absurd (omega (arith, k))

joined : (front : List ℕ) (attrs : List Attr) → 1 ≤ length attrs
    → front ++ 44 ∷ join_with_byte 44 (map member_text attrs) ≡ join_with_byte 44 (front ∷ map member_text attrs)
joined front [] some = absurd (omega (arith, some))
joined front (attr ∷ attrs) some = refl

attrs_found : (n : ℕ) (list : List ℕ) (attrs : List Attr) → attrs_at n list ≡ Some attrs → IsList list attrs
unfolding attrs_at
attrs_found zero list attrs h = cc
attrs_found (suc n) list attrs h =
    option_and_then_some _ (member_at (run (classes.Except 44) list)) attrs h
    (λ attr e k. by attr e (attrs_found n (drop 1 (past (classes.Except 44) list))) (length (past (classes.Except 44) list) == 0) refl k)
  where
    cut : IsRun (classes.Except 44) list (run (classes.Except 44) list) (past (classes.Except 44) list)
    cut = run_is (classes.Except 44) list

    more : (attr : Attr) → IsMember (run (classes.Except 44) list) attr → (length (past (classes.Except 44) list) == 0) ≡ false → (attrs : List Attr)
        → IsList (drop 1 (past (classes.Except 44) list)) attrs → IsList list (attr ∷ attrs)
    more attr is t attrs l =
        let c = cut in
        record {
          some = omega arith;
          written = c.whole ∙ ap (λ xs. xs ++ past (classes.Except 44) list) is.whole
              ∙ ap (λ xs. member_text attr ++ xs) (comma (past (classes.Except 44) list) c.ends t ∙ ap (λ xs. 44 ∷ xs) l.written)
              ∙ joined (member_text attr) attrs l.some;
          spelled = and_from (is_spelled attr) (list_all is_spelled attrs) is.spelled l.spelled;
          sized = and_from (has_good_size attr.kind) (list_all (λ attr. has_good_size attr.kind) attrs) is.sized l.sized;
        }

    alone : (attr : Attr) → IsMember (run (classes.Except 44) list) attr → (length (past (classes.Except 44) list) == 0) ≡ true → IsList list (attr ∷ [])
    alone attr is t =
        let c = cut in
        record {
          some = omega arith;
          written = c.whole ∙ ap (λ xs. run (classes.Except 44) list ++ xs) (empty_is (past (classes.Except 44) list) t)
              ∙ append-nil (run (classes.Except 44) list) ∙ is.whole;
          spelled = and_from (is_spelled attr) true is.spelled refl;
          sized = and_from (has_good_size attr.kind) true is.sized refl;
        }

    joined_by : (attr : Attr) → IsMember (run (classes.Except 44) list) attr → (length (past (classes.Except 44) list) == 0) ≡ false
        → (o : Option (List Attr)) → ((found : List Attr) → o ≡ Some found → IsList (drop 1 (past (classes.Except 44) list)) found)
        → option_map (λ others. attr ∷ others) o ≡ Some attrs → IsList list attrs
    joined_by attr is t None later k = cc
    joined_by attr is t (Some others) later k = let same : attr ∷ others ≡ attrs = cc in subst (IsList list) same (more attr is t others (later others refl))

    by : (attr : Attr) → member_at (run (classes.Except 44) list) ≡ Some attr
        → ((found : List Attr) → attrs_at n (drop 1 (past (classes.Except 44) list)) ≡ Some found → IsList (drop 1 (past (classes.Except 44) list)) found)
        → (t : Bool) → (length (past (classes.Except 44) list) == 0) ≡ t
        → cond t (Some (attr ∷ [])) (option_map (λ others. attr ∷ others) (attrs_at n (drop 1 (past (classes.Except 44) list)))) ≡ Some attrs
        → IsList list attrs
    by attr e later true t k = let same : attr ∷ [] ≡ attrs = cc in subst (IsList list) same (alone attr (member_found (run (classes.Except 44) list) attr e) t)
    by attr e later false t k =
        joined_by attr (member_found (run (classes.Except 44) list) attr e) t (attrs_at n (drop 1 (past (classes.Except 44) list))) later k

-- schemas

stamped_some : (attrs : List Attr) → list_any is_time_stamp attrs ≡ true → 1 ≤ length attrs
stamped_some [] h = absurd (false≢true h)
stamped_some (attr ∷ attrs) h = omega arith

pub schema_only : (list : List ℕ) (attrs : List Attr) → ListText list attrs → schema_at list ≡ Some attrs
schema_only list attrs h =
    let s = h.schema in
    let read : attrs_at 24 list ≡ Some attrs = ap (attrs_at 24) h.written ∙ attrs_only attrs 24 (stamped_some attrs s.stamped) h.few h.spelled s.sized in
    rw (read, schema_is attrs s h.few) refl

schema_parts : (attrs : List Attr) → is_schema attrs ≡ true → IsSchema attrs × (length attrs ≤ 24)
schema_parts attrs h =
    let last = and_parts ((nat_le (length attrs) 24 && not (has_name_twice attrs)) && list_any is_time_stamp attrs)
    (list_all (λ attr. has_good_size attr.kind) attrs) h in
    let third = and_parts (nat_le (length attrs) 24 && not (has_name_twice attrs)) (list_any is_time_stamp attrs) last.0 in
    let second = and_parts (nat_le (length attrs) 24) (not (has_name_twice attrs)) third.0 in
    let few = leb-true (length attrs) 24 second.0 in
    (record { few = omega (arith, few); apart = flip (has_name_twice attrs) second.1; stamped = third.1; sized = last.1 }, few)
  where
    flip : (b : Bool) → not b ≡ true → b ≡ false
    flip true k = absurd (false≢true k)
    flip false k = refl

pub schema_found : (list : List ℕ) (attrs : List Attr) → schema_at list ≡ Some attrs → ListText list attrs
schema_found list attrs h = option_and_then_some _ (attrs_at 24 list) attrs h (λ found e k.
    let chosen = cond_some (is_schema found) found attrs k in
    let l = attrs_found 24 list found e in
    let s = schema_parts found chosen.0 in
    subst (ListText list) chosen.1 (record { written = l.written; spelled = l.spelled; schema = s.0; few = s.1 }))

pub states_found : (list : List ℕ) → IfSome (schema_at list) (ListText list)
states_found list = by (schema_at list) refl
  where
    by : (o : Option (List Attr)) → schema_at list ≡ o → IfSome o (ListText list)
    by None e = tt
    by (Some attrs) e = schema_found list attrs e
