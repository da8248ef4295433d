-- Each text has its records, and one list of them.
use Rattle.std.proofs.Common.{List, ℕ, zero, suc, Option, Bool, true, false, ◌≡◌, ◌⊎◌, ◌<◌, ◌≤◌, ◌∙◌, sym, refl, ap, ap₂, Some, None, [], ◌∷◌, ◌++◌, ◌+◌, length, inl, inr, rules, arith, cond, subst}
use Rattle.csv.specs.Machine.{Read, next_record, ends_at_end, is_end, step, fields_after, field_after}
use Rattle.csv.specs.Reading.{AreRecords, Reached, default_config, strip_bom, is_bom}
use Rattle.csv.specs.declared.parser.Config.{Config}
use Rattle.csv.specs.declared.parser.State.{State}
use Rattle.csv.specs.declared.parser.State.TheVariants as st
use Rattle.cf_records.specs.Records.{AreRead}

some_none : {X : Type 0} (o : Option X) (p : X) → o ≡ Some p → ¬ (o ≡ None)
some_none o p e f = search (rules, e, f)

same_read : (o : Option Read) (p q : Read) → o ≡ Some p → o ≡ Some q → p ≡ q
same_read o p q e f = search (rules, e, f)

one_list : (cfg : Config) (s : State) (xs : List ℕ) (rows rows2 : List (List (List ℕ))) → AreRecords cfg s xs rows → AreRecords cfg s xs rows2 → rows ≡ rows2
unfolding Reached
one_list cfg s xs [] [] h h2 = refl
one_list cfg s xs [] (r2 ∷ rows2) h h2 = absurd (some_none (next_record cfg s [] [] xs) h2.2.0 h2.2.1 (rw (h.2.0, h.2.1) h.3))
one_list cfg s xs (r ∷ rows) [] h h2 = absurd (some_none (next_record cfg s [] [] xs) h.2.0 h.2.1 (rw (h2.2.0, h2.2.1) h2.3))
one_list cfg s xs (r ∷ rows) (r2 ∷ rows2) h h2 =
    let p : h.2.0 ≡ h2.2.0 = same_read (next_record cfg s [] [] xs) h.2.0 h2.2.0 h.2.1 h2.2.1 in
    ap₂ ◌∷◌ (h.2.2 ∙ (ap (λ (q : Read). q.0) p ∙ sym h2.2.2))
    (one_list cfg h2.2.0.1 h2.2.0.2 rows rows2 (h.0, h.1, rw p at h.2.3, h.3) (h2.0, h2.1, h2.2.3, h2.3))

-- a text has one list of records
pub one_read : (text : List ℕ) (a b : List (List (List ℕ))) → AreRead text a → AreRead text b → a ≡ b
unfolding AreRead
one_read text a b h h2 = one_list default_config st.StartRecord (strip_bom text) a b h h2

-- a read takes a byte, or ends the text
abbrev Shrinks : List ℕ → Read → Type 0
Shrinks xs p = (length p.2 < length xs) ⊎ ((xs ≡ []) × (p.2 ≡ []))

next_end : (b : Bool) (p q : Read) → cond b (Some q) None ≡ Some p → p ≡ q
next_end true p q e = cc e
next_end false p q e = cc e

next_some : (b : Bool) (p q : Read) (o : Option Read) → cond b (Some q) o ≡ Some p → (p ≡ q) ⊎ (o ≡ Some p)
next_some true p q o e = inl (cc e)
next_some false p q o e = inr e

shrinks : (cfg : Config) (s : State) (fields : List (List ℕ)) (field xs : List ℕ) (p : Read) → next_record cfg s fields field xs ≡ Some p → Shrinks xs p
unfolding next_record
shrinks cfg s fields field [] p e = inr (refl, ap (λ (q : Read). q.2) (next_end (ends_at_end s) p (fields ++ (field ∷ []), st.StartRecord, []) e))
shrinks cfg s fields field (c ∷ rest) p e =
    let next = step cfg s c in
    let more = fields_after next.1 fields field in
    let part = field_after next.1 c field in
    elim (next_some (is_end next.1) p (more, next.0, rest) (next_record cfg next.0 more part rest) e) [
      | inl same ↦ let left : length p.2 ≡ length rest = ap (λ (q : Read). length q.2) same in inl (omega (arith, left))
      | inr found ↦ elim (shrinks cfg next.0 more part rest p found) [
        | inl less ↦ inl (omega (arith, less))
        | inr end ↦ let none : length p.2 ≡ 0 = ap (λ (q : List ℕ). length q) end.1 in inl (omega (arith, none))
      ]
    ]

-- the records from a state on
abbrev Left : Config → State → List ℕ → Type 0
Left cfg s xs = (rows : List (List (List ℕ))) × AreRecords cfg s xs rows

one_more : (cfg : Config) (s : State) (xs : List ℕ) (p : Read) → next_record cfg s [] [] xs ≡ Some p → Left cfg p.1 p.2 → Left cfg s xs
unfolding Reached
one_more cfg s xs p e left = (p.0 ∷ left.0, (left.1.0, left.1.1, (p, e, refl, left.1.2), left.1.3))

no_more : (cfg : Config) (s : State) (xs : List ℕ) → next_record cfg s [] [] xs ≡ None → Left cfg s xs
unfolding Reached
no_more cfg s xs e = ([], (s, xs, (refl, refl), e))

at_start : (cfg : Config) → next_record cfg st.StartRecord [] [] [] ≡ None
unfolding next_record
at_start cfg = refl

after_end : (cfg : Config) (s : State) (p : Read) → next_record cfg s [] [] [] ≡ Some p → Left cfg p.1 p.2
unfolding next_record
after_end cfg s p e =
    let q : Read = ([] ∷ [], st.StartRecord, []) in
    let same : p ≡ q = next_end (ends_at_end s) p q e in
    subst (λ (r : Read). Left cfg r.1 r.2) (sym same) (no_more cfg st.StartRecord [] (at_start cfg))

left_step : (cfg : Config) (s : State) (xs : List ℕ) → ((p : Read) → length p.2 < length xs → Left cfg p.1 p.2) → (o : Option Read)
    → next_record cfg s [] [] xs ≡ o → Left cfg s xs
left_step cfg s xs more None e = no_more cfg s xs e
left_step cfg s [] more (Some p) e = one_more cfg s [] p e (after_end cfg s p e)
left_step cfg s (c ∷ xs) more (Some p) e = one_more cfg s (c ∷ xs) p e (elim (shrinks cfg s [] [] (c ∷ xs) p e) [
  | inl less ↦ more p less
  | inr end ↦ more p (let none : length p.2 ≡ 0 = ap (λ (q : List ℕ). length q) end.1 in omega (arith, none))
])

left_from : (cfg : Config) (n : ℕ) (s : State) (xs : List ℕ) → length xs ≤ n → Left cfg s xs
left_from cfg zero s xs short = left_step cfg s xs (λ p less. absurd (omega (arith, short, less))) (next_record cfg s [] [] xs) refl
left_from cfg (suc n) s xs short = left_step cfg s xs (λ p less. left_from cfg n p.1 p.2 (omega (arith, less, short))) (next_record cfg s [] [] xs) refl

joined : (cfg : Config) (s s2 : State) (xs ys : List ℕ) (rows after : List (List (List ℕ))) → Reached cfg s xs rows s2 ys → AreRecords cfg s2 ys after
    → AreRecords cfg s xs (rows ++ after)
unfolding Reached
joined cfg s s2 xs ys [] after h rest = rw (h.0, h.1) rest
joined cfg s s2 xs ys (r ∷ rows) after h rest = let more = joined cfg h.0.1 s2 h.0.2 ys rows after h.3 rest in (more.0, more.1, (h.0, h.1, h.2, more.2), more.3)

-- a text has some records
pub some_read : (text : List ℕ) → (records : List (List (List ℕ))) × AreRead text records
unfolding AreRead
some_read text = left_from default_config (length (strip_bom text)) st.StartRecord (strip_bom text) (omega arith)

-- what was read so far is the front of the text's records
pub read_to_end : (text : List ℕ) (s : State) (ys : List ℕ) (records : List (List (List ℕ)))
    → Reached default_config st.StartRecord (strip_bom text) records s ys → (after : List (List (List ℕ))) × AreRead text (records ++ after)
unfolding AreRead
read_to_end text s ys records reached =
    let left = left_from default_config (length ys) s ys (omega arith) in
    (left.0, joined default_config st.StartRecord s (strip_bom text) ys records left.0 reached left.1)

-- nothing is left
pub read_whole : (text : List ℕ) (s : State) (ys : List ℕ) (records : List (List (List ℕ)))
    → Reached default_config st.StartRecord (strip_bom text) records s ys → next_record default_config s [] [] ys ≡ None → AreRead text records
unfolding AreRead
read_whole text s ys records reached none = (s, ys, reached, none)

-- there is no record at the end
at_rest : (cfg : Config) (s2 : State) (ys : List ℕ) (rows : List (List (List ℕ))) → Reached cfg st.StartRecord [] rows s2 ys → length rows ≡ 0
unfolding Reached
at_rest cfg s2 ys [] h = refl
at_rest cfg s2 ys (r ∷ rows) h = absurd (some_none (next_record cfg st.StartRecord [] [] []) h.0 h.1 (at_start cfg))

last_read : (cfg : Config) (s : State) (p : Read) → next_record cfg s [] [] [] ≡ Some p → p ≡ ([] ∷ [], st.StartRecord, [])
unfolding next_record
last_read cfg s p e = next_end (ends_at_end s) p ([] ∷ [], st.StartRecord, []) e

-- each record takes a byte, but for a last one at the end
few_reached : (cfg : Config) (s s2 : State) (xs ys : List ℕ) (rows : List (List (List ℕ))) → Reached cfg s xs rows s2 ys → length rows ≤ length xs + 1
unfolding Reached
few_reached cfg s s2 xs ys [] h = omega arith
few_reached cfg s s2 [] ys (r ∷ rows) h =
    let rest = subst (λ (p : Read). Reached cfg p.1 p.2 rows s2 ys) (last_read cfg s h.0 h.1) h.3 in
    let none = at_rest cfg s2 ys rows rest in
    omega (arith, none)
few_reached cfg s s2 (c ∷ xs) ys (r ∷ rows) h =
    let more = few_reached cfg h.0.1 s2 h.0.2 ys rows h.3 in
    elim (shrinks cfg s [] [] (c ∷ xs) h.0 h.1) [
      | inl less ↦ omega (arith, less, more)
      | inr end ↦ let none : length h.0.2 ≡ 0 = ap (λ (q : List ℕ). length q) end.1 in omega (arith, none, more)
    ]

cond_short : (b : Bool) (xs ys : List ℕ) (n : ℕ) → length xs ≤ n → length ys ≤ n → length (cond b xs ys) ≤ n
cond_short true xs ys n x y = x
cond_short false xs ys n x y = y

strip_short : (text : List ℕ) → length (strip_bom text) ≤ length text
unfolding strip_bom
strip_short [] = omega arith
strip_short (a ∷ []) = omega arith
strip_short (a ∷ b ∷ []) = omega arith
strip_short (a ∷ b ∷ c ∷ rest) = cond_short (is_bom a b c) rest (a ∷ b ∷ c ∷ rest) (length (a ∷ b ∷ c ∷ rest)) (omega arith) (omega arith)

-- a text has no more records than bytes, but for one
pub few_read : (text : List ℕ) (s : State) (ys : List ℕ) (records : List (List (List ℕ)))
    → Reached default_config st.StartRecord (strip_bom text) records s ys → length records ≤ length text + 1
few_read text s ys records reached =
    let few = few_reached default_config st.StartRecord s (strip_bom text) ys records reached in
    let short = strip_short text in
    omega (arith, few, short)
