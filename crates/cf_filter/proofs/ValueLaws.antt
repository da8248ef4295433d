-- Values and ranges are read just as the grammar says.
use Rattle.std.proofs.Common.{◌≡◌, ℕ, ◌+◌, ◌*◌, ◌≤◌, List, [], ◌∷◌, ◌++◌, length, Bool, true, false, ◌&&◌, cond, nat_le, Option, Some, None, Result, Ok, Err, refl, sym, ap, ◌∙◌, arith, subst, codes, ◌==◌, append-nil}
use Rattle.std.specs.List.{prefix_len, list_all}
use Rattle.std.specs.Option.{is_some, option_and_then, option_map, option_map_or}
use Rattle.std.proofs.lemmas.Bool.{and_parts, and_from, and_right, false≢true, leb-true, le-leb, eqb-true, eq-eqb, ne_eqb}
use Rattle.std.proofs.lemmas.Option.{option_and_then_some, cond_some}
use Rattle.std.proofs.lemmas.List.{take_at, drop_at}
use Rattle.cf_row.specs.declared.schema.Kind.{Kind}
use Rattle.cf_row.specs.declared.schema.Kind.TheVariants.{U8, U16, U32, U64, Bytes}
use Rattle.cf_row.specs.declared.row.Value.{Value}
use Rattle.cf_row.specs.declared.row.Value.TheVariants.{Num, Raw}
use Rattle.cf_row.specs.Row.{is_of_kind}
use Rattle.cf_filter.specs.declared.bytes.Class.{Class}
use Rattle.cf_filter.specs.declared.bytes.Class.TheVariants as classes
use Rattle.cf_filter.specs.declared.fault.Offence.{Offence}
use Rattle.cf_filter.specs.declared.fault.Offence.TheVariants.{Syntax, UnknownName, BadOperator, ValueRange, TooLong}
use Rattle.cf_filter.specs.declared.value.ValueForm.{ValueForm}
use Rattle.cf_filter.specs.declared.value.ValueForm.TheVariants.{Decimal, Hex, Dotted}
use Rattle.cf_filter.specs.Tokens.{passes, run, past, strip_at}
use Rattle.cf_filter.specs.Values.{is_run_of, hex_digits, part_at, parts_at, value_form_at, byte_at, address_at, number_at, of_kind, lawful, raw_of, hex_number, pairs, value_at, AreParts, HasForm}
use Rattle.cf_filter.specs.Ranges.{◌>>=◌, found_or, sized_at}
use Rattle.cf_filter.specs.Grammar.{AreBytes, address_of, ValueText, IsForm, Judged, ValueRead}
use Rattle.cf_filter.specs.Grammar.ValueText.{decimal, hexadecimal, dotted, bytes}
use Rattle.cf_filter.proofs.Runs.{run_front, strip_front, strip_found, run_is}

-- a byte that fails ends a list of bytes that pass
all_fails : (p : ℕ → Bool) (xs : List ℕ) (y : ℕ) (ys : List ℕ) → p y ≡ false → list_all p (xs ++ y ∷ ys) ≡ false
all_fails p [] y ys h = rw h refl
all_fails p (x ∷ xs) y ys h = and_right (p x) (list_all p (xs ++ y ∷ ys)) (all_fails p xs y ys h)

not_run : (class : Class) (low high : ℕ) (xs : List ℕ) (y : ℕ) (ys : List ℕ) → passes class y ≡ false → is_run_of class low high (xs ++ y ∷ ys) ≡ false
not_run class low high xs y ys h =
    and_right (nat_le low (length (xs ++ y ∷ ys)) && nat_le (length (xs ++ y ∷ ys)) high) (list_all (passes class) (xs ++ y ∷ ys))
    (all_fails (passes class) xs y ys h)

pub run_all : (class : Class) (low high : ℕ) (text : List ℕ) → is_run_of class low high text ≡ true → (low ≤ length text) × (length text ≤ high)
    × (list_all (passes class) text ≡ true)
run_all class low high text h =
    let both = and_parts (nat_le low (length text) && nat_le (length text) high) (list_all (passes class) text) h in
    let sizes = and_parts (nat_le low (length text)) (nat_le (length text) high) both.0 in
    (leb-true low (length text) sizes.0, leb-true (length text) high sizes.1, both.1)

run_from : (class : Class) (low high : ℕ) (text : List ℕ) → low ≤ length text → length text ≤ high → list_all (passes class) text ≡ true
    → is_run_of class low high text ≡ true
run_from class low high text a b h =
    and_from (nat_le low (length text) && nat_le (length text) high) (list_all (passes class) text)
    (and_from (nat_le low (length text)) (nat_le (length text) high) (le-leb low (length text) a) (le-leb (length text) high b)) h

-- dotted texts

abbrev pub part_rest : List ℕ → List ℕ → List ℕ × List ℕ
part_rest a b = (a, b)

part_front : (part rest : List ℕ) → is_run_of classes.Digit 1 3 part ≡ true → prefix_len (passes classes.Digit) rest ≡ 0
    → part_at (part ++ rest) ≡ Some (part_rest part rest)
part_front part rest h stop =
    let all = run_all classes.Digit 1 3 part h in
    let n : prefix_len (passes classes.Digit) (part ++ rest) ≡ length part = run_front (passes classes.Digit) part rest all.2 stop in
    rw (n, take_at part rest (length part) refl, drop_at part rest (length part) refl, h) refl

part_end : (part : List ℕ) → is_run_of classes.Digit 1 3 part ≡ true → part_at part ≡ Some (part_rest part [])
part_end part h = ap part_at (sym (append-nil part)) ∙ part_front part [] h refl

abbrev four : List ℕ → List ℕ → List ℕ → List ℕ → List ℕ × List ℕ × List ℕ × List ℕ
four a b c d = (a, b, c, d)

parts_front : (a b c d : List ℕ) → is_run_of classes.Digit 1 3 a ≡ true → is_run_of classes.Digit 1 3 b ≡ true → is_run_of classes.Digit 1 3 c ≡ true
    → is_run_of classes.Digit 1 3 d ≡ true → parts_at (a ++ 46 ∷ (b ++ 46 ∷ (c ++ 46 ∷ d))) ≡ Some (four a b c d)
unfolding parts_at
parts_front a b c d p q r s =
    rw (part_front a (46 ∷ (b ++ 46 ∷ (c ++ 46 ∷ d))) p refl, part_front b (46 ∷ (c ++ 46 ∷ d)) q refl, part_front c (46 ∷ d) r refl, part_end d s) refl

pub parts_only : (text a b c d : List ℕ) → AreParts text a b c d → parts_at text ≡ Some (four a b c d)
parts_only text a b c d h = ap parts_at h.whole ∙ parts_front a b c d h.first h.second h.third h.fourth

part_found : (text part rest : List ℕ) → part_at text ≡ Some (part_rest part rest) → (is_run_of classes.Digit 1 3 part ≡ true) × (text ≡ part ++ rest)
part_found text part rest h =
    let found = cond_some (is_run_of classes.Digit 1 3 (run classes.Digit text)) (part_rest (run classes.Digit text) (past classes.Digit text))
    (part_rest part rest) h in
    let first : run classes.Digit text ≡ part = ap (λ x. x.0) found.1 in
    let second : past classes.Digit text ≡ rest = ap (λ x. x.1) found.1 in
    let whole = run_is classes.Digit text in (
      subst (λ (xs : List ℕ). is_run_of classes.Digit 1 3 xs ≡ true) first found.0,
      whole.whole ∙ ap (λ xs. xs ++ past classes.Digit text) first
          ∙ ap (λ xs. part ++ xs) second,
    )

empty_is : (here : List ℕ) → (length here == 0) ≡ true → here ≡ []
empty_is [] h = refl
empty_is (x ∷ xs) h = absurd (false≢true (sym (ne_eqb (length (x ∷ xs)) 0 (λ e. omega (arith, e))) ∙ h))

pub parts_found : (text : List ℕ) (p : List ℕ × List ℕ × List ℕ × List ℕ) → parts_at text ≡ Some p → AreParts text p.0 p.1 p.2 p.3
unfolding parts_at
parts_found text p h =
    option_and_then_some _ (part_at text) p h (λ a ea ha.
    option_and_then_some _ (strip_at (codes ".") a.1) p ha (λ second es hs.
    option_and_then_some _ (part_at second) p hs (λ b eb hb.
    option_and_then_some _ (strip_at (codes ".") b.1) p hb (λ third et ht.
    option_and_then_some _ (part_at third) p ht (λ c ec hc.
    option_and_then_some _ (strip_at (codes ".") c.1) p hc (λ fourth ef hf.
    option_and_then_some _ (part_at fourth) p hf (λ d ed hd.
    let last = cond_some (length d.1 == 0) (four a.0 b.0 c.0 d.0) p hd in
    let pa = part_found text a.0 a.1 ea in
    let pb = part_found second b.0 b.1 eb in
    let pc = part_found third c.0 c.1 ec in
    let pd = part_found fourth d.0 d.1 ed in
    let e4 : fourth ≡ d.0 = pd.1 ∙ ap (λ xs. d.0 ++ xs) (empty_is d.1 last.0) ∙ append-nil d.0 in
    let e3 : third ≡ c.0 ++ 46 ∷ d.0 = pc.1 ∙ ap (λ xs. c.0 ++ xs) (strip_found (codes ".") c.1 fourth ef ∙ ap (λ xs. 46 ∷ xs) e4) in
    let e2 : second ≡ b.0 ++ 46 ∷ (c.0 ++ 46 ∷ d.0) = pb.1 ∙ ap (λ xs. b.0 ++ xs) (strip_found (codes ".") b.1 third et ∙ ap (λ xs. 46 ∷ xs) e3) in
    let e1 : text ≡ a.0 ++ 46 ∷ (b.0 ++ 46 ∷ (c.0 ++ 46 ∷ d.0)) = pa.1 ∙ ap (λ xs. a.0 ++ xs) (strip_found (codes ".") a.1 second es ∙ ap (λ xs. 46 ∷ xs) e2) in
    let is : AreParts text a.0 b.0 c.0 d.0 = record { whole = e1; first = pa.0; second = pb.0; third = pc.0; fourth = pd.0 } in
    subst (λ (q : List ℕ × List ℕ × List ℕ × List ℕ). AreParts text q.0 q.1 q.2 q.3) last.1 is)))))))

-- forms

-- a text that goes on with a dot after digits isn't hexadecimal
no_hex : (a more digits : List ℕ) → list_all (passes classes.Digit) a ≡ true → 1 ≤ length a → a ++ 46 ∷ more ≡ codes "0x" ++ digits → ⊥
no_hex [] more digits all some e = omega (arith, some)
no_hex (x ∷ []) more digits all some e = let tail : 46 ∷ more ≡ 120 ∷ digits = cc in let head : ◌≡◌ {A = ℕ} 46 120 = cc in omega (arith, head)
no_hex (x ∷ (y ∷ a)) more digits all some e =
    let y_is : y ≡ 120 = cc in
    let rest = and_parts (passes classes.Digit x) (passes classes.Digit y && list_all (passes classes.Digit) a) all in
    let digit = and_parts (passes classes.Digit y) (list_all (passes classes.Digit) a) rest.1 in
    let bound = and_parts (nat_le 48 y) (nat_le y 57) digit.0 in
    let small = leb-true y 57 bound.1 in
    omega (arith, small, y_is)

hex_none : (text : List ℕ) → ((digits : List ℕ) → text ≡ codes "0x" ++ digits → ⊥) → hex_digits text ≡ None
hex_none text not_hex = by (hex_digits text) refl
  where
    by : (o : Option (List ℕ)) → hex_digits text ≡ o → hex_digits text ≡ None
    by None e = e
    by (Some digits) e = absurd (not_hex digits (strip_found (codes "0x") text digits e))

pub form_only : (text : List ℕ) (form : ValueForm) → HasForm text form → value_form_at text ≡ Some form
form_only text Decimal h = rw h refl
form_only text Hex h =
    let no_decimal : is_run_of classes.Digit 1 20 text ≡ false = ap (is_run_of classes.Digit 1 20) h.1 ∙ not_run classes.Digit 1 20 (48 ∷ []) 120 h.0 refl in
    let digits : hex_digits text ≡ Some h.0 = ap hex_digits h.1 ∙ strip_front (codes "0x") h.0 in
    rw (no_decimal, digits, h.2) refl
form_only text Dotted h =
    let p = h.4 in
    let more : List ℕ = h.1 ++ 46 ∷ (h.2 ++ 46 ∷ h.3) in
    let all = run_all classes.Digit 1 3 h.0 p.first in
    let no_decimal : is_run_of classes.Digit 1 20 text ≡ false = ap (is_run_of classes.Digit 1 20) p.whole ∙ not_run classes.Digit 1 20 h.0 46 more refl in
    let none : hex_digits text ≡ None = hex_none text (λ digits e. no_hex h.0 more digits all.2 all.0 (sym p.whole ∙ e)) in
    let some : parts_at text ≡ Some (four h.0 h.1 h.2 h.3) = parts_only text h.0 h.1 h.2 h.3 p in
    rw (no_decimal, none, some) refl

pub form_found : (text : List ℕ) (form : ValueForm) → value_form_at text ≡ Some form → HasForm text form
form_found text form h = by (is_run_of classes.Digit 1 20 text) refl (hex_digits text) refl (parts_at text) refl h
  where
    in_hex : (digits : List ℕ) → hex_digits text ≡ Some digits → (b : Bool) → is_run_of classes.Hex 1 32 digits ≡ b
        → (o : Option (List ℕ × List ℕ × List ℕ × List ℕ)) → parts_at text ≡ o → cond b (Some Hex) (cond (is_some o) (Some Dotted) None) ≡ Some form
        → HasForm text form
    in_hex digits e true b o f k = let same : Hex ≡ form = cc in
        subst (λ (x : ValueForm). HasForm text x) same (digits, strip_found (codes "0x") text digits e, b)
    in_hex digits e false b (Some p) f k = let same : Dotted ≡ form = cc in
        subst (λ (x : ValueForm). HasForm text x) same (p.0, p.1, p.2, p.3, parts_found text p f)
    in_hex digits e false b None f k = cc

    by : (d : Bool) → is_run_of classes.Digit 1 20 text ≡ d → (x : Option (List ℕ)) → hex_digits text ≡ x → (o : Option (List ℕ × List ℕ × List ℕ × List ℕ))
        → parts_at text ≡ o
        → cond d (Some Decimal) (cond (option_map_or (is_run_of classes.Hex 1 32) x false) (Some Hex) (cond (is_some o) (Some Dotted) None)) ≡ Some form
        → HasForm text form
    by true d x e o f k = let same : Decimal ≡ form = cc in subst (λ (y : ValueForm). HasForm text y) same d
    by false d (Some digits) e o f k = in_hex digits e (is_run_of classes.Hex 1 32 digits) refl o f k
    by false d None e (Some p) f k = let same : Dotted ≡ form = cc in subst (λ (y : ValueForm). HasForm text y) same (p.0, p.1, p.2, p.3, parts_found text p f)
    by false d None e None f k = cc

-- lawful values

byte_some : (digits : List ℕ) → number_at 10 digits ≤ 255 → byte_at digits ≡ Some (number_at 10 digits)
byte_some digits h = rw (le-leb (number_at 10 digits) 255 h) refl

pub address_only : (text a b c d : List ℕ) → AreParts text a b c d → AreBytes a b c d → address_at text ≡ Some (address_of a b c d)
unfolding address_at
address_only text a b c d p q = rw (parts_only text a b c d p, byte_some a q.first, byte_some b q.second, byte_some c q.third, byte_some d q.fourth) refl

byte_found : (digits : List ℕ) (n : ℕ) → byte_at digits ≡ Some n → (number_at 10 digits ≤ 255) × (number_at 10 digits ≡ n)
byte_found digits n h = let found = cond_some (nat_le (number_at 10 digits) 255) (number_at 10 digits) n h in
    (leb-true (number_at 10 digits) 255 found.0, found.1)

pub record IsAddress (text : List ℕ) (n : ℕ) : Type 0 where
  pub a : List ℕ
  pub b : List ℕ
  pub c : List ℕ
  pub d : List ℕ
  pub parts : AreParts text a b c d
  pub small : AreBytes a b c d
  pub number : n ≡ address_of a b c d

pub address_found : (text : List ℕ) (n : ℕ) → address_at text ≡ Some n → IsAddress text n
unfolding address_at
address_found text n h =
    option_and_then_some _ (parts_at text) n h (λ p ep hp.
    option_and_then_some _ (byte_at p.0) n hp (λ a ea ha.
    option_and_then_some _ (byte_at p.1) n ha (λ b eb hb.
    option_and_then_some _ (byte_at p.2) n hb (λ c ec hc.
    option_and_then_some _ (byte_at p.3) n hc (λ d ed hd.
    let fa = byte_found p.0 a ea in
    let fb = byte_found p.1 b eb in
    let fc = byte_found p.2 c ec in
    let fd = byte_found p.3 d ed in
    let whole : ((a * 256 + b) * 256 + c) * 256 + d ≡ n = cc in
    record {
      a = p.0;
      b = p.1;
      c = p.2;
      d = p.3;
      parts = parts_found text p ep;
      small = record { first = fa.0; second = fb.0; third = fc.0; fourth = fd.0 };
      number = sym (rw (fa.1, fb.1, fc.1, fd.1) whole);
    })))))

fits_value : (kind : Kind) (n : ℕ) (value : Value) → value ≡ Num n → is_of_kind kind value ≡ true → of_kind kind n ≡ Some value
fits_value kind n value e h = let fits : is_of_kind kind (Num n) ≡ true = ap (is_of_kind kind) (sym e) ∙ h in rw fits (ap Some (sym e))

decimal_lawful : (kind : Kind) (text : List ℕ) (value : Value) → value ≡ Num (number_at 10 text) → is_of_kind kind value ≡ true
    → lawful kind Decimal text ≡ Some value
decimal_lawful U8 text value e h = fits_value U8 (number_at 10 text) value e h
decimal_lawful U16 text value e h = fits_value U16 (number_at 10 text) value e h
decimal_lawful U32 text value e h = fits_value U32 (number_at 10 text) value e h
decimal_lawful U64 text value e h = fits_value U64 (number_at 10 text) value e h
decimal_lawful (Bytes len) text value e h = absurd (false≢true (ap (is_of_kind (Bytes len)) (sym e) ∙ h))

hex_front : (kind : Kind) (digits : List ℕ) (value : Value) → length digits ≤ 16 → value ≡ Num (number_at 16 digits) → is_of_kind kind value ≡ true
    → hex_number kind (Some digits) ≡ Some value
hex_front kind digits value few e h = rw (le-leb (length digits) 16 few) (fits_value kind (number_at 16 digits) value e h)

hex_lawful : (kind : Kind) (text digits : List ℕ) (value : Value) → hex_digits text ≡ Some digits → length digits ≤ 16 → value ≡ Num (number_at 16 digits)
    → is_of_kind kind value ≡ true → lawful kind Hex text ≡ Some value
hex_lawful U8 text digits value d few e h = ap (hex_number U8) d ∙ hex_front U8 digits value few e h
hex_lawful U16 text digits value d few e h = ap (hex_number U16) d ∙ hex_front U16 digits value few e h
hex_lawful U32 text digits value d few e h = ap (hex_number U32) d ∙ hex_front U32 digits value few e h
hex_lawful U64 text digits value d few e h = ap (hex_number U64) d ∙ hex_front U64 digits value few e h
hex_lawful (Bytes len) text digits value d few e h = absurd (false≢true (ap (is_of_kind (Bytes len)) (sym e) ∙ h))

digits_of : (text digits : List ℕ) → text ≡ codes "0x" ++ digits → hex_digits text ≡ Some digits
digits_of text digits e = ap hex_digits e ∙ strip_front (codes "0x") digits

-- a lawful value has a form, and is read in it
pub value_form : (kind : Kind) (text : List ℕ) (value : Value) → ValueText kind text value → IsForm text
value_form kind text value (decimal run v fits) = (Decimal, run)
value_form kind text value (hexadecimal digits whole run v fits) = let all = run_all classes.Hex 1 16 digits run in
    (Hex, (digits, whole, run_from classes.Hex 1 32 digits all.0 (omega arith) all.2))
value_form kind text value (dotted a b c d parts small k v) = (Dotted, (a, b, c, d, parts))
value_form kind text value (bytes len digits k whole run size v) = (Hex, (digits, whole, run))

pub value_lawful : (kind : Kind) (text : List ℕ) (value : Value) (h : ValueText kind text value) → let form = value_form kind text value h in
    lawful kind form.0 text ≡ Some value
unfolding value_form
value_lawful kind text value (decimal run v fits) = decimal_lawful kind text value v fits
value_lawful kind text value (hexadecimal digits whole run v fits) = let all = run_all classes.Hex 1 16 digits run in
    hex_lawful kind text digits value (digits_of text digits whole) all.1 v fits
value_lawful kind text value (dotted a b c d parts small k v) = ap (λ k. lawful k Dotted text) k ∙ rw (address_only text a b c d parts small) (ap Some (sym v))
value_lawful kind text value (bytes len digits k whole run size v) = ap (λ k. lawful k Hex text) k
    ∙ rw (digits_of text digits whole, eq-eqb (length digits) (2 * len) size) (ap Some (sym v))

pub value_only : (kind : Kind) (text : List ℕ) (value : Value) → ValueText kind text value → value_at kind text ≡ Some value
value_only kind text value h = let form = value_form kind text value h in ap (option_and_then (λ f. lawful kind f text)) (form_only text form.0 form.1)
    ∙ value_lawful kind text value h

-- what is read in a form is a lawful value

of_kind_found : (kind : Kind) (n : ℕ) (value : Value) → of_kind kind n ≡ Some value → (value ≡ Num n) × (is_of_kind kind value ≡ true)
of_kind_found kind n value h = let found = cond_some (is_of_kind kind (Num n)) (Num n) value h in
    (sym found.1, subst (λ (v : Value). is_of_kind kind v ≡ true) found.1 found.0)

hex_found : (kind : Kind) (text : List ℕ) (value : Value) (digits : List ℕ) → text ≡ codes "0x" ++ digits → is_run_of classes.Hex 1 32 digits ≡ true
    → hex_number kind (Some digits) ≡ Some value → ValueText kind text value
hex_found kind text value digits whole run h = by (nat_le (length digits) 16) refl h
  where
    by : (b : Bool) → nat_le (length digits) 16 ≡ b → cond b (of_kind kind (number_at 16 digits)) None ≡ Some value → ValueText kind text value
    by true b k = let all = run_all classes.Hex 1 32 digits run in let found = of_kind_found kind (number_at 16 digits) value k in
        hexadecimal digits whole (run_from classes.Hex 1 16 digits all.0 (leb-true (length digits) 16 b) all.2) found.0 found.1
    by false b k = cc

decimal_found : (kind : Kind) (text : List ℕ) (value : Value) → is_run_of classes.Digit 1 20 text ≡ true → of_kind kind (number_at 10 text) ≡ Some value
    → ValueText kind text value
decimal_found kind text value run h = let found = of_kind_found kind (number_at 10 text) value h in decimal run found.0 found.1

dotted_found : (text : List ℕ) (value : Value) (o : Option ℕ) → address_at text ≡ o → option_map Num o ≡ Some value → ValueText U32 text value
dotted_found text value (Some n) e h = let found = address_found text n e in let same : Num n ≡ value = cc in
    dotted found.a found.b found.c found.d found.parts found.small refl (sym same ∙ ap Num found.number)
dotted_found text value None e h = cc

raw_found : (len : ℕ) (text : List ℕ) (value : Value) (digits : List ℕ) → text ≡ codes "0x" ++ digits → is_run_of classes.Hex 1 32 digits ≡ true
    → raw_of len (Some digits) ≡ Some value → ValueText (Bytes len) text value
raw_found len text value digits whole run h = let found = cond_some (length digits == 2 * len) (Raw len (pairs 16 digits)) value h in
    bytes len digits refl whole run (eqb-true (length digits) (2 * len) found.0) (sym found.1)

pub lawful_found : (kind : Kind) (form : ValueForm) (text : List ℕ) (value : Value) → HasForm text form → lawful kind form text ≡ Some value
    → ValueText kind text value
lawful_found U8 Decimal text value h e = decimal_found U8 text value h e
lawful_found U16 Decimal text value h e = decimal_found U16 text value h e
lawful_found U32 Decimal text value h e = decimal_found U32 text value h e
lawful_found U64 Decimal text value h e = decimal_found U64 text value h e
lawful_found (Bytes len) Decimal text value h e = cc
lawful_found U8 Hex text value h e = hex_found U8 text value h.0 h.1 h.2 (ap (hex_number U8) (sym (digits_of text h.0 h.1)) ∙ e)
lawful_found U16 Hex text value h e = hex_found U16 text value h.0 h.1 h.2 (ap (hex_number U16) (sym (digits_of text h.0 h.1)) ∙ e)
lawful_found U32 Hex text value h e = hex_found U32 text value h.0 h.1 h.2 (ap (hex_number U32) (sym (digits_of text h.0 h.1)) ∙ e)
lawful_found U64 Hex text value h e = hex_found U64 text value h.0 h.1 h.2 (ap (hex_number U64) (sym (digits_of text h.0 h.1)) ∙ e)
lawful_found (Bytes len) Hex text value h e = raw_found len text value h.0 h.1 h.2 (ap (raw_of len) (sym (digits_of text h.0 h.1)) ∙ e)
lawful_found U8 Dotted text value h e = cc
lawful_found U16 Dotted text value h e = cc
lawful_found U32 Dotted text value h e = dotted_found text value (address_at text) refl e
lawful_found U64 Dotted text value h e = cc
lawful_found (Bytes len) Dotted text value h e = cc

pub value_found : (kind : Kind) (text : List ℕ) (value : Value) → value_at kind text ≡ Some value → ValueText kind text value
value_found kind text value h = option_and_then_some _ (value_form_at text) value h (λ form e k. lawful_found kind form text value (form_found text form e) k)

-- what a text is of where a value is wanted

pub judged_same : {A : Type 0} (form : Type 0) (good : A → Type 0) → ((x y : A) → good x → good y → x ≡ y) → ((x : A) → good x → form)
    → (r s : Result A Offence) → Judged form good r → Judged form good s → r ≡ s
judged_same form good one has (Ok x) (Ok y) h k = ap Ok (one x y h k)
judged_same form good one has (Ok x) (Err Syntax) h k = absurd (k (has x h))
judged_same form good one has (Ok x) (Err ValueRange) h k = absurd (k.1 x h)
judged_same form good one has (Ok x) (Err UnknownName) h k = absurd k
judged_same form good one has (Ok x) (Err BadOperator) h k = absurd k
judged_same form good one has (Ok x) (Err TooLong) h k = absurd k
judged_same form good one has (Err Syntax) (Ok y) h k = absurd (h (has y k))
judged_same form good one has (Err Syntax) (Err Syntax) h k = refl
judged_same form good one has (Err Syntax) (Err ValueRange) h k = absurd (h k.0)
judged_same form good one has (Err Syntax) (Err UnknownName) h k = absurd k
judged_same form good one has (Err Syntax) (Err BadOperator) h k = absurd k
judged_same form good one has (Err Syntax) (Err TooLong) h k = absurd k
judged_same form good one has (Err ValueRange) (Ok y) h k = absurd (h.1 y k)
judged_same form good one has (Err ValueRange) (Err Syntax) h k = absurd (k h.0)
judged_same form good one has (Err ValueRange) (Err ValueRange) h k = refl
judged_same form good one has (Err ValueRange) (Err UnknownName) h k = absurd k
judged_same form good one has (Err ValueRange) (Err BadOperator) h k = absurd k
judged_same form good one has (Err ValueRange) (Err TooLong) h k = absurd k
judged_same form good one has (Err UnknownName) s h k = absurd h
judged_same form good one has (Err BadOperator) s h k = absurd h
judged_same form good one has (Err TooLong) s h k = absurd h

pub value_one : (kind : Kind) (text : List ℕ) (x y : Value) → ValueText kind text x → ValueText kind text y → x ≡ y
value_one kind text x y h k = let both : Some x ≡ Some y = sym (value_only kind text x h) ∙ value_only kind text y k in cc

-- a text has one form
pub form_one : (text : List ℕ) (f g : ValueForm) → HasForm text f → HasForm text g → f ≡ g
form_one text f g h k = let both : Some f ≡ Some g = sym (form_only text f h) ∙ form_only text g k in cc

-- what isn't read in the text's form is no value of the kind
pub unlawful : (kind : Kind) (text : List ℕ) (form : ValueForm) → HasForm text form → lawful kind form text ≡ None → (value : Value)
    → ValueText kind text value → ⊥
unlawful kind text form h e value v =
    let other = value_form kind text value v in
    let same : other.0 ≡ form = form_one text other.0 form other.1 h in
    let some : lawful kind form text ≡ Some value = ap (λ f. lawful kind f text) (sym same) ∙ value_lawful kind text value v in cc

abbrev sized_by : Kind → List ℕ → Option ValueForm → Result Value Offence
sized_by kind text o = found_or Syntax o >>= (λ form. found_or ValueRange (lawful kind form text))

pub sized_holds : (kind : Kind) (text : List ℕ) → ValueRead kind text (sized_at kind text)
sized_holds kind text = by (value_form_at text) refl
  where
    in_form : (form : ValueForm) → HasForm text form → (o : Option Value) → lawful kind form text ≡ o → ValueRead kind text (found_or ValueRange o)
    in_form form h (Some value) e = lawful_found kind form text value h e
    in_form form h None e = ((form, h), unlawful kind text form h e)

    by : (o : Option ValueForm) → value_form_at text ≡ o → ValueRead kind text (sized_by kind text o)
    by None e = λ f. let some : value_form_at text ≡ Some f.0 = form_only text f.0 f.1 in cc
    by (Some form) e = in_form form (form_found text form e) (lawful kind form text) refl
