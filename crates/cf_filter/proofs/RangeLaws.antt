-- Ranges are read just as the grammar says.
use Rattle.std.proofs.Common.{◌≡◌, ℕ, ◌+◌, ◌≤◌, List, [], ◌∷◌, ◌++◌, length, take, drop, Bool, true, false, cond, nat_le, nat_lt, Option, Some, None, Result, Ok, Err, refl, sym, ap, ◌∙◌, arith, subst, codes, ◌==◌, length-append, append-nil, append_assoc}
use Rattle.std.specs.List.{prefix_len, list_all}
use Rattle.std.specs.Option.{is_some, option_map}
use Rattle.std.proofs.lemmas.Bool.{and_parts, and_from, false≢true, leb-true, le-leb, ne_eqb, ltb-false, ltb-true}
use Rattle.std.proofs.lemmas.List.{take_at, drop_at, take-append-drop, length-take-le}
use Rattle.cf_row.specs.declared.schema.Kind.{Kind}
use Rattle.cf_row.specs.declared.schema.Kind.TheVariants.{U8, U16, U32, U64, Bytes}
use Rattle.cf_row.specs.declared.row.Value.{Value}
use Rattle.cf_row.specs.declared.expr.Op.{Op}
use Rattle.cf_row.specs.declared.expr.Op.TheVariants.{Eq, Ne, Lt, Le, Gt, Ge, Within, Outside}
use Rattle.cf_row.specs.Expr.{number_of}
use Rattle.cf_filter.specs.declared.bytes.Class.TheVariants as classes
use Rattle.cf_filter.specs.declared.fault.Offence.{Offence}
use Rattle.cf_filter.specs.declared.fault.Offence.TheVariants.{Syntax, UnknownName, BadOperator, ValueRange, TooLong}
use Rattle.cf_filter.specs.declared.value.ValueForm.{ValueForm}
use Rattle.cf_filter.specs.Tokens.{passes, run, past, strip_at, IsRun}
use Rattle.cf_filter.specs.Values.{is_run_of, parts_at, value_form_at, address_at, number_at, lawful, AreParts, HasForm}
use Rattle.cf_filter.specs.Ranges.{◌>>=◌, found_or, sized_at, are_dots, dots_len, before_dots, cut_at, in_order, net_from, is_address_kind, test_or, range_by, range_at, twice_at, bounds_at}
use Rattle.cf_filter.specs.Grammar.{Only, AreBytes, address_of, ValueText, HasRangeForm, RangeText, IsForm, Judged, ValueRead, TwiceRead, BoundsRead}
use Rattle.cf_filter.specs.Grammar.RangeText.{ends as lawful_ends, net as lawful_net}
use Rattle.cf_filter.specs.Grammar.HasRangeForm.{ends as form_ends, net as form_net}
use Rattle.cf_filter.proofs.Runs.{run_only, strip_front, strip_found}
use Rattle.cf_filter.proofs.ValueLaws.{run_all, parts_only, parts_found, address_only, IsAddress, address_found, form_only, form_found, value_form, value_one, lawful_found, sized_holds, judged_same, unlawful}

-- the cut

dots_small : (text : List ℕ) → dots_len text ≤ length text
dots_small [] = omega arith
dots_small (b ∷ bs) =
    elim (are_dots (b ∷ bs)) as
    (λ t. cond t 0 (1 + dots_len bs) ≤ length (b ∷ bs)) [ true ↦ omega arith | false ↦ let more = dots_small bs in omega (arith, more) ]

abbrev cut_ends : List ℕ → List ℕ → List ℕ × List ℕ
cut_ends low high = (low, high)

cut_only : (text low high : List ℕ) → text ≡ low ++ codes ".." ++ high → dots_len text ≡ length low → cut_at text ≡ Some (cut_ends low high)
cut_only text low high e n =
    let whole : text ≡ low ++ (codes ".." ++ high) = e ∙ append_assoc low (codes "..") high in
    let front : before_dots text ≡ low = ap (λ k. take k text) n ∙ ap (take (length low)) whole ∙ take_at low (codes ".." ++ high) (length low) refl in
    let back : drop (dots_len text) text ≡ codes ".." ++ high = ap (λ k. drop k text) n ∙ ap (drop (length low)) whole
    ∙ drop_at low (codes ".." ++ high) (length low) refl in
    ap (option_map (cut_ends (before_dots text))) (ap (strip_at (codes "..")) back ∙ strip_front (codes "..") high) ∙ ap (λ xs. Some (cut_ends xs high)) front

pub record IsCut (text low high : List ℕ) : Type 0 where
  pub whole : text ≡ low ++ codes ".." ++ high
  pub first : dots_len text ≡ length low

cut_found : (text : List ℕ) (p : List ℕ × List ℕ) → cut_at text ≡ Some p → IsCut text p.0 p.1
cut_found text p h = by (strip_at (codes "..") (drop (dots_len text) text)) refl h
  where
    by : (o : Option (List ℕ)) → strip_at (codes "..") (drop (dots_len text) text) ≡ o → option_map (cut_ends (before_dots text)) o ≡ Some p
        → IsCut text p.0 p.1
    by None e k = cc
    by (Some high) e k =
        let same : cut_ends (before_dots text) high ≡ p = cc in
        let back = strip_found (codes "..") (drop (dots_len text) text) high e in
        let is : IsCut text (before_dots text) high = record {
          whole = sym (take-append-drop (dots_len text) text) ∙ ap (λ xs. before_dots text ++ xs) back
              ∙ sym (append_assoc (before_dots text) (codes "..") high);
          first = sym (length-take-le (dots_len text) text (dots_small text));
        } in
        subst (λ (q : List ℕ × List ℕ). IsCut text q.0 q.1) same is

-- no two dots stand together in a dotted text with a number of bits

not_dot : (b : ℕ) → passes classes.Digit b ≡ true → (b == 46) ≡ false
not_dot b h = let both = and_parts (nat_le 48 b) (nat_le b 57) h in let low = leb-true 48 b both.0 in ne_eqb b 46 (λ e. omega (arith, low, e))

digits_skip : (a rest : List ℕ) → list_all (passes classes.Digit) a ≡ true → dots_len (a ++ rest) ≡ length a + dots_len rest
digits_skip [] rest h = omega arith
digits_skip (b ∷ a) rest h =
    let both = and_parts (passes classes.Digit b) (list_all (passes classes.Digit) a) h in
    let more : dots_len (a ++ rest) ≡ length a + dots_len rest = digits_skip a rest both.1 in
    rw (not_dot b both.0) (omega (arith, more))

dot_skip : (a rest : List ℕ) → list_all (passes classes.Digit) a ≡ true → 1 ≤ length a → dots_len (46 ∷ (a ++ rest)) ≡ 1 + (length a + dots_len rest)
dot_skip [] rest h some = omega (arith, some)
dot_skip (b ∷ a) rest h some =
    let both = and_parts (passes classes.Digit b) (list_all (passes classes.Digit) a) h in
    let more : dots_len ((b ∷ a) ++ rest) ≡ length (b ∷ a) + dots_len rest = digits_skip (b ∷ a) rest h in
    let no_dots : are_dots (46 ∷ ((b ∷ a) ++ rest)) ≡ false = rw (not_dot b both.0) refl in
    let step : dots_len (46 ∷ ((b ∷ a) ++ rest)) ≡ 1 + dots_len ((b ∷ a) ++ rest) = rw no_dots refl in
    step ∙ ap (λ n. 1 + n) more

net_dots : (front bits a b c d : List ℕ) → AreParts front a b c d → is_run_of classes.Digit 1 20 bits ≡ true
    → dots_len (front ++ codes "/" ++ bits) ≡ length (front ++ codes "/" ++ bits)
net_dots front bits a b c d p h =
    let pa = run_all classes.Digit 1 3 a p.first in
    let pb = run_all classes.Digit 1 3 b p.second in
    let pc = run_all classes.Digit 1 3 c p.third in
    let pd = run_all classes.Digit 1 3 d p.fourth in
    let all = run_all classes.Digit 1 20 bits h in
    let tail : dots_len (47 ∷ bits) ≡ 1 + length bits = slash bits (ap dots_len (sym (append-nil bits)) ∙ digits_skip bits [] all.2) in
    let r4 : dots_len (46 ∷ (d ++ 47 ∷ bits)) ≡ 1 + (length d + dots_len (47 ∷ bits)) = dot_skip d (47 ∷ bits) pd.2 pd.0 in
    let r3 : dots_len (46 ∷ (c ++ 46 ∷ (d ++ 47 ∷ bits))) ≡ 1 + (length c + dots_len (46 ∷ (d ++ 47 ∷ bits))) = dot_skip c (46 ∷ (d ++ 47 ∷ bits)) pc.2 pc.0 in
    let r2 : dots_len (46 ∷ (b ++ 46 ∷ (c ++ 46 ∷ (d ++ 47 ∷ bits)))) ≡ 1 + (length b + dots_len (46 ∷ (c ++ 46 ∷ (d ++ 47 ∷ bits)))) =
    dot_skip b (46 ∷ (c ++ 46 ∷ (d ++ 47 ∷ bits))) pb.2 pb.0 in
    let r1 : dots_len (a ++ 46 ∷ (b ++ 46 ∷ (c ++ 46 ∷ (d ++ 47 ∷ bits)))) ≡ length a + dots_len (46 ∷ (b ++ 46 ∷ (c ++ 46 ∷ (d ++ 47 ∷ bits)))) =
    digits_skip a (46 ∷ (b ++ 46 ∷ (c ++ 46 ∷ (d ++ 47 ∷ bits)))) pa.2 in
    let whole : front ++ codes "/" ++ bits ≡ a ++ 46 ∷ (b ++ 46 ∷ (c ++ 46 ∷ (d ++ 47 ∷ bits))) = regroup in
    let size : length (a ++ 46 ∷ (b ++ 46 ∷ (c ++ 46 ∷ (d ++ 47 ∷ bits)))) ≡ length a +
    (1 + (length b + (1 + (length c + (1 + (length d + (1 + length bits))))))) =
    omega (
      arith,
      length-append a (46 ∷ (b ++ 46 ∷ (c ++ 46 ∷ (d ++ 47 ∷ bits)))),
      length-append b (46 ∷ (c ++ 46 ∷ (d ++ 47 ∷ bits))),
      length-append c (46 ∷ (d ++ 47 ∷ bits)),
      length-append d (47 ∷ bits),
    ) in
    let counted : dots_len (a ++ 46 ∷ (b ++ 46 ∷ (c ++ 46 ∷ (d ++ 47 ∷ bits)))) ≡ length (a ++ 46 ∷ (b ++ 46 ∷ (c ++ 46 ∷ (d ++ 47 ∷ bits)))) =
    omega (arith, r1, r2, r3, r4, tail, size) in
    ap dots_len whole ∙ counted ∙ ap length (sym whole)
  where
    slash : (bits : List ℕ) → dots_len bits ≡ length bits + 0 → dots_len (47 ∷ bits) ≡ 1 + length bits
    slash bits e = omega (arith, e)

    regroup : front ++ codes "/" ++ bits ≡ a ++ 46 ∷ (b ++ 46 ∷ (c ++ 46 ∷ (d ++ 47 ∷ bits)))
    regroup =
        append_assoc front (codes "/") bits ∙ ap (λ xs. xs ++ 47 ∷ bits) p.whole ∙ append_assoc a (46 ∷ (b ++ 46 ∷ (c ++ 46 ∷ d))) (47 ∷ bits)
        ∙ ap (λ xs. a ++ 46 ∷ xs) (append_assoc b (46 ∷ (c ++ 46 ∷ d)) (47 ∷ bits) ∙ ap (λ xs. b ++ 46 ∷ xs) (append_assoc c (46 ∷ d) (47 ∷ bits)))

-- a dotted text with a number of bits isn't cut
net_uncut : (text front bits a b c d : List ℕ) → text ≡ front ++ codes "/" ++ bits → AreParts front a b c d → is_run_of classes.Digit 1 20 bits ≡ true
    → cut_at text ≡ None
net_uncut text front bits a b c d e p h =
    let all : dots_len text ≡ length text = ap dots_len e ∙ net_dots front bits a b c d p h ∙ ap length (sym e) in
    let none : drop (dots_len text) text ≡ [] = ap (λ n. drop n text) all ∙ drop_all text in
    ap (option_map (cut_ends (before_dots text))) (ap (strip_at (codes "..")) none)
  where
    drop_all : (xs : List ℕ) → drop (length xs) xs ≡ []
    drop_all [] = refl
    drop_all (x ∷ xs) = drop_all xs

-- the text before a slash

dotted_plain : (a b c d front : List ℕ) → AreParts front a b c d → list_all (passes (classes.Except 47)) front ≡ true
dotted_plain a b c d front p =
    let pa = run_all classes.Digit 1 3 a p.first in
    let pb = run_all classes.Digit 1 3 b p.second in
    let pc = run_all classes.Digit 1 3 c p.third in
    let pd = run_all classes.Digit 1 3 d p.fourth in
    ap (list_all (passes (classes.Except 47))) p.whole
    ∙ plain a (46 ∷ (b ++ 46 ∷ (c ++ 46 ∷ d))) pa.2
    (plain b (46 ∷ (c ++ 46 ∷ d)) pb.2 (plain c (46 ∷ d) pc.2 (ap (list_all (passes (classes.Except 47))) (sym (append-nil d)) ∙ plain d [] pd.2 refl)))
  where
    no_slash : (x : ℕ) → passes classes.Digit x ≡ true → passes (classes.Except 47) x ≡ true
    no_slash x h = let both = and_parts (nat_le 48 x) (nat_le x 57) h in let low = leb-true 48 x both.0 in rw (ne_eqb x 47 (λ e. omega (arith, low, e))) refl

    plain : (xs rest : List ℕ) → list_all (passes classes.Digit) xs ≡ true → list_all (passes (classes.Except 47)) rest ≡ true
        → list_all (passes (classes.Except 47)) (xs ++ rest) ≡ true
    plain [] rest h k = k
    plain (x ∷ xs) rest h k = let both = and_parts (passes classes.Digit x) (list_all (passes classes.Digit) xs) h in
        and_from (passes (classes.Except 47) x) (list_all (passes (classes.Except 47)) (xs ++ rest)) (no_slash x both.0) (plain xs rest both.1 k)

net_split : (text front bits a b c d : List ℕ) → text ≡ front ++ codes "/" ++ bits → AreParts front a b c d → (run (classes.Except 47) text ≡ front)
    × (strip_at (codes "/") (past (classes.Except 47) text) ≡ Some bits)
net_split text front bits a b c d e p =
    let is : IsRun (classes.Except 47) text front (codes "/" ++ bits) =
    record { whole = e ∙ append_assoc front (codes "/") bits; within = dotted_plain a b c d front p; ends = refl } in
    let same = run_only (classes.Except 47) text front (codes "/" ++ bits) is in
    (sym same.0, ap (strip_at (codes "/")) (sym same.1) ∙ strip_front (codes "/") bits)

net_whole : (text bits : List ℕ) → strip_at (codes "/") (past (classes.Except 47) text) ≡ Some bits → text ≡ run (classes.Except 47) text ++ codes "/" ++ bits
net_whole text bits e = sym (take-append-drop (prefix_len (passes (classes.Except 47)) text) text)
    ∙ ap (λ xs. run (classes.Except 47) text ++ xs) (strip_found (codes "/") (past (classes.Except 47) text) bits e)
    ∙ sym (append_assoc (run (classes.Except 47) text) (codes "/") bits)

-- lawful ranges have a form, and there is one

range_form : (kind : Kind) (text : List ℕ) (x : Value × Value) → RangeText kind text x → HasRangeForm text
range_form kind text x (lawful_ends low high e n first last order) = let f = value_form kind low x.0 first in let g = value_form kind high x.1 last in
    form_ends low high f.0 g.0 e n f.1 g.1
range_form kind text x (lawful_net a b c d front bits e p small decimal few k r) = form_net a b c d front bits e p decimal

pair_one : (x y : Value × Value) → x.0 ≡ y.0 → x.1 ≡ y.1 → x ≡ y
pair_one x y e f = ap (λ v. (v, x.1)) e ∙ ap (λ v. (y.0, v)) f

not_both : (kind : Kind) (text low high a b c d front bits : List ℕ) → text ≡ low ++ codes ".." ++ high → dots_len text ≡ length low
    → text ≡ front ++ codes "/" ++ bits → AreParts front a b c d → is_run_of classes.Digit 1 20 bits ≡ true → ⊥
not_both kind text low high a b c d front bits e n f p h = let some : cut_at text ≡ Some (cut_ends low high) = cut_only text low high e n in
    let none : cut_at text ≡ None = net_uncut text front bits a b c d f p h in cc

range_one : (kind : Kind) (text : List ℕ) (x y : Value × Value) → RangeText kind text x → RangeText kind text y → x ≡ y
range_one kind text x y (lawful_ends low high e n first last order) (lawful_ends low' high' e' n' first' last' order') =
    let both : Some (cut_ends low high) ≡ Some (cut_ends low' high') = sym (cut_only text low high e n) ∙ cut_only text low' high' e' n' in
    let same : cut_ends low high ≡ cut_ends low' high' = cc in
    pair_one x y (value_one kind low' x.0 y.0 (subst (λ (t : List ℕ). ValueText kind t x.0) (ap (λ q. q.0) same) first) first')
    (value_one kind high' x.1 y.1 (subst (λ (t : List ℕ). ValueText kind t x.1) (ap (λ q. q.1) same) last) last')
range_one kind text x y (lawful_ends low high e n first last order) (lawful_net a b c d front bits e' p small decimal few k r) =
    absurd (not_both kind text low high a b c d front bits e n e' p decimal)
range_one kind text x y (lawful_net a b c d front bits e' p small decimal few k r) (lawful_ends low high e n first last order) =
    absurd (not_both kind text low high a b c d front bits e n e' p decimal)
range_one kind text x y (lawful_net a b c d front bits e p small decimal few k r) (lawful_net a' b' c' d' front' bits' e' p' small' decimal' few' k' r') =
    let s = net_split text front bits a b c d e p in
    let s' = net_split text front' bits' a' b' c' d' e' p' in
    let same : front ≡ front' = sym s.0 ∙ s'.0 in
    let some : Some bits ≡ Some bits' = sym s.1 ∙ s'.1 in
    let bits_same : bits ≡ bits' = cc in
    let addresses : Some (address_of a b c d) ≡ Some (address_of a' b' c' d') = sym (address_only front a b c d p small) ∙ ap address_at same
    ∙ address_only front' a' b' c' d' p' small' in
    let address_same : address_of a b c d ≡ address_of a' b' c' d' = cc in
    r ∙ ap (λ n. net_from n (number_at 10 bits)) address_same ∙ ap (λ t. net_from (address_of a' b' c' d') (number_at 10 t)) bits_same ∙ sym r'

-- a text that is cut

ends_of : (text low high : List ℕ) → cut_at text ≡ Some (cut_ends low high) → HasRangeForm text → IsForm low × IsForm high
ends_of text low high cut (form_ends low' high' f g e n hf hg) =
    let both : Some (cut_ends low' high') ≡ Some (cut_ends low high) = sym (cut_only text low' high' e n) ∙ cut in
    let same : cut_ends low' high' ≡ cut_ends low high = cc in
    ((f, subst (λ (t : List ℕ). HasForm t f) (ap (λ q. q.0) same) hf), (g, subst (λ (t : List ℕ). HasForm t g) (ap (λ q. q.1) same) hg))
ends_of text low high cut (form_net a b c d front bits e p decimal) = let none : cut_at text ≡ None = net_uncut text front bits a b c d e p decimal in
    absurd (clash none)
  where
    clash : cut_at text ≡ None → ⊥
    clash none = cc

pub record AreEnds (kind : Kind) (low high : List ℕ) (x : Value × Value) : Type 0 where
  pub first : ValueText kind low x.0
  pub last : ValueText kind high x.1
  pub order : number_of x.0 ≤ number_of x.1

range_ends : (kind : Kind) (text low high : List ℕ) (x : Value × Value) → cut_at text ≡ Some (cut_ends low high) → RangeText kind text x
    → AreEnds kind low high x
range_ends kind text low high x cut (lawful_ends low' high' e n first last order) =
    let both : Some (cut_ends low' high') ≡ Some (cut_ends low high) = sym (cut_only text low' high' e n) ∙ cut in
    let same : cut_ends low' high' ≡ cut_ends low high = cc in
    record {
      first = subst (λ (t : List ℕ). ValueText kind t x.0) (ap (λ q. q.0) same) first;
      last = subst (λ (t : List ℕ). ValueText kind t x.1) (ap (λ q. q.1) same) last;
      order = order;
    }
range_ends kind text low high x cut (lawful_net a b c d front bits e p small decimal few k r) = let none : cut_at text ≡ None =
    net_uncut text front bits a b c d e p decimal in absurd (clash none)
  where
    clash : cut_at text ≡ None → ⊥
    clash none = cc

abbrev RangeRead : Kind → List ℕ → Result (Value × Value) Offence → Type 0
RangeRead kind text = Judged (HasRangeForm text) (RangeText kind text)

module _ (kind : Kind) (text low high : List ℕ) (cut : cut_at text ≡ Some (cut_ends low high)) (is : IsCut text low high) where
  order_holds : (first last : Value) → ValueText kind low first → ValueText kind high last → HasRangeForm text → (b : Bool)
      → nat_lt (number_of last) (number_of first) ≡ b → RangeRead kind text (cond b (Err ValueRange) (Ok (first, last)))
  order_holds first last f l form true b = (
    form,
    λ x h.
        let ends = range_ends kind text low high x cut h in
        let one : x.0 ≡ first = value_one kind low x.0 first ends.first f in
        let two : x.1 ≡ last = value_one kind high x.1 last ends.last l in
        let below = ltb-true (number_of last) (number_of first) b in
        let order : number_of first ≤ number_of last =
        subst (λ (v : Value). number_of v ≤ number_of last) one (subst (λ (v : Value). number_of x.0 ≤ number_of v) two ends.order) in
        omega (arith, below, order),
  )
  order_holds first last f l form false b = lawful_ends low high is.whole is.first f l (ltb-false (number_of last) (number_of first) b)

  values_hold : (f g : ValueForm) → HasForm low f → HasForm high g → (a b : Option Value) → lawful kind f low ≡ a → lawful kind g high ≡ b
      → RangeRead kind text (found_or ValueRange a >>= (λ first. found_or ValueRange b >>= (λ last. in_order first last)))
  values_hold f g hf hg None b e k =
      (form_ends low high f g is.whole is.first hf hg, λ x h. let ends = range_ends kind text low high x cut h in unlawful kind low f hf e x.0 ends.first)
  values_hold f g hf hg (Some first) None e k =
      (form_ends low high f g is.whole is.first hf hg, λ x h. let ends = range_ends kind text low high x cut h in unlawful kind high g hg k x.1 ends.last)
  values_hold f g hf hg (Some first) (Some last) e k =
      order_holds first last (lawful_found kind f low first hf e) (lawful_found kind g high last hg k) (form_ends low high f g is.whole is.first hf hg)
      (nat_lt (number_of last) (number_of first)) refl

  no_form : (t : List ℕ) → value_form_at t ≡ None → IsForm t → ⊥
  no_form t e h = let some : value_form_at t ≡ Some h.0 = form_only t h.0 h.1 in cc

  abbrev by_forms : Option ValueForm → Option ValueForm → Result (Value × Value) Offence
  by_forms f g =
      found_or Syntax f >>=
      (λ low_form. found_or Syntax g >>= (λ high_form. found_or ValueRange
      (lawful kind low_form low) >>= (λ first. found_or ValueRange (lawful kind high_form high) >>= (λ last. in_order first last))))

  between_holds : (f g : Option ValueForm) → value_form_at low ≡ f → value_form_at high ≡ g → RangeRead kind text (by_forms f g)
  between_holds None g e k = λ h. let ends = ends_of text low high cut h in no_form low e ends.0
  between_holds (Some f) None e k = λ h. let ends = ends_of text low high cut h in no_form high k ends.1
  between_holds (Some f) (Some g) e k = values_hold f g (form_found low f e) (form_found high g k) (lawful kind f low) (lawful kind g high) refl refl

-- a text that isn't cut

pub record IsNet (text a b c d bits : List ℕ) : Type 0 where
  pub parts : AreParts (run (classes.Except 47) text) a b c d
  pub strip : strip_at (codes "/") (past (classes.Except 47) text) ≡ Some bits
  pub decimal : is_run_of classes.Digit 1 20 bits ≡ true

uncut_form : (text : List ℕ) → cut_at text ≡ None → HasRangeForm text → (a b c d bits : List ℕ) × IsNet text a b c d bits
uncut_form text none (form_ends low high f g e n hf hg) = let some : cut_at text ≡ Some (cut_ends low high) = cut_only text low high e n in
    absurd (clash (cut_ends low high) some)
  where
    clash : (x : List ℕ × List ℕ) → cut_at text ≡ Some x → ⊥
    clash x some = cc
uncut_form text none (form_net a b c d front bits e p decimal) = let s = net_split text front bits a b c d e p in
    (a, b, c, d, bits, record { parts = subst (λ (t : List ℕ). AreParts t a b c d) (sym s.0) p; strip = s.1; decimal = decimal })

pub record IsLawfulNet (kind : Kind) (text a b c d bits : List ℕ) : Type 0 where
  pub net : IsNet text a b c d bits
  pub small : AreBytes a b c d
  pub few : number_at 10 bits ≤ 32
  pub kind_is : kind ≡ U32

uncut_range : (kind : Kind) (text : List ℕ) (x : Value × Value) → cut_at text ≡ None → RangeText kind text x → (a b c d bits : List ℕ)
    × IsLawfulNet kind text a b c d bits
uncut_range kind text x none (lawful_ends low high e n first last order) = let some : cut_at text ≡ Some (cut_ends low high) = cut_only text low high e n in
    absurd (clash (cut_ends low high) some)
  where
    clash : (y : List ℕ × List ℕ) → cut_at text ≡ Some y → ⊥
    clash y some = cc
uncut_range kind text x none (lawful_net a b c d front bits e p small decimal few k r) =
    let s = net_split text front bits a b c d e p in (
      a,
      b,
      c,
      d,
      bits,
      record {
        net = record { parts = subst (λ (t : List ℕ). AreParts t a b c d) (sym s.0) p; strip = s.1; decimal = decimal };
        small = small;
        few = few;
        kind_is = k;
      },
    )

address_kind : (kind : Kind) → is_address_kind kind ≡ true → kind ≡ U32
address_kind U8 h = absurd (false≢true h)
address_kind U16 h = absurd (false≢true h)
address_kind U32 h = refl
address_kind U64 h = absurd (false≢true h)
address_kind (Bytes len) h = absurd (false≢true h)

module _ (kind : Kind) (text : List ℕ) (none : cut_at text ≡ None) where
  abbrev front : List ℕ
  front = run (classes.Except 47) text

  abbrev strip : Option (List ℕ)
  strip = strip_at (codes "/") (past (classes.Except 47) text)

  no_form_by : ((a b c d bits : List ℕ) → IsNet text a b c d bits → ⊥) → HasRangeForm text → ⊥
  no_form_by h f = let n = uncut_form text none f in h n.0 n.1 n.2 n.3 n.4 n.5

  bits_same : (a b c d bits bits' : List ℕ) → IsNet text a b c d bits' → strip ≡ Some bits → bits' ≡ bits
  bits_same a b c d bits bits' n e = let both : Some bits' ≡ Some bits = sym n.strip ∙ e in cc

  few_hold : (bits : List ℕ) (n : ℕ) → strip ≡ Some bits → is_run_of classes.Digit 1 20 bits ≡ true → IsAddress front n → kind ≡ U32 → (t : Bool)
      → nat_le (number_at 10 bits) 32 ≡ t
      → RangeRead kind text (test_or ValueRange t >>= (λ small. Ok (net_from n (number_at 10 bits))))
  few_hold bits n e decimal i k true t =
      lawful_net i.a i.b i.c i.d front bits (net_whole text bits e) i.parts i.small decimal (leb-true (number_at 10 bits) 32 t) k
      (ap (λ m. net_from m (number_at 10 bits)) i.number)
  few_hold bits n e decimal i k false t = (
    form_net i.a i.b i.c i.d front bits (net_whole text bits e) i.parts decimal,
    λ x h.
        let l = uncut_range kind text x none h in
        let few = l.5 in
        let same : l.4 ≡ bits = bits_same l.0 l.1 l.2 l.3 bits l.4 few.net e in
        let small : number_at 10 bits ≤ 32 = subst (λ (b : List ℕ). number_at 10 b ≤ 32) same few.few in
        let large : nat_le (number_at 10 bits) 32 ≡ true = le-leb (number_at 10 bits) 32 small in
        false≢true (sym t ∙ large),
  )

  address_holds : (a b c d bits : List ℕ) → AreParts front a b c d → strip ≡ Some bits → is_run_of classes.Digit 1 20 bits ≡ true → kind ≡ U32
      → (o : Option ℕ) → address_at front ≡ o
      → RangeRead kind text
      (found_or ValueRange o >>= (λ n. test_or ValueRange (nat_le (number_at 10 bits) 32) >>= (λ small. Ok (net_from n (number_at 10 bits)))))
  address_holds a b c d bits p e decimal k (Some n) o = few_hold bits n e decimal (address_found front n o) k (nat_le (number_at 10 bits) 32) refl
  address_holds a b c d bits p e decimal k None o = (
    form_net a b c d front bits (net_whole text bits e) p decimal,
    λ x h.
        let l = uncut_range kind text x none h in
        let net = l.5 in
        let some : address_at front ≡ Some (address_of l.0 l.1 l.2 l.3) = address_only front l.0 l.1 l.2 l.3 net.net.parts net.small in cc,
  )

  kind_holds : (a b c d bits : List ℕ) → AreParts front a b c d → strip ≡ Some bits → is_run_of classes.Digit 1 20 bits ≡ true → (t : Bool)
      → is_address_kind kind ≡ t
      → RangeRead kind text
      (test_or ValueRange t >>= (λ kind_fits. found_or ValueRange
      (address_at front) >>= (λ n. test_or ValueRange (nat_le (number_at 10 bits) 32) >>= (λ small. Ok (net_from n (number_at 10 bits))))))
  kind_holds a b c d bits p e decimal true t = address_holds a b c d bits p e decimal (address_kind kind t) (address_at front) refl
  kind_holds a b c d bits p e decimal false t = (
    form_net a b c d front bits (net_whole text bits e) p decimal,
    λ x h.
        let l = uncut_range kind text x none h in
        let net = l.5 in
        false≢true (sym t ∙ ap is_address_kind net.kind_is),
  )

  decimal_holds : (a b c d bits : List ℕ) → AreParts front a b c d → strip ≡ Some bits → (t : Bool) → is_run_of classes.Digit 1 20 bits ≡ t
      → RangeRead kind text
      (test_or Syntax t >>= (λ decimal. test_or ValueRange
      (is_address_kind kind) >>=
      (λ kind_fits. found_or ValueRange
      (address_at front) >>= (λ n. test_or ValueRange (nat_le (number_at 10 bits) 32) >>= (λ small. Ok (net_from n (number_at 10 bits)))))))
  decimal_holds a b c d bits p e true t = kind_holds a b c d bits p e t (is_address_kind kind) refl
  decimal_holds a b c d bits p e false t =
      no_form_by (λ a' b' c' d' bits' n. false≢true
      (sym t ∙ subst (λ (x : List ℕ). is_run_of classes.Digit 1 20 x ≡ true) (bits_same a' b' c' d' bits bits' n e) n.decimal))

  parts_hold : (bits : List ℕ) → strip ≡ Some bits → (o : Option (List ℕ × List ℕ × List ℕ × List ℕ)) → parts_at front ≡ o
      → RangeRead kind text
      (test_or Syntax
      (is_some o) >>=
      (λ dotted. test_or Syntax
      (is_run_of classes.Digit 1 20 bits) >>=
      (λ decimal. test_or ValueRange
      (is_address_kind kind) >>=
      (λ kind_fits. found_or ValueRange
      (address_at front) >>= (λ n. test_or ValueRange (nat_le (number_at 10 bits) 32) >>= (λ small. Ok (net_from n (number_at 10 bits))))))))
  parts_hold bits e (Some p) o = decimal_holds p.0 p.1 p.2 p.3 bits (parts_found front p o) e (is_run_of classes.Digit 1 20 bits) refl
  parts_hold bits e None o = no_form_by (λ a b c d bits' n. absurd (clash a b c d (parts_only front a b c d n.parts)))
    where
      clash : (a b c d : List ℕ) → parts_at front ≡ Some (a, b, c, d) → ⊥
      clash a b c d some = cc

  net_holds : (s : Option (List ℕ)) → strip ≡ s
      → RangeRead kind text
      (found_or Syntax s >>= (λ bits. test_or Syntax
      (is_some (parts_at front)) >>=
      (λ dotted. test_or Syntax
      (is_run_of classes.Digit 1 20 bits) >>=
      (λ decimal. test_or ValueRange
      (is_address_kind kind) >>=
      (λ kind_fits. found_or ValueRange
      (address_at front) >>= (λ n. test_or ValueRange (nat_le (number_at 10 bits) 32) >>= (λ small. Ok (net_from n (number_at 10 bits)))))))))
  net_holds (Some bits) e = parts_hold bits e (parts_at front) refl
  net_holds None e = no_form_by (λ a b c d bits n. absurd (clash bits n.strip))
    where
      clash : (bits : List ℕ) → strip ≡ Some bits → ⊥
      clash bits some = cc

range_by_holds : (kind : Kind) (text : List ℕ) (o : Option (List ℕ × List ℕ)) → cut_at text ≡ o → RangeRead kind text (range_by kind text o)
range_by_holds kind text None e = net_holds kind text e (strip_at (codes "/") (past (classes.Except 47) text)) refl
range_by_holds kind text (Some p) e = between_holds kind text p.0 p.1 e (cut_found text p e) (value_form_at p.0) (value_form_at p.1) refl refl

-- the value or the range after an operator

range_only : (kind : Kind) (text : List ℕ) → Only (Judged (HasRangeForm text) (RangeText kind text)) (range_at kind text)
range_only kind text =
    let h = range_by_holds kind text (cut_at text) refl in
    record {
      holds = h;
      only = λ r k. judged_same (HasRangeForm text) (RangeText kind text) (range_one kind text) (range_form kind text) r (range_at kind text) k h;
    }

twice_holds : (kind : Kind) (text : List ℕ) (r : Result Value Offence) → ValueRead kind text r → TwiceRead kind text (r >>= (λ value. Ok (value, value)))
twice_holds kind text (Ok value) h = (h, refl)
twice_holds kind text (Err Syntax) h = h
twice_holds kind text (Err ValueRange) h = (h.0, λ x k. h.1 x.0 k.0)
twice_holds kind text (Err UnknownName) h = h
twice_holds kind text (Err BadOperator) h = h
twice_holds kind text (Err TooLong) h = h

twice_one : (kind : Kind) (text : List ℕ) (x y : Value × Value) → ValueText kind text x.0 × (x.1 ≡ x.0) → ValueText kind text y.0 × (y.1 ≡ y.0) → x ≡ y
twice_one kind text x y h k = let first : x.0 ≡ y.0 = value_one kind text x.0 y.0 h.0 k.0 in pair_one x y first (h.1 ∙ first ∙ sym k.1)

twice_only : (kind : Kind) (text : List ℕ) → Only (TwiceRead kind text) (twice_at kind text)
twice_only kind text =
    let h = twice_holds kind text (sized_at kind text) (sized_holds kind text) in
    record {
      holds = h;
      only = λ r k. judged_same (IsForm text) (λ (x : Value × Value). ValueText kind text x.0 × (x.1 ≡ x.0)) (twice_one kind text)
          (λ x v. value_form kind text x.0 v.0) r (twice_at kind text) k h;
    }

pub bounds_only : (kind : Kind) (op : Op) (text : List ℕ) → Only (BoundsRead kind op text) (bounds_at kind op text)
bounds_only kind Within text = range_only kind text
bounds_only kind Outside text = range_only kind text
bounds_only kind Eq text = twice_only kind text
bounds_only kind Ne text = twice_only kind text
bounds_only kind Lt text = twice_only kind text
bounds_only kind Le text = twice_only kind text
bounds_only kind Gt text = twice_only kind text
bounds_only kind Ge text = twice_only kind text
