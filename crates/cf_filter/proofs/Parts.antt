-- Names, operators and connectives are read just as the grammar says.
use Rattle.std.proofs.Common.{◌≡◌, ◌⊎◌, ℕ, List, [], ◌∷◌, length, Bool, true, false, ◌&&◌, ◌||◌, not, cond, nat_le, Option, Some, None, Result, Ok, Err, refl, sym, ap, ◌∙◌, inl, inr, arith, subst, codes, ◌==◌}
use Rattle.std.specs.Str.{bytes_eq}
use Rattle.std.specs.List.{prefix_len}
use Rattle.std.proofs.lemmas.Bool.{and_parts, false≢true, leb-true, eqb-true, or_cases, ne_eqb}
use Rattle.std.proofs.lemmas.Slice.Eq.{bytes_eq-Decides}
use Rattle.cf_row.specs.declared.schema.Attr.{Attr}
use Rattle.cf_row.specs.declared.schema.Kind.{Kind}
use Rattle.cf_row.specs.declared.expr.Op.{Op}
use Rattle.cf_row.specs.declared.expr.Op.TheVariants.{Eq, Ne, Lt, Le, Gt, Ge, Within, Outside}
use Rattle.cf_row.specs.Expr.{suits_kind}
use Rattle.cf_filter.specs.declared.bytes.Class.{Class}
use Rattle.cf_filter.specs.declared.bytes.Class.TheVariants.{Letter, Name, Operator}
use Rattle.cf_filter.specs.declared.fault.Offence.{Offence}
use Rattle.cf_filter.specs.declared.fault.Offence.TheVariants.{Syntax, UnknownName, BadOperator, ValueRange, TooLong}
use Rattle.cf_filter.specs.declared.fault.OffenceAt.{OffenceAt}
use Rattle.cf_filter.specs.declared.atom.Joint.{Joint}
use Rattle.cf_filter.specs.declared.atom.Joint.TheVariants.{End, And, Or}
use Rattle.cf_filter.specs.Tokens.{passes, run, past, unspaced, strip_at, IsAfterSpaces}
use Rattle.cf_filter.specs.Reading.{◌>>=◌, begins_with, attr_named, known_or, name_in, name_at, op_named, token_at, suited_or, outside_in, outside_at, op_in, op_at, stop_at, or_at, and_at, joint_in, joint_at}
use Rattle.cf_filter.specs.Grammar.{Only, Then, NameFault, NameRead, op_word, IsOpWord, OpText, BeginsOp, WordFault, OpFault, OpRead, JointText, JointRead}
use Rattle.cf_filter.specs.Grammar.IsOpWord.{name, sign}
use Rattle.cf_filter.specs.Grammar.OpFault.{first, second}
use Rattle.cf_filter.proofs.Runs.{one_more, run_is, run_only, spaces_is, spaces_only, strip_found, strip_none}

-- the first part and then the next
module _ {A B : Type 0} where
  bind_ok : (f : Result A OffenceAt) (g : A → Result B OffenceAt) (x : A) → Ok x ≡ f → (f >>= g) ≡ g x
  bind_ok f g x e = ap (λ r. r >>= g) (sym e)

  bind_err : (f : Result A OffenceAt) (g : A → Result B OffenceAt) (stop : OffenceAt) → Err stop ≡ f → (f >>= g) ≡ Err stop
  bind_err f g stop e = ap (λ r. r >>= g) (sym e)

  next_holds : (First : Result A OffenceAt → Type 0) (Next : A → Result B OffenceAt → Type 0) (x : A) (r : Result B OffenceAt) → First (Ok x) → Next x r
      → Then First Next r
  next_holds First Next x (Ok y) h k = (x, h, k)
  next_holds First Next x (Err stop) h k = inr (x, h, k)

  then_holds : (First : Result A OffenceAt → Type 0) (Next : A → Result B OffenceAt → Type 0) (f : Result A OffenceAt) (g : A → Result B OffenceAt) → First f
      → ((x : A) → Next x (g x)) → Then First Next (f >>= g)
  then_holds First Next (Ok x) g h k = next_holds First Next x (g x) h (k x)
  then_holds First Next (Err stop) g h k = inl h

  then_same : (First : Result A OffenceAt → Type 0) (Next : A → Result B OffenceAt → Type 0) (f : Result A OffenceAt) (g : A → Result B OffenceAt)
      → Only First f → ((x : A) → Only (Next x) (g x)) → (r : Result B OffenceAt) → Then First Next r → r ≡ (f >>= g)
  then_same First Next f g h k (Ok y) t = let next = k t.0 in next.only (Ok y) t.2 ∙ sym (bind_ok f g t.0 (h.only (Ok t.0) t.1))
  then_same First Next f g h k (Err stop) (inl t) = sym (bind_err f g stop (h.only (Err stop) t))
  then_same First Next f g h k (Err stop) (inr t) = let next = k t.0 in next.only (Err stop) t.2 ∙ sym (bind_ok f g t.0 (h.only (Ok t.0) t.1))

  pub then_only : (First : Result A OffenceAt → Type 0) (Next : A → Result B OffenceAt → Type 0) (f : Result A OffenceAt) (g : A → Result B OffenceAt)
      → Only First f → ((x : A) → Only (Next x) (g x)) → Only (Then First Next) (f >>= g)
  then_only First Next f g h k = record { holds = then_holds First Next f g h.holds (λ x. let next = k x in next.holds); only = then_same First Next f g h k }

-- names

name_holds : (attrs : List Attr) (text here : List ℕ) → IsAfterSpaces text here → (b : Bool) → begins_with Letter here ≡ b → (o : Option (ℕ × Kind))
    → attr_named attrs (run Name here) ≡ o → NameRead attrs text (cond b (known_or here o) (Err (stop_at Syntax here)))
name_holds attrs text here sp true b (Some a) o = (here, run Name here, sp, b, run_is Name here, o)
name_holds attrs text here sp true b None o = (here, sp, refl, (run Name here, past Name here, b, run_is Name here, o))
name_holds attrs text here sp false b o e = (here, sp, refl, b)

name_err : (attrs : List Attr) (here : List ℕ) (offence : Offence) → NameFault attrs here offence → name_in attrs here ≡ Err (stop_at offence here)
name_err attrs here Syntax b = rw b refl
name_err attrs here UnknownName h = let r = run_only Name here h.0 h.1 h.3 in let none : attr_named attrs (run Name here) ≡ None =
    ap (attr_named attrs) (sym r.0) ∙ h.4 in rw (h.2, none) refl
name_err attrs here BadOperator h = absurd h
name_err attrs here ValueRange h = absurd h
name_err attrs here TooLong h = absurd h

pub stop_same : (stop : OffenceAt) (here : List ℕ) → stop.left ≡ length here → stop ≡ stop_at stop.offence here
stop_same stop here e = ap (λ n. record { offence = stop.offence; left = n }) e

name_same : (attrs : List Attr) (text : List ℕ) (r : Result ((ℕ × Kind) × List ℕ) OffenceAt) → NameRead attrs text r → r ≡ name_at attrs text
name_same attrs text (Ok found) h =
    let r = run_only Name h.0 h.1 found.1 h.4 in
    let some : attr_named attrs (run Name h.0) ≡ Some found.0 = ap (attr_named attrs) (sym r.0) ∙ h.5 in
    let read : name_in attrs h.0 ≡ Ok (found.0, past Name h.0) = rw (h.3, some) refl in
    ap (λ rest. Ok (found.0, rest)) r.1 ∙ sym read ∙ ap (name_in attrs) (spaces_only text h.0 h.2)
name_same attrs text (Err stop) h = ap Err (stop_same stop h.0 h.2) ∙ sym (name_err attrs h.0 stop.offence h.3) ∙ ap (name_in attrs) (spaces_only text h.0 h.1)

pub name_only : (attrs : List Attr) (text : List ℕ) → Only (NameRead attrs text) (name_at attrs text)
name_only attrs text = record {
  holds = name_holds attrs text (unspaced text) (spaces_is text) (begins_with Letter (unspaced text)) refl (attr_named attrs (run Name (unspaced text))) refl;
  only = name_same attrs text;
}

-- operators

-- but for `not` the first word is the operator
plain_front : (op : Op) → (op_named (op_word op) ≡ Some op) ⊎ (op ≡ Outside)
plain_front Eq = inl refl
plain_front Ne = inl refl
plain_front Lt = inl refl
plain_front Le = inl refl
plain_front Gt = inl refl
plain_front Ge = inl refl
plain_front Within = inl refl
plain_front Outside = inr refl

plain_text : (op : Op) (here rest : List ℕ) → op_named (op_word op) ≡ Some op → IsOpWord here (op_word op) rest → OpText op here rest
plain_text Eq here rest e is = is
plain_text Ne here rest e is = is
plain_text Lt here rest e is = is
plain_text Le here rest e is = is
plain_text Gt here rest e is = is
plain_text Ge here rest e is = is
plain_text Within here rest e is = is
plain_text Outside here rest e is = cc

op_step : (word : List ℕ) (op found : Op) (other : Option Op) → cond (bytes_eq word (op_word op)) (Some op) other ≡ Some found
    → (other ≡ Some found → word ≡ op_word found) → word ≡ op_word found
op_step word op found other h more =
    elim (bytes_eq word (op_word op)) as (λ b. bytes_eq word (op_word op) ≡ b → cond b (Some op) other ≡ Some found → word ≡ op_word found) [
      | true ↦ λ e k. let same : op ≡ found = cc in (bytes_eq-Decides word (op_word op)).0 e ∙ ap op_word same
      | false ↦ λ e k. more k
    ] refl h

op_found : (word : List ℕ) (op : Op) → op_named word ≡ Some op → word ≡ op_word op
op_found word op h =
    op_step word Eq op _ h
    (λ h1. op_step word Ne op _ h1
    (λ h2. op_step word Lt op _ h2
    (λ h3. op_step word Le op _ h3 (λ h4. op_step word Gt op _ h4 (λ h5. op_step word Ge op _ h5 (λ h6. op_step word Within op None h6 (λ h7. cc)))))))

pub some_len : (x : ℕ) (xs : List ℕ) → (length (x ∷ xs) == 0) ≡ false
some_len x xs = ne_eqb (length (x ∷ xs)) 0 (λ e. omega (arith, e))

begins_run : (class : Class) (text : List ℕ) (b : Bool) → begins_with class text ≡ b → (length (run class text) == 0) ≡ not b
begins_run class [] true h = absurd (false≢true h)
begins_run class [] false h = refl
begins_run class (x ∷ xs) true h = rw (h, one_more (prefix_len (passes class) xs)) (some_len x (run class xs))
begins_run class (x ∷ xs) false h = rw h refl

letter_name : (text : List ℕ) → begins_with Letter text ≡ true → begins_with Name text ≡ true
letter_name [] h = h
letter_name (x ∷ xs) h = rw h refl

not_letter : (x : ℕ) → passes Operator x ≡ true → passes Letter x ≡ false
not_letter x h = elim (passes Letter x) as (λ b. passes Letter x ≡ b → passes Letter x ≡ false) [
  | true ↦ λ e. absurd (clash (and_parts (nat_le 97 x) (nat_le x 122) e))
  | false ↦ λ e. e
] refl
  where
    clash : (nat_le 97 x ≡ true) × (nat_le x 122 ≡ true) → ⊥
    clash k = let low = leb-true 97 x k.0 in elim (or_cases ((x == 61 || x == 33) || x == 60) (x == 62) h) [
      | inl p ↦ elim (or_cases (x == 61 || x == 33) (x == 60) p) [
        | inl q ↦ elim
            (or_cases (x == 61) (x == 33) q) [
              | inl r ↦ let e = eqb-true x 61 r in omega (arith, low, e)
              | inr r ↦ let e = eqb-true x 33 r in
                  omega (arith, low, e)
            ]
        | inr q ↦ let e = eqb-true x 60 q in omega (arith, low, e)
      ]
      | inr p ↦ let e = eqb-true x 62 p in omega (arith, low, e)
    ]

sign_no_letter : (text : List ℕ) → begins_with Operator text ≡ true → begins_with Letter text ≡ false
sign_no_letter [] h = refl
sign_no_letter (x ∷ xs) h = not_letter x h

abbrev word_rest : List ℕ → List ℕ → List ℕ × List ℕ
word_rest word rest = (word, rest)

token_is : (here word rest : List ℕ) → IsOpWord here word rest → (token_at here ≡ word_rest word rest) × ((length word == 0) ≡ false)
token_is here word rest (name b r) =
    let e = run_only Name here word rest r in (
      rw b (ap (λ w. word_rest w (past Name here)) (sym e.0) ∙ ap (word_rest word) (sym e.1)),
      ap (λ w. length w == 0) e.0
          ∙ begins_run Name here true (letter_name here b),
    )
token_is here word rest (sign b r) =
    let e = run_only Operator here word rest r in (
      rw (sign_no_letter here b) (ap (λ w. word_rest w (past Operator here)) (sym e.0) ∙ ap (word_rest word) (sym e.1)),
      ap (λ w. length w == 0) e.0
          ∙ begins_run Operator here true b,
    )

-- there is a word, or none
module _ (here : List ℕ) (P : List ℕ × List ℕ → Type 0) where
  by_word : ((word rest : List ℕ) → IsOpWord here word rest → P (word_rest word rest))
      → (begins_with Letter here ≡ false → begins_with Operator here ≡ false → P (word_rest (run Operator here) (past Operator here))) → (l s : Bool)
      → begins_with Letter here ≡ l → begins_with Operator here ≡ s → P (token_at here)
  by_word some none true s l e = rw l (some (run Name here) (past Name here) (name l (run_is Name here)))
  by_word some none false true l e = rw l (some (run Operator here) (past Operator here) (sign e (run_is Operator here)))
  by_word some none false false l e = rw l (none l e)

unlike : (word wanted : List ℕ) → bytes_eq word wanted ≡ false → word ≡ wanted → ⊥
unlike word wanted apart e = false≢true (sym apart ∙ (bytes_eq-Decides word wanted).1 e)

is_unlike : (word wanted : List ℕ) → (word ≡ wanted → ⊥) → bytes_eq word wanted ≡ false
is_unlike word wanted apart = elim (bytes_eq word wanted) as (λ b. bytes_eq word wanted ≡ b → bytes_eq word wanted ≡ false) [
  | true ↦ λ e. absurd (apart ((bytes_eq-Decides word wanted).0 e))
  | false ↦ λ e. e
] refl

-- behind `not`

module _ (kind : Kind) (text here after there : List ℕ) where
  outside_holds : IsAfterSpaces text here → IsOpWord here (codes "not") after → suits_kind kind Outside ≡ true → IsAfterSpaces after there
      → OpRead kind text (outside_in there (token_at there))
  outside_holds sp negated suits more = by_word there (λ w. OpRead kind text (outside_in there w)) some none (begins_with Letter there)
      (begins_with Operator there) refl refl
    where
      named : (word rest : List ℕ) → IsOpWord there word rest → (b : Bool) → bytes_eq word (codes "in") ≡ b
          → OpRead kind text (cond b (Ok (Outside, rest)) (Err (stop_at BadOperator there)))
      named word rest is true e =
          (here, sp, (after, there, negated, more, subst (λ (w : List ℕ). IsOpWord there w rest) ((bytes_eq-Decides word (codes "in")).0 e) is), suits)
      named word rest is false e = (here, sp, second after there negated suits more refl (word, rest, is, unlike word (codes "in") e))

      some : (word rest : List ℕ) → IsOpWord there word rest → OpRead kind text (outside_in there (word_rest word rest))
      some word rest is = let t = token_is there word rest is in rw t.1 (named word rest is (bytes_eq word (codes "in")) refl)

      none : begins_with Letter there ≡ false → begins_with Operator there ≡ false
          → OpRead kind text (outside_in there (word_rest (run Operator there) (past Operator there)))
      none l e = rw (begins_run Operator there false e) (here, sp, second after there negated suits more refl (l, e))

outside_err : (there : List ℕ) (offence : Offence) → WordFault (λ word. word ≡ codes "in") there offence
    → outside_in there (token_at there) ≡ Err (stop_at offence there)
outside_err there Syntax h = rw (h.0, begins_run Operator there false h.1) refl
outside_err there BadOperator h = let t = token_is there h.0 h.1 h.2 in
    ap (outside_in there) t.0 ∙ rw (t.1, is_unlike h.0 (codes "in") h.3) refl
outside_err there UnknownName h = absurd h
outside_err there ValueRange h = absurd h
outside_err there TooLong h = absurd h

-- an operator's first word

begun_named : (kind : Kind) (word : List ℕ) → (word ≡ codes "not" → suits_kind kind Outside ≡ true → ⊥) → (op : Op) → word ≡ op_word op
    → suits_kind kind op ≡ true → op_named word ≡ Some op
begun_named kind word apart op is suits = elim (plain_front op) [
  | inl e ↦ ap op_named is ∙ e
  | inr e ↦ absurd (apart (is ∙ ap op_word e) (ap (suits_kind kind) (sym e) ∙ suits))
]

some_same : {x y : Op} → Some x ≡ Some y → x ≡ y
some_same e = cc

module _ (kind : Kind) (text here word rest : List ℕ) where
  suits_holds : IsAfterSpaces text here → IsOpWord here word rest → (word ≡ codes "not" → suits_kind kind Outside ≡ true → ⊥) → (op : Op)
      → op_named word ≡ Some op
      → (s : Bool) → suits_kind kind op ≡ s → OpRead kind text (cond s (Ok (op, rest)) (Err (stop_at BadOperator here)))
  suits_holds sp is apart op o true s =
      let e = op_found word op o in
      (here, sp, plain_text op here rest (ap op_named (sym e) ∙ o) (subst (λ (w : List ℕ). IsOpWord here w rest) e is), s)
  suits_holds sp is apart op o false s = (
    here,
    sp,
    first refl (
      word,
      rest,
      is,
      λ b.
          let same : b.0 ≡ op = some_same (sym (begun_named kind word apart b.0 b.1 b.2) ∙ o) in
          false≢true (sym s ∙ ap (suits_kind kind) (sym same) ∙ b.2),
    ),
  )

  word_holds : IsAfterSpaces text here → IsOpWord here word rest → (word ≡ codes "not" → suits_kind kind Outside ≡ true → ⊥) → (o : Option Op)
      → op_named word ≡ o → OpRead kind text (suited_or kind here rest o)
  word_holds sp is apart None o =
      (here, sp, first refl (word, rest, is, λ b. let some : op_named word ≡ Some b.0 = begun_named kind word apart b.0 b.1 b.2 in cc))
  word_holds sp is apart (Some op) o = suits_holds sp is apart op o (suits_kind kind op) refl

  begun_holds : IsAfterSpaces text here → IsOpWord here word rest → (n s : Bool) → bytes_eq word (codes "not") ≡ n → suits_kind kind Outside ≡ s
      → OpRead kind text (cond (n && s) (outside_at rest) (suited_or kind here rest (op_named word)))
  begun_holds sp is true true n s =
      let negated = subst (λ (w : List ℕ). IsOpWord here w rest) ((bytes_eq-Decides word (codes "not")).0 n) is in
      outside_holds kind text here rest (unspaced rest) sp negated s (spaces_is rest)
  begun_holds sp is true false n s = word_holds sp is (λ e t. false≢true (sym s ∙ t)) (op_named word) refl
  begun_holds sp is false s n e = word_holds sp is (λ e t. unlike word (codes "not") n e) (op_named word) refl

  op_word_holds : IsAfterSpaces text here → IsOpWord here word rest → OpRead kind text (op_in kind here (word_rest word rest))
  op_word_holds sp is = let t = token_is here word rest is in rw t.1
      (begun_holds sp is (bytes_eq word (codes "not")) (suits_kind kind Outside) refl refl)

op_holds : (kind : Kind) (text here : List ℕ) → IsAfterSpaces text here → OpRead kind text (op_in kind here (token_at here))
op_holds kind text here sp =
    by_word here (λ w. OpRead kind text (op_in kind here w)) (λ word rest is. op_word_holds kind text here word rest sp is)
    (λ l e. rw (begins_run Operator here false e) (here, sp, first refl (l, e))) (begins_with Letter here) (begins_with Operator here) refl refl

suits_no : (kind : Kind) (here rest : List ℕ) (op : Op) (s : Bool) → suits_kind kind op ≡ s → (s ≡ true → ⊥)
    → cond {A = Result (Op × List ℕ) OffenceAt} s (Ok (op, rest)) (Err (stop_at BadOperator here)) ≡ Err (stop_at BadOperator here)
suits_no kind here rest op true s h = absurd (h refl)
suits_no kind here rest op false s h = refl

op_err : (kind : Kind) (here : List ℕ) (offence : Offence) → WordFault (BeginsOp kind) here offence
    → op_in kind here (token_at here) ≡ Err (stop_at offence here)
op_err kind here Syntax h = rw (h.0, begins_run Operator here false h.1) refl
op_err kind here BadOperator h =
    let t = token_is here h.0 h.1 h.2 in
    ap (op_in kind here) t.0 ∙ rw t.1 (begun (bytes_eq h.0 (codes "not")) (suits_kind kind Outside) refl refl)
  where
    bad : (o : Option Op) → op_named h.0 ≡ o → suited_or kind here h.1 o ≡ Err (stop_at BadOperator here)
    bad None e = refl
    bad (Some op) e = suits_no kind here h.1 op (suits_kind kind op) refl (λ s. h.3 (op, op_found h.0 op e, s))

    begun : (n s : Bool) → bytes_eq h.0 (codes "not") ≡ n → suits_kind kind Outside ≡ s
        → cond (n && s) (outside_at h.1) (suited_or kind here h.1 (op_named h.0)) ≡ Err (stop_at BadOperator here)
    begun true true n s = absurd (h.3 (Outside, (bytes_eq-Decides h.0 (codes "not")).0 n, s))
    begun true false n s = bad (op_named h.0) refl
    begun false s n e = bad (op_named h.0) refl
op_err kind here UnknownName h = absurd h
op_err kind here ValueRange h = absurd h
op_err kind here TooLong h = absurd h

-- operators

module _ (kind : Kind) (here rest : List ℕ) where
  plain_read : (op : Op) → IsOpWord here (op_word op) rest → (length (op_word op) == 0) ≡ false → bytes_eq (op_word op) (codes "not") ≡ false
      → op_named (op_word op) ≡ Some op → suits_kind kind op ≡ true → op_in kind here (token_at here) ≡ Ok (op, rest)
  plain_read op is some apart named suits = let t = token_is here (op_word op) rest is in ap (op_in kind here) t.0 ∙ rw (some, apart, named, suits) refl

  -- what is behind `not` decides
  negated_read : (after there : List ℕ) → IsOpWord here (codes "not") after → suits_kind kind Outside ≡ true → IsAfterSpaces after there
      → op_in kind here (token_at here) ≡ outside_in there (token_at there)
  negated_read after there is suits sp =
      let t = token_is here (codes "not") after is in
      ap (op_in kind here) t.0 ∙ rw suits (ap (λ there. outside_in there (token_at there)) (sym (spaces_only after there sp)))

  op_read : (op : Op) → OpText op here rest → suits_kind kind op ≡ true → op_in kind here (token_at here) ≡ Ok (op, rest)
  op_read Eq is suits = plain_read Eq is refl refl refl suits
  op_read Ne is suits = plain_read Ne is refl refl refl suits
  op_read Lt is suits = plain_read Lt is refl refl refl suits
  op_read Le is suits = plain_read Le is refl refl refl suits
  op_read Gt is suits = plain_read Gt is refl refl refl suits
  op_read Ge is suits = plain_read Ge is refl refl refl suits
  op_read Within is suits = plain_read Within is refl refl refl suits
  op_read Outside is suits = negated_read is.0 is.1 is.2 suits is.3 ∙ ap (outside_in is.1) (token_is is.1 (codes "in") rest is.4).0

fault_read : (kind : Kind) (here : List ℕ) (stop : OffenceAt) → OpFault kind here stop → op_in kind here (token_at here) ≡ Err stop
fault_read kind here stop (first e f) = op_err kind here stop.offence f ∙ ap Err (sym (stop_same stop here e))
fault_read kind here stop (second after there is suits sp e f) =
    negated_read kind here after after there is suits sp ∙ outside_err there stop.offence f ∙ ap Err (sym (stop_same stop there e))

op_same : (kind : Kind) (text : List ℕ) (r : Result (Op × List ℕ) OffenceAt) → OpRead kind text r → r ≡ op_at kind text
op_same kind text (Ok found) h = sym (op_read kind h.0 found.1 found.0 h.2 h.3) ∙ ap (λ here. op_in kind here (token_at here)) (spaces_only text h.0 h.1)
op_same kind text (Err stop) h = sym (fault_read kind h.0 stop h.2) ∙ ap (λ here. op_in kind here (token_at here)) (spaces_only text h.0 h.1)

pub op_only : (kind : Kind) (text : List ℕ) → Only (OpRead kind text) (op_at kind text)
op_only kind text = record { holds = op_holds kind text (unspaced text) (spaces_is text); only = op_same kind text }

-- connectives

no_joint : (here : List ℕ) → (length here == 0) ≡ false → strip_at (codes "&&") here ≡ None → strip_at (codes "||") here ≡ None
    → (joint : Joint) (rest : List ℕ)
    → JointText joint here rest → ⊥
no_joint here some a o End rest h = let e : (length here == 0) ≡ true = ap (λ xs. length xs == 0) h.0 in false≢true (sym some ∙ e)
no_joint here some a o And rest h = strip_none (codes "&&") here rest a h
no_joint here some a o Or rest h = strip_none (codes "||") here rest o h

pub empty_is : (here : List ℕ) → (length here == 0) ≡ true → here ≡ []
empty_is [] h = refl
empty_is (x ∷ xs) h = absurd (false≢true (sym (some_len x xs) ∙ h))

or_holds : (text here : List ℕ) → IsAfterSpaces text here → (length here == 0) ≡ false → strip_at (codes "&&") here ≡ None → (o : Option (List ℕ))
    → strip_at (codes "||") here ≡ o → JointRead text (or_at here o)
or_holds text here sp some a None o = (here, sp, refl, no_joint here some a o)
or_holds text here sp some a (Some rest) o = (here, sp, strip_found (codes "||") here rest o)

and_holds : (text here : List ℕ) → IsAfterSpaces text here → (length here == 0) ≡ false → (a : Option (List ℕ)) → strip_at (codes "&&") here ≡ a
    → JointRead text (and_at here a)
and_holds text here sp some None a = or_holds text here sp some a (strip_at (codes "||") here) refl
and_holds text here sp some (Some rest) a = (here, sp, strip_found (codes "&&") here rest a)

joint_holds : (text here : List ℕ) → IsAfterSpaces text here → (b : Bool) → (length here == 0) ≡ b
    → JointRead text (cond b (Ok (End, here)) (and_at here (strip_at (codes "&&") here)))
joint_holds text here sp true b = (here, sp, (empty_is here b, empty_is here b))
joint_holds text here sp false b = and_holds text here sp b (strip_at (codes "&&") here) refl

joint_text : (joint : Joint) (here rest : List ℕ) → JointText joint here rest → joint_in here ≡ Ok (joint, rest)
joint_text End here rest h = ap joint_in h.0 ∙ ap (λ xs. Ok (End, xs)) (sym h.1)
joint_text And here rest h = ap joint_in h ∙ rw (some_len 38 (38 ∷ rest)) refl
joint_text Or here rest h = ap joint_in h ∙ rw (some_len 124 (124 ∷ rest)) refl

joint_err : (here : List ℕ) → ((joint : Joint) (rest : List ℕ) → JointText joint here rest → ⊥) → joint_in here ≡ Err (stop_at Syntax here)
joint_err here none = by (length here == 0) refl (strip_at (codes "&&") here) refl (strip_at (codes "||") here) refl
  where
    by : (b : Bool) → (length here == 0) ≡ b → (a : Option (List ℕ)) → strip_at (codes "&&") here ≡ a → (o : Option (List ℕ)) → strip_at (codes "||") here ≡ o
        → joint_in here ≡ Err (stop_at Syntax here)
    by true b a e o f = absurd (none End [] (empty_is here b, refl))
    by false b (Some rest) e o f = absurd (none And rest (strip_found (codes "&&") here rest e))
    by false b None e (Some rest) f = absurd (none Or rest (strip_found (codes "||") here rest f))
    by false b None e None f = rw (b, e, f) refl

joint_same : (text : List ℕ) (r : Result (Joint × List ℕ) OffenceAt) → JointRead text r → r ≡ joint_at text
joint_same text (Ok found) h = sym (joint_text found.0 h.0 found.1 h.2) ∙ ap joint_in (spaces_only text h.0 h.1)
joint_same text (Err stop) h = ap Err h.2 ∙ sym (joint_err h.0 h.3) ∙ ap joint_in (spaces_only text h.0 h.1)

pub joint_only : (text : List ℕ) → Only (JointRead text) (joint_at text)
joint_only text = record { holds = joint_holds text (unspaced text) (spaces_is text) (length (unspaced text) == 0) refl; only = joint_same text }
