-- Rules are tested just as they are said.
use Rattle.std.proofs.Common.{◌≡◌, ℕ, ◌≤◌, List, [], ◌∷◌, length, Bool, true, false, ◌&&◌, not, cond, nat_le, Option, Some, None, Result, Ok, Err, refl, sym, ap, ◌∙◌, inl, inr, arith, subst, is_none}
use Rattle.std.specs.Option.{option_and_then}
use Rattle.std.proofs.lemmas.Bool.{false≢true, leb-true, le-leb, and_parts}
use Rattle.cf_row.specs.declared.schema.Attr.{Attr}
use Rattle.cf_row.specs.declared.schema.Kind.{Kind}
use Rattle.cf_row.specs.declared.schema.Kind.TheVariants.{U64}
use Rattle.cf_row.specs.declared.row.Value.{Value}
use Rattle.cf_row.specs.declared.row.Value.TheVariants.{Num, Raw}
use Rattle.cf_row.specs.declared.expr.Atom.{Atom}
use Rattle.cf_shape.specs.Lanes.{is_number, is_narrow}
use Rattle.cf_filter.specs.declared.fault.Offence.{Offence}
use Rattle.cf_filter.specs.declared.fault.Offence.TheVariants.{Syntax, UnknownName, BadOperator, ValueRange, TooLong}
use Rattle.cf_filter.specs.declared.fault.OffenceAt.{OffenceAt}
use Rattle.cf_filter.specs.Values.{value_at}
use Rattle.cf_filter.specs.Reading.{attr_named}
use Rattle.cf_filter.specs.Exprs.{expr_at}
use Rattle.cf_filter.specs.Grammar.{ValueText, ExprRead}
use Rattle.cf_filter.proofs.ValueLaws.{value_only, value_found}
use Rattle.cf_filter.proofs.ExprLaws.{expr_only}
use Rattle.cf_setup.specs.Drafts.{DraftValue, attrs_of}
use Rattle.cf_setup.specs.Forms.{StatementFormValue}
use Rattle.cf_setup.specs.Forms.StatementFormValue.{packet_schema, record_schema, bucket_width, new_index, new_filter, new_aggregate, new_keyed_aggregate, new_tally, new_trigger, ask_list, ask_find, ask_buckets, ask_fired, ask_top, ask_groups, ask_total, ask_live}
use Rattle.cf_setup.specs.Named.{place_in, is_of, lane_named, trigger_named, index_kind}
use Rattle.cf_lines.specs.Schemas.{schema_at}
use Rattle.cf_setup.specs.Rules.{Rule, Broken, rules, expr_rules, IsBroken}
use Rattle.cf_setup.specs.Rules.Rule.{schema_list, free_name, live_once, known_attr, known_lane, known_trigger, known_ask, a_number, a_number_from, a_key, number_attr, narrow_attr, lane_room, trigger_room, ask_room, no_offence}
use Rattle.cf_setup.specs.Reading.{number_in_value, number_of, number_from, key_in, key_written, is_live, fails, same_offence, offends, is_broken, first_broken}
use Rattle.cf_lines.proofs.SchemaLaws.{schema_only, schema_found}

-- options

pub none_is : {A : Type 0} (o : Option A) → is_none o ≡ true → o ≡ None
none_is None h = refl
none_is (Some x) h = absurd (false≢true h)

-- numbers

pub number_only : (kind : Kind) (text : List ℕ) (n : ℕ) → ValueText kind text (Num n) → number_of kind text ≡ Some n
number_only kind text n h = ap (option_and_then number_in_value) (value_only kind text (Num n) h)

pub number_found : (kind : Kind) (text : List ℕ) (n : ℕ) → number_of kind text ≡ Some n → ValueText kind text (Num n)
number_found kind text n h = by (value_at kind text) refl h
  where
    by : (o : Option Value) → value_at kind text ≡ o → option_and_then number_in_value o ≡ Some n → ValueText kind text (Num n)
    by None e k = cc
    by (Some (Raw len bytes)) e k = cc
    by (Some (Num m)) e k = let same : m ≡ n = cc in subst (λ (x : ℕ). ValueText kind text (Num x)) same (value_found kind text (Num m) e)

pub record IsFrom (low high : ℕ) (text : List ℕ) (n : ℕ) : Type 0 where
  pub value : ValueText U64 text (Num n)
  pub least : low ≤ n
  pub most : n ≤ high

pub from_only : (low high : ℕ) (text : List ℕ) (n : ℕ) → ValueText U64 text (Num n) → low ≤ n → n ≤ high → number_from low high text ≡ Some n
from_only low high text n h least most = rw (number_only U64 text n h, le-leb low n least, le-leb n high most) refl

pub from_found : (low high : ℕ) (text : List ℕ) (n : ℕ) → number_from low high text ≡ Some n → IsFrom low high text n
from_found low high text n h = by (number_of U64 text) refl h
  where
    in_range : (m : ℕ) → number_of U64 text ≡ Some m → (b : Bool) → (nat_le low m && nat_le m high) ≡ b → cond b (Some m) None ≡ Some n → IsFrom low high text n
    in_range m e false b k = cc
    in_range m e true b k =
        let same : m ≡ n = cc in
        let both = and_parts (nat_le low m) (nat_le m high) b in
        subst (IsFrom low high text) same (record { value = number_found U64 text m e; least = leb-true low m both.0; most = leb-true m high both.1 })

    by : (o : Option ℕ) → number_of U64 text ≡ o → option_and_then (λ m. cond (nat_le low m && nat_le m high) (Some m) None) o ≡ Some n → IsFrom low high text n
    by None e k = cc
    by (Some m) e k = in_range m e (nat_le low m && nat_le m high) refl k

-- expressions

pub expr_err : (attrs : List Attr) (text : List ℕ) (stop : OffenceAt) → expr_at attrs text ≡ Err stop → ExprRead attrs text (Err stop)
expr_err attrs text stop e = let law = expr_only attrs text in subst (ExprRead attrs text) e law.holds

pub expr_ok : (attrs : List Attr) (text : List ℕ) (expr : List (List Atom)) → expr_at attrs text ≡ Ok expr → ExprRead attrs text (Ok expr)
expr_ok attrs text expr e = let law = expr_only attrs text in subst (ExprRead attrs text) e law.holds

pub expr_is : (attrs : List Attr) (text : List ℕ) (read : Result (List (List Atom)) OffenceAt) → ExprRead attrs text read → expr_at attrs text ≡ read
expr_is attrs text read h = let law = expr_only attrs text in sym (law.only read h)

same_is : (a b : Offence) → same_offence a b ≡ true → b ≡ a
same_is Syntax Syntax h = refl
same_is UnknownName UnknownName h = refl
same_is BadOperator BadOperator h = refl
same_is ValueRange ValueRange h = refl
same_is TooLong TooLong h = refl
same_is Syntax UnknownName h = absurd (false≢true h)
same_is Syntax BadOperator h = absurd (false≢true h)
same_is Syntax ValueRange h = absurd (false≢true h)
same_is Syntax TooLong h = absurd (false≢true h)
same_is UnknownName Syntax h = absurd (false≢true h)
same_is UnknownName BadOperator h = absurd (false≢true h)
same_is UnknownName ValueRange h = absurd (false≢true h)
same_is UnknownName TooLong h = absurd (false≢true h)
same_is BadOperator Syntax h = absurd (false≢true h)
same_is BadOperator UnknownName h = absurd (false≢true h)
same_is BadOperator ValueRange h = absurd (false≢true h)
same_is BadOperator TooLong h = absurd (false≢true h)
same_is ValueRange Syntax h = absurd (false≢true h)
same_is ValueRange UnknownName h = absurd (false≢true h)
same_is ValueRange BadOperator h = absurd (false≢true h)
same_is ValueRange TooLong h = absurd (false≢true h)
same_is TooLong Syntax h = absurd (false≢true h)
same_is TooLong UnknownName h = absurd (false≢true h)
same_is TooLong BadOperator h = absurd (false≢true h)
same_is TooLong ValueRange h = absurd (false≢true h)

itself : (a : Offence) → same_offence a a ≡ true
itself Syntax = refl
itself UnknownName = refl
itself BadOperator = refl
itself ValueRange = refl
itself TooLong = refl

-- attributes of another kind

fails_from : (test : Kind → Bool) (o : Option (ℕ × Kind)) → fails test o ≡ true → (found : ℕ × Kind) × (o ≡ Some found) × (test found.1 ≡ false)
fails_from test None h = absurd (false≢true h)
fails_from test (Some found) h = (found, refl, flip (test found.1) h)
  where
    flip : (b : Bool) → not b ≡ true → b ≡ false
    flip true k = absurd (false≢true k)
    flip false k = refl

fails_to : (test : Kind → Bool) (o : Option (ℕ × Kind)) (found : ℕ × Kind) → o ≡ Some found → test found.1 ≡ false → fails test o ≡ true
fails_to test o found e h = ap (fails test) e ∙ ap not h

-- a test that fails is a broken rule

pub broken_from : (before : DraftValue) (rule : Rule) → is_broken before rule ≡ true → Broken before rule
broken_from before (schema_list list) h = λ attrs l. let none = none_is (schema_at list) h in let some = schema_only list attrs l in cc
broken_from before (free_name name) h = h
broken_from before (live_once ask) h = by (place_in before.ask_names ask) refl h
  where
    by : (o : Option ℕ) → place_in before.ask_names ask ≡ o → is_live before o ≡ true → Broken before (live_once ask)
    by None e k = absurd (false≢true k)
    by (Some place) e k = (place, e, k)
broken_from before (known_attr name) h = none_is (attr_named (attrs_of before) name) h
broken_from before (known_lane family name) h = none_is (lane_named (is_of family) before name) h
broken_from before (known_trigger name) h = none_is (trigger_named before name) h
broken_from before (known_ask name) h = none_is (place_in before.ask_names name) h
broken_from before (a_number text) h = λ n v. let none = none_is (number_of U64 text) h in let some = number_only U64 text n v in cc
broken_from before (a_number_from low high text) h = λ n v least most. let none = none_is (number_from low high text) h in let some =
    from_only low high text n v least most in cc
broken_from before (a_key index text) h = λ kind e n v. let none = none_is (key_written before index text) h in
    let some : key_written before index text ≡ Some n = ap (λ o. key_in o text) e ∙ number_only kind text n v in cc
broken_from before (number_attr name) h = fails_from is_number (attr_named (attrs_of before) name) h
broken_from before (narrow_attr name) h = fails_from is_narrow (attr_named (attrs_of before) name) h
broken_from before lane_room h = leb-true 16 (length before.lanes) h
broken_from before trigger_room h = leb-true 16 (length before.triggers) h
broken_from before ask_room h = leb-true 32 (length before.asks) h
broken_from before (no_offence offence text) h = by (expr_at (attrs_of before) text) refl h
  where
    by : (r : Result (List (List Atom)) OffenceAt) → expr_at (attrs_of before) text ≡ r → offends offence r ≡ true → Broken before (no_offence offence text)
    by (Ok expr) e k = absurd (false≢true k)
    by (Err stop) e k = (stop, expr_err (attrs_of before) text stop e, same_is offence stop.offence k)

-- a broken rule is a test that fails

pub broken_to : (before : DraftValue) (rule : Rule) → Broken before rule → is_broken before rule ≡ true
broken_to before (schema_list list) h = by (schema_at list) refl
  where
    by : (o : Option (List Attr)) → schema_at list ≡ o → is_none o ≡ true
    by None e = refl
    by (Some attrs) e = absurd (h attrs (schema_found list attrs e))
broken_to before (free_name name) h = h
broken_to before (live_once ask) h = ap (is_live before) h.1 ∙ h.2
broken_to before (known_attr name) h = ap is_none h
broken_to before (known_lane family name) h = ap is_none h
broken_to before (known_trigger name) h = ap is_none h
broken_to before (known_ask name) h = ap is_none h
broken_to before (a_number text) h = by (number_of U64 text) refl
  where
    by : (o : Option ℕ) → number_of U64 text ≡ o → is_none o ≡ true
    by None e = refl
    by (Some n) e = absurd (h n (number_found U64 text n e))
broken_to before (a_number_from low high text) h = by (number_from low high text) refl
  where
    by : (o : Option ℕ) → number_from low high text ≡ o → is_none o ≡ true
    by None e = refl
    by (Some n) e = let found = from_found low high text n e in absurd (h n found.value found.least found.most)
broken_to before (a_key index text) h = by (index_kind before index) refl
  where
    by_number : (kind : Kind) → index_kind before index ≡ Some kind → (o : Option ℕ) → number_of kind text ≡ o → is_none o ≡ true
    by_number kind k None e = refl
    by_number kind k (Some n) e = absurd (h kind k n (number_found kind text n e))

    by : (o : Option Kind) → index_kind before index ≡ o → is_none (key_in o text) ≡ true
    by None k = refl
    by (Some kind) k = by_number kind k (number_of kind text) refl
broken_to before (number_attr name) h = fails_to is_number (attr_named (attrs_of before) name) h.0 h.1 h.2
broken_to before (narrow_attr name) h = fails_to is_narrow (attr_named (attrs_of before) name) h.0 h.1 h.2
broken_to before lane_room h = le-leb 16 (length before.lanes) h
broken_to before trigger_room h = le-leb 16 (length before.triggers) h
broken_to before ask_room h = le-leb 32 (length before.asks) h
broken_to before (no_offence offence text) h =
    let stop = h.0 in
    ap (offends offence) (expr_is (attrs_of before) text (Err stop) h.1) ∙ ap (same_offence offence) h.2 ∙ itself offence

-- the first broken rule has the least code

abbrev pub Ascends : ℕ → List (ℕ × Rule) → Type 0
Ascends low [] = Unit {0}
Ascends low (rule ∷ rest) = (low ≤ rule.0) × Ascends rule.0 rest

module _ (before : DraftValue) where
  pub above : (low code : ℕ) (rs : List (ℕ × Rule)) → Ascends low rs → IsBroken before code rs → low ≤ code
  above low code [] h b = absurd b
  above low code (rule ∷ rest) h (inl b) = let e = b.0 in let low_is = h.0 in omega (arith, e, low_is)
  above low code (rule ∷ rest) h (inr b) = let more = above rule.0 code rest h.1 b in let low_is = h.0 in omega (arith, more, low_is)

  pub first_some : (low : ℕ) (rs : List (ℕ × Rule)) (code : ℕ) → Ascends low rs → first_broken before rs ≡ Some code → IsBroken before code rs
      × ((other : ℕ) → IsBroken before other rs → code ≤ other)
  first_some low [] code h e = cc
  first_some low (rule ∷ rest) code h e = by (λ k. first_some rule.0 rest code h.1 k) (is_broken before rule.1) refl e
    where
      by : (first_broken before rest ≡ Some code → IsBroken before code rest × ((other : ℕ) → IsBroken before other rest → code ≤ other)) → (b : Bool)
          → is_broken before rule.1 ≡ b → cond b (Some rule.0) (first_broken before rest) ≡ Some code → IsBroken before code (rule ∷ rest)
          × ((other : ℕ) → IsBroken before other (rule ∷ rest) → code ≤ other)
      by later true b k = let same : rule.0 ≡ code = cc in (inl (sym same, broken_from before rule.1 b), λ other o. least other same o)
        where
          least : (other : ℕ) → rule.0 ≡ code → IsBroken before other (rule ∷ rest) → code ≤ other
          least other same (inl o) = let f = o.0 in omega (arith, f, same)
          least other same (inr o) = let more = above rule.0 other rest h.1 o in omega (arith, more, same)
      by later false b k = let more = later k in (inr more.0, λ other o. least other more.1 o)
        where
          least : (other : ℕ) → ((x : ℕ) → IsBroken before x rest → code ≤ x) → IsBroken before other (rule ∷ rest) → code ≤ other
          least other more (inl o) = absurd (false≢true (sym b ∙ broken_to before rule.1 o.1))
          least other more (inr o) = more other o

  pub first_none : (rs : List (ℕ × Rule)) (code : ℕ) → first_broken before rs ≡ None → IsBroken before code rs → ⊥
  first_none [] code e b = b
  first_none (rule ∷ rest) code e b = by (λ k o. first_none rest code k o) (is_broken before rule.1) refl e b
    where
      by : (first_broken before rest ≡ None → IsBroken before code rest → ⊥) → (t : Bool) → is_broken before rule.1 ≡ t
          → cond t (Some rule.0) (first_broken before rest) ≡ None → IsBroken before code (rule ∷ rest) → ⊥
      by later true t k o = cc
      by later false t k (inl o) = false≢true (sym t ∙ broken_to before rule.1 o.1)
      by later false t k (inr o) = later k o

expr_ascends : (text : List ℕ) → Ascends 9 (expr_rules text)
expr_ascends text = (omega arith, (omega arith, (omega arith, (omega arith, (omega arith, tt)))))

pub ascends : (form : StatementFormValue) → Ascends 4 (rules form)
ascends (packet_schema which) = tt
ascends (record_schema list) = (omega arith, tt)
ascends (bucket_width number) = (omega arith, tt)
ascends (new_index name attr) = (omega arith, (omega arith, (omega arith, (omega arith, tt))))
ascends (new_filter name expr) = (omega arith, (omega arith, expr_ascends expr))
ascends (new_aggregate name filter attr) = (omega arith, (omega arith, (omega arith, (omega arith, (omega arith, tt)))))
ascends (new_keyed_aggregate name filter attr key) =
    (omega arith, (omega arith, (omega arith, (omega arith, (omega arith, (omega arith, (omega arith, tt)))))))
ascends (new_tally name attr measure expr) = (omega arith, (omega arith, (omega arith, (omega arith, (omega arith, (omega arith, expr_ascends expr))))))
ascends (new_trigger name aggregate part op number) = (omega arith, (omega arith, (omega arith, (omega arith, tt))))
ascends (ask_list name expr) = (omega arith, (omega arith, expr_ascends expr))
ascends (ask_find name index low high) = (omega arith, (omega arith, (omega arith, (omega arith, (omega arith, tt)))))
ascends (ask_buckets what name lane low high) = (omega arith, (omega arith, (omega arith, (omega arith, (omega arith, tt)))))
ascends (ask_fired name trigger) = (omega arith, (omega arith, (omega arith, tt)))
ascends (ask_top name tally part count) = (omega arith, (omega arith, (omega arith, (omega arith, tt))))
ascends (ask_groups name lane) = (omega arith, (omega arith, (omega arith, tt)))
ascends (ask_total name attr expr) = (omega arith, (omega arith, (omega arith, (omega arith, expr_ascends expr))))
ascends (ask_live ask) = (omega arith, (omega arith, tt))
