-- What form a statement may have.
use Rattle.std.proofs.Common.{◌≡◌, ℕ, List, Bool, true, false, not, cond, codes, Option, Some, None, refl, sym, ap, ◌∙◌, subst, is_some}
use Rattle.std.specs.Option.{option_map}
use Rattle.std.specs.Str.{bytes_eq}
use Rattle.std.proofs.lemmas.Bool.{false≢true}
use Rattle.std.proofs.lemmas.Option.{option_and_then_some}
use Rattle.cf_row.specs.declared.expr.Op.{Op}
use Rattle.cf_row.specs.Expr.{is_range}
use Rattle.cf_row.specs.declared.packet6.PacketSchema.TheVariants.{Packet, Packet6}
use Rattle.cf_filter.specs.Reading.{op_named}
use Rattle.cf_setup.specs.declared.statement.Statement.{Statement}
use Rattle.cf_setup.specs.declared.statement.Statement.TheVariants as statements
use Rattle.cf_setup.specs.declared.statement.Question.{Question}
use Rattle.cf_setup.specs.declared.statement.Question.TheVariants as questions
use Rattle.cf_setup.specs.declared.ask_buckets.Buckets.TheVariants as buckets
use Rattle.cf_lines.specs.Lines.{is_blank, next_word, last_word, new_name}
use Rattle.cf_setup.specs.Forms.{StatementFormValue, is_schema_form, part_named, by_words, sign_named, question_named, schema_words, three_words, ranking_words, question_form, form_at}
use Rattle.cf_setup.specs.Forms.StatementFormValue.{packet_schema, record_schema, bucket_width, new_index, new_filter, new_aggregate, new_keyed_aggregate, new_tally, new_trigger, ask_list, ask_find, ask_buckets, ask_fired, ask_top, ask_groups, ask_total, ask_live}
use Rattle.cf_setup.specs.Drafts.{DraftValue}
use Rattle.cf_setup.specs.SetupText.{is_schema_statement, is_later, is_in_place}

-- a trigger's operator is one of the six
abbrev pub has_sign : StatementFormValue → Bool
has_sign (new_trigger name aggregate part op number) = not (is_range op)
has_sign _ = true

pub record Fits (statement : Statement) (form : StatementFormValue) : Type 0 where
  pub kind : is_schema_form form ≡ is_schema_statement statement
  pub sign : has_sign form ≡ true

some_same : {x y : StatementFormValue} → Some x ≡ Some y → y ≡ x
some_same e = cc

mapped : {A : Type 0} (f : A → StatementFormValue) (o : Option A) (form : StatementFormValue) → option_map f o ≡ Some form → (x : A) × (form ≡ f x)
mapped f None form h = cc
mapped f (Some x) form h = (x, some_same h)

fits_as : (statement : Statement) (form other : StatementFormValue) → form ≡ other → is_schema_form other ≡ is_schema_statement statement
    → has_sign other ≡ true → Fits statement form
fits_as statement form other e k s = record { kind = ap is_schema_form e ∙ k; sign = ap has_sign e ∙ s }

sign_is : (word : List ℕ) (op : Op) → sign_named word ≡ Some op → not (is_range op) ≡ true
sign_is word op h = option_and_then_some _ (op_named word) op h (λ found e k. by found (is_range found) refl k)
  where
    by : (found : Op) → (b : Bool) → is_range found ≡ b → cond b None (Some found) ≡ Some op → not (is_range op) ≡ true
    by found true b k = cc
    by found false b k = let same : found ≡ op = cc in subst (λ (x : Op). not (is_range x) ≡ true) same (ap not b)

schema_fits : (word rest : List ℕ) (form : StatementFormValue) → schema_words word rest ≡ Some form → Fits statements.Schema form
schema_fits word rest form h = by (bytes_eq word (codes "packet")) (bytes_eq word (codes "packet6")) (is_blank rest) (bytes_eq word (codes "records")) h
  where
    by : (p q b r : Bool) → cond p (cond b (Some (packet_schema Packet)) None) (cond q (cond b (Some (packet_schema Packet6)) None)
        (cond r (option_map record_schema (last_word rest)) None)) ≡ Some form
        → Fits statements.Schema form
    by true q true r k = fits_as statements.Schema form (packet_schema Packet) (some_same k) refl refl
    by true q false r k = cc
    by false true true r k = fits_as statements.Schema form (packet_schema Packet6) (some_same k) refl refl
    by false true false r k = cc
    by false false b true k = let m = mapped record_schema (last_word rest) form k in fits_as statements.Schema form (record_schema m.0) m.1 refl refl
    by false false b false k = cc

question_fits : (question : Question) (name text : List ℕ) (form : StatementFormValue) → question_form question name text ≡ Some form → Fits statements.Ask form
question_fits questions.List name text form h = fits_as statements.Ask form (ask_list name text) (some_same h) refl refl
question_fits questions.Find name text form h = let m = mapped (λ words. ask_find name words.0 words.1 words.2) (three_words text) form h in
    fits_as statements.Ask form (ask_find name m.0.0 m.0.1 m.0.2) m.1 refl refl
question_fits questions.Between name text form h = let m =
    mapped (λ words. ask_buckets buckets.Between name words.0 words.1 words.2) (three_words text) form h in
    fits_as statements.Ask form (ask_buckets buckets.Between name m.0.0 m.0.1 m.0.2) m.1 refl refl
question_fits questions.Measure name text form h = let m =
    mapped (λ words. ask_buckets buckets.Measure name words.0 words.1 words.2) (three_words text) form h in
    fits_as statements.Ask form (ask_buckets buckets.Measure name m.0.0 m.0.1 m.0.2) m.1 refl refl
question_fits questions.Fired name text form h = let m = mapped (ask_fired name) (last_word text) form h in
    fits_as statements.Ask form (ask_fired name m.0) m.1 refl refl
question_fits questions.Top name text form h = let m = mapped (λ words. ask_top name words.0 words.1 words.2) (ranking_words text) form h in
    fits_as statements.Ask form (ask_top name m.0.0 m.0.1 m.0.2) m.1 refl refl
question_fits questions.Groups name text form h = let m = mapped (ask_groups name) (last_word text) form h in
    fits_as statements.Ask form (ask_groups name m.0) m.1 refl refl
question_fits questions.Total name text form h = let m = mapped (λ attr. ask_total name attr.0 attr.1) (next_word text) form h in
    fits_as statements.Ask form (ask_total name m.0.0 m.0.1) m.1 refl refl

aggregate_fits : (name filter attr rest : List ℕ) (form : StatementFormValue)
    → cond (is_blank rest) (Some (new_aggregate name filter attr)) (option_map (new_keyed_aggregate name filter attr) (by_words rest)) ≡ Some form
    → Fits statements.Aggregate form
aggregate_fits name filter attr rest form h = by (is_blank rest) h
  where
    by : (b : Bool) → cond b (Some (new_aggregate name filter attr)) (option_map (new_keyed_aggregate name filter attr) (by_words rest)) ≡ Some form
        → Fits statements.Aggregate form
    by true k = fits_as statements.Aggregate form (new_aggregate name filter attr) (some_same k) refl refl
    by false k = let m = mapped (new_keyed_aggregate name filter attr) (by_words rest) form k in
        fits_as statements.Aggregate form (new_keyed_aggregate name filter attr m.0) m.1 refl refl

pub form_fits : (statement : Statement) (text : List ℕ) (form : StatementFormValue) → form_at statement text ≡ Some form → Fits statement form
form_fits statements.Schema text form h = option_and_then_some _ (next_word text) form h (λ word e k. schema_fits word.0 word.1 form k)
form_fits statements.Width text form h = let m = mapped bucket_width (last_word text) form h in fits_as statements.Width form (bucket_width m.0) m.1 refl refl
form_fits statements.Index text form h =
    option_and_then_some _ (new_name text) form h (λ name e k.
    option_and_then_some _ (last_word name.1) form k (λ attr f l.
    fits_as statements.Index form (new_index name.0 attr) (some_same l) refl refl))
form_fits statements.Filter text form h = let m = mapped (λ name. new_filter name.0 name.1) (new_name text) form h in
    fits_as statements.Filter form (new_filter m.0.0 m.0.1) m.1 refl refl
form_fits statements.Aggregate text form h =
    option_and_then_some _ (new_name text) form h (λ name e k.
    option_and_then_some _ (next_word name.1) form k (λ filter f l.
    option_and_then_some _ (next_word filter.1) form l (λ attr g m.
    aggregate_fits name.0 filter.0 attr.0 attr.1 form m)))
form_fits statements.Tally text form h =
    option_and_then_some _ (new_name text) form h (λ name e k.
    option_and_then_some _ (next_word name.1) form k (λ attr f l.
    option_and_then_some _ (next_word attr.1) form l (λ measure g m.
    fits_as statements.Tally form (new_tally name.0 attr.0 measure.0 measure.1) (some_same m) refl refl)))
form_fits statements.Trigger text form h =
    option_and_then_some _ (new_name text) form h (λ name e0 k0.
    option_and_then_some _ (next_word name.1) form k0 (λ aggregate e1 k1.
    option_and_then_some _ (next_word aggregate.1) form k1 (λ part e2 k2.
    option_and_then_some _ (part_named part.0) form k2 (λ part_is e3 k3.
    option_and_then_some _ (next_word part.1) form k3 (λ op e4 k4.
    option_and_then_some _ (sign_named op.0) form k4 (λ op_is e5 k5.
    option_and_then_some _ (last_word op.1) form k5 (λ number e6 k6.
    fits_as statements.Trigger form (new_trigger name.0 aggregate.0 part_is op_is number) (some_same k6) refl (sign_is op.0 op_is e5))))))))
form_fits statements.Ask text form h =
    option_and_then_some _ (new_name text) form h (λ name e k.
    option_and_then_some _ (next_word name.1) form k (λ word f l.
    option_and_then_some _ (question_named word.0) form l (λ question g m.
    question_fits question name.0 word.1 form m)))
form_fits statements.Live text form h = let m = mapped ask_live (last_word text) form h in fits_as statements.Live form (ask_live m.0) m.1 refl refl

-- after the schema's statement the schema is stated
pub stated_before : (before : DraftValue) (statement : Statement) (text : List ℕ) (form : StatementFormValue) → form_at statement text ≡ Some form
    → is_in_place before statement ≡ true → is_schema_form form ≡ false → is_some before.schema ≡ true
stated_before before statement text form h place other = by (is_some before.schema) place
  where
    by : (b : Bool) → cond b (is_later before statement) (is_schema_statement statement) ≡ true → b ≡ true
    by true k = refl
    by false k = let fits = form_fits statement text form h in absurd (false≢true (sym other ∙ fits.kind ∙ k))
