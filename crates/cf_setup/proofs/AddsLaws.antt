-- A lawful statement adds just what it says.
use Rattle.std.proofs.Common.{◌≡◌, ℕ, ◌^◌, List, [], ◌∷◌, ◌++◌, Option, Some, None, Result, Ok, Err, refl, sym, ap, ◌∙◌, inl, inr, is_none}
use Rattle.std.specs.Option.{option_map, option_and_then}
use Rattle.std.proofs.lemmas.Option.{option_and_then_some}
use Rattle.cf_row.specs.declared.schema.Kind.{Kind}
use Rattle.cf_row.specs.declared.schema.Kind.TheVariants.{U64}
use Rattle.cf_row.specs.declared.row.Value.TheVariants.{Num}
use Rattle.cf_row.specs.declared.expr.Atom.{Atom}
use Rattle.cf_plain.specs.declared.ask.Ask.TheVariants as asks
use Rattle.cf_filter.specs.declared.fault.Offence.{Offence}
use Rattle.cf_filter.specs.declared.fault.Offence.TheVariants.{Syntax, UnknownName, BadOperator, ValueRange, TooLong}
use Rattle.cf_filter.specs.declared.fault.OffenceAt.{OffenceAt}
use Rattle.cf_filter.specs.Reading.{attr_named}
use Rattle.cf_filter.specs.Exprs.{expr_at}
use Rattle.cf_filter.specs.Grammar.{ValueText, ExprRead}
use Rattle.cf_setup.specs.declared.source.Source.TheVariants.{Records}
use Rattle.cf_setup.specs.Drafts.{DraftValue, attrs_of, with_lane, with_ask, index_over, filter_by}
use Rattle.cf_setup.specs.Forms.{StatementFormValue}
use Rattle.cf_setup.specs.Forms.StatementFormValue.{packet_schema, record_schema, bucket_width, new_index, new_filter, new_aggregate, new_keyed_aggregate, new_tally, new_trigger, ask_list, ask_find, ask_buckets, ask_fired, ask_top, ask_groups, ask_total, ask_live}
use Rattle.cf_setup.specs.Named.{place_in, is_index, is_filter, is_aggregate, is_tally, is_measuring, is_of, family_of, lane_named, trigger_named, index_kind}
use Rattle.cf_lines.specs.Schemas.{schema_at}
use Rattle.cf_setup.specs.Rules.{Broken, rules, expr_rules, IsBroken}
use Rattle.cf_setup.specs.Rules.Rule.{schema_list, a_number, a_number_from, a_key}
use Rattle.cf_setup.specs.Adds.{Adds, with_schema}
use Rattle.cf_setup.specs.Reading.{number_of, number_from, key_in, key_written, expr_in, expr_of, added}
use Rattle.cf_lines.proofs.SchemaLaws.{schema_only, schema_found}
use Rattle.cf_setup.proofs.RuleLaws.{number_only, number_found, from_only, from_found, expr_err, expr_ok, expr_is, broken_from}

-- options

module _ {A B : Type 0} where
  map_some : (f : A → B) (o : Option A) (y : B) → option_map f o ≡ Some y → (x : A) × (o ≡ Some x) × (y ≡ f x)
  map_some f None y h = cc
  map_some f (Some x) y h = (x, refl, same h)
    where
      same : Some (f x) ≡ Some y → y ≡ f x
      same e = cc

  map_none : (f : A → B) (o : Option A) → option_map f o ≡ None → o ≡ None
  map_none f None h = refl
  map_none f (Some x) h = cc

  no_then : (f : A → Option B) (o : Option A) → option_and_then f o ≡ None → (o ≡ None → ⊥) → ((x : A) → f x ≡ None → ⊥) → ⊥
  no_then f None h none more = none refl
  no_then f (Some x) h none more = more x h

some_none : {A : Type 0} {x : A} → ◌≡◌ {A = Option A} (Some x) None → ⊥
some_none e = cc

some_same : {A : Type 0} {x y : A} → Some x ≡ Some y → y ≡ x
some_same e = cc

-- expressions

expr_some : (before : DraftValue) (text : List ℕ) (expr : List (List Atom)) → expr_of before text ≡ Some expr → ExprRead (attrs_of before) text (Ok expr)
expr_some before text expr h = by (expr_at (attrs_of before) text) refl h
  where
    by : (r : Result (List (List Atom)) OffenceAt) → expr_at (attrs_of before) text ≡ r → expr_in r ≡ Some expr → ExprRead (attrs_of before) text (Ok expr)
    by (Ok found) e k = let same : found ≡ expr = cc in expr_ok (attrs_of before) text expr (e ∙ ap Ok same)
    by (Err stop) e k = cc

expr_known : (before : DraftValue) (text : List ℕ) (expr : List (List Atom)) → ExprRead (attrs_of before) text (Ok expr) → expr_of before text ≡ Some expr
expr_known before text expr h = ap expr_in (expr_is (attrs_of before) text (Ok expr) h)

offence_breaks : (before : DraftValue) (text : List ℕ) (stop : OffenceAt) (offence : Offence) → ExprRead (attrs_of before) text (Err stop)
    → stop.offence ≡ offence → (code : ℕ) × IsBroken before code (expr_rules text)
offence_breaks before text stop Syntax h e = (10, inl (refl, (stop, h, e)))
offence_breaks before text stop UnknownName h e = (11, inr (inl (refl, (stop, h, e))))
offence_breaks before text stop BadOperator h e = (12, inr (inr (inl (refl, (stop, h, e)))))
offence_breaks before text stop ValueRange h e = (13, inr (inr (inr (inl (refl, (stop, h, e))))))
offence_breaks before text stop TooLong h e = (14, inr (inr (inr (inr (inl (refl, (stop, h, e)))))))

expr_breaks : (before : DraftValue) (text : List ℕ) → expr_of before text ≡ None → (code : ℕ) × IsBroken before code (expr_rules text)
expr_breaks before text h = by (expr_at (attrs_of before) text) refl h
  where
    by : (r : Result (List (List Atom)) OffenceAt) → expr_at (attrs_of before) text ≡ r → expr_in r ≡ None → (code : ℕ) × IsBroken before code (expr_rules text)
    by (Ok found) e k = cc
    by (Err stop) e k = offence_breaks before text stop stop.offence (expr_err (attrs_of before) text stop e) refl

-- where no rule is broken something is added

module _ (line : ℕ) (before : DraftValue) where
  abbrev sound : StatementFormValue → Type 0
  sound form = (code : ℕ) → IsBroken before code (rules form) → ⊥

  number_none : (text : List ℕ) → number_of U64 text ≡ None → Broken before (a_number text)
  number_none text e = broken_from before (a_number text) (ap is_none e)

  from_none : (low high : ℕ) (text : List ℕ) → number_from low high text ≡ None → Broken before (a_number_from low high text)
  from_none low high text e = broken_from before (a_number_from low high text) (ap is_none e)

  key_none : (index text : List ℕ) → key_written before index text ≡ None → Broken before (a_key index text)
  key_none index text e = broken_from before (a_key index text) (ap is_none e)

  pub never : (form : StatementFormValue) → sound form → added line before form ≡ None → ⊥
  never (packet_schema which) s h = cc
  never (record_schema list) s h =
      s 4 (inl (refl, broken_from before (schema_list list) (ap is_none (map_none (with_schema line before Records) (schema_at list) h))))
  never (bucket_width number) s h =
      s 7 (inl (refl, from_none 1 (2 ^ 63) number (map_none (λ n. record before { width = Some n }) (number_from 1 (2 ^ 63) number) h)))
  never (new_index name attr) s h = s 6 (inr (inl (refl, map_none (λ found. with_lane before name (index_over found.0)) (attr_named (attrs_of before) attr) h)))
  never (new_filter name expr) s h = let broken =
      expr_breaks before expr (map_none (λ read. with_lane before name (filter_by read)) (expr_of before expr) h) in s broken.0 (inr (inr broken.1))
  never (new_aggregate name filter attr) s h =
      no_then _ (lane_named is_filter before filter) h (λ e. s 6 (inr (inl (refl, e)))) (λ lane k.
      no_then _ (attr_named (attrs_of before) attr) k (λ e. s 6 (inr (inr (inl (refl, e))))) (λ found l. some_none l))
  never (new_keyed_aggregate name filter attr key) s h =
      no_then _ (lane_named is_filter before filter) h (λ e. s 6 (inr (inl (refl, e)))) (λ lane k.
      no_then _ (attr_named (attrs_of before) attr) k (λ e. s 6 (inr (inr (inl (refl, e))))) (λ found l.
      no_then _ (attr_named (attrs_of before) key) l (λ e. s 6 (inr (inr (inr (inl (refl, e)))))) (λ by m. some_none m)))
  never (new_tally name attr measure expr) s h =
      no_then _ (attr_named (attrs_of before) attr) h (λ e. s 6 (inr (inl (refl, e)))) (λ key k.
      no_then _ (attr_named (attrs_of before) measure) k (λ e. s 6 (inr (inr (inl (refl, e))))) (λ measured l.
      no_then _ (expr_of before expr) l (λ e. let broken = expr_breaks before expr e in s broken.0 (inr (inr (inr (inr (inr (inr broken.1)))))))
      (λ read m. some_none m)))
  never (new_trigger name aggregate part op number) s h =
      no_then _ (lane_named is_aggregate before aggregate) h (λ e. s 6 (inr (inl (refl, e)))) (λ lane k.
      no_then _ (number_of U64 number) k (λ e. s 7 (inr (inr (inl (refl, number_none number e))))) (λ n l. some_none l))
  never (ask_list name expr) s h = let broken = expr_breaks before expr (map_none (λ read. with_ask before name (asks.List read)) (expr_of before expr) h) in
      s broken.0 (inr (inr broken.1))
  never (ask_find name index low high) s h =
      no_then _ (lane_named is_index before index) h (λ e. s 6 (inr (inl (refl, e)))) (λ lane k.
      no_then _ (key_written before index low) k (λ e. s 7 (inr (inr (inl (refl, key_none index low e))))) (λ first l.
      no_then _ (key_written before index high) l (λ e. s 7 (inr (inr (inr (inl (refl, key_none index high e)))))) (λ last m. some_none m)))
  never (ask_buckets what name lane low high) s h =
      no_then _ (lane_named (is_of (family_of what)) before lane) h (λ e. s 6 (inr (inl (refl, e)))) (λ found k.
      no_then _ (number_of U64 low) k (λ e. s 7 (inr (inr (inl (refl, number_none low e))))) (λ first l.
      no_then _ (number_of U64 high) l (λ e. s 7 (inr (inr (inr (inl (refl, number_none high e)))))) (λ last m. some_none m)))
  never (ask_fired name trigger) s h = s 6 (inr (inl (refl, map_none (λ found. with_ask before name (asks.Fired found)) (trigger_named before trigger) h)))
  never (ask_top name tally part count) s h =
      no_then _ (lane_named is_tally before tally) h (λ e. s 6 (inr (inl (refl, e)))) (λ lane k.
      no_then _ (number_from 1 1000 count) k (λ e. s 7 (inr (inr (inl (refl, from_none 1 1000 count e))))) (λ n l. some_none l))
  never (ask_groups name lane) s h =
      s 6 (inr (inl (refl, map_none (λ found. with_ask before name (asks.Groups found.0)) (lane_named is_measuring before lane) h)))
  never (ask_total name attr expr) s h =
      no_then _ (attr_named (attrs_of before) attr) h (λ e. s 6 (inr (inl (refl, e)))) (λ found k.
      no_then _ (expr_of before expr) k (λ e. let broken = expr_breaks before expr e in s broken.0 (inr (inr (inr (inr broken.1))))) (λ read l. some_none l))
  never (ask_live ask) s h = s 6 (inr (inl (refl, map_none (λ place. record before { lives = before.lives ++ place ∷ [] }) (place_in before.ask_names ask) h)))

  -- what is added is what the statement says

  key_found : (index text : List ℕ) (kind : Kind) (n : ℕ) → index_kind before index ≡ Some kind → key_written before index text ≡ Some n
      → ValueText kind text (Num n)
  key_found index text kind n k h = number_found kind text n (ap (λ o. key_in o text) (sym k) ∙ h)

  key_kind : (index text : List ℕ) (n : ℕ) → key_written before index text ≡ Some n → (kind : Kind) × (index_kind before index ≡ Some kind)
  key_kind index text n h = by (index_kind before index) refl h
    where
      by : (o : Option Kind) → index_kind before index ≡ o → key_in o text ≡ Some n → (kind : Kind) × (index_kind before index ≡ Some kind)
      by None e k = cc
      by (Some kind) e k = (kind, e)

  pub adds_found : (form : StatementFormValue) (new : DraftValue) → added line before form ≡ Some new → Adds line before form new
  adds_found (packet_schema which) new h = some_same h
  adds_found (record_schema list) new h = let m = map_some (with_schema line before Records) (schema_at list) new h in (m.0, schema_found list m.0 m.1, m.2)
  adds_found (bucket_width number) new h = let m = map_some (λ n. record before { width = Some n }) (number_from 1 (2 ^ 63) number) new h in let w =
      from_found 1 (2 ^ 63) number m.0 m.1 in (m.0, w.value, w.least, w.most, m.2)
  adds_found (new_index name attr) new h = map_some (λ found. with_lane before name (index_over found.0)) (attr_named (attrs_of before) attr) new h
  adds_found (new_filter name expr) new h = let m = map_some (λ read. with_lane before name (filter_by read)) (expr_of before expr) new h in
      (m.0, expr_some before expr m.0 m.1, m.2)
  adds_found (new_aggregate name filter attr) new h =
      option_and_then_some _ (lane_named is_filter before filter) new h (λ lane e k.
      option_and_then_some _ (attr_named (attrs_of before) attr) new k (λ found f l. (lane, found, e, f, some_same l)))
  adds_found (new_keyed_aggregate name filter attr key) new h =
      option_and_then_some _ (lane_named is_filter before filter) new h (λ lane e k.
      option_and_then_some _ (attr_named (attrs_of before) attr) new k (λ found f l.
      option_and_then_some _ (attr_named (attrs_of before) key) new l (λ by g m. (lane, found, by, e, f, g, some_same m))))
  adds_found (new_tally name attr measure expr) new h =
      option_and_then_some _ (attr_named (attrs_of before) attr) new h (λ key e k.
      option_and_then_some _ (attr_named (attrs_of before) measure) new k (λ measured f l.
      option_and_then_some _ (expr_of before expr) new l (λ read g m. (key, measured, read, e, f, expr_some before expr read g, some_same m))))
  adds_found (new_trigger name aggregate part op number) new h =
      option_and_then_some _ (lane_named is_aggregate before aggregate) new h (λ lane e k.
      option_and_then_some _ (number_of U64 number) new k (λ n f l. (lane, n, e, number_found U64 number n f, some_same l)))
  adds_found (ask_list name expr) new h = let m = map_some (λ read. with_ask before name (asks.List read)) (expr_of before expr) new h in
      (m.0, expr_some before expr m.0 m.1, m.2)
  adds_found (ask_find name index low high) new h =
      option_and_then_some _ (lane_named is_index before index) new h (λ lane e k.
      option_and_then_some _ (key_written before index low) new k (λ first f l.
      option_and_then_some _ (key_written before index high) new l (λ last g m.
      let kind = key_kind index low first f in (
        lane,
        kind.0,
        first,
        last,
        e,
        kind.1,
        record { low_is = key_found index low kind.0 first kind.1 f; high_is = key_found index high kind.0 last kind.1 g },
        some_same m,
      ))))
  adds_found (ask_buckets what name lane low high) new h =
      option_and_then_some _ (lane_named (is_of (family_of what)) before lane) new h (λ found e k.
      option_and_then_some _ (number_of U64 low) new k (λ first f l.
      option_and_then_some _ (number_of U64 high) new l (λ last g m.
      (found, first, last, e, record { low_is = number_found U64 low first f; high_is = number_found U64 high last g }, some_same m))))
  adds_found (ask_fired name trigger) new h = map_some (λ found. with_ask before name (asks.Fired found)) (trigger_named before trigger) new h
  adds_found (ask_top name tally part count) new h =
      option_and_then_some _ (lane_named is_tally before tally) new h (λ lane e k.
      option_and_then_some _ (number_from 1 1000 count) new k (λ n f l.
      let w = from_found 1 1000 count n f in
      (lane, n, e, w.value, w.least, w.most, some_same l)))
  adds_found (ask_groups name lane) new h = map_some (λ found. with_ask before name (asks.Groups found.0)) (lane_named is_measuring before lane) new h
  adds_found (ask_total name attr expr) new h =
      option_and_then_some _ (attr_named (attrs_of before) attr) new h (λ found e k.
      option_and_then_some _ (expr_of before expr) new k (λ read f l. (found, read, e, expr_some before expr read f, some_same l)))
  adds_found (ask_live ask) new h = map_some (λ place. record before { lives = before.lives ++ place ∷ [] }) (place_in before.ask_names ask) new h

  -- what the statement says is what is added

  key_only : (index text : List ℕ) (kind : Kind) (n : ℕ) → index_kind before index ≡ Some kind → ValueText kind text (Num n)
      → key_written before index text ≡ Some n
  key_only index text kind n k h = ap (λ o. key_in o text) k ∙ number_only kind text n h

  pub adds_only : (form : StatementFormValue) (new : DraftValue) → Adds line before form new → added line before form ≡ Some new
  adds_only (packet_schema which) new h = ap Some (sym h)
  adds_only (record_schema list) new h = ap (option_map (with_schema line before Records)) (schema_only list h.0 h.1) ∙ ap Some (sym h.2)
  adds_only (bucket_width number) new h = ap (option_map (λ n. record before { width = Some n })) (from_only 1 (2 ^ 63) number h.0 h.1 h.2 h.3)
      ∙ ap Some (sym h.4)
  adds_only (new_index name attr) new h = ap (option_map (λ found. with_lane before name (index_over found.0))) h.1 ∙ ap Some (sym h.2)
  adds_only (new_filter name expr) new h = ap (option_map (λ read. with_lane before name (filter_by read))) (expr_known before expr h.0 h.1) ∙ ap Some (sym h.2)
  adds_only (new_aggregate name filter attr) new h = let lane = h.2 in let found = h.3 in rw (lane, found) (ap Some (sym h.4))
  adds_only (new_keyed_aggregate name filter attr key) new h = let lane = h.3 in let found = h.4 in let by = h.5 in rw (lane, found, by) (ap Some (sym h.6))
  adds_only (new_tally name attr measure expr) new h = let key = h.3 in let measured = h.4 in
      rw (key, measured, expr_known before expr h.2 h.5) (ap Some (sym h.6))
  adds_only (new_trigger name aggregate part op number) new h = let lane = h.2 in rw (lane, number_only U64 number h.1 h.3) (ap Some (sym h.4))
  adds_only (ask_list name expr) new h = ap (option_map (λ read. with_ask before name (asks.List read))) (expr_known before expr h.0 h.1) ∙ ap Some (sym h.2)
  adds_only (ask_find name index low high) new h = let lane = h.4 in let ends = h.6 in
      rw (key_only index low h.1 h.2 h.5 ends.low_is, key_only index high h.1 h.3 h.5 ends.high_is, lane) (ap Some (sym h.7))
  adds_only (ask_buckets what name lane low high) new h = let found = h.3 in let ends = h.4 in
      rw (found, number_only U64 low h.1 ends.low_is, number_only U64 high h.2 ends.high_is) (ap Some (sym h.5))
  adds_only (ask_fired name trigger) new h = ap (option_map (λ found. with_ask before name (asks.Fired found))) h.1 ∙ ap Some (sym h.2)
  adds_only (ask_top name tally part count) new h = let lane = h.2 in rw (lane, from_only 1 1000 count h.1 h.3 h.4 h.5) (ap Some (sym h.6))
  adds_only (ask_groups name lane) new h = ap (option_map (λ found. with_ask before name (asks.Groups found.0))) h.1 ∙ ap Some (sym h.2)
  adds_only (ask_total name attr expr) new h = let found = h.2 in rw (found, expr_known before expr h.1 h.3) (ap Some (sym h.4))
  adds_only (ask_live ask) new h = ap (option_map (λ place. record before { lives = before.lives ++ place ∷ [] })) h.1 ∙ ap Some (sym h.2)
