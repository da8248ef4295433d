-- What lawful lines state is a lawful setup.
use Rattle.std.proofs.Common.{◌≡◌, ℕ, zero, suc, ◌+◌, ◌≤◌, ◌<◌, ◌^◌, List, [], ◌∷◌, ◌++◌, length, Bool, true, false, ◌&&◌, not, cond, nat_lt, nat_le, Option, Some, None, Result, Ok, refl, sym, ap, ◌∙◌, inl, inr, arith, subst, slice_get, is_some, length-append}
use Rattle.std.specs.List.{list_all}
use Rattle.std.specs.Option.{unwrap_or}
use Rattle.std.specs.Str.{bytes_eq}
use Rattle.std.proofs.lemmas.Bool.{and_parts, and_from, false≢true, leb-true, leb-false, le-leb, lt-ltb, ltb-true}
use Rattle.std.proofs.lemmas.Option.{option_and_then_some, cond_some, slice_get_within, get_or_from_slice_get}
use Rattle.std.proofs.lemmas.List.{get_or_append_left}
use Rattle.std.proofs.lemmas.List.Folds.{list_all-append}
use Rattle.std.proofs.lemmas.List.Quantifiers.{position-Some}
use Rattle.cf_row.specs.declared.schema.Attr.{Attr}
use Rattle.cf_row.specs.declared.schema.Kind.{Kind}
use Rattle.cf_row.specs.declared.expr.Atom.{Atom}
use Rattle.cf_row.specs.Schema.{IsSchema, packet_attrs}
use Rattle.cf_row.specs.declared.packet6.PacketSchema.{PacketSchema}
use Rattle.cf_row.specs.declared.packet6.PacketSchema.TheVariants.{Packet, Packet6}
use Rattle.cf_row.specs.Schema6.{attrs_by}
use Rattle.cf_row.proofs.Lawful.{packet6_is}
use Rattle.cf_setup.specs.declared.source.Source.{Source}
use Rattle.cf_setup.specs.declared.source.Source.TheVariants.{Packets, Records}
use Rattle.cf_row.specs.Expr.{is_of_schema, is_range}
use Rattle.cf_fold.specs.declared.trigger.Trigger.{Trigger}
use Rattle.cf_shape.specs.declared.lane.Lane.{Lane}
use Rattle.cf_shape.specs.Lanes.{ShapeValue, no_lane, has_by, lane_at, is_number, is_narrow, is_lawful_key, is_lawful_measure, is_lawful_lane, option_passes}
use Rattle.cf_plain.specs.declared.ask.Ask.{Ask}
use Rattle.cf_plain.specs.declared.ask.Ask.TheVariants as asks
use Rattle.cf_plain.specs.Asks.{exists, is_attr, is_indexed, is_bucketed, is_aggregate as is_aggregate_at, is_tally as is_tally_at, is_measuring as is_measuring_at, suits_trigger, suits_of}
use Rattle.cf_filter.specs.Reading.{attr_named}
use Rattle.cf_filter.specs.Grammar.{ExprRead}
use Rattle.cf_filter.proofs.Lawful.{named_stands, expr_fits}
use Rattle.cf_setup.specs.declared.ask_buckets.Buckets.{Buckets}
use Rattle.cf_setup.specs.declared.ask_buckets.Buckets.TheVariants as buckets
use Rattle.cf_setup.specs.declared.statement.Statement.{Statement}
use Rattle.cf_setup.specs.declared.statement.Statement.TheVariants as statements
use Rattle.cf_lines.specs.Lines.{is_silent, word_at}
use Rattle.cf_setup.specs.Drafts.{DraftValue, nothing_stated, attrs_of, with_lane, with_trigger, with_ask, index_over, filter_by, aggregate_by, keyed_aggregate_by, tally_by}
use Rattle.cf_setup.specs.Setups.{settled, shaped, IsSetup, IsDraft}
use Rattle.cf_setup.specs.Few.{IsFew}
use Rattle.cf_setup.specs.Forms.{StatementFormValue, is_schema_form}
use Rattle.cf_setup.specs.Forms.StatementFormValue.{packet_schema, record_schema, bucket_width, new_index, new_filter, new_aggregate, new_keyed_aggregate, new_tally, new_trigger, ask_list, ask_find, ask_buckets, ask_fired, ask_top, ask_groups, ask_total, ask_live}
use Rattle.cf_setup.specs.Named.{place_in, is_index, is_filter, is_aggregate, is_unkeyed, is_tally, is_measuring, is_of, family_of, asked_of, lane_named, trigger_named}
use Rattle.cf_setup.specs.Rules.{rules, IsBroken}
use Rattle.cf_setup.specs.Adds.{Adds, with_schema}
use Rattle.cf_setup.specs.SetupText.{is_schema_statement, is_later, is_in_place, States, LineRead}
use Rattle.cf_setup.specs.SetupText.Breaks.{misplaced, ruled}
use Rattle.cf_setup.specs.Reading.{line_read, said}
use Rattle.cf_setup.proofs.LineReads.{line_only}
use Rattle.cf_setup.proofs.FormLaws.{has_sign, form_fits}

-- lists

module _ {A : Type 0} where
  all_more : (p q : A → Bool) → ((x : A) → p x ≡ true → q x ≡ true) → (xs : List A) → list_all p xs ≡ true → list_all q xs ≡ true
  all_more p q more [] h = refl
  all_more p q more (x ∷ xs) h = let both = and_parts (p x) (list_all p xs) h in and_from (q x) (list_all q xs) (more x both.0) (all_more p q more xs both.1)

  all_get : (p : A → Bool) (xs : List A) (k : ℕ) (x : A) → list_all p xs ≡ true → slice_get xs k ≡ Some x → p x ≡ true
  all_get p [] k x h e = cc
  all_get p (y ∷ ys) zero x h e = let both = and_parts (p y) (list_all p ys) h in subst (λ (z : A). p z ≡ true) (same e) both.0
    where
      same : Some y ≡ Some x → y ≡ x
      same e = cc
  all_get p (y ∷ ys) (suc k) x h e = let both = and_parts (p y) (list_all p ys) h in all_get p ys k x both.1 e

  all_push : (p : A → Bool) (xs : List A) (x : A) → list_all p xs ≡ true → p x ≡ true → list_all p (xs ++ x ∷ []) ≡ true
  all_push p xs x h k = list_all-append p xs (x ∷ []) ∙ and_from (list_all p xs) (p x && true) h (and_from (p x) true k refl)

  one_more : (xs : List A) (x : A) → length (xs ++ x ∷ []) ≡ length xs + 1
  one_more xs x = length-append xs (x ∷ [])

-- asks and triggers go on to suit a shape that gets one lane more

abbrev grown : ShapeValue → Lane → ShapeValue
grown s lane = record s { lanes = s.lanes ++ lane ∷ [] }

exists_more : (s : ShapeValue) (lane : Lane) (k : ℕ) → exists s k ≡ true → exists (grown s lane) k ≡ true
exists_more s lane k h = let below = ltb-true k (length s.lanes) h in let size = one_more s.lanes lane in
    lt-ltb k (length (s.lanes ++ lane ∷ [])) (omega (arith, below, size))

lane_kept : (s : ShapeValue) (lane : Lane) (k : ℕ) → exists s k ≡ true → lane_at (grown s lane) k ≡ lane_at s k
lane_kept s lane k h = get_or_append_left s.lanes (lane ∷ []) no_lane k (ltb-true k (length s.lanes) h)

kept : (test : Lane → Bool) (s : ShapeValue) (lane : Lane) (k : ℕ) → (exists s k && test (lane_at s k)) ≡ true
    → (exists (grown s lane) k && test (lane_at (grown s lane) k)) ≡ true
kept test s lane k h =
    let both = and_parts (exists s k) (test (lane_at s k)) h in
    and_from (exists (grown s lane) k) (test (lane_at (grown s lane) k)) (exists_more s lane k both.0) (ap test (lane_kept s lane k both.0) ∙ both.1)

indexed_more : (s : ShapeValue) (lane : Lane) (k : ℕ) → is_indexed s k ≡ true → is_indexed (grown s lane) k ≡ true
indexed_more s lane k h = kept (λ l. is_attr l.key) s lane k h

bucketed_more : (s : ShapeValue) (lane : Lane) (k : ℕ) → is_bucketed s k ≡ true → is_bucketed (grown s lane) k ≡ true
bucketed_more s lane k h = kept (λ l. not (is_attr l.key)) s lane k h

aggregate_more : (s : ShapeValue) (lane : Lane) (k : ℕ) → is_aggregate_at s k ≡ true → is_aggregate_at (grown s lane) k ≡ true
aggregate_more s lane k h =
    let both = and_parts (is_bucketed s k) (is_some (lane_at s k).measure) h in
    let there = and_parts (exists s k) (not (is_attr (lane_at s k).key)) both.0 in
    and_from (is_bucketed (grown s lane) k) (is_some (lane_at (grown s lane) k).measure) (bucketed_more s lane k both.0)
    (ap (λ l. is_some l.measure) (lane_kept s lane k there.0) ∙ both.1)

tally_more : (s : ShapeValue) (lane : Lane) (k : ℕ) → is_tally_at s k ≡ true → is_tally_at (grown s lane) k ≡ true
tally_more s lane k h =
    let both = and_parts (is_indexed s k) (is_some (lane_at s k).measure) h in
    let there = and_parts (exists s k) (is_attr (lane_at s k).key) both.0 in
    and_from (is_indexed (grown s lane) k) (is_some (lane_at (grown s lane) k).measure) (indexed_more s lane k both.0)
    (ap (λ l. is_some l.measure) (lane_kept s lane k there.0) ∙ both.1)

measuring_more : (s : ShapeValue) (lane : Lane) (k : ℕ) → is_measuring_at s k ≡ true → is_measuring_at (grown s lane) k ≡ true
measuring_more s lane k h = kept (λ l. is_some l.measure) s lane k h

trigger_more : (s : ShapeValue) (lane : Lane) (trigger : Trigger) → suits_trigger s trigger ≡ true → suits_trigger (grown s lane) trigger ≡ true
trigger_more s lane trigger h =
    let both = and_parts (is_aggregate_at s trigger.agg) (not (is_range trigger.op)) h in
    and_from (is_aggregate_at (grown s lane) trigger.agg) (not (is_range trigger.op)) (aggregate_more s lane trigger.agg both.0) both.1

ask_more : (s : ShapeValue) (lane : Lane) (ask : Ask) → suits_of s ask ≡ true → suits_of (grown s lane) ask ≡ true
ask_more s lane (asks.List expr) h = h
ask_more s lane (asks.Find k low high) h = indexed_more s lane k h
ask_more s lane (asks.Between k low high) h = bucketed_more s lane k h
ask_more s lane (asks.Measure k low high) h = aggregate_more s lane k h
ask_more s lane (asks.Fired trigger) h = trigger_more s lane trigger h
ask_more s lane (asks.Top k part n) h =
    let both = and_parts (is_tally_at s k && nat_le 1 n) (nat_le n 1000) h in
    let first = and_parts (is_tally_at s k) (nat_le 1 n) both.0 in
    and_from (is_tally_at (grown s lane) k && nat_le 1 n) (nat_le n 1000)
    (and_from (is_tally_at (grown s lane) k) (nat_le 1 n) (tally_more s lane k first.0) first.1) both.1
ask_more s lane (asks.Groups k) h = measuring_more s lane k h
ask_more s lane (asks.Total attr expr) h = h

below : (a b : ℕ) → (b ≤ a → ⊥) → a < b
below a b h = by (nat_le b a) refl
  where
    by : (t : Bool) → nat_le b a ≡ t → a < b
    by true t = absurd (h (leb-true b a t))
    by false t = leb-false b a t

abbrev pair : ℕ → Lane → ℕ × Lane
pair place lane = (place, lane)

-- one statement more

module _ (before : DraftValue) (attrs : List Attr) (is : IsSetup (settled before attrs)) where
  width_step : (n : ℕ) → 1 ≤ n → n ≤ 2 ^ 63 → IsSetup (settled (record before { width = Some n }) attrs)
  width_step n low high = record {
    schema = is.schema;
    width = (low, high);
    few_lanes = is.few_lanes;
    few_triggers = is.few_triggers;
    few_asks = is.few_asks;
    lanes = is.lanes;
    triggers = is.triggers;
    asks = is.asks;
    lives = is.lives;
    lane_names = is.lane_names;
    trigger_names = is.trigger_names;
    ask_names = is.ask_names;
  }

  lane_step : (name : List ℕ) (lane : Lane) → (16 ≤ length before.lanes → ⊥) → is_lawful_lane attrs lane ≡ true
      → IsSetup (settled (with_lane before name lane) attrs)
  lane_step name lane room lawful =
      let size = one_more before.lanes lane in
      let names = one_more before.lane_names name in
      let same = is.lane_names in
      let fewer : length before.lanes < 16 = below (length before.lanes) 16 room in
      record {
        schema = is.schema;
        width = is.width;
        few_lanes = omega (arith, size, fewer);
        few_triggers = is.few_triggers;
        few_asks = is.few_asks;
        lanes = all_push (is_lawful_lane attrs) before.lanes lane is.lanes lawful;
        triggers = λ c w n. all_more (suits_trigger (shaped (settled before attrs) c w n)) (suits_trigger (grown (shaped (settled before attrs) c w n) lane))
            (trigger_more (shaped (settled before attrs) c w n) lane) before.triggers (is.triggers c w n);
        asks = λ c w n. all_more (suits_of (shaped (settled before attrs) c w n)) (suits_of (grown (shaped (settled before attrs) c w n) lane))
            (ask_more (shaped (settled before attrs) c w n) lane) before.asks (is.asks c w n);
        lives = is.lives;
        lane_names = omega (arith, size, names, same);
        trigger_names = is.trigger_names;
        ask_names = is.ask_names;
      }

  trigger_step : (name : List ℕ) (trigger : Trigger) → (16 ≤ length before.triggers → ⊥)
      → ((c w n : ℕ) → suits_trigger (shaped (settled before attrs) c w n) trigger ≡ true) → IsSetup (settled (with_trigger before name trigger) attrs)
  trigger_step name trigger room suit =
      let size = one_more before.triggers trigger in
      let names = one_more before.trigger_names name in
      let same = is.trigger_names in
      let fewer : length before.triggers < 16 = below (length before.triggers) 16 room in
      record {
        schema = is.schema;
        width = is.width;
        few_lanes = is.few_lanes;
        few_triggers = omega (arith, size, fewer);
        few_asks = is.few_asks;
        lanes = is.lanes;
        triggers = λ c w n. all_push (suits_trigger (shaped (settled before attrs) c w n)) before.triggers trigger (is.triggers c w n) (suit c w n);
        asks = is.asks;
        lives = is.lives;
        lane_names = is.lane_names;
        trigger_names = omega (arith, size, names, same);
        ask_names = is.ask_names;
      }

  live_more : (ask : Ask) (live : ℕ) → nat_lt live (length before.asks) ≡ true → nat_lt live (length (before.asks ++ ask ∷ [])) ≡ true
  live_more ask live h = let small = ltb-true live (length before.asks) h in let size = one_more before.asks ask in
      lt-ltb live (length (before.asks ++ ask ∷ [])) (omega (arith, small, size))

  ask_step : (name : List ℕ) (ask : Ask) → (32 ≤ length before.asks → ⊥) → ((c w n : ℕ) → suits_of (shaped (settled before attrs) c w n) ask ≡ true)
      → IsSetup (settled (with_ask before name ask) attrs)
  ask_step name ask room suit =
      let size = one_more before.asks ask in
      let names = one_more before.ask_names name in
      let same = is.ask_names in
      let fewer : length before.asks < 32 = below (length before.asks) 32 room in
      record {
        schema = is.schema;
        width = is.width;
        few_lanes = is.few_lanes;
        few_triggers = is.few_triggers;
        few_asks = omega (arith, size, fewer);
        lanes = is.lanes;
        triggers = is.triggers;
        asks = λ c w n. all_push (suits_of (shaped (settled before attrs) c w n)) before.asks ask (is.asks c w n) (suit c w n);
        lives = all_more (λ live. nat_lt live (length before.asks)) (λ live. nat_lt live (length (before.asks ++ ask ∷ [])))
            (live_more ask) before.lives is.lives;
        lane_names = is.lane_names;
        trigger_names = is.trigger_names;
        ask_names = omega (arith, size, names, same);
      }

  live_step : (ask : List ℕ) (place : ℕ) → place_in before.ask_names ask ≡ Some place
      → IsSetup (settled (record before { lives = before.lives ++ place ∷ [] }) attrs)
  live_step ask place h =
      let found = position-Some (λ other. bytes_eq other ask) before.ask_names place [] h in
      let same = is.ask_names in
      let small = found.0 in
      record {
        schema = is.schema;
        width = is.width;
        few_lanes = is.few_lanes;
        few_triggers = is.few_triggers;
        few_asks = is.few_asks;
        lanes = is.lanes;
        triggers = is.triggers;
        asks = is.asks;
        lives = all_push (λ live. nat_lt live (length before.asks)) before.lives place is.lives
            (lt-ltb place (length before.asks) (omega (arith, small, same)));
        lane_names = is.lane_names;
        trigger_names = is.trigger_names;
        ask_names = is.ask_names;
      }

  -- lanes by their names

  lane_stands : (passes : Lane → Bool) (name : List ℕ) (found : ℕ × Lane) → lane_named passes before name ≡ Some found
      → (slice_get before.lanes found.0 ≡ Some found.1) × (passes found.1 ≡ true)
  lane_stands passes name found h =
      option_and_then_some _ (place_in before.lane_names name) found h (λ place e k.
      option_and_then_some _ (slice_get before.lanes place) found k (λ lane f l.
      let chosen = cond_some (passes lane) (pair place lane) found l in
      (subst (λ (q : ℕ × Lane). slice_get before.lanes q.0 ≡ Some q.1) chosen.1 f, subst (λ (q : ℕ × Lane). passes q.1 ≡ true) chosen.1 chosen.0)))

  lane_lawful : (passes : Lane → Bool) (name : List ℕ) (found : ℕ × Lane) → lane_named passes before name ≡ Some found → is_lawful_lane attrs found.1 ≡ true
  lane_lawful passes name found h = let s = lane_stands passes name found h in all_get (is_lawful_lane attrs) before.lanes found.0 found.1 is.lanes s.0

  -- the lane exists in the shape, and passes there
  lane_there : (passes : Lane → Bool) (name : List ℕ) (found : ℕ × Lane) (c w n : ℕ) → lane_named passes before name ≡ Some found
      → (exists (shaped (settled before attrs) c w n) found.0 ≡ true) × (passes (lane_at (shaped (settled before attrs) c w n) found.0) ≡ true)
  lane_there passes name found c w n h =
      let s = lane_stands passes name found h in (
        lt-ltb found.0 (length before.lanes) (slice_get_within before.lanes found.0 found.1 s.0),
        ap passes (get_or_from_slice_get before.lanes found.0 found.1 no_lane s.0) ∙ s.1,
      )

  aggregate_there : (name : List ℕ) (found : ℕ × Lane) (c w n : ℕ) → lane_named is_aggregate before name ≡ Some found
      → is_aggregate_at (shaped (settled before attrs) c w n) found.0 ≡ true
  aggregate_there name found c w n h =
      let there = lane_there is_aggregate name found c w n h in
      let lane : Lane = lane_at (shaped (settled before attrs) c w n) found.0 in
      let both = and_parts (not (is_attr lane.key)) (is_some lane.measure) there.1 in
      and_from (is_bucketed (shaped (settled before attrs) c w n) found.0) (is_some lane.measure)
      (and_from (exists (shaped (settled before attrs) c w n) found.0) (not (is_attr lane.key)) there.0 both.0) both.1

  unkeyed_there : (name : List ℕ) (found : ℕ × Lane) (c w n : ℕ) → lane_named is_unkeyed before name ≡ Some found
      → is_aggregate_at (shaped (settled before attrs) c w n) found.0 ≡ true
  unkeyed_there name found c w n h =
      let there = lane_there is_unkeyed name found c w n h in
      let lane : Lane = lane_at (shaped (settled before attrs) c w n) found.0 in
      let whole = and_parts (is_aggregate lane) (not (has_by lane.key)) there.1 in
      let both = and_parts (not (is_attr lane.key)) (is_some lane.measure) whole.0 in
      and_from (is_bucketed (shaped (settled before attrs) c w n) found.0) (is_some lane.measure)
      (and_from (exists (shaped (settled before attrs) c w n) found.0) (not (is_attr lane.key)) there.0 both.0) both.1

  filter_there : (name : List ℕ) (found : ℕ × Lane) (c w n : ℕ) → lane_named is_filter before name ≡ Some found
      → is_bucketed (shaped (settled before attrs) c w n) found.0 ≡ true
  filter_there name found c w n h =
      let there = lane_there is_filter name found c w n h in
      let lane : Lane = lane_at (shaped (settled before attrs) c w n) found.0 in
      let both = and_parts (not (is_attr lane.key)) (not (is_some lane.measure)) there.1 in
      and_from (exists (shaped (settled before attrs) c w n) found.0) (not (is_attr lane.key)) there.0 both.0

  index_there : (name : List ℕ) (found : ℕ × Lane) (c w n : ℕ) → lane_named is_index before name ≡ Some found
      → is_indexed (shaped (settled before attrs) c w n) found.0 ≡ true
  index_there name found c w n h =
      let there = lane_there is_index name found c w n h in
      let lane : Lane = lane_at (shaped (settled before attrs) c w n) found.0 in
      let both = and_parts (is_attr lane.key) (not (is_some lane.measure)) there.1 in
      and_from (exists (shaped (settled before attrs) c w n) found.0) (is_attr lane.key) there.0 both.0

  buckets_suit : (what : Buckets) (name : List ℕ) (found : ℕ × Lane) (first last c w n : ℕ) → lane_named (is_of (family_of what)) before name ≡ Some found
      → suits_of (shaped (settled before attrs) c w n) (asked_of what found.0 first last) ≡ true
  buckets_suit buckets.Between name found first last c w n h = filter_there name found c w n h
  buckets_suit buckets.Measure name found first last c w n h = unkeyed_there name found c w n h

  tally_there : (name : List ℕ) (found : ℕ × Lane) (c w n : ℕ) → lane_named is_tally before name ≡ Some found
      → is_tally_at (shaped (settled before attrs) c w n) found.0 ≡ true
  tally_there name found c w n h =
      let there = lane_there is_tally name found c w n h in
      let lane : Lane = lane_at (shaped (settled before attrs) c w n) found.0 in
      let both = and_parts (is_attr lane.key) (is_some lane.measure) there.1 in
      and_from (is_indexed (shaped (settled before attrs) c w n) found.0) (is_some lane.measure)
      (and_from (exists (shaped (settled before attrs) c w n) found.0) (is_attr lane.key) there.0 both.0) both.1

  measuring_there : (name : List ℕ) (found : ℕ × Lane) (c w n : ℕ) → lane_named is_measuring before name ≡ Some found
      → is_measuring_at (shaped (settled before attrs) c w n) found.0 ≡ true
  measuring_there name found c w n h =
      let there = lane_there is_measuring name found c w n h in
      let lane : Lane = lane_at (shaped (settled before attrs) c w n) found.0 in
      and_from (exists (shaped (settled before attrs) c w n) found.0) (is_some lane.measure) there.0 there.1

  trigger_suits : (name : List ℕ) (found : Trigger) (c w n : ℕ) → trigger_named before name ≡ Some found
      → suits_trigger (shaped (settled before attrs) c w n) found ≡ true
  trigger_suits name found c w n h =
      option_and_then_some _ (place_in before.trigger_names name) found h (λ place e k.
      all_get (suits_trigger (shaped (settled before attrs) c w n)) before.triggers place found (is.triggers c w n) k)

-- new lanes

-- the kind passes, since the rule isn't broken
kind_passes : (test : Kind → Bool) (o : Option (ℕ × Kind)) (found : ℕ × Kind) → ((x : ℕ × Kind) × (o ≡ Some x) × (test x.1 ≡ false) → ⊥) → o ≡ Some found
    → test found.1 ≡ true
kind_passes test o found sound e = by (test found.1) refl
  where
    by : (b : Bool) → test found.1 ≡ b → b ≡ true
    by true b = refl
    by false b = absurd (sound (found, e, b))

passes_at : (test : Kind → Bool) (attrs : List Attr) (name : List ℕ) (found : ℕ × Kind) → attr_named attrs name ≡ Some found → test found.1 ≡ true
    → option_passes test (slice_get attrs found.0) ≡ true
passes_at test attrs name found e h = let s = named_stands attrs name found e in ap (option_passes test) s.here ∙ ap test s.kind_is ∙ h

index_lawful : (attrs : List Attr) (name : List ℕ) (found : ℕ × Kind) → attr_named attrs name ≡ Some found → is_number found.1 ≡ true
    → is_lawful_lane attrs (index_over found.0) ≡ true
index_lawful attrs name found e h =
    and_from (is_of_schema attrs ([] ∷ []) && option_passes is_number (slice_get attrs found.0)) true (passes_at is_number attrs name found e h) refl

filter_lawful : (attrs : List Attr) (text : List ℕ) (expr : List (List Atom)) → ExprRead attrs text (Ok expr) → is_lawful_lane attrs (filter_by expr) ≡ true
filter_lawful attrs text expr h =
    and_from (is_of_schema attrs expr && true) true (and_from (is_of_schema attrs expr) true (expr_fits attrs text expr h) refl) refl

aggregate_lawful : (attrs : List Attr) (lane : Lane) (name : List ℕ) (found : ℕ × Kind) → is_lawful_lane attrs lane ≡ true
    → attr_named attrs name ≡ Some found → is_narrow found.1 ≡ true → is_lawful_lane attrs (aggregate_by lane.select found.0) ≡ true
aggregate_lawful attrs lane name found lawful e h =
    let last = and_parts (is_of_schema attrs lane.select && is_lawful_key attrs lane.key) (is_lawful_measure attrs lane.measure) lawful in
    let first = and_parts (is_of_schema attrs lane.select) (is_lawful_key attrs lane.key) last.0 in
    and_from (is_of_schema attrs lane.select && true) (option_passes is_narrow (slice_get attrs found.0))
    (and_from (is_of_schema attrs lane.select) true first.0 refl) (passes_at is_narrow attrs name found e h)

keyed_aggregate_lawful : (attrs : List Attr) (lane : Lane) (attr name : List ℕ) (found by : ℕ × Kind) → is_lawful_lane attrs lane ≡ true
    → attr_named attrs attr ≡ Some found → is_narrow found.1 ≡ true → attr_named attrs name ≡ Some by → is_number by.1 ≡ true
    → is_lawful_lane attrs (keyed_aggregate_by lane.select found.0 by.0) ≡ true
keyed_aggregate_lawful attrs lane attr name found by lawful e narrow f number =
    let last = and_parts (is_of_schema attrs lane.select && is_lawful_key attrs lane.key) (is_lawful_measure attrs lane.measure) lawful in
    let first = and_parts (is_of_schema attrs lane.select) (is_lawful_key attrs lane.key) last.0 in
    and_from (is_of_schema attrs lane.select && option_passes is_number (slice_get attrs by.0)) (option_passes is_narrow (slice_get attrs found.0))
    (and_from (is_of_schema attrs lane.select) (option_passes is_number (slice_get attrs by.0)) first.0 (passes_at is_number attrs name by f number))
    (passes_at is_narrow attrs attr found e narrow)

tally_lawful : (attrs : List Attr) (attr measure text : List ℕ) (key measured : ℕ × Kind) (expr : List (List Atom))
    → attr_named attrs attr ≡ Some key → attr_named attrs measure ≡ Some measured → is_number key.1 ≡ true → is_narrow measured.1 ≡ true
    → ExprRead attrs text (Ok expr) → is_lawful_lane attrs (tally_by expr key.0 measured.0) ≡ true
tally_lawful attrs attr measure text key measured expr e f number narrow h =
    and_from (is_of_schema attrs expr && option_passes is_number (slice_get attrs key.0)) (option_passes is_narrow (slice_get attrs measured.0))
    (and_from (is_of_schema attrs expr) (option_passes is_number (slice_get attrs key.0)) (expr_fits attrs text expr h)
    (passes_at is_number attrs attr key e number))
    (passes_at is_narrow attrs measure measured f narrow)

-- schemas

base : (line : ℕ) (source : Source) (attrs : List Attr) → IsSchema attrs → IsSetup (settled (with_schema line nothing_stated source attrs) attrs)
base line source attrs schema = record {
  schema = schema;
  width = (omega arith, leb-true 1000000000 (2 ^ 63) refl);
  few_lanes = omega arith;
  few_triggers = omega arith;
  few_asks = omega arith;
  lanes = refl;
  triggers = λ c w n. refl;
  asks = λ c w n. refl;
  lives = refl;
  lane_names = refl;
  trigger_names = refl;
  ask_names = refl;
}

packets_are : (which : PacketSchema) → IsSchema (attrs_by which)
packets_are Packet = record { few = leb-true (length packet_attrs) 32 refl; apart = refl; stamped = refl; sized = refl }
packets_are Packet6 = packet6_is

draft_of : (line : ℕ) (source : Source) (attrs : List Attr) → IsSchema attrs → IsDraft (with_schema line nothing_stated source attrs)
draft_of line source attrs schema =
    record {
      unstated = λ e. some_none e;
      lawful = λ other e. subst (λ (x : List Attr). IsSetup (settled (with_schema line nothing_stated source attrs) x)) (some_same e)
          (base line source attrs schema);
    }
  where
    some_none : Some attrs ≡ None → with_schema line nothing_stated source attrs ≡ nothing_stated
    some_none e = cc

    some_same : {other : List Attr} → Some attrs ≡ Some other → attrs ≡ other
    some_same e = cc

-- a statement after the schema

abbrev sound : DraftValue → StatementFormValue → Type 0
sound before form = (code : ℕ) → IsBroken before code (rules form) → ⊥

later : (line : ℕ) (before : DraftValue) (form : StatementFormValue) (new : DraftValue) (attrs : List Attr) → before.schema ≡ Some attrs
    → IsSetup (settled before attrs) → is_schema_form form ≡ false → has_sign form ≡ true → sound before form → Adds line before form new
    → (new.schema ≡ Some attrs)
    × IsSetup (settled new attrs)
later line before (packet_schema which) new attrs e is k sign s h = absurd (false≢true (sym k))
later line before (record_schema list) new attrs e is k sign s h = absurd (false≢true (sym k))
later line before (bucket_width number) new attrs e is k sign s h =
    subst (λ (x : DraftValue). (x.schema ≡ Some attrs) × IsSetup (settled x attrs)) (sym h.4) (e, width_step before attrs is h.0 h.2 h.3)
later line before (new_index name attr) new attrs e is k sign s h =
    let found = h.0 in
    let known : attr_named attrs attr ≡ Some found = ap (λ a. attr_named a attr) (sym (ap (λ o. unwrap_or o []) e)) ∙ h.1 in
    let passes = kind_passes is_number (attr_named (attrs_of before) attr) found (λ b. s 8 (inr (inr (inl (refl, b))))) h.1 in
    subst (λ (x : DraftValue). (x.schema ≡ Some attrs) × IsSetup (settled x attrs)) (sym h.2)
    (e, lane_step before attrs is name (index_over found.0) (λ full. s 9 (inr (inr (inr (inl (refl, full)))))) (index_lawful attrs attr found known passes))
later line before (new_filter name expr) new attrs e is k sign s h =
    let read : ExprRead attrs expr (Ok h.0) = subst (λ (a : List Attr). ExprRead a expr (Ok h.0)) (ap (λ o. unwrap_or o []) e) h.1 in
    subst (λ (x : DraftValue). (x.schema ≡ Some attrs) × IsSetup (settled x attrs)) (sym h.2)
    (e, lane_step before attrs is name (filter_by h.0) (λ full. s 9 (inr (inl (refl, full)))) (filter_lawful attrs expr h.0 read))
later line before (new_aggregate name filter attr) new attrs e is k sign s h =
    let lane = h.0 in
    let found = h.1 in
    let known : attr_named attrs attr ≡ Some found = ap (λ a. attr_named a attr) (sym (ap (λ o. unwrap_or o []) e)) ∙ h.3 in
    let passes = kind_passes is_narrow (attr_named (attrs_of before) attr) found (λ b. s 8 (inr (inr (inr (inl (refl, b)))))) h.3 in
    subst (λ (x : DraftValue). (x.schema ≡ Some attrs) × IsSetup (settled x attrs)) (sym h.4) (
      e,
      lane_step before attrs is name (aggregate_by lane.1.select found.0) (λ full. s 9 (inr (inr (inr (inr (inl (refl, full)))))))
          (aggregate_lawful attrs lane.1 attr found (lane_lawful before attrs is is_filter filter lane h.2) known passes),
    )
later line before (new_keyed_aggregate name filter attr key) new attrs e is k sign s h =
    let lane = h.0 in
    let found = h.1 in
    let by = h.2 in
    let same : attrs_of before ≡ attrs = ap (λ o. unwrap_or o []) e in
    let known : attr_named attrs attr ≡ Some found = ap (λ a. attr_named a attr) (sym same) ∙ h.4 in
    let key_known : attr_named attrs key ≡ Some by = ap (λ a. attr_named a key) (sym same) ∙ h.5 in
    let narrow = kind_passes is_narrow (attr_named (attrs_of before) attr) found (λ b. s 8 (inr (inr (inr (inr (inl (refl, b))))))) h.4 in
    let number = kind_passes is_number (attr_named (attrs_of before) key) by (λ b. s 8 (inr (inr (inr (inr (inr (inl (refl, b)))))))) h.5 in
    subst (λ (x : DraftValue). (x.schema ≡ Some attrs) × IsSetup (settled x attrs)) (sym h.6) (
      e,
      lane_step before attrs is name (keyed_aggregate_by lane.1.select found.0 by.0)
          (λ full. s 9 (inr (inr (inr (inr (inr (inr (inl (refl, full)))))))))
          (keyed_aggregate_lawful attrs lane.1 attr key found by (lane_lawful before attrs is is_filter filter lane h.3) known narrow key_known number),
    )
later line before (new_tally name attr measure expr) new attrs e is k sign s h =
    let key = h.0 in
    let measured = h.1 in
    let same : attrs_of before ≡ attrs = ap (λ o. unwrap_or o []) e in
    let key_known : attr_named attrs attr ≡ Some key = ap (λ a. attr_named a attr) (sym same) ∙ h.3 in
    let measured_known : attr_named attrs measure ≡ Some measured = ap (λ a. attr_named a measure) (sym same) ∙ h.4 in
    let read : ExprRead attrs expr (Ok h.2) = subst (λ (a : List Attr). ExprRead a expr (Ok h.2)) same h.5 in
    let number = kind_passes is_number (attr_named (attrs_of before) attr) key (λ b. s 8 (inr (inr (inr (inl (refl, b)))))) h.3 in
    let narrow = kind_passes is_narrow (attr_named (attrs_of before) measure) measured (λ b. s 8 (inr (inr (inr (inr (inl (refl, b))))))) h.4 in
    subst (λ (x : DraftValue). (x.schema ≡ Some attrs) × IsSetup (settled x attrs)) (sym h.6) (
      e,
      lane_step before attrs is name (tally_by h.2 key.0 measured.0) (λ full. s 9 (inr (inr (inr (inr (inr (inl (refl, full))))))))
          (tally_lawful attrs attr measure expr key measured h.2 key_known measured_known number narrow read),
    )
later line before (new_trigger name aggregate part op number) new attrs e is k sign s h =
    let lane = h.0 in
    let n = h.1 in
    let trigger : Trigger = record { agg = lane.0; part = part; op = op; number = n } in
    subst (λ (x : DraftValue). (x.schema ≡ Some attrs) × IsSetup (settled x attrs)) (sym h.4) (
      e,
      trigger_step before attrs is name trigger (λ full. s 9 (inr (inr (inr (inl (refl, full))))))
          (λ c w m. and_from (is_aggregate_at (shaped (settled before attrs) c w m) lane.0) (not (is_range op))
          (aggregate_there before attrs is aggregate lane c w m h.2) sign),
    )
later line before (ask_list name expr) new attrs e is k sign s h =
    let read : ExprRead attrs expr (Ok h.0) = subst (λ (a : List Attr). ExprRead a expr (Ok h.0)) (ap (λ o. unwrap_or o []) e) h.1 in
    subst (λ (x : DraftValue). (x.schema ≡ Some attrs) × IsSetup (settled x attrs)) (sym h.2)
    (e, ask_step before attrs is name (asks.List h.0) (λ full. s 9 (inr (inl (refl, full)))) (λ c w n. expr_fits attrs expr h.0 read))
later line before (ask_find name index low high) new attrs e is k sign s h =
    let lane = h.0 in
    subst (λ (x : DraftValue). (x.schema ≡ Some attrs) × IsSetup (settled x attrs)) (sym h.7) (
      e,
      ask_step before attrs is name (asks.Find lane.0 h.2 h.3) (λ full. s 9 (inr (inr (inr (inr (inl (refl, full)))))))
          (λ c w n. index_there before attrs is index lane c w n h.4),
    )
later line before (ask_buckets what name lane low high) new attrs e is k sign s h =
    let found = h.0 in
    subst (λ (x : DraftValue). (x.schema ≡ Some attrs) × IsSetup (settled x attrs)) (sym h.5) (
      e,
      ask_step before attrs is name (asked_of what found.0 h.1 h.2) (λ full. s 9 (inr (inr (inr (inr (inl (refl, full)))))))
          (λ c w n. buckets_suit before attrs is what lane found h.1 h.2 c w n h.3),
    )
later line before (ask_fired name trigger) new attrs e is k sign s h =
    subst (λ (x : DraftValue). (x.schema ≡ Some attrs) × IsSetup (settled x attrs)) (sym h.2) (
      e,
      ask_step before attrs is name (asks.Fired h.0) (λ full. s 9 (inr (inr (inl (refl, full)))))
          (λ c w n. trigger_suits before attrs is trigger h.0 c w n h.1),
    )
later line before (ask_top name tally part count) new attrs e is k sign s h =
    let lane = h.0 in
    let n = h.1 in
    subst (λ (x : DraftValue). (x.schema ≡ Some attrs) × IsSetup (settled x attrs)) (sym h.6) (
      e,
      ask_step before attrs is name (asks.Top lane.0 part n) (λ full. s 9 (inr (inr (inr (inl (refl, full))))))
          (λ c w m. and_from (is_tally_at (shaped (settled before attrs) c w m) lane.0 && nat_le 1 n) (nat_le n 1000)
          (and_from (is_tally_at (shaped (settled before attrs) c w m) lane.0) (nat_le 1 n) (tally_there before attrs is tally lane c w m h.2)
          (le-leb 1 n h.4)) (le-leb n 1000 h.5)),
    )
later line before (ask_groups name lane) new attrs e is k sign s h =
    subst (λ (x : DraftValue). (x.schema ≡ Some attrs) × IsSetup (settled x attrs)) (sym h.2) (
      e,
      ask_step before attrs is name (asks.Groups (h.0).0) (λ full. s 9 (inr (inr (inl (refl, full)))))
          (λ c w n. measuring_there before attrs is lane h.0 c w n h.1),
    )
later line before (ask_total name attr expr) new attrs e is k sign s h =
    let found = h.0 in
    let same : attrs_of before ≡ attrs = ap (λ o. unwrap_or o []) e in
    let known : attr_named attrs attr ≡ Some found = ap (λ a. attr_named a attr) (sym same) ∙ h.2 in
    let read : ExprRead attrs expr (Ok h.1) = subst (λ (a : List Attr). ExprRead a expr (Ok h.1)) same h.3 in
    let narrow = kind_passes is_narrow (attr_named (attrs_of before) attr) found (λ b. s 8 (inr (inr (inl (refl, b))))) h.2 in
    subst (λ (x : DraftValue). (x.schema ≡ Some attrs) × IsSetup (settled x attrs)) (sym h.4) (
      e,
      ask_step before attrs is name (asks.Total found.0 h.1) (λ full. s 9 (inr (inr (inr (inl (refl, full))))))
          (λ c w n. and_from (is_of_schema attrs h.1) (option_passes is_narrow (slice_get attrs found.0)) (expr_fits attrs expr h.1 read)
          (passes_at is_narrow attrs attr found known narrow)),
    )
later line before (ask_live ask) new attrs e is k sign s h =
    subst (λ (x : DraftValue). (x.schema ≡ Some attrs) × IsSetup (settled x attrs)) (sym h.2) (e, live_step before attrs is ask h.0 h.1)

-- the schema's statement

started : (line : ℕ) (form : StatementFormValue) (new : DraftValue) → is_schema_form form ≡ true → Adds line nothing_stated form new → IsDraft new
started line (packet_schema which) new k h = subst IsDraft (sym h) (draft_of line (Packets which) (attrs_by which) (packets_are which))
started line (record_schema list) new k h = let l = h.1 in subst IsDraft (sym h.2) (draft_of line Records h.0 l.schema)
started line (bucket_width number) new k h = absurd (false≢true k)
started line (new_index name attr) new k h = absurd (false≢true k)
started line (new_filter name expr) new k h = absurd (false≢true k)
started line (new_aggregate name filter attr) new k h = absurd (false≢true k)
started line (new_keyed_aggregate name filter attr key) new k h = absurd (false≢true k)
started line (new_tally name attr measure expr) new k h = absurd (false≢true k)
started line (new_trigger name aggregate part op number) new k h = absurd (false≢true k)
started line (ask_list name expr) new k h = absurd (false≢true k)
started line (ask_find name index low high) new k h = absurd (false≢true k)
started line (ask_buckets what name lane low high) new k h = absurd (false≢true k)
started line (ask_fired name trigger) new k h = absurd (false≢true k)
started line (ask_top name tally part count) new k h = absurd (false≢true k)
started line (ask_groups name lane) new k h = absurd (false≢true k)
started line (ask_total name attr expr) new k h = absurd (false≢true k)
started line (ask_live ask) new k h = absurd (false≢true k)

draft_after : (new : DraftValue) (attrs : List Attr) → new.schema ≡ Some attrs → IsSetup (settled new attrs) → IsDraft new
draft_after new attrs e is = record { unstated = λ n. some_none n; lawful = λ other f. subst (λ (x : List Attr). IsSetup (settled new x)) (some_same f) is }
  where
    some_none : new.schema ≡ None → new ≡ nothing_stated
    some_none n = let both : Some attrs ≡ None = sym e ∙ n in cc

    some_same : {other : List Attr} → new.schema ≡ Some other → attrs ≡ other
    some_same f = let both : Some attrs ≡ Some _ = sym e ∙ f in cc

not_later : (before : DraftValue) (statement : Statement) → is_later before statement ≡ true → is_schema_statement statement ≡ false
not_later before statements.Schema h = absurd (false≢true h)
not_later before statements.Width h = refl
not_later before statements.Index h = refl
not_later before statements.Filter h = refl
not_later before statements.Aggregate h = refl
not_later before statements.Tally h = refl
not_later before statements.Trigger h = refl
not_later before statements.Ask h = refl
not_later before statements.Live h = refl

stated_lawful : (number : ℕ) (before : DraftValue) (line : List ℕ) (new : DraftValue) → IsDraft before → States number before line new → IsDraft new
stated_lawful number before line new d s = by before.schema refl
  where
    in_place : (b : Bool) → is_in_place before s.statement ≡ b → b ≡ true
    in_place true b = refl
    in_place false b = absurd (s.lawful 2 (misplaced s.statement refl s.statement_is b))

    place : is_in_place before s.statement ≡ true
    place = in_place (is_in_place before s.statement) refl

    broken : (code : ℕ) → IsBroken before code (rules s.form) → ⊥
    broken code b = s.lawful code (ruled s.statement s.form s.statement_is s.form_is b)

    by : (o : Option (List Attr)) → before.schema ≡ o → IsDraft new
    by None e =
        let fits = form_fits s.statement (word_at line).1 s.form s.form_is in
        let first : is_schema_statement s.statement ≡ true =
        sym (ap (λ o. cond (is_some o) (is_later before s.statement) (is_schema_statement s.statement)) e) ∙ place in
        started number s.form new (fits.kind ∙ first) (subst (λ (x : DraftValue). Adds number x s.form new) (d.unstated e) s.adds)
    by (Some attrs) e =
        let fits = form_fits s.statement (word_at line).1 s.form s.form_is in
        let after : is_later before s.statement ≡ true = sym (ap (λ o. cond (is_some o) (is_later before s.statement) (is_schema_statement s.statement)) e)
        ∙ place in
        let next = later number before s.form new attrs e (d.lawful attrs e) (fits.kind ∙ not_later before s.statement after) fits.sign broken s.adds in
        draft_after new attrs next.0 next.1

pub said_lawful : (number : ℕ) (before : DraftValue) (line : List ℕ) (new : DraftValue) → IsDraft before → said number before line ≡ Ok new → IsDraft new
said_lawful number before line new d h = by (is_silent line) h
  where
    same : ◌≡◌ {A = Result DraftValue ℕ} (Ok before) (Ok new) → before ≡ new
    same e = cc

    by : (b : Bool) → cond b (Ok before) (line_read number before line) ≡ Ok new → IsDraft new
    by true k = subst IsDraft (same k) d
    by false k = let law = line_only number before line in stated_lawful number before line new d (subst (LineRead number before line) k law.holds)

pub draft_few : (before : DraftValue) → IsDraft before → IsFew before
draft_few before d = by before.schema refl
  where
    by : (o : Option (List Attr)) → before.schema ≡ o → IsFew before
    by None e = subst IsFew (sym (d.unstated e)) (record { lanes = omega arith; asks = omega arith })
    by (Some attrs) e = let is = d.lawful attrs e in let names = is.ask_names in let few = is.few_asks in
        record { lanes = is.few_lanes; asks = omega (arith, names, few) }
