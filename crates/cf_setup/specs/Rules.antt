-- The rules of statements, and when one is broken.
use Rattle.std.specs.Prelude.{◌≡◌, ◌⊎◌, ℕ, ◌≤◌, ◌^◌, ◌==◌, true, false, List, [], ◌∷◌, length, Some, None, Err}
use Rattle.std.specs.List.{list_any}
use Rattle.cf_row.specs.declared.schema.Attr.{Attr}
use Rattle.cf_row.specs.declared.schema.Kind.{Kind}
use Rattle.cf_row.specs.declared.schema.Kind.TheVariants.{U64}
use Rattle.cf_row.specs.declared.row.Value.TheVariants.{Num}
use Rattle.cf_shape.specs.Lanes.{is_number, is_narrow}
use Rattle.cf_filter.specs.declared.fault.Offence.{Offence}
use Rattle.cf_filter.specs.declared.fault.Offence.TheVariants.{Syntax, UnknownName, BadOperator, ValueRange, TooLong}
use Rattle.cf_filter.specs.declared.fault.OffenceAt.{OffenceAt}
use Rattle.cf_filter.specs.Reading.{attr_named}
use Rattle.cf_filter.specs.Grammar.{ValueText, ExprRead}
use Rattle.cf_setup.specs.declared.draft.Family.{Family}
use Rattle.cf_setup.specs.declared.draft.Family.TheVariants as families
use Rattle.cf_setup.specs.Drafts.{DraftValue, attrs_of}
use Rattle.cf_setup.specs.Forms.{StatementFormValue}
use Rattle.cf_setup.specs.Forms.StatementFormValue.{packet_schema, record_schema, bucket_width, new_index, new_filter, new_aggregate, new_keyed_aggregate, new_tally, new_trigger, ask_list, ask_find, ask_buckets, ask_fired, ask_top, ask_groups, ask_total, ask_live}
use Rattle.cf_setup.specs.Named.{is_taken, place_in, is_of, family_of, lane_named, trigger_named, index_kind}
use Rattle.cf_lines.specs.Schemas.{ListText}

-- what a statement is held to
pub data Rule : Type 0 where
  schema_list : (list : List ℕ) → Rule
  free_name : (name : List ℕ) → Rule
  live_once : (ask : List ℕ) → Rule
  known_attr : (name : List ℕ) → Rule
  known_lane : (family : Family) (name : List ℕ) → Rule
  known_trigger : (name : List ℕ) → Rule
  known_ask : (name : List ℕ) → Rule
  a_number : (text : List ℕ) → Rule
  a_number_from : (low high : ℕ) (text : List ℕ) → Rule
  a_key : (index text : List ℕ) → Rule
  number_attr : (name : List ℕ) → Rule
  narrow_attr : (name : List ℕ) → Rule
  lane_room : Rule
  trigger_room : Rule
  ask_room : Rule
  no_offence : (offence : Offence) (text : List ℕ) → Rule

-- the rule is broken after what is stated before
abbrev pub Broken : DraftValue → Rule → Type 0
Broken before (schema_list list) = (attrs : List Attr) → ListText list attrs → ⊥
Broken before (free_name name) = is_taken before name ≡ true
Broken before (live_once ask) = (place : ℕ) × (place_in before.ask_names ask ≡ Some place) × (list_any (λ live. live == place) before.lives ≡ true)
Broken before (known_attr name) = attr_named (attrs_of before) name ≡ None
Broken before (known_lane family name) = lane_named (is_of family) before name ≡ None
Broken before (known_trigger name) = trigger_named before name ≡ None
Broken before (known_ask name) = place_in before.ask_names name ≡ None
Broken before (a_number text) = (n : ℕ) → ValueText U64 text (Num n) → ⊥
Broken before (a_number_from low high text) = (n : ℕ) → ValueText U64 text (Num n) → low ≤ n → n ≤ high → ⊥
Broken before (a_key index text) = (kind : Kind) → index_kind before index ≡ Some kind → (n : ℕ) → ValueText kind text (Num n) → ⊥
Broken before (number_attr name) = (found : ℕ × Kind) × (attr_named (attrs_of before) name ≡ Some found) × (is_number found.1 ≡ false)
Broken before (narrow_attr name) = (found : ℕ × Kind) × (attr_named (attrs_of before) name ≡ Some found) × (is_narrow found.1 ≡ false)
Broken before lane_room = 16 ≤ length before.lanes
Broken before trigger_room = 16 ≤ length before.triggers
Broken before ask_room = 32 ≤ length before.asks
Broken before (no_offence offence text) = (stop : OffenceAt) × ExprRead (attrs_of before) text (Err stop) × (stop.offence ≡ offence)

-- each offence of an expression has its code
abbrev pub expr_rules : List ℕ → List (ℕ × Rule)
expr_rules text =
    (10, no_offence Syntax text)
    ∷ (11, no_offence UnknownName text)
    ∷ (12, no_offence BadOperator text)
    ∷ (13, no_offence ValueRange text)
    ∷ (14, no_offence TooLong text)
    ∷ []

-- the rules of a statement in its form, each with its code, which ascend
abbrev pub rules : StatementFormValue → List (ℕ × Rule)
rules (packet_schema which) = []
rules (record_schema list) = (4, schema_list list) ∷ []
rules (bucket_width number) = (7, a_number_from 1 (2 ^ 63) number) ∷ []
rules (new_index name attr) = (5, free_name name) ∷ (6, known_attr attr) ∷ (8, number_attr attr) ∷ (9, lane_room) ∷ []
rules (new_filter name expr) = (5, free_name name) ∷ (9, lane_room) ∷ expr_rules expr
rules (new_aggregate name filter attr) =
    (5, free_name name) ∷ (6, known_lane families.Filter filter) ∷ (6, known_attr attr) ∷ (8, narrow_attr attr) ∷ (9, lane_room) ∷ []
rules (new_keyed_aggregate name filter attr key) =
    (5, free_name name)
    ∷ (6, known_lane families.Filter filter)
    ∷ (6, known_attr attr)
    ∷ (6, known_attr key)
    ∷ (8, narrow_attr attr)
    ∷ (8, number_attr key)
    ∷ (9, lane_room)
    ∷ []
rules (new_tally name attr measure expr) =
    (5, free_name name) ∷ (6, known_attr attr) ∷ (6, known_attr measure) ∷ (8, number_attr attr) ∷ (8, narrow_attr measure) ∷ (9, lane_room) ∷ expr_rules expr
rules (new_trigger name aggregate part op number) =
    (5, free_name name) ∷ (6, known_lane families.Aggregate aggregate) ∷ (7, a_number number) ∷ (9, trigger_room) ∷ []
rules (ask_list name expr) = (5, free_name name) ∷ (9, ask_room) ∷ expr_rules expr
rules (ask_find name index low high) =
    (5, free_name name) ∷ (6, known_lane families.Index index) ∷ (7, a_key index low) ∷ (7, a_key index high) ∷ (9, ask_room) ∷ []
rules (ask_buckets what name lane low high) =
    (5, free_name name) ∷ (6, known_lane (family_of what) lane) ∷ (7, a_number low) ∷ (7, a_number high) ∷ (9, ask_room) ∷ []
rules (ask_fired name trigger) = (5, free_name name) ∷ (6, known_trigger trigger) ∷ (9, ask_room) ∷ []
rules (ask_top name tally part count) = (5, free_name name) ∷ (6, known_lane families.Tally tally) ∷ (7, a_number_from 1 1000 count) ∷ (9, ask_room) ∷ []
rules (ask_groups name lane) = (5, free_name name) ∷ (6, known_lane families.Measuring lane) ∷ (9, ask_room) ∷ []
rules (ask_total name attr expr) = (5, free_name name) ∷ (6, known_attr attr) ∷ (8, narrow_attr attr) ∷ (9, ask_room) ∷ expr_rules expr
rules (ask_live ask) = (5, live_once ask) ∷ (6, known_ask ask) ∷ []

-- some rule with this code is broken
abbrev pub IsBroken : DraftValue → ℕ → List (ℕ × Rule) → Type 0
IsBroken before code [] = ⊥
IsBroken before code (rule ∷ rest) = ((code ≡ rule.0) × Broken before rule.1) ⊎ IsBroken before code rest
