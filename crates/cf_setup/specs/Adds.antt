-- What a lawful statement adds to what is stated before.
use Rattle.std.specs.Prelude.{◌≡◌, ℕ, ◌≤◌, ◌^◌, List, [], ◌∷◌, ◌++◌, Some, Ok}
use Rattle.cf_row.specs.declared.schema.Attr.{Attr}
use Rattle.cf_row.specs.declared.schema.Kind.{Kind}
use Rattle.cf_row.specs.declared.schema.Kind.TheVariants.{U64}
use Rattle.cf_row.specs.declared.row.Value.TheVariants.{Num}
use Rattle.cf_row.specs.declared.expr.Atom.{Atom}
use Rattle.cf_row.specs.Schema6.{attrs_by}
use Rattle.cf_fold.specs.declared.trigger.Trigger.{Trigger}
use Rattle.cf_shape.specs.declared.lane.Lane.{Lane}
use Rattle.cf_plain.specs.declared.ask.Ask.TheVariants as asks
use Rattle.cf_filter.specs.Reading.{attr_named}
use Rattle.cf_filter.specs.Grammar.{ValueText, ExprRead}
use Rattle.cf_setup.specs.declared.source.Source.{Source}
use Rattle.cf_setup.specs.declared.source.Source.TheVariants.{Packets, Records}
use Rattle.cf_setup.specs.Drafts.{DraftValue, attrs_of, with_lane, with_trigger, with_ask, index_over, filter_by, aggregate_by, keyed_aggregate_by, tally_by}
use Rattle.cf_setup.specs.Forms.{StatementFormValue}
use Rattle.cf_setup.specs.Forms.StatementFormValue.{packet_schema, record_schema, bucket_width, new_index, new_filter, new_aggregate, new_keyed_aggregate, new_tally, new_trigger, ask_list, ask_find, ask_buckets, ask_fired, ask_top, ask_groups, ask_total, ask_live}
use Rattle.cf_setup.specs.Named.{place_in, is_index, is_filter, is_aggregate, is_tally, is_measuring, is_of, family_of, asked_of, lane_named, trigger_named, index_kind}
use Rattle.cf_lines.specs.Schemas.{ListText}

-- a schema at that line
abbrev pub with_schema : ℕ → DraftValue → Source → List Attr → DraftValue
with_schema line before source attrs = record before { source = source; schema_line = line; schema = Some attrs }

-- both ends of a range as values of the kind
pub record AreEnds (kind : Kind) (low high : List ℕ) (first last : ℕ) : Type 0 where
  pub low_is : ValueText kind low (Num first)
  pub high_is : ValueText kind high (Num last)

-- the statement at that line adds this
abbrev pub Adds : ℕ → DraftValue → StatementFormValue → DraftValue → Type 0
Adds line before (packet_schema which) new = new ≡ with_schema line before (Packets which) (attrs_by which)
Adds line before (record_schema list) new = (attrs : List Attr) × ListText list attrs × (new ≡ with_schema line before Records attrs)
Adds line before (bucket_width number) new = (n : ℕ) × ValueText U64 number (Num n) × (1 ≤ n) × (n ≤ 2 ^ 63) × (new ≡ record before { width = Some n })
Adds line before (new_index name attr) new =
    (found : ℕ × Kind) × (attr_named (attrs_of before) attr ≡ Some found) × (new ≡ with_lane before name (index_over found.0))
Adds line before (new_filter name expr) new =
    (read : List (List Atom)) × ExprRead (attrs_of before) expr (Ok read) × (new ≡ with_lane before name (filter_by read))
Adds line before (new_aggregate name filter attr) new =
    (lane : ℕ × Lane) × (found : ℕ × Kind) × (lane_named is_filter before filter ≡ Some lane) × (attr_named (attrs_of before) attr ≡ Some found)
    × (new ≡ with_lane before name (aggregate_by lane.1.select found.0))
Adds line before (new_keyed_aggregate name filter attr key) new =
    (lane : ℕ × Lane) × (found by : ℕ × Kind) × (lane_named is_filter before filter ≡ Some lane) × (attr_named (attrs_of before) attr ≡ Some found)
    × (attr_named (attrs_of before) key ≡ Some by)
    × (new ≡ with_lane before name (keyed_aggregate_by lane.1.select found.0 by.0))
Adds line before (new_tally name attr measure expr) new =
    (key measured : ℕ × Kind) × (read : List (List Atom)) × (attr_named (attrs_of before) attr ≡ Some key)
    × (attr_named (attrs_of before) measure ≡ Some measured)
    × ExprRead (attrs_of before) expr (Ok read) × (new ≡ with_lane before name (tally_by read key.0 measured.0))
Adds line before (new_trigger name aggregate part op number) new =
    (lane : ℕ × Lane) × (n : ℕ) × (lane_named is_aggregate before aggregate ≡ Some lane) × ValueText U64 number (Num n)
    × (new ≡ with_trigger before name (record { agg = lane.0; part = part; op = op; number = n }))
Adds line before (ask_list name expr) new =
    (read : List (List Atom)) × ExprRead (attrs_of before) expr (Ok read) × (new ≡ with_ask before name (asks.List read))
Adds line before (ask_find name index low high) new =
    (lane : ℕ × Lane) × (kind : Kind) × (first last : ℕ) × (lane_named is_index before index ≡ Some lane) × (index_kind before index ≡ Some kind)
    × AreEnds kind low high first last × (new ≡ with_ask before name (asks.Find lane.0 first last))
Adds line before (ask_buckets what name lane low high) new =
    (found : ℕ × Lane) × (first last : ℕ) × (lane_named (is_of (family_of what)) before lane ≡ Some found) × AreEnds U64 low high first last
    × (new ≡ with_ask before name (asked_of what found.0 first last))
Adds line before (ask_fired name trigger) new =
    (found : Trigger) × (trigger_named before trigger ≡ Some found) × (new ≡ with_ask before name (asks.Fired found))
Adds line before (ask_top name tally part count) new =
    (lane : ℕ × Lane) × (n : ℕ) × (lane_named is_tally before tally ≡ Some lane) × ValueText U64 count (Num n) × (1 ≤ n) × (n ≤ 1000)
    × (new ≡ with_ask before name (asks.Top lane.0 part n))
Adds line before (ask_groups name lane) new =
    (found : ℕ × Lane) × (lane_named is_measuring before lane ≡ Some found) × (new ≡ with_ask before name (asks.Groups found.0))
Adds line before (ask_total name attr expr) new =
    (found : ℕ × Kind) × (read : List (List Atom)) × (attr_named (attrs_of before) attr ≡ Some found) × ExprRead (attrs_of before) expr (Ok read)
    × (new ≡ with_ask before name (asks.Total found.0 read))
Adds line before (ask_live ask) new =
    (place : ℕ) × (place_in before.ask_names ask ≡ Some place) × (new ≡ record before { lives = before.lives ++ place ∷ [] })
