-- Reading a setup: the first broken rule of a line decides its code, and the first faulty line the setup's.
use Rattle.std.specs.Prelude.{◌≡◌, ℕ, ◌+◌, ◌^◌, ◌==◌, Bool, true, false, ◌&&◌, not, nat_le, nat_lt, List, [], ◌∷◌, ◌++◌, length, Option, Some, None, Result, Ok, Err, is_none, if◌then◌else◌}
use Rattle.std.specs.List.{list_any, list_all}
use Rattle.std.specs.Option.{option_map, option_and_then}
use Rattle.cf_row.specs.declared.schema.Attr.{Attr}
use Rattle.cf_row.specs.declared.schema.Kind.{Kind}
use Rattle.cf_row.specs.declared.schema.Kind.TheVariants.{U64}
use Rattle.cf_row.specs.declared.row.Value.{Value}
use Rattle.cf_row.specs.declared.row.Value.TheVariants.{Num, Raw}
use Rattle.cf_row.specs.declared.expr.Atom.{Atom}
use Rattle.cf_row.specs.Schema6.{attrs_by}
use Rattle.cf_shape.specs.Lanes.{is_number, is_narrow}
use Rattle.cf_plain.specs.declared.ask.Ask.TheVariants as asks
use Rattle.cf_filter.specs.declared.bytes.Class.TheVariants as classes
use Rattle.cf_filter.specs.declared.fault.Offence.{Offence}
use Rattle.cf_filter.specs.declared.fault.Offence.TheVariants.{Syntax, UnknownName, BadOperator, ValueRange, TooLong}
use Rattle.cf_filter.specs.declared.fault.OffenceAt.{OffenceAt}
use Rattle.cf_filter.specs.Tokens.{passes, unspaced}
use Rattle.cf_filter.specs.Values.{◌>>=◌, value_at}
use Rattle.cf_filter.specs.Reading.{attr_named}
use Rattle.cf_filter.specs.Exprs.{expr_at}
use Rattle.cf_setup.specs.declared.statement.Statement.{Statement}
use Rattle.cf_setup.specs.declared.fault.Code.{Code}
use Rattle.cf_setup.specs.declared.fault.Code.TheVariants as codes_of
use Rattle.cf_setup.specs.declared.fault.LineFault.{LineFault}
use Rattle.cf_setup.specs.declared.fault.LineFault.TheVariants.{Breaks, Memory as LineMemory}
use Rattle.cf_setup.specs.declared.parse.SetupFault.{SetupFault}
use Rattle.cf_setup.specs.declared.parse.SetupFault.TheVariants.{Bad, Memory}
use Rattle.cf_setup.specs.declared.source.Source.TheVariants.{Packets, Records}
use Rattle.cf_setup.specs.Codes.{code_number}
use Rattle.cf_lines.specs.Lines.{lines_of, is_silent, word_at}
use Rattle.cf_setup.specs.Drafts.{DraftValue, nothing_stated, attrs_of, with_lane, with_trigger, with_ask, index_over, filter_by, aggregate_by, keyed_aggregate_by, tally_by}
use Rattle.cf_setup.specs.Forms.{StatementFormValue, statement_named, form_at}
use Rattle.cf_setup.specs.Forms.StatementFormValue.{packet_schema, record_schema, bucket_width, new_index, new_filter, new_aggregate, new_keyed_aggregate, new_tally, new_trigger, ask_list, ask_find, ask_buckets, ask_fired, ask_top, ask_groups, ask_total, ask_live}
use Rattle.cf_setup.specs.Named.{is_taken, place_in, is_index, is_filter, is_aggregate, is_tally, is_measuring, is_of, family_of, asked_of, lane_named, trigger_named, index_kind}
use Rattle.cf_lines.specs.Schemas.{schema_at}
use Rattle.cf_setup.specs.Rules.{Rule, rules, expr_rules}
use Rattle.cf_setup.specs.Rules.Rule.{schema_list, free_name, live_once, known_attr, known_lane, known_trigger, known_ask, a_number, a_number_from, a_key, number_attr, narrow_attr, lane_room, trigger_room, ask_room, no_offence}
use Rattle.cf_setup.specs.Adds.{with_schema}
use Rattle.cf_setup.specs.SetupText.{is_in_place}
use Rattle.cf_setup.specs.Setups.{SetupValue, settled}

-- the number of a value
abbrev pub number_in_value : Value → Option ℕ
number_in_value (Num n) = Some n
number_in_value (Raw len bytes) = None

-- the number that a text is, as a value of the kind
abbrev pub number_of : Kind → List ℕ → Option ℕ
number_of kind text = option_and_then number_in_value (value_at kind text)

-- a number from the one to the other
abbrev pub number_from : ℕ → ℕ → List ℕ → Option ℕ
number_from low high text = do
  n ← number_of U64 text
  if nat_le low n && nat_le n high then Some n else None

-- the value of that kind, if there is one
abbrev pub key_in : Option Kind → List ℕ → Option ℕ
key_in None text = None
key_in (Some kind) text = number_of kind text

-- the value of the index's attribute that a text is
abbrev pub key_written : DraftValue → List ℕ → List ℕ → Option ℕ
key_written before index text = key_in (index_kind before index) text

-- the ask at that place is live
abbrev pub is_live : DraftValue → Option ℕ → Bool
is_live before None = false
is_live before (Some place) = list_any (λ live. live == place) before.lives

-- the attribute is known, and its kind fails the test
abbrev pub fails : (Kind → Bool) → Option (ℕ × Kind) → Bool
fails test None = false
fails test (Some found) = not (test found.1)

-- the offences are the same
abbrev pub same_offence : Offence → Offence → Bool
same_offence Syntax Syntax = true
same_offence UnknownName UnknownName = true
same_offence BadOperator BadOperator = true
same_offence ValueRange ValueRange = true
same_offence TooLong TooLong = true
same_offence _ _ = false

-- the expression has that offence
abbrev pub offends : Offence → Result (List (List Atom)) OffenceAt → Bool
offends offence (Ok expr) = false
offends offence (Err stop) = same_offence offence stop.offence

-- the rule's test fails
abbrev pub is_broken : DraftValue → Rule → Bool
is_broken before (schema_list list) = is_none (schema_at list)
is_broken before (free_name name) = is_taken before name
is_broken before (live_once ask) = is_live before (place_in before.ask_names ask)
is_broken before (known_attr name) = is_none (attr_named (attrs_of before) name)
is_broken before (known_lane family name) = is_none (lane_named (is_of family) before name)
is_broken before (known_trigger name) = is_none (trigger_named before name)
is_broken before (known_ask name) = is_none (place_in before.ask_names name)
is_broken before (a_number text) = is_none (number_of U64 text)
is_broken before (a_number_from low high text) = is_none (number_from low high text)
is_broken before (a_key index text) = is_none (key_written before index text)
is_broken before (number_attr name) = fails is_number (attr_named (attrs_of before) name)
is_broken before (narrow_attr name) = fails is_narrow (attr_named (attrs_of before) name)
is_broken before lane_room = nat_le 16 (length before.lanes)
is_broken before trigger_room = nat_le 16 (length before.triggers)
is_broken before ask_room = nat_le 32 (length before.asks)
is_broken before (no_offence offence text) = offends offence (expr_at (attrs_of before) text)

-- the code of the first rule whose test fails
abbrev pub first_broken : DraftValue → List (ℕ × Rule) → Option ℕ
first_broken before [] = None
first_broken before (rule ∷ rest) = if is_broken before rule.1 then Some rule.0 else first_broken before rest

-- the expression that is read
abbrev pub expr_in : Result (List (List Atom)) OffenceAt → Option (List (List Atom))
expr_in (Ok expr) = Some expr
expr_in (Err stop) = None

-- the expression that a text is
abbrev pub expr_of : DraftValue → List ℕ → Option (List (List Atom))
expr_of before text = expr_in (expr_at (attrs_of before) text)

-- what is stated after a lawful statement
abbrev pub added : ℕ → DraftValue → StatementFormValue → Option DraftValue
added line before (packet_schema which) = Some (with_schema line before (Packets which) (attrs_by which))
added line before (record_schema list) = option_map (with_schema line before Records) (schema_at list)
added line before (bucket_width number) = option_map (λ n. record before { width = Some n }) (number_from 1 (2 ^ 63) number)
added line before (new_index name attr) = option_map (λ found. with_lane before name (index_over found.0)) (attr_named (attrs_of before) attr)
added line before (new_filter name expr) = option_map (λ read. with_lane before name (filter_by read)) (expr_of before expr)
added line before (new_aggregate name filter attr) = do
  lane ← lane_named is_filter before filter
  found ← attr_named (attrs_of before) attr
  Some (with_lane before name (aggregate_by lane.1.select found.0))
added line before (new_keyed_aggregate name filter attr key) = do
  lane ← lane_named is_filter before filter
  found ← attr_named (attrs_of before) attr
  by ← attr_named (attrs_of before) key
  Some (with_lane before name (keyed_aggregate_by lane.1.select found.0 by.0))
added line before (new_tally name attr measure expr) = do
  key ← attr_named (attrs_of before) attr
  measured ← attr_named (attrs_of before) measure
  read ← expr_of before expr
  Some (with_lane before name (tally_by read key.0 measured.0))
added line before (new_trigger name aggregate part op number) = do
  lane ← lane_named is_aggregate before aggregate
  n ← number_of U64 number
  Some (with_trigger before name (record { agg = lane.0; part = part; op = op; number = n }))
added line before (ask_list name expr) = option_map (λ read. with_ask before name (asks.List read)) (expr_of before expr)
added line before (ask_find name index low high) = do
  lane ← lane_named is_index before index
  first ← key_written before index low
  last ← key_written before index high
  Some (with_ask before name (asks.Find lane.0 first last))
added line before (ask_buckets what name lane low high) = do
  found ← lane_named (is_of (family_of what)) before lane
  first ← number_of U64 low
  last ← number_of U64 high
  Some (with_ask before name (asked_of what found.0 first last))
added line before (ask_fired name trigger) = option_map (λ found. with_ask before name (asks.Fired found)) (trigger_named before trigger)
added line before (ask_top name tally part count) = do
  lane ← lane_named is_tally before tally
  n ← number_from 1 1000 count
  Some (with_ask before name (asks.Top lane.0 part n))
added line before (ask_groups name lane) = option_map (λ found. with_ask before name (asks.Groups found.0)) (lane_named is_measuring before lane)
added line before (ask_total name attr expr) = do
  found ← attr_named (attrs_of before) attr
  read ← expr_of before expr
  Some (with_ask before name (asks.Total found.0 read))
added line before (ask_live ask) = option_map (λ place. record before { lives = before.lives ++ place ∷ [] }) (place_in before.ask_names ask)

-- where no test fails, something is stated
abbrev pub coded_or : Option ℕ → Option DraftValue → Result DraftValue ℕ
coded_or (Some code) new = Err code
coded_or None None = Err 0
coded_or None (Some new) = Ok new

-- the code of the first broken rule, or what is stated then
unfoldable pub ruled : ℕ → DraftValue → StatementFormValue → Result DraftValue ℕ
ruled line before form = coded_or (first_broken before (rules form)) (added line before form)

-- what a statement in its form states
abbrev pub form_read : ℕ → DraftValue → Option StatementFormValue → Result DraftValue ℕ
form_read line before None = Err 3
form_read line before (Some form) = ruled line before form

-- what a statement states where it is in place
abbrev pub statement_read : ℕ → DraftValue → List ℕ → Option Statement → Result DraftValue ℕ
statement_read line before rest None = Err 2
statement_read line before rest (Some statement) = if is_in_place before statement then form_read line before (form_at statement rest) else Err 2

-- what is stated after the line of that number, or the least code of a rule that it breaks
unfoldable pub line_read : ℕ → DraftValue → List ℕ → Result DraftValue ℕ
line_read number before line =
    if list_all (passes classes.Text) line then statement_read number before (word_at line).1 (statement_named (word_at line).0) else Err 1

-- a line after the spaces at its front
abbrev pub said : ℕ → DraftValue → List ℕ → Result DraftValue ℕ
said number before line = if is_silent line then Ok before else line_read number before line

-- the setup, if its schema is stated, or the line that lacks it
abbrev pub settled_or : ℕ → DraftValue → Option (List Attr) → Result SetupValue (ℕ × ℕ)
settled_or line stated None = Err (line, 2)
settled_or line stated (Some attrs) = Ok (settled stated attrs)

-- what is read of the lines after the one that is read so
abbrev pub after_line : ℕ → Result DraftValue ℕ → (DraftValue → Result SetupValue (ℕ × ℕ)) → Result SetupValue (ℕ × ℕ)
after_line number (Ok stated) later = later stated
after_line number (Err code) later = Err (number, code)

-- the lines, the first of which has that number
unfoldable pub setup_from : ℕ → DraftValue → List (List ℕ) → Result SetupValue (ℕ × ℕ)
setup_from number before [] = settled_or number before before.schema
setup_from number before (line ∷ lines) = after_line number (said number before (unspaced line)) (λ stated. setup_from (number + 1) stated lines)

-- the setup that a text is, or its first faulty line
abbrev pub setup_at : List ℕ → Result SetupValue (ℕ × ℕ)
setup_at bytes = if nat_lt 65536 (length bytes) then Err (0, 9) else setup_from 1 nothing_stated (lines_of bytes)

-- want of memory says nothing of the text
abbrev pub Answers : Result SetupValue SetupFault → Result SetupValue (ℕ × ℕ) → Type 0
Answers (Ok setup) read = read ≡ Ok setup
Answers (Err (Bad line code)) read = read ≡ Err (line, code)
Answers (Err Memory) read = Unit {0}

-- what a line states, or its code; want of memory says nothing of it
abbrev pub Takes : Result DraftValue LineFault → Result DraftValue ℕ → Type 0
Takes (Ok new) read = read ≡ Ok new
Takes (Err (Breaks code)) read = read ≡ Err (code_number code)
Takes (Err LineMemory) read = Unit {0}

-- the fault of a setup whose first faulty line is that one
abbrev pub fault_at : ℕ → LineFault → SetupFault
fault_at line (Breaks code) = Bad line (code_number code)
fault_at line LineMemory = Memory

-- the code of an offence
abbrev pub code_of : Offence → Code
code_of Syntax = codes_of.Syntax
code_of UnknownName = codes_of.UnknownName
code_of BadOperator = codes_of.BadOperator
code_of ValueRange = codes_of.ValueRange
code_of TooLong = codes_of.TooLong

-- an expression, or the code of its offence
abbrev pub ExprCoded : Result (List (List Atom)) OffenceAt → Result (List (List Atom)) LineFault → Type 0
ExprCoded read (Ok expr) = read ≡ Ok expr
ExprCoded read (Err (Breaks code)) = (stop : OffenceAt) × (read ≡ Err stop) × (code ≡ code_of stop.offence)
ExprCoded read (Err LineMemory) = Unit {0}

-- what an expression that is taken says of its rules
abbrev pub ExprTaken : DraftValue → List ℕ → Result (List (List Atom)) LineFault → Type 0
ExprTaken before text (Ok expr) = (first_broken before (expr_rules text) ≡ None) × (expr_of before text ≡ Some expr)
ExprTaken before text (Err (Breaks code)) = first_broken before (expr_rules text) ≡ Some (code_number code)
ExprTaken before text (Err LineMemory) = Unit {0}
