-- How statements are written.
use Rattle.std.specs.Prelude.{ℕ, ◌<◌, ◌^◌, Bool, true, false, List, length, All, codes, Option, Some, None, if◌then◌else◌}
use Rattle.std.specs.Option.{option_map}
use Rattle.std.specs.Str.{bytes_eq}
use Rattle.cf_row.specs.declared.expr.Op.{Op}
use Rattle.cf_row.specs.Expr.{is_range}
use Rattle.cf_row.specs.declared.packet6.PacketSchema.{PacketSchema}
use Rattle.cf_row.specs.declared.packet6.PacketSchema.TheVariants.{Packet, Packet6}
use Rattle.cf_fold.specs.declared.trigger.Part.{Part}
use Rattle.cf_fold.specs.declared.trigger.Part.TheVariants.{Count, Sum, Least, Greatest}
use Rattle.cf_filter.specs.Values.{◌>>=◌}
use Rattle.cf_filter.specs.Reading.{op_named}
use Rattle.cf_setup.specs.declared.statement.Statement.{Statement}
use Rattle.cf_setup.specs.declared.statement.Statement.TheVariants as statements
use Rattle.cf_setup.specs.declared.statement.Question.{Question}
use Rattle.cf_setup.specs.declared.statement.Question.TheVariants as questions
use Rattle.cf_setup.specs.declared.ask_buckets.Buckets.{Buckets}
use Rattle.cf_setup.specs.declared.ask_buckets.Buckets.TheVariants as buckets
use Rattle.cf_setup.specs.declared.form.StatementForm.{StatementForm as Read}
use Rattle.cf_setup.specs.declared.form.StatementForm.TheVariants as reads
use Rattle.cf_lines.specs.Lines.{is_blank, next_word, last_word, new_name}

-- a statement in its form, with its words
pub data StatementFormValue : Type 0 where
  packet_schema : (which : PacketSchema) → StatementFormValue
  record_schema : (list : List ℕ) → StatementFormValue
  bucket_width : (number : List ℕ) → StatementFormValue
  new_index : (name attr : List ℕ) → StatementFormValue
  new_filter : (name expr : List ℕ) → StatementFormValue
  new_aggregate : (name filter attr : List ℕ) → StatementFormValue
  new_keyed_aggregate : (name filter attr key : List ℕ) → StatementFormValue
  new_tally : (name attr measure expr : List ℕ) → StatementFormValue
  new_trigger : (name aggregate : List ℕ) (part : Part) (op : Op) (number : List ℕ) → StatementFormValue
  ask_list : (name expr : List ℕ) → StatementFormValue
  ask_find : (name index low high : List ℕ) → StatementFormValue
  ask_buckets : (what : Buckets) (name lane low high : List ℕ) → StatementFormValue
  ask_fired : (name trigger : List ℕ) → StatementFormValue
  ask_top : (name tally : List ℕ) (part : Part) (count : List ℕ) → StatementFormValue
  ask_groups : (name lane : List ℕ) → StatementFormValue
  ask_total : (name attr expr : List ℕ) → StatementFormValue
  ask_live : (ask : List ℕ) → StatementFormValue

-- the statement that the first word begins
abbrev pub statement_named : List ℕ → Option Statement
statement_named word =
    if bytes_eq word (codes "schema") then Some statements.Schema else (
    if bytes_eq word (codes "width") then Some statements.Width else (
    if bytes_eq word (codes "index") then Some statements.Index else (
    if bytes_eq word (codes "filter") then Some statements.Filter else (
    if bytes_eq word (codes "aggregate") then Some statements.Aggregate else (
    if bytes_eq word (codes "tally") then Some statements.Tally else (
    if bytes_eq word (codes "trigger") then Some statements.Trigger else (
    if bytes_eq word (codes "ask") then Some statements.Ask else (
    if bytes_eq word (codes "live") then Some statements.Live else None))))))))

-- the kind of question that a word says
abbrev pub question_named : List ℕ → Option Question
question_named word =
    if bytes_eq word (codes "list") then Some questions.List else (
    if bytes_eq word (codes "find") then Some questions.Find else (
    if bytes_eq word (codes "between") then Some questions.Between else (
    if bytes_eq word (codes "measure") then Some questions.Measure else (
    if bytes_eq word (codes "fired") then Some questions.Fired else (
    if bytes_eq word (codes "top") then Some questions.Top else (
    if bytes_eq word (codes "groups") then Some questions.Groups else (
    if bytes_eq word (codes "total") then Some questions.Total else None)))))))

-- the part of a quad that a word says
abbrev pub part_named : List ℕ → Option Part
part_named word =
    if bytes_eq word (codes "count") then Some Count else (
    if bytes_eq word (codes "sum") then Some Sum else (
    if bytes_eq word (codes "least") then Some Least else (
    if bytes_eq word (codes "greatest") then Some Greatest else None)))

-- one of the six operators, and not `in`
abbrev pub sign_named : List ℕ → Option Op
sign_named word = do
  op ← op_named word
  if is_range op then None else Some op

-- packet; packet6; records LIST
abbrev pub schema_words : List ℕ → List ℕ → Option StatementFormValue
schema_words word rest =
    if bytes_eq word (codes "packet") then (if is_blank rest then Some (packet_schema Packet) else None) else (
    if bytes_eq word (codes "packet6") then (if is_blank rest then Some (packet_schema Packet6) else None) else (
    if bytes_eq word (codes "records") then option_map record_schema (last_word rest) else None))

-- schema, and then which
abbrev pub schema_form : List ℕ → Option StatementFormValue
schema_form text = do
  word ← next_word text
  schema_words word.0 word.1

-- width W
abbrev pub width_form : List ℕ → Option StatementFormValue
width_form text = option_map bucket_width (last_word text)

-- index NAME ATTRIBUTE
abbrev pub index_form : List ℕ → Option StatementFormValue
index_form text = do
  name ← new_name text
  attr ← last_word name.1
  Some (new_index name.0 attr)

-- filter NAME EXPRESSION
abbrev pub filter_form : List ℕ → Option StatementFormValue
filter_form text = option_map (λ name. new_filter name.0 name.1) (new_name text)

-- the word `by`, and an attribute that nothing follows
abbrev pub by_words : List ℕ → Option (List ℕ)
by_words text = do
  word ← next_word text
  key ← last_word word.1
  if bytes_eq word.0 (codes "by") then Some key else None

-- aggregate NAME FILTER ATTRIBUTE; aggregate NAME FILTER ATTRIBUTE by KEY
abbrev pub aggregate_form : List ℕ → Option StatementFormValue
aggregate_form text = do
  name ← new_name text
  filter ← next_word name.1
  attr ← next_word filter.1
  if is_blank attr.1 then Some (new_aggregate name.0 filter.0 attr.0) else option_map (new_keyed_aggregate name.0 filter.0 attr.0) (by_words attr.1)

-- tally NAME ATTRIBUTE MEASURE EXPRESSION
abbrev pub tally_form : List ℕ → Option StatementFormValue
tally_form text = do
  name ← new_name text
  attr ← next_word name.1
  measure ← next_word attr.1
  Some (new_tally name.0 attr.0 measure.0 measure.1)

-- trigger NAME AGGREGATE PART OPERATOR NUMBER
abbrev pub trigger_form : List ℕ → Option StatementFormValue
trigger_form text = do
  name ← new_name text
  aggregate ← next_word name.1
  part ← next_word aggregate.1
  part_is ← part_named part.0
  op ← next_word part.1
  op_is ← sign_named op.0
  number ← last_word op.1
  Some (new_trigger name.0 aggregate.0 part_is op_is number)

-- three words that a question's kind is followed by
abbrev pub three_words : List ℕ → Option (List ℕ × List ℕ × List ℕ)
three_words text = do
  first ← next_word text
  second ← next_word first.1
  third ← last_word second.1
  Some (first.0, second.0, third)

-- a tally, the part of its quads by which keys are ranked, and how many keys
abbrev pub ranking_words : List ℕ → Option (List ℕ × Part × List ℕ)
ranking_words text = do
  tally ← next_word text
  part ← next_word tally.1
  part_is ← part_named part.0
  count ← last_word part.1
  Some (tally.0, part_is, count)

-- list EXPRESSION; find INDEX LOW HIGH; between FILTER LOW HIGH; measure AGGREGATE LOW HIGH; fired TRIGGER;
-- top TALLY PART COUNT; groups LANE; total ATTRIBUTE EXPRESSION
abbrev pub question_form : Question → List ℕ → List ℕ → Option StatementFormValue
question_form questions.List name text = Some (ask_list name text)
question_form questions.Find name text = option_map (λ words. ask_find name words.0 words.1 words.2) (three_words text)
question_form questions.Between name text = option_map (λ words. ask_buckets buckets.Between name words.0 words.1 words.2) (three_words text)
question_form questions.Measure name text = option_map (λ words. ask_buckets buckets.Measure name words.0 words.1 words.2) (three_words text)
question_form questions.Fired name text = option_map (ask_fired name) (last_word text)
question_form questions.Top name text = option_map (λ words. ask_top name words.0 words.1 words.2) (ranking_words text)
question_form questions.Groups name text = option_map (ask_groups name) (last_word text)
question_form questions.Total name text = option_map (λ attr. ask_total name attr.0 attr.1) (next_word text)

-- ask NAME, and then a question
abbrev pub ask_form : List ℕ → Option StatementFormValue
ask_form text = do
  name ← new_name text
  word ← next_word name.1
  question ← question_named word.0
  question_form question name.0 word.1

-- live ASK
abbrev pub live_form : List ℕ → Option StatementFormValue
live_form text = option_map ask_live (last_word text)

-- what follows the first word, if it has the statement's form
abbrev pub form_at : Statement → List ℕ → Option StatementFormValue
form_at statements.Schema text = schema_form text
form_at statements.Width text = width_form text
form_at statements.Index text = index_form text
form_at statements.Filter text = filter_form text
form_at statements.Aggregate text = aggregate_form text
form_at statements.Tally text = tally_form text
form_at statements.Trigger text = trigger_form text
form_at statements.Ask text = ask_form text
form_at statements.Live text = live_form text

-- a form, with the bytes of its words
abbrev pub form_value : Read → StatementFormValue
form_value (reads.PacketSchema which) = packet_schema which
form_value (reads.RecordSchema list) = record_schema list.now
form_value (reads.Width number) = bucket_width number.now
form_value (reads.Index name attr) = new_index name.now attr.now
form_value (reads.Filter name expr) = new_filter name.now expr.now
form_value (reads.Aggregate name filter attr) = new_aggregate name.now filter.now attr.now
form_value (reads.KeyedAggregate name over) = new_keyed_aggregate name.now over.filter.now over.attr.now over.key.now
form_value (reads.Tally name by) = new_tally name.now by.attr.now by.measure.now by.expr.now
form_value (reads.Trigger name on) = new_trigger name.now on.aggregate.now on.part on.op on.number.now
form_value (reads.List name expr) = ask_list name.now expr.now
form_value (reads.Find name over) = ask_find name.now over.lane.now over.low.now over.high.now
form_value (reads.Buckets name what over) = ask_buckets what name.now over.lane.now over.low.now over.high.now
form_value (reads.Fired name trigger) = ask_fired name.now trigger.now
form_value (reads.Top name by) = ask_top name.now by.tally.now by.part by.count.now
form_value (reads.Groups name lane) = ask_groups name.now lane.now
form_value (reads.Total name attr expr) = ask_total name.now attr.now expr.now
form_value (reads.Live ask) = ask_live ask.now

-- it states the schema
abbrev pub is_schema_form : StatementFormValue → Bool
is_schema_form (packet_schema which) = true
is_schema_form (record_schema list) = true
is_schema_form _ = false

-- a new name has ASCII bytes alone
abbrev pub IsAscii : List ℕ → Type 0
IsAscii name = All (λ b. b < 128) name

-- its new name is ASCII, and its expression has fewer than 2^32 bytes
abbrev pub HasWords : StatementFormValue → Type 0
HasWords (packet_schema which) = Unit {0}
HasWords (record_schema list) = Unit {0}
HasWords (bucket_width number) = Unit {0}
HasWords (new_index name attr) = IsAscii name
HasWords (new_filter name expr) = IsAscii name × (length expr < 2 ^ 32)
HasWords (new_aggregate name filter attr) = IsAscii name
HasWords (new_keyed_aggregate name filter attr key) = IsAscii name
HasWords (new_tally name attr measure expr) = IsAscii name × (length expr < 2 ^ 32)
HasWords (new_trigger name aggregate part op number) = IsAscii name
HasWords (ask_list name expr) = IsAscii name × (length expr < 2 ^ 32)
HasWords (ask_find name index low high) = IsAscii name
HasWords (ask_buckets what name lane low high) = IsAscii name
HasWords (ask_fired name trigger) = IsAscii name
HasWords (ask_top name tally part count) = IsAscii name
HasWords (ask_groups name lane) = IsAscii name
HasWords (ask_total name attr expr) = IsAscii name × (length expr < 2 ^ 32)
HasWords (ask_live ask) = Unit {0}
