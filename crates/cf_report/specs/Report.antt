-- The text of a report, for any number of writers and any live questions: the records, the questions and the alerts on the
-- whole log, then the live answers and the log's order.
use Rattle.std.specs.Prelude.{ℕ, ◌==◌, List, [], ◌∷◌, ◌++◌, length, filter, slice_index_or, codes, decimal}
use Rattle.std.specs.List.{flat_map, range_with_len, last_or}
use Rattle.std.specs.declared.option.Option.{Option}
use Rattle.std.specs.declared.option.Option.TheVariants.{Some, None}
use Rattle.cf_row.specs.Row.{RowValue}
use Rattle.cf_row.specs.declared.row.Entry.{Entry}
use Rattle.cf_fold.specs.Sort.{sort}
use Rattle.cf_plain.specs.History.{AskReply}
use Rattle.cf_plain.specs.Order.{runs_of}
use Rattle.cf_plain.specs.Asks.{rows_in}
use Rattle.cf_plain.specs.declared.ask.Ask.{Ask}
use Rattle.cf_plain.specs.declared.answer.Body.{Body}
use Rattle.cf_plain.specs.declared.answer.Body.TheVariants as bodies
use Rattle.cf_plain.specs.declared.answer.Fired.{Fired}
use Rattle.cf_watch.specs.New.{newly}
use Rattle.cf_setup.specs.Setups.{SetupValue}
use Rattle.cf_plain.specs.declared.loaded.Live.{Live}
use Rattle.cf_plain.specs.Answered.{no_ask}
use Rattle.cf_report.specs.Answered.{told_live}
use Rattle.cf_report.specs.Bodies.{line, nums_at, word_of, shown, keys_text, marks_text}

-- the name of the question at a place
abbrev pub ask_name : SetupValue → ℕ → List ℕ
ask_name setup place = slice_index_or setup.ask_names place []

-- the name of the trigger at a place
abbrev pub trigger_name : SetupValue → ℕ → List ℕ
trigger_name setup place = slice_index_or setup.trigger_names place []

-- stands in for an answer where there is none; no lawful report reads it
abbrev pub nothing_told : AskReply Ask Body
nothing_told = record { ask = no_ask; tail = 0; body = bodies.Places [] }

-- `ask NAME BODY`, where rows are shown by their numbers, ascending
abbrev pub ask_line : List ℕ → List RowValue → AskReply Ask Body → List ℕ
ask_line name rows told = line (codes "ask " ++ name ++ codes " " ++ word_of told.ask ++ shown (λ places. sort (nums_at rows places)) told.body)

-- the line of the question at a place
abbrev pub ask_line_at : SetupValue → List RowValue → List (AskReply Ask Body) → ℕ → List ℕ
ask_line_at setup rows finals place = ask_line (ask_name setup place) rows (slice_index_or finals place nothing_told)

-- `alert TRIGGER BUCKET VALUE`, or `alert TRIGGER BUCKET/KEY VALUE`
abbrev pub alert_line : List ℕ → Fired → List ℕ
alert_line name mark = line (codes "alert " ++ name ++ codes " " ++ keys_text mark.bucket mark.key ++ codes " " ++ decimal mark.value)

-- the lines of the trigger at a place
abbrev pub alert_lines_at : SetupValue → List (List Fired) → ℕ → List ℕ
alert_lines_at setup alerts place = flat_map (alert_line (trigger_name setup place)) (slice_index_or alerts place [])

-- the part on all records: how many there are, each question, each trigger
abbrev pub final_part : SetupValue → List RowValue → List (AskReply Ask Body) → List (List Fired) → List ℕ
final_part setup rows finals alerts =
    line (codes "records " ++ decimal (length rows))
    ++ flat_map (ask_line_at setup rows finals) (range_with_len 0 (length setup.asks))
    ++ flat_map (alert_lines_at setup alerts) (range_with_len 0 (length setup.triggers))

-- the marks of a body; a body of another kind has none
abbrev pub marks_of : Body → List Fired
marks_of (bodies.Places places) = []
marks_of (bodies.Total quad) = []
marks_of (bodies.Marks marks) = marks
marks_of (bodies.Tops tops) = []
marks_of (bodies.Groups groups) = []

-- the marks of a live answer, or none where there is no such answer
abbrev pub marks_of_live : Option Live → List Fired
marks_of_live None = []
marks_of_live (Some live) = marks_of live.answer.body

-- what the question found when it was last asked before, where these live answers came earlier
abbrev pub marks_before : List Live → ℕ → List Fired
marks_before earlier ask = marks_of_live (last_or None (filter (λ live. live.ask == ask) earlier))

-- `WORD NAME @T KIND`, with the length of the log that the question saw
abbrev pub live_head : SetupValue → List ℕ → Live → List ℕ
live_head setup word live =
    word ++ codes " " ++ ask_name setup live.ask ++ codes " @" ++ decimal live.answer.tail ++ codes " " ++ word_of (told_live setup live).ask

-- `live NAME @T BODY`, where rows are shown by their numbers in the order of the log
abbrev pub live_line : SetupValue → List RowValue → Live → List ℕ
live_line setup rows live = line (live_head setup (codes "live") live ++ shown (nums_at rows) (told_live setup live).body)

-- `new NAME @T BODY` after a live line of marks: those that are new against the question's previous live line
abbrev pub new_line : SetupValue → List Live → Live → Body → List ℕ
new_line setup earlier live (bodies.Places places) = []
new_line setup earlier live (bodies.Total quad) = []
new_line setup earlier live (bodies.Marks marks) = line (live_head setup (codes "new") live ++ marks_text (newly (marks_before earlier live.ask) marks))
new_line setup earlier live (bodies.Tops tops) = []
new_line setup earlier live (bodies.Groups groups) = []

-- the lines of live answers, where these came earlier
abbrev pub live_lines : SetupValue → List RowValue → List Live → List Live → List ℕ
live_lines setup rows earlier [] = []
live_lines setup rows earlier (live ∷ lives) =
    live_line setup rows live ++ new_line setup earlier live live.answer.body ++ live_lines setup rows (earlier ++ live ∷ []) lives

-- ` WRITER*COUNT`
abbrev pub run_text : ℕ × ℕ → List ℕ
run_text run = codes " " ++ decimal run.0 ++ codes "*" ++ decimal run.1

-- the longest runs of one writer
abbrev pub order_line : List ℕ → List ℕ
order_line order = line (codes "order" ++ flat_map run_text (runs_of order))

-- the whole report over a log: the part on all records, the live answers, and the order of the log's writers
abbrev pub report_text : SetupValue → List Entry → List ℕ → List (AskReply Ask Body) → List (List Fired) → List Live → List ℕ
report_text setup log order finals alerts lives = final_part setup (rows_in log) finals alerts ++ live_lines setup (rows_in log) [] lives ++ order_line order
