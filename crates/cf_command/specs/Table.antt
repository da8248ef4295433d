-- The table of commands, and what words say by it: what clap's own definition for simple commands takes and matches.
use Rattle.std.specs.Prelude.{◌==◌, Bool, true, List, [], ◌∷◌, Option, Some, None, map, codes, option_map, option_and_then, if◌then◌else◌, length}
use Rattle.std.specs.Option.{option_or}
use Rattle.std.specs.Str.{bytes_eq}
use Rattle.cf_command.specs.declared.table.RunTexts.{RunTexts}
use Rattle.cf_command.specs.declared.table.SynthTexts.{SynthTexts}
use Rattle.cf_command.specs.declared.table.DumpTexts.{DumpTexts}
use Rattle.cf_command.specs.declared.table.SnapshotTexts.{SnapshotTexts}
use Rattle.cf_command.specs.declared.table.WatchTexts.{WatchTexts}
use Rattle.cf_command.specs.declared.table.LongTexts.{LongTexts}
use Rattle.cf_command.specs.declared.table.Said.{Said}
use Rattle.cf_command.specs.declared.table.Said.TheVariants.{Run, Synth, Dump, Snapshot, Watch, Long}
use Rattle.clap.specs.Words.{App, Rule, Row, Text, new_app, new_rule, with_rule, with_subcommand, subcommand_of, fault_of, first_of, all_of}
use Rattle.clap.specs.declared.builder.action.ArgAction.TheVariants.{Append, SetTrue}

-- an option that has to be given
abbrev pub needed : Text → Rule
needed id = record (new_rule id) { long = Some id; required = true }

-- an option with a default
abbrev pub optional : Text → Text → Rule
optional id value = record (new_rule id) { long = Some id; defaults = value ∷ [] }

-- an option without a value
abbrev pub flag : Text → Rule
flag id = record (new_rule id) { long = Some id; action = Some SetTrue }

-- an option without a value that has to be given
abbrev pub needed_flag : Text → Rule
needed_flag id = record (flag id) { required = true }

-- a word of its own
abbrev pub place : Text → Rule
place id = record (new_rule id) { required = true }

-- words of their own, one or more
abbrev pub places : Text → Rule
places id = record (new_rule id) { required = true; action = Some Append }

-- with the options of a log's capacity and nodes
abbrev pub roomed_app : App → App
roomed_app app = with_rule (with_rule app (optional (codes "capacity") (codes "65536"))) (optional (codes "nodes") (codes "1024"))

-- with the options of a log's sizes
abbrev pub sized_app : App → App
sized_app app = with_rule (roomed_app (with_rule app (optional (codes "writers") (codes "4")))) (optional (codes "segments") (codes "1"))

-- with the option that reads a capture as truncated
abbrev pub truncatable_app : App → App
truncatable_app app = with_rule app (flag (codes "truncated"))

-- `run`: a setup, the sizes of the log, how often live questions are asked, whether the capture is read as truncated, and a capture
abbrev pub run_app : App
run_app = with_rule
    (truncatable_app (with_rule (sized_app (with_rule (new_app (codes "run")) (needed (codes "setup")))) (optional (codes "live") (codes "0"))))
    (place (codes "capture"))

-- `synth`: a setup, a seed and a count, and the sizes of the log
abbrev pub synth_app : App
synth_app = sized_app (with_rule (with_rule (with_rule (new_app (codes "synth")) (needed (codes "setup"))) (needed (codes "seed"))) (needed (codes "count")))

-- `dump`: by which schema rows are made, whether the capture is read as truncated, and a capture
abbrev pub dump_app : App
dump_app =
    with_rule (truncatable_app (with_rule (new_app (codes "dump")) (optional (codes "schema") (codes "packet")))) (place (codes "capture"))

-- `snapshot`: a setup, the turns before the freezing, the rows of a turn, the capacity and nodes of each log, whether captures are read
-- as truncated, and captures
abbrev pub snapshot_app : App
snapshot_app =
    with_rule (truncatable_app
    (roomed_app (with_rule (with_rule (with_rule (new_app (codes "snapshot")) (needed (codes "setup"))) (needed (codes "after")))
    (optional (codes "turn") (codes "1"))))) (places (codes "captures"))

-- with the options of the nodes and the capacity of segments that are let go
abbrev pub wide_app : App → App
wide_app app = with_rule (with_rule app (optional (codes "nodes") (codes "65536"))) (optional (codes "capacity") (codes "65536"))

-- with the options of a window's sizes
abbrev pub windowed_app : App → App
windowed_app app = wide_app (with_rule app (optional (codes "segments") (codes "4")))

-- `watch`: a setup, the sizes of the window, after how many records live questions are asked and a beat comes, whether the capture is
-- read as truncated, and a capture
abbrev pub watch_app : App
watch_app = with_rule
    (truncatable_app
    (with_rule (with_rule (windowed_app (with_rule (new_app (codes "watch")) (needed (codes "setup")))) (optional (codes "every") (codes "4096")))
    (optional (codes "beat") (codes "0"))))
    (place (codes "capture"))

-- `run --long`: the option itself, a setup, the writers, the nodes and capacity of a segment, whether captures are read as truncated, and
-- captures
abbrev pub long_run_app : App
long_run_app =
    with_rule (truncatable_app
    (wide_app (with_rule (with_rule (with_rule (new_app (codes "run")) (needed_flag (codes "long"))) (needed (codes "setup")))
    (optional (codes "writers") (codes "4"))))) (places (codes "captures"))

-- the program, whose words begin with a command of their own
abbrev pub bare_app : App
bare_app = let a = new_app (codes "confluo") in record a { top = record a.top { no_binary_name = true; subcommand_required = true } }

-- the program with its commands
unfoldable pub confluo_app : App
confluo_app =
    with_subcommand (with_subcommand (with_subcommand (with_subcommand (with_subcommand bare_app run_app.top) synth_app.top) dump_app.top) snapshot_app.top)
    watch_app.top

-- the program with `run --long` alone
unfoldable pub long_app : App
long_app = with_subcommand bare_app long_run_app.top

-- the list is empty
abbrev pub none_of : {X : Type 0} → List X → Bool
none_of xs = length xs == 0

-- the command of a program that the words name, with its matches, where clap takes them
unfoldable pub taken : App → List Text → Option (Text × List Row)
taken app words = if none_of (fault_of app words) then subcommand_of app words else None

-- the texts of a `run` command
pub record RunSays : Type 0 where
  pub setup : Text
  pub writers : Text
  pub capacity : Text
  pub nodes : Text
  pub segments : Text
  pub live : Text
  pub truncated : Text
  pub capture : Text

-- these texts as a record, in the order in which they are looked up
abbrev pub run_says : Text → Text → Text → Text → Text → Text → Text → Text → RunSays
run_says s w n m k l t c = record { setup = s; writers = w; capacity = n; nodes = m; segments = k; live = l; truncated = t; capture = c }

-- what was read of a `run` command
abbrev pub says_of : RunTexts → RunSays
says_of r = run_says r.setup.now r.writers.now r.capacity.now r.nodes.now r.segments.now r.live.now r.truncated.now r.capture.now

-- what the rows of a `run` command say
unfoldable pub run_texts_of : List Row → Option RunSays
run_texts_of rows =
    option_and_then
    (λ s. option_and_then
    (λ w. option_and_then
    (λ n. option_and_then (λ m. option_and_then (λ k. option_and_then (λ l. option_and_then (λ t. option_and_then (λ c. Some (run_says s w n m k l t c))
    (first_of (codes "capture") rows)) (first_of (codes "truncated") rows)) (first_of (codes "live") rows)) (first_of (codes "segments") rows))
    (first_of (codes "nodes") rows)) (first_of (codes "capacity") rows)) (first_of (codes "writers") rows)) (first_of (codes "setup") rows)

-- the texts of a `synth` command
pub record SynthSays : Type 0 where
  pub setup : Text
  pub seed : Text
  pub count : Text
  pub writers : Text
  pub capacity : Text
  pub nodes : Text
  pub segments : Text

-- these texts as a record, in the order in which they are looked up
abbrev pub synth_says : Text → Text → Text → Text → Text → Text → Text → SynthSays
synth_says s x c w n m k = record { setup = s; seed = x; count = c; writers = w; capacity = n; nodes = m; segments = k }

-- what was read of a `synth` command
abbrev pub synth_says_of : SynthTexts → SynthSays
synth_says_of r = synth_says r.setup.now r.seed.now r.count.now r.writers.now r.capacity.now r.nodes.now r.segments.now

-- what the rows of a `synth` command say
unfoldable pub synth_texts_of : List Row → Option SynthSays
synth_texts_of rows =
    option_and_then
    (λ s. option_and_then
    (λ x. option_and_then (λ c. option_and_then (λ w. option_and_then (λ n. option_and_then (λ m. option_and_then (λ k. Some (synth_says s x c w n m k))
    (first_of (codes "segments") rows)) (first_of (codes "nodes") rows)) (first_of (codes "capacity") rows)) (first_of (codes "writers") rows))
    (first_of (codes "count") rows)) (first_of (codes "seed") rows)) (first_of (codes "setup") rows)

-- the texts of a `dump` command
pub record DumpSays : Type 0 where
  pub schema : Text
  pub truncated : Text
  pub capture : Text

-- these texts as a record, in the order in which they are looked up
abbrev pub dump_says : Text → Text → Text → DumpSays
dump_says s t c = record { schema = s; truncated = t; capture = c }

-- what was read of a `dump` command
abbrev pub dump_says_of : DumpTexts → DumpSays
dump_says_of r = dump_says r.schema.now r.truncated.now r.capture.now

-- what the rows of a `dump` command say
unfoldable pub dump_texts_of : List Row → Option DumpSays
dump_texts_of rows =
    option_and_then (λ s. option_and_then (λ t. option_and_then (λ c. Some (dump_says s t c))
    (first_of (codes "capture") rows)) (first_of (codes "truncated") rows)) (first_of (codes "schema") rows)

-- the texts of a `snapshot` command
pub record SnapshotSays : Type 0 where
  pub setup : Text
  pub after : Text
  pub turn : Text
  pub capacity : Text
  pub nodes : Text
  pub truncated : Text
  pub captures : List Text

-- these texts as a record, in the order in which they are looked up
abbrev pub snapshot_says : Text → Text → Text → Text → Text → Text → List Text → SnapshotSays
snapshot_says s a t n m x cs = record { setup = s; after = a; turn = t; capacity = n; nodes = m; truncated = x; captures = cs }

-- what was read of a `snapshot` command
abbrev pub snapshot_says_of : SnapshotTexts → SnapshotSays
snapshot_says_of r = snapshot_says r.setup.now r.after.now r.turn.now r.capacity.now r.nodes.now r.truncated.now (map (λ s. s.now) r.captures.items)

-- what the rows of a `snapshot` command say
unfoldable pub snapshot_texts_of : List Row → Option SnapshotSays
snapshot_texts_of rows =
    option_and_then
    (λ s. option_and_then
    (λ a. option_and_then
    (λ t. option_and_then (λ n. option_and_then (λ m. option_and_then (λ x. option_and_then (λ cs. Some (snapshot_says s a t n m x cs))
    (all_of (codes "captures") rows)) (first_of (codes "truncated") rows)) (first_of (codes "nodes") rows)) (first_of (codes "capacity") rows))
    (first_of (codes "turn") rows)) (first_of (codes "after") rows)) (first_of (codes "setup") rows)

-- the texts of a `watch` command
pub record WatchSays : Type 0 where
  pub setup : Text
  pub capacity : Text
  pub segments : Text
  pub nodes : Text
  pub every : Text
  pub beat : Text
  pub truncated : Text
  pub capture : Text

-- these texts as a record, in the order in which they are looked up
abbrev pub watch_says : Text → Text → Text → Text → Text → Text → Text → Text → WatchSays
watch_says s n g m e b t c = record { setup = s; capacity = n; segments = g; nodes = m; every = e; beat = b; truncated = t; capture = c }

-- what was read of a `watch` command
abbrev pub watch_says_of : WatchTexts → WatchSays
watch_says_of r = watch_says r.setup.now r.capacity.now r.segments.now r.nodes.now r.every.now r.beat.now r.truncated.now r.capture.now

-- what the rows of a `watch` command say
unfoldable pub watch_texts_of : List Row → Option WatchSays
watch_texts_of rows =
    option_and_then
    (λ s. option_and_then
    (λ n. option_and_then
    (λ g. option_and_then
    (λ m. option_and_then (λ e. option_and_then (λ b. option_and_then (λ t. option_and_then (λ c. Some (watch_says s n g m e b t c))
    (first_of (codes "capture") rows)) (first_of (codes "truncated") rows)) (first_of (codes "beat") rows)) (first_of (codes "every") rows))
    (first_of (codes "nodes") rows)) (first_of (codes "segments") rows)) (first_of (codes "capacity") rows)) (first_of (codes "setup") rows)

-- the texts of `run --long`
pub record LongSays : Type 0 where
  pub setup : Text
  pub writers : Text
  pub capacity : Text
  pub nodes : Text
  pub truncated : Text
  pub captures : List Text

-- these texts as a record, in the order in which they are looked up
abbrev pub long_says : Text → Text → Text → Text → Text → List Text → LongSays
long_says s w n m t cs = record { setup = s; writers = w; capacity = n; nodes = m; truncated = t; captures = cs }

-- what was read of `run --long`
abbrev pub long_says_of : LongTexts → LongSays
long_says_of r = long_says r.setup.now r.writers.now r.capacity.now r.nodes.now r.truncated.now (map (λ s. s.now) r.captures.items)

-- what the rows of `run --long` say
unfoldable pub long_texts_of : List Row → Option LongSays
long_texts_of rows =
    option_and_then
    (λ s. option_and_then
    (λ w. option_and_then (λ n. option_and_then (λ m. option_and_then (λ t. option_and_then (λ cs. Some (long_says s w n m t cs))
    (all_of (codes "captures") rows)) (first_of (codes "truncated") rows)) (first_of (codes "nodes") rows)) (first_of (codes "capacity") rows))
    (first_of (codes "writers") rows)) (first_of (codes "setup") rows)

-- what a command line says: the texts of its command
pub data SaidValue : Type 0 where
  run_said : (said : RunSays) → SaidValue
  synth_said : (said : SynthSays) → SaidValue
  dump_said : (said : DumpSays) → SaidValue
  snapshot_said : (said : SnapshotSays) → SaidValue
  watch_said : (said : WatchSays) → SaidValue
  long_said : (said : LongSays) → SaidValue

-- what a command of that name says with these rows
abbrev pub said_in : Text × List Row → Option SaidValue
said_in p =
    if bytes_eq p.0 (codes "run") then option_map run_said (run_texts_of p.1) else (
    if bytes_eq p.0 (codes "synth") then option_map synth_said (synth_texts_of p.1) else (
    if bytes_eq p.0 (codes "dump") then option_map dump_said (dump_texts_of p.1) else (
    if bytes_eq p.0 (codes "snapshot") then option_map snapshot_said (snapshot_texts_of p.1) else (
    if bytes_eq p.0 (codes "watch") then option_map watch_said (watch_texts_of p.1) else None))))

-- what words say by the table of all commands, where clap takes them
unfoldable pub plain_said_of : List Text → Option SaidValue
plain_said_of words = option_and_then said_in (taken confluo_app words)

-- what words of `run --long` say, where clap takes them
unfoldable pub long_said_of : List Text → Option SaidValue
long_said_of words = option_and_then (λ p. option_map long_said (long_texts_of p.1)) (taken long_app words)

-- What words say by the first table, or else by the second. There are two, since a table has the same options, defaults and words for all
-- uses of a command, and `run` with `--long` differs in each: it has no `--segments` and no `--live`, more nodes where none are said, and
-- several captures. Without `--long` the second takes nothing.
unfoldable pub said_of : List Text → Option SaidValue
said_of words = option_or (plain_said_of words) (long_said_of words)

-- what was read
abbrev pub said_by : Said → SaidValue
said_by (Run texts) = run_said (says_of texts)
said_by (Synth texts) = synth_said (synth_says_of texts)
said_by (Dump texts) = dump_said (dump_says_of texts)
said_by (Snapshot texts) = snapshot_said (snapshot_says_of texts)
said_by (Watch texts) = watch_said (watch_says_of texts)
said_by (Long texts) = long_said (long_says_of texts)
