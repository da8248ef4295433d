-- What the words of a command line call for.
use Rattle.std.specs.Prelude.{◌≡◌, ℕ, ◌≤◌, ◌<◌, ◌-◌, ◌*◌, ◌%◌, ◌^◌, ◌&&◌, ◌||◌, Bool, nat_le, nat_eq, List, length, Option, Some, None, option_and_then, map, decimal, codes, if◌then◌else◌}
use Rattle.std.specs.Borrow.{Bor}
use Rattle.std.specs.Str.{bytes_eq}
use Rattle.std.specs.Str.Parse.{digits_value}
use Rattle.cf_row.specs.declared.packet6.PacketSchema.{PacketSchema}
use Rattle.cf_row.specs.declared.packet6.PacketSchema.TheVariants.{Packet, Packet6}
use Rattle.cf_command.specs.declared.words.LogSizes.{LogSizes}
use Rattle.cf_command.specs.declared.words.WindowSizes.{WindowSizes}
use Rattle.cf_command.specs.declared.words.RunCommand.{RunCommand}
use Rattle.cf_command.specs.declared.words.SynthCommand.{SynthCommand}
use Rattle.cf_command.specs.declared.words.DumpCommand.{DumpCommand}
use Rattle.cf_command.specs.declared.words.SnapshotCommand.{SnapshotCommand}
use Rattle.cf_command.specs.declared.words.WatchCommand.{WatchCommand}
use Rattle.cf_command.specs.declared.words.LongCommand.{LongCommand}
use Rattle.cf_command.specs.declared.words.Command.{Command}
use Rattle.cf_command.specs.declared.words.Command.TheVariants.{Run, Synth, Dump, Snapshot, Watch, Long}
use Rattle.cf_command.specs.Table.{SaidValue, said_of}
use Rattle.cf_command.specs.Table.SaidValue.{run_said, synth_said, dump_said, snapshot_said, watch_said, long_said}

-- the texts behind a list of references
abbrev pub texts : List (Bor (List ℕ)) → List (List ℕ)
texts words = map (λ word. word.now) words

-- the number from `low` to `high` that a text writes out in decimal digits, with no sign and no leading zero
unfoldable pub number_in : ℕ → ℕ → List ℕ → Option ℕ
number_in low high text = let number = digits_value 10 text in
    if bytes_eq text (decimal number) && (nat_le low number && nat_le number high) then Some number else None

-- an option without a value is given
abbrev pub is_given : List ℕ → Bool
is_given text = bytes_eq text (codes "true")

-- the schema of packets of that name
abbrev pub schema_named : List ℕ → Option PacketSchema
schema_named text =
    if bytes_eq text (codes "packet") then Some Packet else (
    if bytes_eq text (codes "packet6") then Some Packet6 else None)

-- the sizes of a log of so many writers and one segment, whose capacity and the nodes of each writer two texts write out
abbrev pub sizes_with : ℕ → List ℕ → List ℕ → Option LogSizes
sizes_with writers capacity nodes =
    option_and_then (λ c. option_and_then (λ n. Some (record { writers = writers; capacity = c; nodes = n; segments = 1 }))
    (number_in 0 65536 nodes)) (number_in 1 65536 capacity)

-- the same where a text writes out the number of writers too
abbrev pub undivided_in : List ℕ → List ℕ → List ℕ → Option LogSizes
undivided_in writers capacity nodes = option_and_then (λ w. sizes_with w capacity nodes) (number_in 1 15 writers)

-- the same sizes with so many segments: all together hold 2^20 records at most, and where there are several, each ends where a batch of
-- 4,096 records does
abbrev pub divided : LogSizes → ℕ → Option LogSizes
divided sizes segments =
    if nat_le (sizes.capacity * segments) (2 ^ 20) && (nat_le segments 1 || nat_eq (sizes.capacity % 4096) 0) then Some
    (record sizes { segments = segments }) else None

-- the same where texts write out the numbers of writers and of segments too
abbrev pub sizes_in : List ℕ → List ℕ → List ℕ → List ℕ → Option LogSizes
sizes_in writers capacity nodes segments =
    option_and_then (λ w. option_and_then (λ sizes. option_and_then (divided sizes)
    (number_in 1 256 segments)) (sizes_with w capacity nodes)) (number_in 1 15 writers)

-- the sizes that a log may have: where it has several segments, each ends where a batch of 4,096 records does
pub record AreSizes (sizes : LogSizes) : Type 0 where
  pub writers : (1 ≤ sizes.writers) × (sizes.writers ≤ 15)
  pub capacity : (1 ≤ sizes.capacity) × (sizes.capacity ≤ 65536)
  pub nodes : sizes.nodes ≤ 65536
  pub segments : (1 ≤ sizes.segments) × (sizes.segments ≤ 256)
  pub most : sizes.capacity * sizes.segments ≤ 2 ^ 20
  pub whole : 1 < sizes.segments → sizes.capacity % 4096 ≡ 0

-- the sizes of a window of at most so many segments, where all together hold 2^20 records at most
abbrev pub bounded_window : WindowSizes → Option WindowSizes
bounded_window sizes = if nat_le (sizes.capacity * sizes.segments) (2 ^ 20) then Some sizes else None

-- the same, whose capacity, segments and nodes of each segment texts write out
abbrev pub window_in : List ℕ → List ℕ → List ℕ → Option WindowSizes
window_in capacity segments nodes =
    option_and_then
    (λ c. option_and_then (λ g. option_and_then (λ n. bounded_window (record { capacity = c; segments = g; nodes = n }))
    (number_in 0 65536 nodes)) (number_in 1 256 segments)) (number_in 1 65536 capacity)

-- the sizes that a window may have
pub record AreWindowSizes (sizes : WindowSizes) : Type 0 where
  pub capacity : (1 ≤ sizes.capacity) × (sizes.capacity ≤ 65536)
  pub segments : (1 ≤ sizes.segments) × (sizes.segments ≤ 256)
  pub nodes : sizes.nodes ≤ 65536
  pub most : sizes.capacity * sizes.segments ≤ 2 ^ 20

-- what `run` is called for: the report of a capture by a setup, both named, over a log of these sizes, each live question being
-- asked so often beside a batch; whether the capture is read as truncated
pub record RunCall : Type 0 where
  pub setup : List ℕ
  pub capture : List ℕ
  pub sizes : LogSizes
  pub rounds : ℕ
  pub truncated : Bool

-- what `synth` is called for: the answers of a setup, which is named, over so many packets that are drawn from a seed
pub record SynthCall : Type 0 where
  pub setup : List ℕ
  pub seed : ℕ
  pub count : ℕ
  pub sizes : LogSizes

-- what `dump` is called for: the rows of a capture, which is named, by a schema of packets; whether it is read as truncated
pub record DumpCall : Type 0 where
  pub capture : List ℕ
  pub schema : PacketSchema
  pub truncated : Bool

-- what `snapshot` is called for: the answers of a setup at one cut of several hosts, each of which has the rows of a capture, all
-- named: so many turns of so many rows are taken before the freezing, over logs of one writer and one segment of these sizes; whether
-- captures are read as truncated
pub record SnapshotCall : Type 0 where
  pub setup : List ℕ
  pub captures : List (List ℕ)
  pub turns : ℕ
  pub turn : ℕ
  pub sizes : LogSizes
  pub truncated : Bool

-- what `watch` is called for: what the rounds of a capture say by a setup, both named, over a window of these sizes; after how many
-- records live questions are asked, and after how many a beat comes; whether the capture is read as truncated
pub record WatchCall : Type 0 where
  pub setup : List ℕ
  pub capture : List ℕ
  pub sizes : WindowSizes
  pub every : ℕ
  pub beat : ℕ
  pub truncated : Bool

-- what `run --long` is called for: the report of captures end to end by a setup, all named, over a log of these sizes, one of whose
-- segments is left at a time; whether captures are read as truncated
pub record LongCall : Type 0 where
  pub setup : List ℕ
  pub captures : List (List ℕ)
  pub sizes : LogSizes
  pub truncated : Bool

-- what a command line is called for
pub data Call : Type 0 where
  run : (call : RunCall) → Call
  synth : (call : SynthCall) → Call
  dump : (call : DumpCall) → Call
  snapshot : (call : SnapshotCall) → Call
  watch : (call : WatchCall) → Call
  long : (call : LongCall) → Call

-- a snapshot of 1 to 16 captures
abbrev pub snapshot_over : SnapshotCall → Option Call
snapshot_over call = if nat_le 1 (length call.captures) && nat_le (length call.captures) 16 then Some (snapshot call) else None

-- a long run over 1 to 4,096 captures
abbrev pub long_over : LongCall → Option Call
long_over call = if nat_le 1 (length call.captures) && nat_le (length call.captures) 4096 then Some (long call) else None

-- the call of what is said, where each number is in its range
abbrev pub call_in : SaidValue → Option Call
call_in (run_said texts) =
    option_and_then
    (λ sizes. option_and_then
    (λ rounds. Some (run (record { setup = texts.setup; capture = texts.capture; sizes = sizes; rounds = rounds; truncated = is_given texts.truncated })))
    (number_in 0 64 texts.live)) (sizes_in texts.writers texts.capacity texts.nodes texts.segments)
call_in (synth_said texts) =
    option_and_then
    (λ seed. option_and_then (λ count. option_and_then (λ sizes. Some (synth (record { setup = texts.setup; seed = seed; count = count; sizes = sizes })))
    (sizes_in texts.writers texts.capacity texts.nodes texts.segments)) (number_in 0 (2 ^ 20) texts.count)) (number_in 0 (2 ^ 64 - 1) texts.seed)
call_in (dump_said texts) =
    option_and_then (λ schema. Some (dump (record { capture = texts.capture; schema = schema; truncated = is_given texts.truncated })))
    (schema_named texts.schema)
call_in (snapshot_said texts) =
    option_and_then
    (λ turns. option_and_then
    (λ turn. option_and_then
    (λ sizes. snapshot_over
    (record { setup = texts.setup; captures = texts.captures; turns = turns; turn = turn; sizes = sizes; truncated = is_given texts.truncated }))
    (sizes_with 1 texts.capacity texts.nodes)) (number_in 1 4096 texts.turn)) (number_in 0 (2 ^ 32 - 1) texts.after)
call_in (watch_said texts) =
    option_and_then
    (λ sizes. option_and_then
    (λ every. option_and_then
    (λ beat. Some
    (watch
    (record { setup = texts.setup; capture = texts.capture; sizes = sizes; every = every; beat = beat; truncated = is_given texts.truncated })))
    (number_in 0 (2 ^ 32 - 1) texts.beat)) (number_in 0 (2 ^ 32 - 1) texts.every)) (window_in texts.capacity texts.segments texts.nodes)
call_in (long_said texts) =
    option_and_then
    (λ sizes. long_over (record { setup = texts.setup; captures = texts.captures; sizes = sizes; truncated = is_given texts.truncated }))
    (undivided_in texts.writers texts.capacity texts.nodes)

-- What the words call for: a command with its options, as clap takes them, each number being in its range. Other words are no
-- command.
unfoldable pub call_said : List (List ℕ) → Option Call
call_said words = option_and_then call_in (said_of words)

-- a log that a call has is of sizes that a log may have
abbrev pub HasSizes : Option Call → Type 0
HasSizes None = Unit {0}
HasSizes (Some (run call)) = AreSizes call.sizes
HasSizes (Some (synth call)) = AreSizes call.sizes
HasSizes (Some (dump call)) = Unit {0}
HasSizes (Some (snapshot call)) = AreSizes call.sizes
HasSizes (Some (watch call)) = AreWindowSizes call.sizes
HasSizes (Some (long call)) = AreSizes call.sizes

-- the calls that commands were read as
abbrev pub run_by : RunCommand → RunCall
run_by command =
    record { setup = command.setup.now; capture = command.capture.now; sizes = command.sizes; rounds = command.rounds; truncated = command.truncated }

abbrev pub synth_by : SynthCommand → SynthCall
synth_by command = record { setup = command.setup.now; seed = command.seed; count = command.count; sizes = command.sizes }

abbrev pub dump_by : DumpCommand → DumpCall
dump_by command = record { capture = command.capture.now; schema = command.schema; truncated = command.truncated }

abbrev pub snapshot_by : SnapshotCommand → SnapshotCall
snapshot_by command =
    record {
      setup = command.setup.now;
      captures = map (λ name. name.now) command.captures.items;
      turns = command.turns;
      turn = command.turn;
      sizes = command.sizes;
      truncated = command.truncated;
    }

abbrev pub watch_by : WatchCommand → WatchCall
watch_by command =
    record {
      setup = command.setup.now;
      capture = command.capture.now;
      sizes = command.sizes;
      every = command.every;
      beat = command.beat;
      truncated = command.truncated;
    }

abbrev pub long_by : LongCommand → LongCall
long_by command =
    record {
      setup = command.setup.now;
      captures = map (λ name. name.now) command.captures.items;
      sizes = command.sizes;
      truncated = command.truncated;
    }

-- the call of a command that was read
abbrev pub call_by : Command → Call
call_by (Run command) = run (run_by command)
call_by (Synth command) = synth (synth_by command)
call_by (Dump command) = dump (dump_by command)
call_by (Snapshot command) = snapshot (snapshot_by command)
call_by (Watch command) = watch (watch_by command)
call_by (Long command) = long (long_by command)

-- a snapshot has 1 to 16 hosts, each with one writer and one segment
pub record IsSnapshotInRange (command : SnapshotCommand) : Type 0 where
  pub sizes : AreSizes command.sizes
  pub one : command.sizes.writers ≡ 1
  pub undivided : command.sizes.segments ≡ 1
  pub hosts : (1 ≤ length command.captures.items) × (length command.captures.items ≤ 16)
  pub turn : (1 ≤ command.turn) × (command.turn ≤ 4096)

-- a long run has one segment at a time, and 1 to 4,096 captures
pub record IsLongInRange (command : LongCommand) : Type 0 where
  pub sizes : AreSizes command.sizes
  pub undivided : command.sizes.segments ≡ 1
  pub captures : (1 ≤ length command.captures.items) × (length command.captures.items ≤ 4096)

-- the sizes and the counts of a command are in their ranges
abbrev pub IsInRange : Command → Type 0
IsInRange (Run command) = AreSizes command.sizes
IsInRange (Synth command) = AreSizes command.sizes × (command.count ≤ 2 ^ 20)
IsInRange (Dump command) = Unit {0}
IsInRange (Snapshot command) = IsSnapshotInRange command
IsInRange (Watch command) = AreWindowSizes command.sizes
IsInRange (Long command) = IsLongInRange command
