-- What a setup says of what it names, in numbers.
use Rattle.std.specs.Prelude.{ℕ, ◌==◌, if◌then◌else◌, Option, Some, None, slice_get}
use Rattle.std.specs.Option.{option_map}
use Rattle.cf_row.specs.declared.schema.Kind.{Kind}
use Rattle.cf_row.specs.declared.schema.Kind.TheVariants.{U8, U16, U32, U64, Bytes}
use Rattle.cf_row.specs.declared.expr.Op.{Op}
use Rattle.cf_row.specs.declared.expr.Op.TheVariants as ops
use Rattle.cf_fold.specs.declared.trigger.Part.{Part}
use Rattle.cf_fold.specs.declared.trigger.Part.TheVariants as parts
use Rattle.cf_fold.specs.declared.trigger.Trigger.{Trigger}
use Rattle.cf_shape.specs.declared.lane.Lane.{Lane}
use Rattle.cf_shape.specs.declared.lane.Key.{Key}
use Rattle.cf_shape.specs.declared.lane.Key.TheVariants as keys
use Rattle.cf_plain.specs.declared.ask.Ask.{Ask}
use Rattle.cf_plain.specs.declared.ask.Ask.TheVariants as asks
use Rattle.cf_setup.specs.Setups.{SetupValue}
use Rattle.cf_handles.specs.declared.abouts.About.{About}

abbrev pub nothing : About
nothing = record { kind = 0; of = 0; part = 0; op = 0; low = 0; high = 0; size = 0; reserved = 0 }

abbrev pub part_number : Part → ℕ
part_number parts.Count = 0
part_number parts.Sum = 1
part_number parts.Least = 2
part_number parts.Greatest = 3

abbrev pub op_number : Op → ℕ
op_number ops.Eq = 0
op_number ops.Ne = 1
op_number ops.Lt = 2
op_number ops.Le = 3
op_number ops.Gt = 4
op_number ops.Ge = 5
op_number ops.Within = 6
op_number ops.Outside = 7

-- of an attribute: the bits of a number, or the size of a string
abbrev pub kind_about : Kind → About
kind_about U8 = record nothing { kind = 8 }
kind_about U16 = record nothing { kind = 16 }
kind_about U32 = record nothing { kind = 32 }
kind_about U64 = record nothing { kind = 64 }
kind_about (Bytes size) = record nothing { size = size }

-- of a lane: 0 an index, 1 a filter, 2 an aggregate, 3 a tally, 4 an aggregate by a key; the attribute of its keys, and the one that is
-- measured. No setup has a lane of rows kept apart that measures nothing.
abbrev pub lane_by : Key → Option ℕ → About
lane_by (keys.Attr attr) None = record nothing { of = attr }
lane_by keys.Bucket None = record nothing { kind = 1 }
lane_by keys.Bucket (Some measure) = record nothing { kind = 2; size = measure }
lane_by (keys.Attr attr) (Some measure) = record nothing { kind = 3; of = attr; size = measure }
lane_by (keys.BucketBy attr) None = record nothing { kind = 1; of = attr }
lane_by (keys.BucketBy attr) (Some measure) = record nothing { kind = 4; of = attr; size = measure }

abbrev pub lane_about : Lane → About
lane_about lane = lane_by lane.key lane.measure

-- of a trigger, or of the question for it: its aggregate, its part, its operator and its number
abbrev pub trigger_about : ℕ → Trigger → About
trigger_about kind trigger =
    record nothing { kind = kind; of = trigger.agg; part = part_number trigger.part; op = op_number trigger.op; low = trigger.number }

-- of a question: its kind, its lane or attribute, and its range, its trigger or its part and count
abbrev pub ask_about : Ask → About
ask_about (asks.List expr) = nothing
ask_about (asks.Find lane low high) = record nothing { kind = 1; of = lane; low = low; high = high }
ask_about (asks.Between lane low high) = record nothing { kind = 2; of = lane; low = low; high = high }
ask_about (asks.Measure lane low high) = record nothing { kind = 3; of = lane; low = low; high = high }
ask_about (asks.Fired trigger) = trigger_about 4 trigger
ask_about (asks.Top lane part count) = record nothing { kind = 5; of = lane; part = part_number part; size = count }
ask_about (asks.Groups lane) = record nothing { kind = 7; of = lane }
ask_about (asks.Total attr expr) = record nothing { kind = 6; of = attr }

-- of what the setup has of that sort at that number: 0 attributes, 1 lanes, 2 triggers, 3 questions
abbrev pub about_of : SetupValue → ℕ → ℕ → Option About
about_of setup sort number =
    if sort == 0 then option_map (λ attr. kind_about attr.kind) (slice_get setup.schema number)
    else (if sort == 1 then option_map lane_about (slice_get setup.lanes number)
    else (if sort == 2 then option_map (trigger_about 0) (slice_get setup.triggers number)
    else (if sort == 3 then option_map ask_about (slice_get setup.asks number) else None)))
