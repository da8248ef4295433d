-- The rows of packets that are drawn, and the shape of a log.
use Rattle.std.specs.Prelude.{Bool, true, false, List}
use Rattle.cf_row.specs.Row.{RowValue}
use Rattle.cf_make.specs.Generated.{generated_frames}
use Rattle.cf_command.specs.declared.words.LogSizes.{LogSizes}
use Rattle.cf_command.specs.Call.{SynthCall}
use Rattle.cf_row.specs.declared.packet6.PacketSchema.TheVariants.{Packet, Packet6}
use Rattle.cf_setup.specs.declared.source.Source.{Source}
use Rattle.cf_setup.specs.declared.source.Source.TheVariants.{Packets, Records}
use Rattle.cf_setup.specs.Setups.{SetupValue, shaped}
use Rattle.cf_shape.specs.Lanes.{ShapeValue}
use Rattle.cf_intake.specs.Rows.{packet_rows}

-- whether rows are drawn of a setup that reads from this: those of packets alone, by their own schema
abbrev pub draws : Source → Bool
draws (Packets Packet) = true
draws (Packets Packet6) = false
draws Records = false

-- the rows of the packets that are drawn for a synth
abbrev pub drawn_rows : SynthCall → List RowValue
drawn_rows call = packet_rows Packet (generated_frames call.seed call.count)

-- the shape of a setup's log of these sizes
abbrev pub shape_for : SetupValue → LogSizes → ShapeValue
shape_for setup sizes = shaped setup sizes.capacity sizes.writers sizes.nodes
