use Rattle.std.proofs.Common.{◌≡◌, ◌+◌, length, All}
use Rattle.cf_row.specs.Row.{Fits}
use Rattle.cf_row.specs.Schema6.{attrs_by}
use Rattle.cf_pcap.specs.Limits.{num_of}
use Rattle.cf_pcap.specs.declared.limit.Length.TheVariants.{Any}
use Rattle.cf_intake.specs.Reads.{numbered_on}
use Rattle.cf_intake.specs.Rows.{packet_rows}
use Rattle.cf_intake.proofs.rows.numbered_rows.Given as goal

abbrev pub invariant-loop-frame : goal.invariant-loop-frame
invariant-loop-frame l = record {
  rows : l.rows.items ≡ numbered_on l.first (packet_rows l.schema l.yielded);
  num : l.num ≡ num_of Any (l.first + length l.yielded);
  fit : All (Fits (attrs_by l.schema)) l.rows.items;
}
