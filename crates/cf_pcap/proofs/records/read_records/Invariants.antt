use Rattle.std.proofs.Common.{◌≡◌, length, drop, ◌+◌, ◌-◌, ◌*◌, ◌≤◌, Some}
use Rattle.cf_pcap.specs.Limits.{HasRoom}
use Rattle.cf_pcap.specs.Format.{ReadsTo}
use Rattle.cf_pcap.specs.File.{pcap}
use Rattle.cf_pcap.specs.Reading.{state_of}
use Rattle.cf_pcap.proofs.records.read_records.Given as goal

abbrev pub invariant-loop-alloc : goal.invariant-loop-alloc
invariant-loop-alloc l = record {
  read : ReadsTo (pcap l.scope) (state_of (Some l.header) l.num) l.bytes l.frames.items (state_of (Some l.header) l.count) l.rest;
  room : HasRoom l.scope.length (16 * l.count + length l.rest);
  few : length l.rest ≤ length l.bytes;
  back : l.rest ≡ drop (length l.bytes - length l.rest) l.bytes;
}

abbrev pub decreases-loop-alloc : goal.decreases-loop-alloc
decreases-loop-alloc l = length l.rest
