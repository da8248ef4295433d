use Rattle.std.proofs.Common.{◌≡◌, ◌+◌, List, ◌++◌, length}
use Rattle.cf_pcap.specs.Limits.{HasRoom}
use Rattle.cf_pcap.specs.Capture.{FrameValue}
use Rattle.cf_pcap.specs.Format.{ReadsTo}
use Rattle.cf_pcapng.specs.File.{pcapng}
use Rattle.cf_pcapng.specs.Position.{state_of}
use Rattle.cf_pcapng.proofs.blocks.read_blocks.Given as goal

abbrev pub invariant-loop-total : goal.invariant-loop-total
invariant-loop-total l = record {
  read : (more : List FrameValue) × (l.frames.items ≡ l.fn.frames.items ++ more)
      × ReadsTo (pcapng l.scope) (state_of l.fn.position) l.bytes more (state_of l.position) l.left;
  had : l.position.listed.had ≡ l.fn.position.listed.had;
  room : HasRoom l.scope.length (l.position.count + length l.left);
}

abbrev pub decreases-loop-total : goal.decreases-loop-total
decreases-loop-total l = length l.left
