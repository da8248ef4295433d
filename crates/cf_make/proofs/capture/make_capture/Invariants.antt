use Rattle.std.proofs.Common.{◌≡◌}
use Rattle.cf_make.specs.Generated.{state, generated_bytes}
use Rattle.cf_make.proofs.capture.make_capture.Given as goal

abbrev pub invariant-loop-num : goal.invariant-loop-num
invariant-loop-num l = record {
  state : l.state ≡ state l.fn.seed l.num;
  bytes : l.bytes.items ≡ generated_bytes l.fn.seed l.num;
}
