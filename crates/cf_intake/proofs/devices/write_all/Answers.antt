use Rattle.std.proofs.Common.{arith}
use Rattle.cf_intake.proofs.Writing.{written_more, take_of_piece, within_piece}
use Rattle.cf_intake.proofs.devices.write_all.Goals as goal

pub split_at-requires : goal.split_at-requires
split_at-requires g c = within_piece c.in_ok-count.count 4096 _ _ c.cut_at.ensures.first c.in_ok-count.ensures.bound.0

pub loop-rest-preserved : goal.loop-rest-preserved
loop-rest-preserved g c = record {
  written = written_more _ _ _ _ _ _ _ c.in_ok-count.count c.loop-rest.invariant.written c.in_ok-count.ensures.bytes
      (take_of_piece c.in_ok-count.count 4096 _ _ c.cut_at.ensures.first c.in_ok-count.ensures.bound.0) c.split_at.ensures.back;
  later = omega (arith, c.write.ensures.cause.later);
}
