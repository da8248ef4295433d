use Rattle.cf_handles.specs.declared.code.Code.TheVariants as codes
use Rattle.cf_handles.proofs.Called.{batch_by, if_lent, if_not_lent, no_batch}
use Rattle.cf_handles.proofs.writers.confluo_append_many.Goals as goal

pub returns-in_default : goal.returns-in_default
returns-in_default c =
    (codes.Nothing, no_batch c.args.bytes.now c.args.frames.now c.args.offsets.now c.args.writer.now.seat.held _ c.in_default.ensures.value (if_not_lent c.get_mut.result c.in_default.is c.get_mut.follows.holds-at-none), c.number.ensures)

pub returns : goal.returns
returns c = (
  c.append_batch-count.result.1,
  batch_by c.args.bytes.now c.args.frames.now c.args.offsets.now c.append_batch-count.new.offsets c.append_batch-count.result.0 c.append_batch-count.result.1
      c.args.writer.now.seat.held _ c.in-Some.writer.now c.append_batch-count.new.writer c.in-Some.ensures.value
      (if_lent c.get_mut.result c.in-Some.writer c.in-Some.is (c.get_mut.follows.holds c.append_batch-count.new.writer)) c.append_batch-count.ensures,
  c.number-2.ensures,
)
