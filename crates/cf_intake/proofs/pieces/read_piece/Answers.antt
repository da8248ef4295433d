use Rattle.std.proofs.Common.{arith, ◌∙◌, ◌≤◌, length}
use Rattle.cf_intake.proofs.Piecewise.{filled_size, filled_within, filled_taken}
use Rattle.cf_intake.proofs.pieces.read_piece.Goals as goal

pub loop-filled-preserved : goal.loop-filled-preserved
loop-filled-preserved g c =
    let v = c.loop-filled.invariant in
    let most = c.in_ok-count.ensures.bound.0 in
    let size = v.size in
    let within = v.within in
    let fits : c.loop-filled.filled ≤ length c.loop-filled.buf = omega (arith, size, within) in
    let later = c.in_ok-count.ensures.cause.later in
    let before = v.later in
    record {
      files = c.in_ok-count.ensures.files ∙ v.files;
      size = filled_size c.loop-filled.filled c.loop-filled.buf c.read.new.buf c.read.auto.buf ∙ v.size;
      within = (let all = filled_within c.loop-filled.filled c.in_ok-count.count c.loop-filled.buf c.read.new.buf fits c.read.auto.buf most in
          omega (arith, all, size));
      taken = filled_taken _ _ _ c.loop-filled.filled c.in_ok-count.count c.loop-filled.buf c.read.new.buf fits most v.taken c.in_ok-count.ensures.bytes.0;
      later = omega (arith, before, later);
    }
