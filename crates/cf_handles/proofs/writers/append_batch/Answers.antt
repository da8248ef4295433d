use Rattle.std.proofs.Common.{◌≤◌, arith, inl, inr, length, refl}
use Rattle.cf_handles.proofs.writers.append_batch.Goals as goal

pub returns-then-offsets-frames : goal.returns-then-offsets-frames
returns-then-offsets-frames c = inl (c.if-offsets-frames.true, refl, refl, refl, refl)

pub returns : goal.returns
returns c =
    let past = c.if-offsets-frames.false in
    let room : length c.args.frames.now ≤ length c.args.offsets.now = omega (arith, past) in
    inr (room, (c.append_frames-done.result.1, c.append_frames-done.ensures, c.of_stop.ensures))
