use Rattle.std.proofs.Common.{refl}
use Rattle.cf_store.proofs.Appended.{frame_appended, packet_by, record_by}
use Rattle.cf_store.proofs.Options.{not_both}
use Rattle.cf_store.proofs.held.Writer.append_frame_by.Goals as goal

pub returns-in_default-clause-appended : goal.returns-in_default-clause-appended
returns-in_default-clause-appended c = record_by c.deref.result.now c.args.capture c.args.bytes.now c.args.self.now c.deref.ensures c.in_default.ensures

pub returns-then-not-is_frame-clause-appended : goal.returns-then-not-is_frame-clause-appended
returns-then-not-is_frame-clause-appended c =
    packet_by c.deref.result.now c.in-Some.schema c.args.capture c.args.bytes.now c.args.self.now c.args.self.now _ c.deref.ensures c.in-Some.ensures
    (refl, λ frame. not_both c.is_frame.result c.if-not-is_frame.true (c.is_frame.ensures.1 frame))

pub returns-clause-appended : goal.returns-clause-appended
returns-clause-appended c =
    frame_appended c.args.capture c.args.bytes.now c.args.self.now c.append_by.new.self c.deref.result.now c.in-Some.schema
    c.row_of_frame-row.result c.append_by.result c.deref.ensures c.in-Some.ensures (c.is_frame.ensures.0 c.if-not-is_frame.false)
    c.row_of_frame-row.ensures c.append_by.ensures.appended
