use Rattle.std.proofs.Common.{refl}
use Rattle.cf_store.proofs.Appended.{framed_appended, part_by, record_part_by}
use Rattle.cf_store.proofs.Options.{not_both}
use Rattle.cf_store.proofs.held.Writer.append_framed.Goals as goal

pub returns-in_default-clause-appended : goal.returns-in_default-clause-appended
returns-in_default-clause-appended c = record_part_by c.deref.result.now c.args.buffer.now c.args.framed c.args.self.now c.deref.ensures c.in_default.ensures

pub returns-then-not-stands_in-clause-appended : goal.returns-then-not-stands_in-clause-appended
returns-then-not-stands_in-clause-appended c =
    part_by c.deref.result.now c.in-Some._schema c.args.buffer.now c.args.framed c.args.self.now c.args.self.now _ c.deref.ensures c.in-Some.ensures
    (refl, λ stands frame. not_both c.stands_in.result c.if-not-stands_in.true (c.stands_in.ensures.1 stands))

pub returns-clause-appended : goal.returns-clause-appended
returns-clause-appended c =
    framed_appended c.args.buffer.now c.bytes_in-bytes.result.now c.args.framed c.args.self.now c.append_frame_by.new.self c.deref.result.now
    c.in-Some._schema c.append_frame_by.result c.deref.ensures c.in-Some.ensures (c.stands_in.ensures.0 c.if-not-stands_in.false)
    c.bytes_in-bytes.ensures c.append_frame_by.ensures.appended
