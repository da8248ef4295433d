use Rattle.std.proofs.Common.{◌≡◌, Some, refl, rules}
use Rattle.std.proofs.lemmas.Result.{IfOk-weaker}
use Rattle.cf_intake.specs.Rows.{packet_rows}
use Rattle.cf_intake.proofs.SingleReads.{fed_more}
use Rattle.cf_intake.proofs.reads.next_frames.Goals as goal

pub returns-in-Some-clause-read : goal.returns-in-Some-clause-read
returns-in-Some-clause-read c =
    let is : c.args.reader.now ≡ Some c.in-Some.reader = search rules in
    rw is (IfOk-weaker c.feed_frames.result _ _
    (λ frames feeds bytes rows by. fed_more c.args.schema c.in-Some.reader c.feed_frames.new.reader c.args.piece.now
    (packet_rows c.args.schema frames.items) frames.items c.feed_frames.ensures.blocks c.feed_frames.ensures.scope refl feeds bytes rows by)
    c.feed_frames.ensures.fed)
