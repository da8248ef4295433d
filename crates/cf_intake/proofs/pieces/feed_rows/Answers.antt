use Rattle.std.proofs.Common.{◌∙◌, ◌++◌, List, ap}
use Rattle.std.proofs.lemmas.Result.{IfOk-weaker}
use Rattle.cf_pcap.specs.Capture.{FrameValue}
use Rattle.cf_intake.specs.Rows.{packet_rows}
use Rattle.cf_intake.proofs.Piecewise.{rows_few}
use Rattle.cf_intake.proofs.pieces.feed_rows.Goals as goal

pub returns-clause-fed : goal.returns-clause-fed
returns-clause-fed c =
    let fed = c.in_ok-feed.ensures.fed in
    IfOk-weaker c.rows_of.result _ _
    (λ _ are. (
      fed.0,
      are
          ∙ ap (λ (fs : List FrameValue). packet_rows c.args.schema fs)
          (c.deref.ensures.value ∙ fed.1 ∙ ap (λ (fs : List FrameValue). fs ++ fed.0) c.new-frames.ensures.items),
      fed.2,
    )) c.rows_of.ensures.rows

pub returns-clause-few : goal.returns-clause-few
returns-clause-few c =
    let few = c.in_ok-feed.ensures.few in
    IfOk-weaker c.rows_of.result _ _
    (λ _ are stream frames at. rows_few c.args.schema c.args.piece.now c.new-frames.result.items c.feed.new.out.items _ _ c.new-frames.ensures.items
    c.deref.ensures.value are (few stream frames at)) c.rows_of.ensures.rows
