use Rattle.std.proofs.Common.{◌≡◌, ◌∙◌, List, [], ◌++◌, length, ap, arith}
use Rattle.cf_pcap.specs.Capture.{FrameValue}
use Rattle.cf_intake.specs.Reading.{IsReaderAt}
use Rattle.cf_intake.proofs.Streams.{frames_few}
use Rattle.cf_intake.proofs.reads.begin_reader.Goals as goal

pub returns-clause-few : goal.returns-clause-few
returns-clause-few c =
    let fed = c.in_ok-feed.ensures.fed in
    let at : IsReaderAt c.feed.new.self c.args.held.now fed.0 = fed.2 [] [] c.in_ok-reader.ensures.begins in
    let few = frames_few c.feed.new.self c.args.held.now fed.0 at in
    let same : length c.feed.new.out.items ≡ length fed.0 =
    ap (λ (xs : List FrameValue). length xs) (fed.1 ∙ ap (λ (xs : List FrameValue). xs ++ fed.0) c.new-frames.ensures.items) in
    omega (arith, few, same)
