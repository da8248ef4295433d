use Rattle.std.proofs.Common.{◌∙◌, ℕ, List, ap}
use Rattle.cf_pcap.specs.Links.{unlimited}
use Rattle.cf_intake.specs.Reads.{IsOpening, IsUnderWay}
use Rattle.cf_intake.proofs.SingleReads.{ended_way, ended_short}
use Rattle.cf_intake.proofs.reads.Reads.finish.Goals as goal

pub returns-in-Some : goal.returns-in-Some
returns-in-Some c = λ bytes rows have.
    let by : IsUnderWay c.args.self.schema c.in-Some.reader bytes rows = rw c.in-Some.is at have.by in
    ended_way c.args.self.schema c.args.truncated c.in-Some.reader bytes rows c.finish.result by c.finish.ensures

pub returns : goal.returns
returns c = λ bytes rows have.
    let held : List ℕ = c.args.self.held.items in
    let opening : IsOpening held bytes rows = rw c.in-None.is at have.by in
    let begins = rw c.deref.ensures.value at c.in_ok-reader-in-None.ensures.blocks in
    let fed = rw c.deref-in-None.ensures.value at c.in_ok-feed_rows-in-None.ensures.fed in
    ended_short c.args.self.schema c.args.truncated c.in_ok-reader-in-None.reader c.feed_rows.new.reader held bytes rows
    c.in_ok-feed_rows-in-None.field-0.items fed.0
    c.finish-in-None.result opening begins (c.in_ok-reader-in-None.ensures.scope ∙ (c.unlimited.ensures ∙ ap unlimited c.links_of.ensures))
    c.in_ok-reader-in-None.ensures.begins
    c.in_ok-feed_rows-in-None.ensures.blocks c.in_ok-feed_rows-in-None.ensures.scope fed.1 fed.2 c.finish-in-None.ensures
