use Rattle.std.proofs.Common.{◌≡◌, ◌∙◌, List, length, sym, ap₂, subst}
use Rattle.cf_row.specs.Row.{RowValue}
use Rattle.cf_intake.specs.Reads.{AreNumberedFrom}
use Rattle.cf_intake.specs.Rows.{packet_rows}
use Rattle.cf_intake.proofs.SingleReads.{numbered_behind}
use Rattle.cf_intake.proofs.reads.Reads.next.Goals as goal

pub returns-in_ok-rows_of-in-Some-clause-numbered : goal.returns-in_ok-rows_of-in-Some-clause-numbered
returns-in_ok-rows_of-in-Some-clause-numbered g c = λ bytes before have.
    let moves = rw c.in-Some.is at c.in_ok-frames.ensures.read in
    let there = moves.read bytes before have in
    let given = packet_rows c.args.self.now.schema c.in-Some.frames.items in
    let same : c.in_ok-rows_of-in-Some.field-0.items ≡ given =
    c.in_ok-rows_of-in-Some.ensures.rows ∙ ap₂ packet_rows c.next_frames.ensures.schema c.deref.ensures.value in
    subst (λ (rows : List RowValue). AreNumberedFrom (length before) rows) (sym same)
    (numbered_behind c.next_frames.new.self.schema c.next_frames.new.self.reader c.next_frames.new.self.held.items _ before given there.by)
