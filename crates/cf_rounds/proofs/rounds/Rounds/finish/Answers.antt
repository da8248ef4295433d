use Rattle.std.proofs.Common.{string_bytes}
use Rattle.cf_rounds.proofs.Making.{ended_in, round_ended}
use Rattle.cf_rounds.proofs.rounds.Rounds.finish.Goals as goal

pub returns-clause-ended : goal.returns-clause-ended
returns-clause-ended c =
    let i = c.self.inside in
    let ended = rw c.deref.ensures.value at c.in_ok-push_end.ensures.ended in
    round_ended c.args.self.now c.round.new.self (string_bytes c.args.text.now) (string_bytes c.round.new.text) (string_bytes c.push_end.new.text)
    c.in_ok-round.ensures.round.0 c.in_ok-round.ensures.round.1
    (ended_in i.setup i.window i.kept.items i.every i.beat i.limit i.asked i.beaten i.last c.round.new.self (string_bytes c.round.new.text)
    (string_bytes c.push_end.new.text) c.self.view_is (ended i.last))
