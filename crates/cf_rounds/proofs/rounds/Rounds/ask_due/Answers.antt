use Rattle.std.proofs.Common.{string_bytes, sym}
use Rattle.cf_rounds.proofs.Making.{asked_in}
use Rattle.cf_rounds.proofs.rounds.Rounds.ask_due.Goals as goal

pub returns-in_ok-push_lives-clause-asked : goal.returns-in_ok-push_lives-clause-asked
returns-in_ok-push_lives-clause-asked c =
    let i = c.self.inside in
    let lines = rw c.deref.ensures.value at c.in_ok-push_lives.ensures.lines in
    asked_in i.setup i.window c.push_lives.new.window i.kept.items i.every i.beat i.limit i.asked i.beaten i.last c.count-to.result c.args.self.now
    (string_bytes c.args.text.now) (string_bytes c.push_lives.new.text) c.self.view_is c.in_ok-push_lives.ensures.stays c.count-to.ensures
    (sym c.if-is_due.ensures) lines
