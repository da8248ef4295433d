use Rattle.cf_window.proofs.Fewer.{found_same}
use Rattle.cf_window.proofs.segment.WindowSegment.find.Goals as goal

pub returns-clause-found : goal.returns-clause-found
returns-clause-found c =
    let i = c.self.inside in
    found_same i.solo.shape i.nodes c.args.question.now i.solo.entries i.is_spent c.args.self.now c.find.result c.find.ensures.found c.self.view_is
