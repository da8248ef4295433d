use Rattle.std.proofs.Common.{ap}
use Rattle.cf_window.specs.Held.{WindowValue}
use Rattle.cf_rounds.proofs.Moving.{rounds_begun}
use Rattle.cf_rounds.proofs.rounds.Rounds.begin.Goals as goal

pub invariant_of-result-2 : goal.invariant_of-result-2
invariant_of-result-2 c =
    let none = rw c.lanes.ensures.lanes at c.in_ok-kept.ensures in
    rw c.setup.view_is
    (rounds_begun c.args.setup c.in_ok-open.field-0 c.args.shape c.in_ok-kept.kept.items c.args.limit (ap (λ (v : WindowValue). v.shape) c.in_ok-open.ensures)
    c.requires.shaped none c.requires.few)
