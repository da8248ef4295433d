use Rattle.std.proofs.Common.{ap, arith, length, subst, sym, ◌∙◌}
use Rattle.cf_plain.specs.Asks.{Suits}
use Rattle.cf_shape.specs.Lanes.{ShapeValue}
use Rattle.cf_rounds.specs.Held.{view_in}
use Rattle.cf_rounds.proofs.Suited.{near_ok}
use Rattle.cf_rounds.proofs.asked.answer_at.Goals as goal

pub answer_to-requires : goal.answer_to-requires
answer_to-requires c =
    let rounds = c.requires.rounds.1 in
    let shape = c.args.window.now.shape in record {
      suits = subst (λ (s : ShapeValue). Suits s c.question.result.now) (sym rounds.shaped) (c.question.ensures.suits shape.capacity shape.nodes);
      lanes = rounds.lanes ∙ ap (λ (s : ShapeValue). length s.lanes) (sym rounds.shaped);
    }

pub returns-clause-near : goal.returns-clause-near
returns-clause-near c =
    let window = c.args.window.now in
    let range = c.count-to.type_inv in
    let to = c.count-to.ensures in
    near_ok window.shape (view_in window c.args.kept.now 0) c.args.is_final c.question.result.now c.answer_to.result (omega arith)
    (omega (arith, range, to)) (c.answer_to.ensures.answered 0)
