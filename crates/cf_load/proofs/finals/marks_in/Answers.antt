use Rattle.std.proofs.Common.{◌≡◌, ◌∷◌, [], ◌++◌, List, All, map, refl, ap, ap₂, subst, sym, ◌∙◌, arith, rules}
use Rattle.std.proofs.lemmas.List.{map_push}
use Rattle.std.proofs.lemmas.List.Elements.{All-tail}
use Rattle.std.specs.Vec.Iter.{into_iter_items}
use Rattle.cf_plain.specs.declared.answer.Answer.{Answer}
use Rattle.cf_plain.specs.declared.answer.Body.TheVariants as bodies
use Rattle.cf_plain.specs.declared.answer.Body.{Body}
use Rattle.cf_plain.specs.declared.answer.Fired.{Fired}
use Rattle.cf_load.specs.Planned.{IsMarks, as_marks, body_of}
use Rattle.cf_load.proofs.finals.marks_in.Goals as goal

pub unreachable-requires : goal.unreachable-requires
unreachable-requires c =
    let rest : List Answer = into_iter_items c.next.new.self in
    let split : into_iter_items c.loop-answer.answer-iterator ≡ c.in-Some.answer ∷ rest = c.in-Some.ensures.steps.0 in
    let all : All IsMarks (c.in-Some.answer ∷ rest) = subst (λ (xs : List Answer). All IsMarks xs) split c.loop-answer.invariant.rest in
    let is = all 0 c.in-Some.answer (omega arith) in
    let both : bodies.Marks is.0 ≡ bodies.Places c.in-Places.field-0 = sym is.1 ∙ c.in-Places.is in
    absurd (cc both)

pub unreachable-requires-in-Total : goal.unreachable-requires-in-Total
unreachable-requires-in-Total c =
    let rest : List Answer = into_iter_items c.next.new.self in
    let split : into_iter_items c.loop-answer.answer-iterator ≡ c.in-Some.answer ∷ rest = c.in-Some.ensures.steps.0 in
    let all : All IsMarks (c.in-Some.answer ∷ rest) = subst (λ (xs : List Answer). All IsMarks xs) split c.loop-answer.invariant.rest in
    let is = all 0 c.in-Some.answer (omega arith) in
    let both : bodies.Marks is.0 ≡ bodies.Total c.in-Total.field-0 = sym is.1 ∙ c.in-Total.is in
    absurd (cc both)

pub unreachable-requires-in-Tops : goal.unreachable-requires-in-Tops
unreachable-requires-in-Tops c =
    let rest : List Answer = into_iter_items c.next.new.self in
    let split : into_iter_items c.loop-answer.answer-iterator ≡ c.in-Some.answer ∷ rest = c.in-Some.ensures.steps.0 in
    let all : All IsMarks (c.in-Some.answer ∷ rest) = subst (λ (xs : List Answer). All IsMarks xs) split c.loop-answer.invariant.rest in
    let is = all 0 c.in-Some.answer (omega arith) in
    let both : bodies.Marks is.0 ≡ bodies.Tops c.in-Tops.field-0 = sym is.1 ∙ c.in-Tops.is in
    absurd (cc both)

pub unreachable-requires-in-Groups : goal.unreachable-requires-in-Groups
unreachable-requires-in-Groups c =
    let rest : List Answer = into_iter_items c.next.new.self in
    let split : into_iter_items c.loop-answer.answer-iterator ≡ c.in-Some.answer ∷ rest = c.in-Some.ensures.steps.0 in
    let all : All IsMarks (c.in-Some.answer ∷ rest) = subst (λ (xs : List Answer). All IsMarks xs) split c.loop-answer.invariant.rest in
    let is = all 0 c.in-Some.answer (omega arith) in
    let both : bodies.Marks is.0 ≡ bodies.Groups c.in-Groups.field-0 = sym is.1 ∙ c.in-Groups.is in
    absurd (cc both)

pub loop-answer-init : goal.loop-answer-init
loop-answer-init c = record {
  rest = subst (λ (xs : List Answer). All IsMarks xs) (sym c.into_iter-answer-iterator.ensures.into_iter_gives.0) c.requires.marks;
  marks = rw c.in_ok-all.ensures.items refl;
}

pub loop-answer-preserved : goal.loop-answer-preserved
loop-answer-preserved c =
    let rest : List Answer = into_iter_items c.next.new.self in
    let split : into_iter_items c.loop-answer.answer-iterator ≡ c.in-Some.answer ∷ rest = c.in-Some.ensures.steps.0 in
    let v = c.loop-answer.invariant in
    let marks : List Fired = c.in-Marks.marks in
    let one : body_of c.in-Some.answer ≡ as_marks marks = search rules in
    let more : c.push.new.self.items ≡ c.loop-answer.all.items ++ marks ∷ [] = search rules in
    record {
      rest = All-tail IsMarks c.in-Some.answer rest (subst (λ (xs : List Answer). All IsMarks xs) split v.rest);
      marks = map_push body_of c.loop-answer.yielded c.in-Some.answer
          ∙ (ap₂ (λ (bs : List Body) (b : Body). bs ++ b ∷ []) v.marks one
          ∙ (sym (map_push as_marks c.loop-answer.all.items marks) ∙ ap (map as_marks) (sym more)));
    }
