-- One more batch is loaded.
use Rattle.std.proofs.Common.{◌≡◌, ◌<◌, ◌≤◌, ◌+◌, ◌*◌, ℕ, List, ◌++◌, length, length-append, append_assoc, arith, inl, inr, sym, ap, subst, ◌∙◌}
use Rattle.std.proofs.lemmas.Bool.{cases_lt}
use Rattle.std.proofs.lemmas.List.{map-append}
use Rattle.cf_row.specs.Row.{RowValue}
use Rattle.cf_plain.specs.declared.loaded.Live.{Live}
use Rattle.cf_row.specs.declared.row.Entry.{Entry}
use Rattle.cf_shape.specs.Lanes.{ShapeValue}
use Rattle.cf_table.proofs.Settling.{begins_then}
use Rattle.cf_load.specs.declared.plan.LivePlan.{LivePlan}
use Rattle.cf_load.specs.Loading.{HasAnswered, AsksBatch, AsksBeside}
use Rattle.cf_load.specs.Planned.{tails_of}
use Rattle.cf_load.proofs.Tails.{answered_more, answered_none}

-- the live answers beside it come after those before
pub answered_beside : (shape : ShapeValue) (rows batch : List RowValue) (plan : LivePlan) (b : ℕ) (seen now : List Entry) (answers more : List Live)
    → length seen ≡ length rows → length now ≡ length (rows ++ batch) → (0 < plan.rounds → length rows ≡ 4096 * b) → 0 < length batch
    → (0 < plan.rounds → length batch ≤ 4096)
    → HasAnswered shape plan.asks.items plan.lives.items plan.rounds (length rows) seen answers → AsksBeside shape plan b seen now more
    → HasAnswered shape plan.asks.items plan.lives.items plan.rounds (length (rows ++ batch)) now (answers ++ more)
answered_beside shape rows batch plan b seen now answers more before after long some few has beside =
    let sum : length rows + length batch ≡ length (rows ++ batch) = sym (length-append rows batch) in
    subst (λ c. HasAnswered shape plan.asks.items plan.lives.items plan.rounds c now (answers ++ more)) sum
    (elim (cases_lt 0 plan.rounds) [
      | inl due ↦ answered_more shape plan.asks.items plan.lives.items plan.rounds (length rows) b
          (length batch) seen beside.read now answers more has (long due) before beside.asks beside.begins
          (begins_then seen beside.read now beside.asks.longer beside.begins) (after ∙ sym sum) some (few due)
      | inr quiet ↦
          let none : plan.rounds ≡ 0 = omega (arith, quiet) in
          subst (λ r. HasAnswered shape plan.asks.items plan.lives.items r (length rows + length batch) now (answers ++ more)) (sym none)
          (answered_none shape plan.asks.items plan.lives.items (length rows) b (length batch) seen beside.read now answers more
          (subst (λ r. HasAnswered shape plan.asks.items plan.lives.items r (length rows) seen answers) none has)
          (subst (λ r. AsksBatch shape plan.asks.items plan.lives.items r b seen beside.read more) none beside.asks))
    ])

pub told_more : (told old now : List ℕ) (answers more : List Live) → old ≡ told ++ tails_of answers → now ≡ old ++ tails_of more
    → now ≡ told ++ tails_of (answers ++ more)
told_more told old now answers more is then =
    then ∙ (ap (λ ts. ts ++ tails_of more) is
    ∙ (append_assoc told (tails_of answers) (tails_of more) ∙ ap (λ ts. told ++ ts) (sym (map-append (λ (live : Live). live.answer.tail) answers more))))
