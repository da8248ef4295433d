-- A log of a setup.
use Rattle.std.proofs.Common.{◌∙◌, ℕ, List, map, Result, Ok, Err, ap₂, subst}
use Rattle.std.specs.Prelude.{MatchResult}
use Rattle.cf_row.specs.Row.{RowValue}
use Rattle.cf_fold.specs.declared.trigger.Trigger.{Trigger}
use Rattle.cf_plain.specs.Asks.{eval_rows, marks_over}
use Rattle.cf_plain.specs.declared.ask.Ask.{Ask}
use Rattle.cf_project.specs.Projected.{ask_kept, row_kept, shape_kept}
use Rattle.cf_setup.specs.Setups.{SetupValue, shaped}
use Rattle.cf_shape.specs.Lanes.{ShapeValue}
use Rattle.cf_fill.specs.Logs.{IsUnmade}
use Rattle.cf_fill.specs.declared.log.Unmade.{Unmade}
use Rattle.cf_long.specs.Answered.{AreAnswers}
use Rattle.cf_long.specs.Kept.{IsLongFor, KeptLongValue}
use Rattle.cf_long.specs.Longs.{HaveNodes, shape_in}
use Rattle.cf_long.specs.declared.answers.Answers.{Answers}
use Rattle.cf_long.proofs.KeptRows.{answers_whole, nodes_whole, unmade_whole}

module _ (setup : SetupValue) (capacity writers nodes : ℕ) (log : KeptLongValue) (rows : List RowValue) (for : IsLongFor setup capacity writers nodes log rows) where
  abbrev left : List RowValue
  left = map (row_kept log.kept) rows

  abbrev IsAnswered : ShapeValue → List Ask → List Trigger → List RowValue → Answers → Type 0
  IsAnswered shape asks triggers some answers = AreAnswers shape asks triggers some answers × HaveNodes shape some

  asked_left : (answers : Answers) → AreAnswers (shape_in log.long) log.long.plan.asks.items log.long.plan.triggers.items left answers
      → AreAnswers (shape_kept log.kept log.shape) (map (ask_kept log.kept) setup.asks) setup.triggers left answers
  asked_left answers are = record {
    count = are.count;
    finals = are.finals ∙ ap₂ (λ (h : ShapeValue) (qs : List Ask). map (λ ask. eval_rows h ask left) qs) for.is.shape_left for.plan.asks;
    alerts = are.alerts
        ∙ ap₂ (λ (h : ShapeValue) (ts : List Trigger). map (λ trigger. marks_over h trigger left) ts) for.is.shape_left for.plan.triggers;
  }

  -- what is answered about what is kept are the answers to the setup's questions and triggers
  pub for_setup : (result : Result Answers Unmade)
      → MatchResult result (λ answers. IsAnswered (shape_in log.long) log.long.plan.asks.items log.long.plan.triggers.items left answers)
      (IsUnmade (shape_in log.long) left)
      → MatchResult result (λ answers. IsAnswered (shaped setup capacity writers nodes) setup.asks setup.triggers rows answers)
      (IsUnmade (shaped setup capacity writers nodes) rows)
  for_setup (Ok answers) made =
      subst (λ (h : ShapeValue). IsAnswered h setup.asks setup.triggers rows answers) for.shape (
        answers_whole log.kept log.shape for.is.keeps for.is.lawful rows setup.asks setup.triggers answers for.asks (asked_left answers made.0),
        nodes_whole log.kept log.shape for.is.keeps for.is.lawful rows (subst (λ (h : ShapeValue). HaveNodes h left) for.is.shape_left made.1),
      )
  for_setup (Err why) lack =
      subst (λ (h : ShapeValue). IsUnmade h rows why) for.shape
      (unmade_whole log.kept log.shape for.is.keeps for.is.lawful rows why (subst (λ (h : ShapeValue). IsUnmade h left why) for.is.shape_left lack))
