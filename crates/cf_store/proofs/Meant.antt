-- The answers are meant, and make a report.
use Rattle.std.proofs.Common.{◌≡◌, ◌∙◌, ◌≤◌, ℕ, List, length, slice_get, ap, refl, sym, subst}
use Rattle.cf_row.specs.declared.row.Entry.{Entry}
use Rattle.cf_shape.specs.Lanes.{ShapeValue}
use Rattle.cf_setup.specs.Setups.{IsSetup, SetupValue}
use Rattle.cf_table.specs.Values.{LogValue, PassValue}
use Rattle.cf_query.specs.Walks.{OnlyWalked}
use Rattle.cf_report.specs.Answered.{IsAnswering}
use Rattle.cf_report.specs.Meaning.{AreMeant}
use Rattle.cf_report.specs.Tags.{bare}
use Rattle.cf_report.proofs.Answering.{are_answering}
use Rattle.cf_report.proofs.Bare.{bare_long}
use Rattle.cf_report.proofs.Legal.{report_history}
use Rattle.cf_report.proofs.Reported.{meant_alone}
use Rattle.cf_table.specs.Moves.{IsReading}
use Rattle.cf_store.specs.Seen.{SeenReportsAreHistories, answered_on}

meant : (setup : SetupValue) (shape : ShapeValue) (log : List Entry) → AreMeant setup shape 0 log (answered_on shape setup log)
meant setup shape log = meant_alone setup shape log (answered_on shape setup log) refl refl refl

pub legal : SeenReportsAreHistories
legal shape setup log = report_history setup shape 0 log (answered_on shape setup log) (meant setup shape log)

-- a report can be made of the answers, by the tags alone
pub answering : (setup : SetupValue) (shape : ShapeValue) (log : List Entry) → IsSetup setup
    → IsAnswering setup (length (bare log)) (answered_on shape setup log)
answering setup shape log lawful =
    subst (λ (n : ℕ). IsAnswering setup n (answered_on shape setup log)) (sym (bare_long log))
    (are_answering setup shape 0 log (answered_on shape setup log) lawful (meant setup shape log))

-- the pass reads on
pub still_reading : (log : LogValue) (m n : PassValue) → IsReading log m → OnlyWalked m n → IsReading log n
still_reading log m n reading walked =
    let seen : (n.view).seen ≡ (m.view).seen = ap (λ (h : PassValue). (h.view).seen) walked.same in
    record {
      of = record {
        table = ap (λ (h : PassValue). h.table) walked.same ∙ reading.of.table;
        nodes = ap (λ (h : PassValue). h.nodes) walked.same ∙ reading.of.nodes;
      };
      few = subst (λ (es : List Entry). length es ≤ log.shape.capacity) (sym seen) reading.few;
      fit = λ o e at. reading.fit o e (ap (λ (es : List Entry). slice_get es o) (sym seen) ∙ at);
    }
