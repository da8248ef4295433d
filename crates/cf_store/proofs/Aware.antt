-- A reader's pass stays one whose records the log may have.
use Rattle.std.proofs.Common.{◌≡◌, ◌∙◌, ◌≤◌, ◌<◌, ℕ, List, Some, length, slice_get, get_or, ap, sym, subst}
use Rattle.std.proofs.lemmas.Option.{slice_get-get_or}
use Rattle.cf_row.specs.declared.row.Entry.{Entry}
use Rattle.cf_row.specs.Row.{Fits, RowValue}
use Rattle.cf_shape.specs.Lanes.{ShapeValue}
use Rattle.cf_law.specs.Passes.{Pass}
use Rattle.cf_plain.specs.Asks.{row_at, rows_in}
use Rattle.cf_table.specs.Values.{PassValue, LogValue, IsOf}
use Rattle.cf_table.specs.Moves.{AreFit, OnlyLooked, IsReading}
use Rattle.cf_query.specs.Walks.{OnlyWalked}
use Rattle.cf_query.specs.Asking.{HasAsked}
use Rattle.cf_table.proofs.Reading.{no_entry}
use Rattle.cf_query.proofs.Walking.{walked_looked}
use Rattle.cf_query.proofs.Tallied.{row_is, fits_of}

pub asked_aware : (log : LogValue) (m n : PassValue) → IsOf m log → HasAsked log.shape m n → IsReading log n
asked_aware log m n of asked = record {
  of = record { table = ap (λ (h : PassValue). h.table) asked.same ∙ of.table; nodes = ap (λ (h : PassValue). h.nodes) asked.same ∙ of.nodes };
  few = asked.few;
  fit = asked.fit;
}

pub walked_aware : (log : LogValue) (m n : PassValue) → IsReading log m → OnlyWalked m n → IsReading log n
walked_aware log m n aware walked =
    let seen : (n.view).seen ≡ (m.view).seen = ap (λ (h : PassValue). (h.view).seen) walked.same in
    record {
      of = record {
        table = ap (λ (h : PassValue). h.table) walked.same ∙ aware.of.table;
        nodes = ap (λ (h : PassValue). h.nodes) walked.same ∙ aware.of.nodes;
      };
      few = subst (λ (es : List Entry). length es ≤ log.shape.capacity) (sym seen) aware.few;
      fit = λ o e at. aware.fit o e (ap (λ (es : List Entry). slice_get es o) (sym seen) ∙ at);
    }

pub looked_aware : (log : LogValue) (m n : PassValue) → IsReading log m → OnlyLooked m n → IsReading log n
looked_aware log m n aware looked = walked_aware log m n aware (walked_looked m n looked)

-- the row of a record that was seen fits
pub row_fits : (shape : ShapeValue) (p : Pass) (o : ℕ) (row : RowValue) → AreFit shape p → o < length p.seen → row ≡ row_at (rows_in p.seen) o
    → Fits shape.schema row
row_fits shape p o row fit lt is =
    let e = get_or p.seen o no_entry in
    let at : slice_get p.seen o ≡ Some e = slice_get-get_or p.seen o no_entry lt in
    subst (λ (r : RowValue). Fits shape.schema r) (row_is p.seen o e at ∙ sym is) (fits_of shape e (fit o e at))
