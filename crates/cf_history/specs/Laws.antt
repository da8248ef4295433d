-- Laws of orders and their logs, and of spelled histories.
use Rattle.std.specs.Prelude.{◌≡◌, ℕ, ◌<◌, ◌↔◌, List, length, Some, slice_get}
use Rattle.cf_row.specs.Row.{RowValue}
use Rattle.cf_row.specs.declared.row.Entry.{Entry}
use Rattle.cf_history.specs.History.{AskReply, spell}
use Rattle.cf_history.specs.History.HistoryEvent.{Appended, Asked}
use Rattle.cf_history.specs.Order.{IsOrder, log_of, IsLogOf, order_of}

-- A valid order gives a log in which each row stands once, and this log has that order.
abbrev pub OrdersGiveLogs : Type 0
OrdersGiveLogs =
    (rows : List RowValue) (writers : ℕ) (order : List ℕ) → 0 < writers → IsOrder order (length rows) writers
    → IsLogOf rows writers (log_of rows writers order) × (order_of (log_of rows writers order) ≡ order)

-- Each row stands once in a log exactly where the log's order is valid and it is the log of that order.
abbrev pub LogsHaveOrders : Type 0
LogsHaveOrders =
    (rows : List RowValue) (writers : ℕ) (log : List Entry) → 0 < writers → IsLogOf rows writers log
    ↔ (IsOrder (order_of log) (length rows) writers × (log ≡ log_of rows writers (order_of log)))

-- In a spelled history a question stands after each append below its tail, and before each other append.
abbrev pub QuestionsKeepTheirPlace : (E A B : Type 0) → Type 0
QuestionsKeepTheirPlace E A B =
    (log : List E) (passes : List (List (AskReply A B))) (i j : ℕ) (entry : E) (offset pass : ℕ) (told : AskReply A B) →
    slice_get (spell log passes) i ≡ Some (Appended entry offset) → slice_get (spell log passes) j ≡ Some (Asked pass told) →
    (i < j) ↔ (offset < told.tail)
