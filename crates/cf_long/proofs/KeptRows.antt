-- What is kept of a log's rows means the same.
use Rattle.std.proofs.Common.{◌≡◌, ◌∙◌, ℕ, zero, suc, ◌*◌, ◌<◌, ◌^◌, Bool, List, [], ◌∷◌, ◌++◌, length, map, take, drop, get_or, All, Result, Ok, Err, IfOk, IfErr, refl, sym, ap, ap₂, subst, arith}
use Rattle.std.specs.List.{list_all}
use Rattle.std.proofs.lemmas.List.{drop-map, length-map, map-append, take-map}
use Rattle.std.proofs.lemmas.List.Elements.{All-map}
use Rattle.cf_row.proofs.Truths.{both}
use Rattle.cf_row.specs.declared.schema.Attr.{Attr}
use Rattle.cf_row.specs.Row.{Fits, RowValue}
use Rattle.cf_fold.specs.declared.trigger.Trigger.{Trigger}
use Rattle.cf_shape.specs.Lanes.{IsShape, ShapeValue}
use Rattle.cf_shape.specs.Nodes.{distinct}
use Rattle.cf_plain.specs.Asks.{eval_rows, marks_over, row_at}
use Rattle.cf_plain.specs.declared.answer.Body.{Body}
use Rattle.cf_plain.specs.declared.ask.Ask.{Ask}
use Rattle.cf_plain.proofs.Totals.{map_agree}
use Rattle.cf_project.specs.Keeping.{keep}
use Rattle.cf_project.specs.Named.{KeepsAsks, KeepsShape, keeps_ask}
use Rattle.cf_project.specs.Projected.{ask_kept, row_kept, shape_kept}
use Rattle.cf_project.proofs.Found.{answers_same, marks_same}
use Rattle.cf_project.proofs.Meant.{nodes_same}
use Rattle.cf_project.proofs.Schemas.{fit_kept}
use Rattle.cf_segments.specs.Blocks.{block}
use Rattle.cf_fill.specs.Logs.{IsUnmade}
use Rattle.cf_fill.specs.declared.log.Unmade.{Unmade}
use Rattle.cf_fill.specs.declared.log.Unmade.TheVariants as unmade
use Rattle.cf_fill.proofs.Sealing.{needs_more}
use Rattle.cf_long.specs.Answered.{AreAnswers}
use Rattle.cf_long.specs.ByRow.{AreNumbered}
use Rattle.cf_long.specs.Kept.{IsKeptLong, IsSomeKept, KeepsKept, KeptLongValue, TakesLeft}
use Rattle.cf_long.specs.Longs.{HaveNodes, IsLong, MayFollow, LongValue, count_of, shape_in}
use Rattle.cf_long.specs.declared.answers.Answers.{Answers}
use Rattle.cf_long.proofs.Longs.{counted}
use Rattle.cf_long.proofs.Nodes.{lack_in}

module _ (kept : List Bool) where
  -- numbers stay
  num_left : (rows : List RowValue) (place : ℕ) → (row_at (map (row_kept kept) rows) place).num ≡ (row_at rows place).num
  num_left [] place = refl
  num_left (row ∷ rows) zero = refl
  num_left (row ∷ rows) (suc place) = num_left rows place

  pub numbered_left : (first : ℕ) (rows : List RowValue) → AreNumbered first rows → AreNumbered first (map (row_kept kept) rows)
  numbered_left first rows is = λ place low.
      let size = length-map rows (row_kept kept) in num_left rows place ∙ is place (omega (arith, low, size))

  pub numbered_whole : (first : ℕ) (rows : List RowValue) → AreNumbered first (map (row_kept kept) rows) → AreNumbered first rows
  numbered_whole first rows is = λ place low.
      let size = length-map rows (row_kept kept) in sym (num_left rows place) ∙ is place (omega (arith, low, size))

  -- and rows that may follow, may
  pub follow_left : (long : LongValue) (rows : List RowValue) → MayFollow long rows → MayFollow long (map (row_kept kept) rows)
  follow_left long rows may = record {
    numbered = numbered_left (count_of long) rows may.numbered;
    few = (let size = length-map rows (row_kept kept) in let few = may.few in omega (arith, size, few));
  }

  module _ (shape : ShapeValue) where
    abbrev less : ShapeValue
    less = shape_kept kept shape

    pub fit_left : (rows : List RowValue) → All (Fits shape.schema) rows → All (Fits less.schema) (map (row_kept kept) rows)
    fit_left rows fit =
        All-map (Fits less.schema) (row_kept kept) rows (λ k d low. fit_kept kept shape.schema (get_or rows k d).values (fit k d low))

    module _ (keeps : KeepsShape kept shape) (lawful : IsShape shape) where
      -- a block of the rows is what is kept of theirs
      nodes_left : (k : ℕ) (rows : List RowValue)
          → distinct less (block shape.capacity k (map (row_kept kept) rows)) ≡ distinct shape (block shape.capacity k rows)
      nodes_left k rows =
          let n = shape.capacity in
          let part : block n k (map (row_kept kept) rows) ≡ map (row_kept kept) (block n k rows) =
          ap (take n) (drop-map (row_kept kept) (n * k) rows) ∙ take-map (row_kept kept) n (drop (n * k) rows) in
          ap (distinct less) part ∙ nodes_same kept shape keeps lawful (block n k rows)

      pub nodes_whole : (rows : List RowValue) → HaveNodes less (map (row_kept kept) rows) → HaveNodes shape rows
      nodes_whole rows few = λ k. (let same = nodes_left k rows in let low = few k in omega (arith, same, low))

      pub unmade_whole : (rows : List RowValue) (why : Unmade) → IsUnmade less (map (row_kept kept) rows) why → IsUnmade shape rows why
      unmade_whole rows unmade.Nodes lack =
          let at = lack_in less shape.nodes (map (row_kept kept) rows) lack in
          needs_more shape shape.nodes rows at.0 (let same = nodes_left at.0 rows in let many = at.1 in omega (arith, same, many))
      unmade_whole rows unmade.Memory lack = tt

      module _ (rows : List RowValue) where
        finals_whole : (asks : List Ask) → KeepsAsks kept asks
            → map (λ ask. eval_rows less ask (map (row_kept kept) rows)) (map (ask_kept kept) asks) ≡ map (λ ask. eval_rows shape ask rows) asks
        finals_whole [] are = refl
        finals_whole (ask ∷ asks) are =
            let parts = both (keeps_ask kept ask) (list_all (keeps_ask kept) asks) are in
            ap₂ (λ (b : Body) (bs : List Body). b ∷ bs) (answers_same kept shape keeps lawful rows ask parts.0) (finals_whole asks parts.1)

        -- what is answered about what is kept is answered about the rows
        pub answers_whole : (asks : List Ask) (triggers : List Trigger) (answers : Answers) → KeepsAsks kept asks
            → AreAnswers less (map (ask_kept kept) asks) triggers (map (row_kept kept) rows) answers → AreAnswers shape asks triggers rows answers
        answers_whole asks triggers answers keep are = record {
          count = are.count ∙ length-map rows (row_kept kept);
          finals = are.finals ∙ finals_whole asks keep;
          alerts = are.alerts
              ∙ map_agree (λ trigger. marks_over less trigger (map (row_kept kept) rows)) (λ trigger. marks_over shape trigger rows)
              (marks_same kept shape keeps lawful rows) triggers;
        }

-- How many rows came, fewer than are numbered, and how.
module _ (log : KeptLongValue) (rows : List RowValue) (is : IsKeptLong log rows) where
  pub counted_kept : count_of log.long ≡ length rows
  counted_kept = counted log.long (map (row_kept log.kept) rows) is.is ∙ length-map rows (row_kept log.kept)

  pub few_kept : length rows < 2 ^ 32
  few_kept = (let size = length-map rows (row_kept log.kept) in let few = is.is.few in omega (arith, size, few))

  pub numbered_kept : AreNumbered 0 rows
  numbered_kept = numbered_whole log.kept 0 rows is.is.numbered

-- more rows came
pub taken_kept : (old new : KeptLongValue) (before rows : List RowValue) → IsKeptLong old before → KeepsKept old new → shape_in new.long ≡ shape_in old.long
    → IsLong new.long (map (row_kept old.kept) before ++ map (row_kept old.kept) rows) → IsKeptLong new (before ++ rows)
taken_kept old new before rows is keeps same taken = record {
  lawful = subst IsShape (sym keeps.shape) is.lawful;
  keeps = rw (keeps.kept, keeps.shape) is.keeps;
  shape_left = same ∙ (is.shape_left ∙ ap₂ (λ (ms : List Bool) (h : ShapeValue). shape_kept ms h) (sym keeps.kept) (sym keeps.shape));
  is = rw keeps.kept (subst (λ (rs : List RowValue). IsLong new.long rs) (sym (map-append (row_kept old.kept) before rows)) taken);
}

-- what was not made of what is kept of more rows
pub unmade_kept : (log : KeptLongValue) (before rows : List RowValue) (why : Unmade) → IsKeptLong log before
    → IsUnmade (shape_in log.long) (map (row_kept log.kept) before ++ map (row_kept log.kept) rows) why → IsUnmade log.shape (before ++ rows) why
unmade_kept log before rows why is lack =
    unmade_whole log.kept log.shape is.keeps is.lawful (before ++ rows) why
    (subst (λ (rs : List RowValue). IsUnmade (shape_kept log.kept log.shape) rs why) (sym (map-append (row_kept log.kept) before rows))
    (subst (λ (h : ShapeValue). IsUnmade h (map (row_kept log.kept) before ++ map (row_kept log.kept) rows) why) is.shape_left lack))

-- what becomes of rows of which this is left
pub takes_left : (old new : KeptLongValue) (left : List RowValue) (result : Result (Unit {0}) Unmade) → KeepsKept old new
    → shape_in new.long ≡ shape_in old.long
    → IfOk result (λ _. (before : List RowValue) → IsLong old.long before → IsLong new.long (before ++ left))
    → IfErr result (λ why. (before : List RowValue) → IsLong old.long before → IsUnmade (shape_in old.long) (before ++ left) why)
    → TakesLeft old new left result
takes_left old new left (Ok done) keeps same taken lack = λ before more is left_is.
    taken_kept old new before more is keeps same
    (subst (λ (rs : List RowValue). IsLong new.long (map (row_kept old.kept) before ++ rs)) left_is (taken (map (row_kept old.kept) before) is.is))
takes_left old new left (Err why) keeps same taken lack = λ before more is left_is.
    unmade_kept old before more why is
    (subst (λ (rs : List RowValue). IsUnmade (shape_in old.long) (map (row_kept old.kept) before ++ rs) why) left_is
    (lack (map (row_kept old.kept) before) is.is))

-- there is a mark for each attribute
pub marks_kept : (log : KeptLongValue) → IsSomeKept log → length log.kept ≡ length log.shape.schema
marks_kept log some = some.1.keeps.marks

-- the log's attributes are those that are kept
pub attrs_kept : (log : KeptLongValue) → IsSomeKept log → (shape_in log.long).schema ≡ keep log.kept log.shape.schema
attrs_kept log some = ap (λ (h : ShapeValue). h.schema) some.1.shape_left

pub fit_kept_in : (log : KeptLongValue) (rows : List RowValue) → IsSomeKept log → All (Fits (keep log.kept log.shape.schema)) rows
    → All (Fits (shape_in log.long).schema) rows
fit_kept_in log rows some fit = subst (λ (attrs : List Attr). All (Fits attrs) rows) (sym (attrs_kept log some)) fit

-- they stay
pub attrs_stay : (old new : KeptLongValue) (rows : List RowValue) → KeepsKept old new → IsSomeKept old → IsSomeKept new
    → All (Fits (shape_in old.long).schema) rows → All (Fits (shape_in new.long).schema) rows
attrs_stay old new rows keeps was is fit =
    let same : (shape_in old.long).schema ≡ (shape_in new.long).schema =
    attrs_kept old was ∙ (ap₂ (λ (ms : List Bool) (h : ShapeValue). keep ms h.schema) (sym keeps.kept) (sym keeps.shape) ∙ sym (attrs_kept new is)) in
    subst (λ (attrs : List Attr). All (Fits attrs) rows) same fit
