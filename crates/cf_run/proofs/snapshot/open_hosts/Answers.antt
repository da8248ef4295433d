use Rattle.std.proofs.Common.{◌≡◌, ◌∙◌, ◌≤◌, ℕ, suc, List, [], ◌∷◌, ◌++◌, All, Option, length, map, append_assoc, sym, ap, subst, arith}
use Rattle.std.specs.Vec.Iter.{into_iter_items}
use Rattle.cf_fill.specs.Work.{shape_for}
use Rattle.cf_intake.specs.Parts.{rows_each}
use Rattle.cf_row.specs.Row.{RowValue, Fits}
use Rattle.cf_run.specs.Parts.{ends_each}
use Rattle.cf_shape.specs.Lanes.{ShapeValue}
use Rattle.cf_snapshot.specs.Courses.{CourseValue, idle_course}
use Rattle.cf_intake.specs.declared.rows.Captured.{Captured}
use Rattle.cf_run.proofs.snapshot.open_hosts.Goals as goal

later : (P : List RowValue → Type 0) (hosts : List Captured) (host : Captured) (rest : List Captured) → hosts ≡ host ∷ rest → All P (rows_each hosts)
    → All P (rows_each rest)
later P hosts host rest is all k d lt = subst (λ (hs : List Captured). All P (rows_each hs)) is all (suc k) d (omega (arith, lt))

first : (P : List RowValue → Type 0) (hosts : List Captured) (host : Captured) (rest : List Captured) → hosts ≡ host ∷ rest → All P (rows_each hosts)
    → P host.rows.items
first P hosts host rest is all = subst (λ (hs : List Captured). All P (rows_each hs)) is all 0 [] (omega arith)

pub open-requires-clause-fit : goal.open-requires-clause-fit
open-requires-clause-fit c =
    let host : Captured = c.in-Some.captured in
    subst (λ (s : ShapeValue). All (Fits s.schema) host.rows.items) (sym c.in_ok-shape.ensures)
    (first (All (Fits c.args.log.now.setup.now.schema)) (into_iter_items c.loop-captured.captured-iterator) host (into_iter_items c.next.new.self)
    c.in-Some.ensures.steps.0 c.loop-captured.invariant.fit)

pub open-requires-clause-few : goal.open-requires-clause-few
open-requires-clause-few c =
    let host : Captured = c.in-Some.captured in
    subst (λ (s : ShapeValue). length host.rows.items ≤ s.capacity) (sym c.in_ok-shape.ensures)
    (first (λ rows. length rows ≤ c.args.log.now.sizes.capacity) (into_iter_items c.loop-captured.captured-iterator) host (into_iter_items c.next.new.self)
    c.in-Some.ensures.steps.0 c.loop-captured.invariant.few)

pub loop-captured-preserved : goal.loop-captured-preserved
loop-captured-preserved c =
    let shape = shape_for c.args.log.now.setup.now c.args.log.now.sizes in
    let i = c.loop-captured.invariant in
    let host : Captured = c.in-Some.captured in
    let rest : List Captured = into_iter_items c.next.new.self in
    let split : into_iter_items c.loop-captured.captured-iterator ≡ host ∷ rest = c.in-Some.ensures.steps.0 in
    let long = ap (λ (hs : List Captured). length hs) split in
    let opened = c.in_ok-open.ensures ∙ ap (λ (s : ShapeValue). idle_course s host.rows.items) c.in_ok-shape.ensures in
    record {
      courses = ap (λ (cs : List CourseValue). cs ++ map (idle_course shape) (rows_each rest))
          (c.in_ok-push.ensures.items ∙ ap (λ (x : CourseValue). c.loop-captured.courses.items ++ x ∷ []) opened)
          ∙ append_assoc c.loop-captured.courses.items (idle_course shape host.rows.items ∷ []) (map (idle_course shape) (rows_each rest))
          ∙ ap (λ (hs : List Captured). c.loop-captured.courses.items ++ map (idle_course shape) (rows_each hs)) (sym split) ∙ i.courses;
      ends = ap (λ (es : List (Option ℕ)). es ++ ends_each rest) c.in_ok-push-2.ensures.items
          ∙ append_assoc c.loop-captured.ends.items (host.cut ∷ []) (ends_each rest)
          ∙ ap (λ (hs : List Captured). c.loop-captured.ends.items ++ ends_each hs) (sym split) ∙ i.ends;
      fit = later (All (Fits c.args.log.now.setup.now.schema)) (into_iter_items c.loop-captured.captured-iterator) host rest split i.fit;
      few = later (λ rows. length rows ≤ c.args.log.now.sizes.capacity) (into_iter_items c.loop-captured.captured-iterator) host rest split i.few;
      len = (let step = c.in-Some.ensures.steps.1 in let len = i.len in omega (arith, step, len, long));
    }
