use Rattle.std.proofs.Common.{◌≡◌, ◌≤◌, ◌++◌, All, length, map}
use Rattle.std.specs.Vec.Iter.{into_iter_items, into_iter_len}
use Rattle.cf_fill.specs.Work.{shape_for}
use Rattle.cf_intake.specs.Parts.{rows_each}
use Rattle.cf_row.specs.Row.{Fits}
use Rattle.cf_run.specs.Parts.{ends_each}
use Rattle.cf_snapshot.specs.Courses.{idle_course}
use Rattle.cf_run.proofs.snapshot.open_hosts.Given as goal

abbrev pub invariant-loop-captured : goal.invariant-loop-captured
invariant-loop-captured l = record {
  courses : l.courses.items ++ map (idle_course (shape_for l.log.setup.now l.log.sizes)) (rows_each (into_iter_items l.captured-iterator))
      ≡ map (idle_course (shape_for l.log.setup.now l.log.sizes)) (rows_each l.fn.captures.items);
  ends : l.ends.items ++ ends_each (into_iter_items l.captured-iterator) ≡ ends_each l.fn.captures.items;
  fit : All (All (Fits l.log.setup.now.schema)) (rows_each (into_iter_items l.captured-iterator));
  few : All (λ rows. length rows ≤ l.log.sizes.capacity) (rows_each (into_iter_items l.captured-iterator));
  len : into_iter_len l.captured-iterator ≡ length (into_iter_items l.captured-iterator);
}
