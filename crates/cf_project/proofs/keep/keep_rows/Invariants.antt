use Rattle.std.proofs.Common.{◌≡◌, ◌++◌, drop, map, take}
use Rattle.cf_project.specs.Projected.{row_kept}
use Rattle.cf_project.proofs.keep.keep_rows.Given as goal

abbrev pub invariant-loop-place : goal.invariant-loop-place
invariant-loop-place l = l.rows ≡ map (row_kept l.kept) (take l.place l.initial.rows) ++ drop l.place l.initial.rows
