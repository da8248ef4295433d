use Rattle.std.proofs.Common.{◌≡◌, ◌≤◌, All, length, take}
use Rattle.cf_row.specs.Row.{Fits}
use Rattle.cf_intake.specs.Parts.{AreFirstOf, attrs_in, captured_each, captures_by, rows_each}
use Rattle.cf_intake.specs.Several.{names_in}
use Rattle.cf_intake.proofs.hosts.read_hosts.Given as goal

abbrev pub invariant-loop-name : goal.invariant-loop-name
invariant-loop-name g l = record {
  files : g.F.Shelf.files l.shelf ≡ g.F.Shelf.files l.fn.shelf;
  read : AreFirstOf (captures_by l.manner) (g.F.Shelf.files l.fn.shelf) (names_in (take l.name-index l.names))
      (g.F.Shelf.rest l.shelf) l.most (captured_each l.hosts.items);
  cause : g.F.Shelf.faults l.fn.shelf ≤ g.F.Shelf.faults l.shelf;
  fit : All (All (Fits (attrs_in l.manner.format))) (rows_each l.hosts.items);
  count : length l.hosts.items ≡ l.name-index;
}
