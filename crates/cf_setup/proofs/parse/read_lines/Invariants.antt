use Rattle.std.proofs.Common.{◌≡◌, ◌+◌, ◌≤◌, length}
use Rattle.cf_lines.specs.Lines.{lines_of}
use Rattle.cf_setup.specs.Drafts.{nothing_stated}
use Rattle.cf_setup.specs.Reading.{setup_from}
use Rattle.cf_setup.specs.Setups.{IsDraft}
use Rattle.cf_setup.proofs.parse.read_lines.Given as goal

abbrev pub invariant-loop-rest : goal.invariant-loop-rest
invariant-loop-rest l = record {
  read : setup_from l.number l.draft (lines_of l.rest) ≡ setup_from 1 nothing_stated (lines_of l.bytes);
  draft : IsDraft l.draft;
  few : l.number + length l.rest ≤ 1 + length l.bytes;
}

abbrev pub decreases-loop-rest : goal.decreases-loop-rest
decreases-loop-rest l = length l.rest
