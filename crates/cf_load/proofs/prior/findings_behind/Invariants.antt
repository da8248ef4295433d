use Rattle.std.proofs.Common.{◌≡◌, ◌++◌, map, take, get_or}
use Rattle.cf_plain.specs.Answered.{no_ask}
use Rattle.cf_plain.specs.Asks.{rows_in}
use Rattle.cf_plain.specs.Segments.{finding_in}
use Rattle.cf_load.specs.Priors.{entries_before}
use Rattle.cf_table.specs.Moves.{IsReading}
use Rattle.cf_segments.specs.Segments.{Keeps}
use Rattle.cf_load.proofs.prior.findings_behind.Given as goal

abbrev pub invariant-loop-turn : goal.invariant-loop-turn
invariant-loop-turn g l = record {
  reader : IsReading l.log l.root;
  keeps : Keeps l.fn.root l.root;
  found : l.findings.items
      ≡ map (λ place. finding_in (l.log).shape (get_or (l.plan).asks.items place no_ask) (rows_in (entries_before l.prior ++ (l.fn.root.view).seen)))
      (take l.turn (l.plan).lives.items);
}
