use Rattle.std.proofs.Common.{◌≡◌, [], map, take, get_or}
use Rattle.cf_plain.specs.Answered.{no_ask}
use Rattle.cf_plain.specs.Asks.{rows_in}
use Rattle.cf_plain.specs.Segments.{finding_in}
use Rattle.cf_load.proofs.prior.nothings.Given as goal

abbrev pub invariant-loop-place : goal.invariant-loop-place
invariant-loop-place l = record {
  found : l.findings.items ≡ map (λ place. finding_in l._shape (get_or (l.plan).asks.items place no_ask) (rows_in []))
      (take l.place-index (l.plan).lives.items);
}
