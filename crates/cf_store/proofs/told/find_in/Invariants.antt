use Rattle.std.proofs.Common.{◌≡◌, length}
use Rattle.std.specs.List.{AllZip}
use Rattle.cf_plain.specs.Asks.{rows_in}
use Rattle.cf_plain.specs.Segments.{finding_in}
use Rattle.cf_store.specs.Ends.{Walks, seen_upto}
use Rattle.cf_store.proofs.told.find_in.Given as goal

abbrev pub invariant-loop-k : goal.invariant-loop-k
invariant-loop-k l = record {
  long : length l.rest ≡ length l.fn.rest;
  walked : AllZip Walks l.fn.rest l.rest;
  count : l.count ≡ length (seen_upto l.fn.pass l.fn.rest l.k);
  found : l.found ≡ finding_in l.fn.shared.log.shape l.question (rows_in (seen_upto l.fn.pass l.fn.rest l.k));
}
