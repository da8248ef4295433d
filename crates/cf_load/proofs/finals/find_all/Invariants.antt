use Rattle.std.proofs.Common.{◌≡◌, take, ◌≤◌, ◌+◌, ◌*◌}
use Rattle.std.specs.List.{flat_map}
use Rattle.cf_query.specs.Walking.{AsksOne, AsksBucket}
use Rattle.cf_query.specs.Walks.{OnlyWalked}
use Rattle.cf_load.specs.Costs.{CountLoads, bucket_steps_in, key_steps_in}
use Rattle.cf_load.specs.Priors.{HasFound}
use Rattle.cf_load.specs.Readers.{seen_by}
use Rattle.cf_segments.proofs.Changing.{Changed}
use Rattle.cf_load.proofs.finals.find_all.Given as goal

abbrev pub invariant-loop-reader : goal.invariant-loop-reader
invariant-loop-reader g l = record {
  place : l.place ≡ l.reader-index;
  walked : Changed OnlyWalked l.reader-index l.initial.readers l.readers;
  found : HasFound l.fn.shape l.ask (flat_map seen_by (take l.reader-index l.initial.readers)) l.found.0 l.found.1;
  few : l.found.0 ≤ (l.fn.shape).capacity * l.reader-index;
  steps : AsksOne l.ask → l.steps + l.reader-index ≤ l.fn.steps + key_steps_in l.fn.shape l.ask (take l.reader-index l.initial.readers);
  bucket : AsksBucket l.ask → l.steps + l.reader-index ≤ l.fn.steps + bucket_steps_in l.fn.shape l.ask (take l.reader-index l.initial.readers);
  loads : CountLoads l.initial.readers l.readers l.fn.steps l.steps;
}
