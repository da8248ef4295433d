use Rattle.std.proofs.Common.{◌≡◌, map, take}
use Rattle.cf_plain.specs.Asks.{rows_in}
use Rattle.cf_plain.specs.Groups.{pair_of}
use Rattle.cf_plain.proofs.Ones.{ones}
use Rattle.cf_query.specs.Looking.{HasLooked}
use Rattle.cf_query.proofs.apart.groups_by_entry.Given as goal

abbrev pub invariant-loop-offset : goal.invariant-loop-offset
invariant-loop-offset g l = record {
  found : map pair_of l.each.items ≡ ones (l.log).shape l.lane (take l.offset (rows_in ((g.P.Pass.held l.fn.pass).view).seen));
  looked : HasLooked (g.P.Pass.held l.fn.pass) (g.P.Pass.held l.pass) l.fn.steps l.steps;
}
