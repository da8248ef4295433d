use Rattle.std.proofs.Common.{◌≡◌, All, map}
use Rattle.std.specs.List.{range_with_len}
use Rattle.cf_row.specs.Row.{Fits}
use Rattle.confluo_example.specs.Example.{sent}
use Rattle.confluo_example.proofs.rows_of.Given as goal

abbrev pub invariant-loop-k : goal.invariant-loop-k
invariant-loop-k l = record {
  rows : (l.rows).items ≡ map (sent l.source) (range_with_len 0 l.k);
  fit : All (Fits l.schema) (l.rows).items;
}
