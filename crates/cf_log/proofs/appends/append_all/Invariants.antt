use Rattle.std.proofs.Common.{◌≡◌, Ok, length, take, drop}
use Rattle.cf_table.specs.Values.{IsOf}
use Rattle.cf_append.specs.Appends.{HasAppended, Rests}
use Rattle.cf_append.specs.Paths.{Remembers}
use Rattle.cf_log.specs.Chains.{Chain}
use Rattle.cf_log.proofs.appends.append_all.Given as goal

abbrev pub invariant-loop-k : goal.invariant-loop-k
invariant-loop-k l = record {
  of : IsOf l.pass l.log;
  rest : Rests (l.pass).view;
  near : Remembers (l.log).shape (l.pass).view l.leaves;
  chain : Chain (λ row m n o. HasAppended (l.log).shape row m n (Ok o)) (take l.k l.rows) l.fn.pass l.pass (take l.k l.offsets);
  after : drop l.k l.offsets ≡ drop l.k l.fn.offsets;
  long : length l.offsets ≡ length l.fn.offsets;
}
