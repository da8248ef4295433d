use Rattle.std.proofs.Common.{◌≡◌, ◌≤◌, take, false}
use Rattle.cf_rounds.specs.Held.{IsSetAs}
use Rattle.cf_follow.specs.Heard.{HaveAllGone}
use Rattle.cf_follow.proofs.gone.take_rows.Given as goal

abbrev pub invariant-loop-row : goal.invariant-loop-row
invariant-loop-row g l = record {
  set : IsSetAs l.initial.rounds l.rounds;
  unspent : l.rounds.is_spent ≡ false;
  within : (l.rounds.now).count ≤ l.rounds.limit;
  gone : HaveAllGone l.initial.rounds (take l.row-index l.rows) (g.K.Sink.held l.initial.sink) l.rounds (g.K.Sink.held l.sink);
  later : g.K.Sink.faults l.initial.sink ≤ g.K.Sink.faults l.sink;
}
