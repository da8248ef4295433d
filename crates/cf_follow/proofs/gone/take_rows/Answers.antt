use Rattle.std.proofs.Common.{ap, arith}
use Rattle.std.specs.Option.{is_some}
use Rattle.cf_follow.proofs.Hearing.{all_gone, none_gone, row_away, row_ends, row_gone, set_refl, set_trans}
use Rattle.cf_follow.proofs.gone.take_rows.Goals as goal

pub loop-row-init : goal.loop-row-init
loop-row-init g c = record {
  set = set_refl c.args.rounds.now;
  unspent = c.requires.open;
  within = c.requires.within;
  gone = none_gone c.args.rounds.now (g.K.Sink.held c.args.sink.now) c.requires.within;
  later = omega arith;
}

pub loop-row-preserved : goal.loop-row-preserved
loop-row-preserved g c =
    let v = c.loop-row.invariant in
    let found = rw c.in-Ok-None.is at c.take_row.ensures.gone in
    let more = rw c.in-Ok-None.field-0-is at found in
    let later = v.later in
    let on = c.take_row.ensures.later in record {
      set = set_trans c.args.rounds.now c.loop-row.rounds c.take_row.new.rounds v.set c.take_row.ensures.set;
      unspent = c.in-Ok-None.ensures.open (ap is_some c.in-Ok-None.field-0-is);
      within = c.in-Ok-None.ensures.within;
      gone = row_gone c.args.rounds.now c.loop-row.rounds c.args.rows.now c.loop-row.row-index c.row-item.result (g.K.Sink.held c.args.sink.now)
          (g.K.Sink.held c.loop-row.sink) v.set v.gone (omega arith) c.row-item.is c.take_row.new.rounds (g.K.Sink.held c.take_row.new.sink) more;
      later = omega (arith, later, on);
    }

pub returns-in-Ok-Some-clause-gone : goal.returns-in-Ok-Some-clause-gone
returns-in-Ok-Some-clause-gone g c =
    let v = c.loop-row.invariant in
    let found = rw c.in-Ok-Some.is at c.take_row.ensures.gone in
    let part = rw c.in-Ok-Some.field-0-is at found in
    row_away c.args.rounds.now c.loop-row.rounds c.args.rows.now c.loop-row.row-index c.row-item.result (g.K.Sink.held c.args.sink.now)
    (g.K.Sink.held c.loop-row.sink) v.set v.gone (omega arith) c.row-item.is c.take_row.new.rounds (g.K.Sink.held c.take_row.new.sink) c.in-Ok-Some.why part

pub returns-in-Err-clause-gone : goal.returns-in-Err-clause-gone
returns-in-Err-clause-gone g c =
    let v = c.loop-row.invariant in
    row_ends c.args.rounds.now c.loop-row.rounds c.args.rows.now c.loop-row.row-index c.row-item.result (g.K.Sink.held c.args.sink.now)
    (g.K.Sink.held c.loop-row.sink) v.set v.gone (omega arith) c.row-item.is (g.K.Sink.held c.take_row.new.sink) c.in-Err.ending c.in-Err.ensures.gone

pub returns-clause-gone : goal.returns-clause-gone
returns-clause-gone g c =
    all_gone c.args.rounds.now c.loop-row.rounds c.args.rows.now c.loop-row.row-index (g.K.Sink.held c.args.sink.now) (g.K.Sink.held c.loop-row.sink)
    c.loop-row.invariant.gone (omega arith)
