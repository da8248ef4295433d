use Rattle.cf_append.proofs.Answering.{rests_same}
use Rattle.cf_append.proofs.Settling.{goes_then, stops_still}
use Rattle.cf_append.proofs.Whole.{waited}
use Rattle.cf_append.proofs.appends.append_wait.Goals as goal

pub returns-clause-appended : goal.returns-clause-appended
returns-clause-appended g c =
    let s = c.args.log.now.shape in
    let m = c.args.pass.now in
    let n = c.append.new.pass in
    let o = c.wait_for.new.pass in
    let did = c.in_ok-offset.ensures.appended in
    let then = c.wait_for.ensures.waited in
    record {
      goes_on = goes_then m n o did.goes_on then.goes_on;
      rest = rests_same n.view o.view then.books did.rest;
      answer = waited s c.args.row.now m n o c.in_ok-offset.offset did.answer then.books then.covered;
      begins = λ so. then.begins (did.begins so);
      stops = stops_still s m n o then.goes_on did.stops then.stops;
      alone = λ one. then.alone one did.rest (did.alone one);
    }
