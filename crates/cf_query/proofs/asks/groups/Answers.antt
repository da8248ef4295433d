use Rattle.std.proofs.Common.{◌∙◌, List, length, map, ap}
use Rattle.cf_row.specs.declared.row.Entry.{Entry}
use Rattle.cf_plain.specs.Asks.{rows_in}
use Rattle.cf_plain.specs.Groups.{groups, as_group}
use Rattle.cf_query.proofs.Walking.{asked_walked, walked_seen, refused_too}
use Rattle.cf_query.proofs.asks.groups.Goals as goal

pub returns-clause-ok : goal.returns-clause-ok
returns-clause-ok g c =
    let m = g.P.Pass.held c.args.pass.now in
    let n = g.P.Pass.held c.tail-tail.new.pass in
    let o = g.P.Pass.held c.groups_seen.new.pass in
    let seen = walked_seen n o c.groups_seen.ensures.walked.only in (
      asked_walked c.args.log.now.shape m n o c.tail-tail.ensures.asked c.groups_seen.ensures.walked.only,
      c.tail-tail.ensures.tail ∙ ap (λ (es : List Entry). length es) seen,
      c.in_ok-groups.ensures.found ∙ ap (λ (es : List Entry). map as_group (groups c.args.log.now.shape c.args.lane (rows_in es))) seen,
    )

pub returns-in_err-groups-clause-memory : goal.returns-in_err-groups-clause-memory
returns-in_err-groups-clause-memory g c =
    refused_too c.from_residual.result
    (asked_walked c.args.log.now.shape (g.P.Pass.held c.args.pass.now) (g.P.Pass.held c.tail-tail.new.pass)
    (g.P.Pass.held c.groups_seen.new.pass) c.tail-tail.ensures.asked c.groups_seen.ensures.walked.only)
