use Rattle.std.proofs.Common.{rules, arith, ◌≡◌, length}
use Rattle.cf_records.proofs.First.{kept_more, kept_same}
use Rattle.cf_records.proofs.read.keep_row.Goals as goal

pub returns-in_ok-push : goal.returns-in_ok-push
returns-in_ok-push c = λ all first.
    let long : c.len.result ≡ length c.args.rows.now.items = search rules in
    let few = c.if-len-most.true in
    kept_more c.args.most all c.args.rows.now.items c.push.new.self.items c.args.row (omega (arith, long, few)) c.in_ok-push.ensures.items first

pub returns-else-len-most : goal.returns-else-len-most
returns-else-len-most c = λ all first.
    let long : c.len.result ≡ length c.args.rows.now.items = search rules in
    let many = c.if-len-most.false in
    kept_same c.args.most all c.args.rows.now.items c.args.row (omega (arith, long, many)) first
