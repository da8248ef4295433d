use Rattle.std.proofs.Common.{rules, ◌≡◌, ◌++◌, Bool, List, true, None, Ok, Err, subst}
use Rattle.cf_row.specs.Row.{RowValue}
use Rattle.cf_long.specs.Ends.{AreTaken}
use Rattle.cf_long.proofs.Ends.{all_many, come_of, full_so, untaken_now}
use Rattle.cf_long.proofs.reads.take_last.Goals as goal

pub returns-in_err-full-clause-come : goal.returns-in_err-full-clause-come
returns-in_err-full-clause-come g c = λ series told now into.
    let halt = c.in_err-full.field-0.0 in
    let same : c.from_residual.result ≡ Err halt = search rules in
    let rows : List RowValue = into.rows ++ into.behind.more in
    rw same (untaken_now series told now c.take.new.long rows halt (come_of series told now rows c.args.ahead.end into.behind.next)
    (c.in_err-full.ensures.taken into.rows into.behind.more into.is into.behind.left))

pub returns-in_default-clause-come : goal.returns-in_default-clause-come
returns-in_default-clause-come g c = λ series told now into.
    let rows : List RowValue = into.rows ++ into.behind.more in
    let full : c.in_ok-full.full ≡ true = search rules in
    let taken = subst (λ (b : Bool). AreTaken c.take.new.long rows (Ok b)) full
    (c.in_ok-full.ensures.taken into.rows into.behind.more into.is into.behind.left) in
    (rows, come_of series told now rows c.args.ahead.end into.behind.next, taken.0, taken.1)

pub returns-in_default-2-clause-come : goal.returns-in_default-2-clause-come
returns-in_default-2-clause-come g c = λ series told now into.
    let rows : List RowValue = into.rows ++ into.behind.more in
    let none : c.args.ahead.end ≡ None = search rules in
    let many = all_many c.args.long.now into.rows into.behind.more c.args.ahead.rows.items into.is into.behind.left (c.requires.last none) in
    let taken = full_so c.take.new.long rows c.in_ok-full.full
    (c.in_ok-full.ensures.taken into.rows into.behind.more into.is into.behind.left) many in
    (rows, come_of series told now rows c.args.ahead.end into.behind.next, taken.0, taken.1)
