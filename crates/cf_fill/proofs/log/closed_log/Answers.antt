use Rattle.std.proofs.Common.{◌≡◌, Err, rules}
use Rattle.cf_fill.proofs.Filled.{filled_sealed, filled_unmade}
use Rattle.cf_fill.proofs.Logs.{sealed_even, tagged_of}
use Rattle.cf_fill.proofs.log.closed_log.Goals as goal

pub new-requires : goal.new-requires
new-requires g c =
    let f = c.args.filling in
    let given = c.requires.filled in
    sealed_even f.segments.shape f.loader.plan given.0 c.in_ok-sealing.sealing c.in_ok-sealing.answers (c.in_ok-sealing.ensures given.0 given.1)

pub returns : goal.returns
returns g c = λ setup sizes rounds rows is.
    let f = c.args.filling in
    let sealing = c.in_ok-sealing.sealing in
    let answers = c.in_ok-sealing.answers in
    tagged_of setup sizes.capacity sizes.writers sizes.nodes rounds f.loader.plan rows sealing c.new.result answers is.plan
    (filled_sealed setup sizes rounds f rows is sealing answers c.in_ok-sealing.ensures) c.new.ensures

pub returns-in_err-sealing : goal.returns-in_err-sealing
returns-in_err-sealing g c = λ setup sizes rounds rows is.
    let f = c.args.filling in
    let same : c.from_residual.result ≡ Err c.in_err-sealing.field-0.0 = search rules in
    rw same (filled_unmade setup sizes rounds f rows is c.in_err-sealing.field-0.0 c.in_err-sealing.ensures)
