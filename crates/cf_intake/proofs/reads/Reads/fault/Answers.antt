use Rattle.std.proofs.lemmas.Option.{IfSome_then}
use Rattle.cf_intake.specs.Reads.{IsOpening, IsUnderWay}
use Rattle.cf_intake.proofs.Breaking.{breaks_way, unbroken_way}
use Rattle.cf_intake.proofs.SingleReads.{opening_unbroken}
use Rattle.cf_intake.proofs.reads.Reads.fault.Goals as goal

pub returns-in-Some-clause-found : goal.returns-in-Some-clause-found
returns-in-Some-clause-found c = IfSome_then c.fault.result c.fault.ensures.found
    (λ why broken bytes rows have.
    let by : IsUnderWay c.args.self.now.schema c.in-Some.reader bytes rows = rw c.in-Some.is at have.by in
    breaks_way c.args.self.now.schema c.in-Some.reader bytes rows why by broken)

pub returns-in-Some-clause-none : goal.returns-in-Some-clause-none
returns-in-Some-clause-none c = λ none bytes rows have.
    let by : IsUnderWay c.args.self.now.schema c.in-Some.reader bytes rows = rw c.in-Some.is at have.by in
    unbroken_way c.args.self.now.schema c.in-Some.reader bytes rows by (c.fault.ensures.none none)

pub returns-in-None-clause-none : goal.returns-in-None-clause-none
returns-in-None-clause-none c = λ none bytes rows have.
    let opening : IsOpening c.args.self.now.held.items bytes rows = rw c.in-None.is at have.by in
    opening_unbroken c.args.self.now.schema c.args.self.now.held.items bytes rows opening
