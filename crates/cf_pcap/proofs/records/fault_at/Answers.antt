use Rattle.std.proofs.Common.{sym, ◌∙◌}
use Rattle.cf_pcap.specs.Reading.{state_of}
use Rattle.cf_pcap.proofs.Steps.{step_long}
use Rattle.cf_pcap.proofs.Units.{fault_of_head, no_head_fault, no_long_record}
use Rattle.cf_pcap.proofs.records.fault_at.Goals as goal

pub returns-in-Some : goal.returns-in-Some
returns-in-Some c =
    step_long c.args.scope (state_of c.args.header c.args.num) c.in-Some.header c.args.bytes.now c.in-Some.is (c.is_too_long.ensures.yes c.if-is_too_long.true)

pub returns-in-Some-2 : goal.returns-in-Some-2
returns-in-Some-2 c =
    no_long_record c.args.scope (state_of c.args.header c.args.num) c.in-Some.header c.args.bytes.now c.in-Some.is
    (c.is_too_long.ensures.no c.if-is_too_long.false)

pub returns-in-Faulty : goal.returns-in-Faulty
returns-in-Faulty c = fault_of_head c.args.scope (state_of c.args.header c.args.num) c.in-Faulty.fault c.args.bytes.now c.in-None.is (sym c.in-Faulty.ensures)

pub returns-in_default : goal.returns-in_default
returns-in_default c =
    no_head_fault c.args.scope (state_of c.args.header c.args.num) c.args.bytes.now c.in-None.is
    (λ fault is. c.in_default.not-Faulty fault (c.head_of.ensures ∙ is))
