use Rattle.std.proofs.Common.{◌≡◌, rules}
use Rattle.std.proofs.lemmas.Result.{err_from_is_err_and}
use Rattle.cf_intake.specs.declared.reader.Reader.TheVariants.{Pcap, PcapNg}
use Rattle.cf_intake.proofs.Streams.{records_said, records_refused, blocks_said, blocks_refused}
use Rattle.cf_intake.proofs.reader.Reader.finish.Goals as goal

pub returns-in_err-finish_as-in-Pcap : goal.returns-in_err-finish_as-in-Pcap
returns-in_err-finish_as-in-Pcap c =
    let is : c.args.self ≡ Pcap c.in-Pcap.pcap = search rules in
    let p = err_from_is_err_and c.from_residual.result c.from_residual.ensures.1 in
    rw (is, p.1, p.2)
    (λ stream frames at. records_refused c.args.truncated c.in-Pcap.pcap.scope stream c.in_err-finish_as-in-Pcap.field-0.0
    (c.in_err-finish_as-in-Pcap.ensures.ended stream frames at.0 at.1))

pub returns-in_ok-finish_as-in-Pcap : goal.returns-in_ok-finish_as-in-Pcap
returns-in_ok-finish_as-in-Pcap c =
    let is : c.args.self ≡ Pcap c.in-Pcap.pcap = search rules in
    rw is
    (λ stream frames at. records_said c.args.truncated c.in-Pcap.pcap.scope stream frames c.in_ok-finish_as-in-Pcap.field-0
    (c.in_ok-finish_as-in-Pcap.ensures.ended stream frames at.0 at.1))

pub returns-in_err-finish_as-in-PcapNg : goal.returns-in_err-finish_as-in-PcapNg
returns-in_err-finish_as-in-PcapNg c =
    let is : c.args.self ≡ PcapNg c.in-PcapNg.pcapng = search rules in
    let p = err_from_is_err_and c.from_residual-in_err-finish_as-in-PcapNg.result c.from_residual-in_err-finish_as-in-PcapNg.ensures.1 in
    rw (is, p.1, p.2)
    (λ stream frames at. blocks_refused c.args.truncated c.in-PcapNg.pcapng.scope stream c.in_err-finish_as-in-PcapNg.field-0.0
    (c.in_err-finish_as-in-PcapNg.ensures.ended stream frames at.0 at.1))

pub returns-in_ok-finish_as-in-PcapNg : goal.returns-in_ok-finish_as-in-PcapNg
returns-in_ok-finish_as-in-PcapNg c =
    let is : c.args.self ≡ PcapNg c.in-PcapNg.pcapng = search rules in
    rw is
    (λ stream frames at. blocks_said c.args.truncated c.in-PcapNg.pcapng.scope stream frames c.in_ok-finish_as-in-PcapNg.field-0
    (c.in_ok-finish_as-in-PcapNg.ensures.ended stream frames at.0 at.1))
