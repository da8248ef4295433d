use Rattle.std.proofs.Common.{◌≡◌, sym, rules}
use Rattle.cf_intake.specs.declared.reader.Reader.TheVariants.{Pcap, PcapNg}
use Rattle.cf_intake.proofs.Breaking.{records_broken, blocks_broken, records_told, blocks_told, records_unbroken, blocks_unbroken}
use Rattle.cf_intake.proofs.reader.Reader.fault.Goals as goal

pub returns-in_ok-fault-in-Pcap-clause-found : goal.returns-in_ok-fault-in-Pcap-clause-found
returns-in_ok-fault-in-Pcap-clause-found c =
    let is : c.args.self.now ≡ Pcap c.in-Pcap.pcap = search rules in
    rw is (records_broken c.in-Pcap.pcap c.in_ok-fault-in-Pcap.field-0 c.refusal.result (sym c.in_ok-fault-in-Pcap.ensures) c.refusal.ensures)

pub returns-in_ok-fault-in-Pcap-clause-none : goal.returns-in_ok-fault-in-Pcap-clause-none
returns-in_ok-fault-in-Pcap-clause-none c =
    let is : c.args.self.now ≡ Pcap c.in-Pcap.pcap = search rules in
    rw is (records_told c.in-Pcap.pcap c.in_ok-fault-in-Pcap.field-0 c.refusal.result (sym c.in_ok-fault-in-Pcap.ensures) c.refusal.ensures)

pub returns-in_ok-fault-in-PcapNg-clause-found : goal.returns-in_ok-fault-in-PcapNg-clause-found
returns-in_ok-fault-in-PcapNg-clause-found c =
    let is : c.args.self.now ≡ PcapNg c.in-PcapNg.pcapng = search rules in
    rw is
    (blocks_broken c.in-PcapNg.pcapng c.in_ok-fault-in-PcapNg.field-0 c.refusal-in-PcapNg.result (sym c.in_ok-fault-in-PcapNg.ensures)
    c.refusal-in-PcapNg.ensures)

pub returns-in_ok-fault-in-PcapNg-clause-none : goal.returns-in_ok-fault-in-PcapNg-clause-none
returns-in_ok-fault-in-PcapNg-clause-none c =
    let is : c.args.self.now ≡ PcapNg c.in-PcapNg.pcapng = search rules in
    rw is
    (blocks_told c.in-PcapNg.pcapng c.in_ok-fault-in-PcapNg.field-0 c.refusal-in-PcapNg.result (sym c.in_ok-fault-in-PcapNg.ensures)
    c.refusal-in-PcapNg.ensures)

pub returns-in_err-fault-in-Pcap-clause-none : goal.returns-in_err-fault-in-Pcap-clause-none
returns-in_err-fault-in-Pcap-clause-none c = λ _.
    let is : c.args.self.now ≡ Pcap c.in-Pcap.pcap = search rules in
    rw is (records_unbroken c.in-Pcap.pcap (sym c.in_err-fault-in-Pcap.ensures))

pub returns-in_err-fault-in-PcapNg-clause-none : goal.returns-in_err-fault-in-PcapNg-clause-none
returns-in_err-fault-in-PcapNg-clause-none c = λ _.
    let is : c.args.self.now ≡ PcapNg c.in-PcapNg.pcapng = search rules in
    rw is (blocks_unbroken c.in-PcapNg.pcapng (sym c.in_err-fault-in-PcapNg.ensures))
