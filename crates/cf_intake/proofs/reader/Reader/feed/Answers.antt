use Rattle.std.proofs.Common.{◌≡◌, ◌≢◌, Err, rules}
use Rattle.cf_pcap.specs.declared.fault.PcapFault.TheVariants as faults
use Rattle.cf_pcapng.specs.declared.fault.NgFault.TheVariants as ng
use Rattle.cf_intake.specs.declared.reader.Reader.TheVariants.{Pcap, PcapNg}
use Rattle.cf_intake.proofs.Streams.{records_fed, records_few, blocks_fed, blocks_few}
use Rattle.cf_intake.proofs.reader.Reader.feed.Goals as goal

pub returns-in_default-clause-fed : goal.returns-in_default-clause-fed
returns-in_default-clause-fed c =
    let is : c.args.self.now ≡ Pcap c.in-Pcap.pcap = search rules in
    let other : c.feed.result ≢ Err faults.Memory = search rules in
    let fed = c.feed.ensures.fed other in
    rw is (fed.0, fed.1, records_fed c.in-Pcap.pcap c.feed.new.self c.feed.ensures.scope c.args.piece.now fed.0 c.feed.result fed.2)

pub returns-in_default-clause-few : goal.returns-in_default-clause-few
returns-in_default-clause-few c =
    let is : c.args.self.now ≡ Pcap c.in-Pcap.pcap = search rules in
    let other : c.feed.result ≢ Err faults.Memory = search rules in
    let fed = c.feed.ensures.fed other in
    rw is
    (records_few c.in-Pcap.pcap c.feed.new.self c.args.piece.now fed.0 c.args.out.now.items c.feed.new.out.items c.feed.result fed.1 fed.2)

pub returns-in_default-2-clause-fed : goal.returns-in_default-2-clause-fed
returns-in_default-2-clause-fed c =
    let is : c.args.self.now ≡ Pcap c.in-Pcap.pcap = search rules in
    let other : c.feed.result ≢ Err faults.Memory = search rules in
    let fed = c.feed.ensures.fed other in
    rw is (fed.0, fed.1, records_fed c.in-Pcap.pcap c.feed.new.self c.feed.ensures.scope c.args.piece.now fed.0 c.feed.result fed.2)

pub returns-in_default-2-clause-few : goal.returns-in_default-2-clause-few
returns-in_default-2-clause-few c =
    let is : c.args.self.now ≡ Pcap c.in-Pcap.pcap = search rules in
    let other : c.feed.result ≢ Err faults.Memory = search rules in
    let fed = c.feed.ensures.fed other in
    rw is
    (records_few c.in-Pcap.pcap c.feed.new.self c.args.piece.now fed.0 c.args.out.now.items c.feed.new.out.items c.feed.result fed.1 fed.2)

pub returns-in_default-feed-clause-fed : goal.returns-in_default-feed-clause-fed
returns-in_default-feed-clause-fed c =
    let is : c.args.self.now ≡ PcapNg c.in-PcapNg.pcapng = search rules in
    let other : c.feed-in-PcapNg.result ≢ Err ng.Memory = search rules in
    let fed = c.feed-in-PcapNg.ensures.fed other in
    rw is (
      fed.0,
      fed.1,
      blocks_fed c.in-PcapNg.pcapng c.feed-in-PcapNg.new.self c.feed-in-PcapNg.ensures.scope c.args.piece.now fed.0 c.feed-in-PcapNg.result fed.2,
    )

pub returns-in_default-feed-clause-few : goal.returns-in_default-feed-clause-few
returns-in_default-feed-clause-few c =
    let is : c.args.self.now ≡ PcapNg c.in-PcapNg.pcapng = search rules in
    let other : c.feed-in-PcapNg.result ≢ Err ng.Memory = search rules in
    let fed = c.feed-in-PcapNg.ensures.fed other in
    rw is
    (blocks_few c.in-PcapNg.pcapng c.feed-in-PcapNg.new.self c.args.piece.now fed.0 c.args.out.now.items c.feed-in-PcapNg.new.out.items c.feed-in-PcapNg.result
    fed.1 fed.2)

pub returns-in_default-feed-2-clause-fed : goal.returns-in_default-feed-2-clause-fed
returns-in_default-feed-2-clause-fed c =
    let is : c.args.self.now ≡ PcapNg c.in-PcapNg.pcapng = search rules in
    let other : c.feed-in-PcapNg.result ≢ Err ng.Memory = search rules in
    let fed = c.feed-in-PcapNg.ensures.fed other in
    rw is (
      fed.0,
      fed.1,
      blocks_fed c.in-PcapNg.pcapng c.feed-in-PcapNg.new.self c.feed-in-PcapNg.ensures.scope c.args.piece.now fed.0 c.feed-in-PcapNg.result fed.2,
    )

pub returns-in_default-feed-2-clause-few : goal.returns-in_default-feed-2-clause-few
returns-in_default-feed-2-clause-few c =
    let is : c.args.self.now ≡ PcapNg c.in-PcapNg.pcapng = search rules in
    let other : c.feed-in-PcapNg.result ≢ Err ng.Memory = search rules in
    let fed = c.feed-in-PcapNg.ensures.fed other in
    rw is
    (blocks_few c.in-PcapNg.pcapng c.feed-in-PcapNg.new.self c.args.piece.now fed.0 c.args.out.now.items c.feed-in-PcapNg.new.out.items c.feed-in-PcapNg.result
    fed.1 fed.2)
