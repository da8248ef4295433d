use Rattle.cf_make.specs.Generated.{record_of, packet_of, record_header, link_header, network_header, transport_header}
use Rattle.cf_make.proofs.Adding.{one_and_three}
use Rattle.cf_make.proofs.headers.put_record.Goals as goal

pub returns : goal.returns
unfolding record_of packet_of
returns c =
    let draw = c.args.draw.bits in
    cc (
      one_and_three c.args.bytes.now.items (record_header c.args.num draw) link_header (network_header draw) (transport_header c.args.num draw),
      c.in_ok-put_record_header.ensures,
      c.in_ok-put_link_header.ensures,
      c.in_ok-put_network_header.ensures,
      c.in_ok-put_transport_header.ensures,
    )
