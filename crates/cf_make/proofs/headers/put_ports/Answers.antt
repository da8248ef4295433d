use Rattle.byteorder.specs.Endian.{big_bytes}
use Rattle.cf_make.specs.Generated.{ports, source_port, destination_port}
use Rattle.cf_make.proofs.Adding.{two}
use Rattle.cf_make.proofs.headers.put_ports.Goals as goal

pub returns : goal.returns
unfolding ports
returns c =
    let bits = c.args.draw.bits in
    cc (
      two c.args.bytes.now.items (big_bytes 2 (source_port bits)) (big_bytes 2 (destination_port bits)),
      c.in_ok-put_big_u16.ensures,
      c.in_ok-put_big_u16-2.ensures,
      c.source_port.ensures,
      c.destination_port.ensures,
    )
