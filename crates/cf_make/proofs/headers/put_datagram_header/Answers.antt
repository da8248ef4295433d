use Rattle.std.proofs.Common.{◌-◌, ◌∷◌, []}
use Rattle.byteorder.specs.Endian.{big_bytes}
use Rattle.cf_make.specs.Generated.{datagram_header, ports, wire_length}
use Rattle.cf_make.proofs.Adding.{three}
use Rattle.cf_make.proofs.headers.put_datagram_header.Goals as goal

pub returns : goal.returns
unfolding datagram_header
returns c =
    let draw = c.args.draw.bits in
    cc (
      three c.args.bytes.now.items (ports draw) (big_bytes 2 (wire_length draw - 34)) (0 ∷ 0 ∷ []),
      c.in_ok-put_ports.ensures,
      c.in_ok-put_big_u16.ensures,
      c.in_ok-put_bytes.ensures,
      c.wire_length.ensures.value,
    )
