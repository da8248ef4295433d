use Rattle.std.proofs.Common.{◌-◌, ◌∷◌, [], ◌%◌, ◌/◌}
use Rattle.byteorder.specs.Endian.{big_bytes}
use Rattle.cf_make.specs.Generated.{network_header, wire_length, protocol}
use Rattle.cf_make.proofs.Adding.{six}
use Rattle.cf_make.proofs.headers.put_network_header.Goals as goal

pub returns : goal.returns
unfolding network_header
returns c =
    let draw = c.args.draw.bits in
    cc (
      six c.args.bytes.now.items (0x45 ∷ 0 ∷ []) (big_bytes 2 (wire_length draw - 14)) (0 ∷ 0 ∷ 0 ∷ 0 ∷ []) (64 ∷ protocol draw ∷ 0 ∷ 0 ∷ [])
          (10 ∷ 0 ∷ 0 ∷ draw % 16 ∷ []) (10 ∷ 0 ∷ 1 ∷ draw / 16 % 16 ∷ []),
      c.in_ok-put_bytes.ensures,
      c.in_ok-put_big_u16.ensures,
      c.in_ok-put_bytes-2.ensures,
      c.in_ok-put_bytes-3.ensures,
      c.in_ok-put_bytes-4.ensures,
      c.in_ok-put_bytes-5.ensures,
      c.wire_length.ensures.value,
      c.protocol.ensures,
      c.source.ensures,
      c.destination.ensures,
    )
