use Rattle.std.proofs.Common.{◌∷◌, []}
use Rattle.byteorder.specs.Endian.{big_bytes}
use Rattle.cf_make.specs.Generated.{segment_header, ports}
use Rattle.cf_make.proofs.Adding.{six}
use Rattle.cf_make.proofs.headers.put_segment_header.Goals as goal

pub returns : goal.returns
unfolding segment_header
returns c =
    let draw = c.args.draw.bits in
    cc (
      six c.args.bytes.now.items (ports draw) (big_bytes 4 c.args.num) (big_bytes 4 0) (0x50 ∷ 0x10 ∷ []) (big_bytes 2 1024) (0 ∷ 0 ∷ 0 ∷ 0 ∷ []),
      c.in_ok-put_ports.ensures,
      c.in_ok-put_big_u32.ensures,
      c.in_ok-put_big_u32-2.ensures,
      c.in_ok-put_bytes.ensures,
      c.in_ok-put_big_u16.ensures,
      c.in_ok-put_bytes-2.ensures,
    )
