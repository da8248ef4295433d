use Rattle.std.proofs.Common.{◌∷◌, []}
use Rattle.byteorder.specs.Endian.{big_bytes}
use Rattle.cf_make.specs.Generated.{link_header}
use Rattle.cf_make.proofs.Adding.{three}
use Rattle.cf_make.proofs.headers.put_link_header.Goals as goal

pub returns : goal.returns
unfolding link_header
returns c =
    cc (
      three c.args.bytes.now.items (2 ∷ 0 ∷ 0 ∷ 0 ∷ 0 ∷ 1 ∷ []) (2 ∷ 0 ∷ 0 ∷ 0 ∷ 0 ∷ 2 ∷ []) (big_bytes 2 0x0800),
      c.in_ok-put_bytes.ensures,
      c.in_ok-put_bytes-2.ensures,
      c.in_ok-put_big_u16.ensures,
    )
