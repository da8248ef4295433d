use Rattle.std.proofs.Common.{◌+◌, ◌*◌, ◌%◌, ◌/◌}
use Rattle.byteorder.specs.Endian.{little_bytes}
use Rattle.cf_make.specs.Generated.{record_header, captured_length, wire_length}
use Rattle.cf_make.proofs.Adding.{four}
use Rattle.cf_make.proofs.headers.put_record_header.Goals as goal

pub returns : goal.returns
unfolding record_header
returns c =
    let draw = c.args.draw.bits in
    cc (
      four c.args.bytes.now.items (little_bytes 4 (1 + c.args.num / 1000)) (little_bytes 4 (c.args.num % 1000 * 1000)) (little_bytes 4 (captured_length draw))
          (little_bytes 4 (wire_length draw)),
      c.in_ok-put_little_u32.ensures,
      c.in_ok-put_little_u32-2.ensures,
      c.in_ok-put_little_u32-3.ensures,
      c.in_ok-put_little_u32-4.ensures,
      c.captured_length.ensures,
      c.wire_length.ensures.value,
    )
