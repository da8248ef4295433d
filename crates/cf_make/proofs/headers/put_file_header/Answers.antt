use Rattle.byteorder.specs.Endian.{little_bytes}
use Rattle.cf_make.specs.Generated.{file_header}
use Rattle.cf_make.proofs.Adding.{seven}
use Rattle.cf_make.proofs.headers.put_file_header.Goals as goal

pub returns : goal.returns
unfolding file_header
returns c =
    cc (
      seven c.args.bytes.now.items (little_bytes 4 0xa1b2c3d4) (little_bytes 2 2) (little_bytes 2 4) (little_bytes 4 0) (little_bytes 4 0)
          (little_bytes 4 65535) (little_bytes 4 1),
      c.in_ok-put_little_u32.ensures,
      c.in_ok-put_little_u16.ensures,
      c.in_ok-put_little_u16-2.ensures,
      c.in_ok-put_little_u32-2.ensures,
      c.in_ok-put_little_u32-3.ensures,
      c.in_ok-put_little_u32-4.ensures,
      c.in_ok-put_little_u32-5.ensures,
    )
