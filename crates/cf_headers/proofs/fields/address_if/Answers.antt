use Rattle.std.proofs.Common.{ℕ, ◌+◌, ◌-◌, List, drop, take, length, arith, length-drop, take_all}
use Rattle.cf_headers.proofs.Address.{no_address, an_address}
use Rattle.cf_headers.proofs.fields.address_if.Goals as goal

pub returns-then-not-read : goal.returns-then-not-read
returns-then-not-read c = rw c.if-not-read.true (no_address c.args.frame.now c.args.at)

pub returns : goal.returns
returns c =
    let frame : List ℕ = c.args.frame.now in
    let at : ℕ = c.args.at in
    rw (c.if-not-read.false, c.from-high.ensures, c.from-low.ensures, c.read_u16.ensures, c.read_u32.ensures)
    (an_address frame (take (length frame - at) (drop at frame)) (take (length frame - (at + 2)) (drop (at + 2) frame)) at (c.requires c.if-not-read.false)
    (take_all (length frame - at) (drop at frame) (omega (arith, length-drop at frame)))
    (take_all (length frame - (at + 2)) (drop (at + 2) frame) (omega (arith, length-drop (at + 2) frame))))
