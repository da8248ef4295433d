use Rattle.std.proofs.Common.{◌≡◌, take}
use Rattle.cf_row.specs.Words.{big_number}
use Rattle.cf_row.proofs.words.big_number.Given as goal

abbrev pub invariant-loop-byte : goal.invariant-loop-byte
invariant-loop-byte l = l.number ≡ big_number (take l.byte-index l.bytes)
