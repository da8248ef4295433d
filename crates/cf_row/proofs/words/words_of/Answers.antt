use Rattle.std.proofs.Common.{◌+◌, ◌*◌, arith}
use Rattle.cf_row.proofs.Spelling.{values_long, last_written}
use Rattle.cf_row.specs.Words.{values_words}
use Rattle.cf_row.proofs.words.words_of.Goals as goal

pub put_values-at-requires : goal.put_values-at-requires
put_values-at-requires c =
    record { room = (let l = values_long c.args.schema.now c.args.row.now.values c.requires.fits in rw c.values.ensures (omega (arith, l, c.requires.room))) }

pub bounds-out-at : goal.bounds-out-at
bounds-out-at c = let l = values_long c.args.schema.now c.args.row.now.values c.requires.fits in let e = rw c.values.ensures at c.put_values-at.ensures.end in
    omega (arith, l, e, c.requires.room, c.put_values-at.auto.out)

pub returns : goal.returns
returns c =
    let l = values_long c.args.schema.now c.args.row.now.values c.requires.fits in
    let end = rw c.values.ensures at c.put_values-at.ensures.end in
    let words = rw c.values.ensures at c.put_values-at.ensures.words in
    last_written c.put_values-at.new.out (values_words c.args.row.now.values) c.put_values-at.result (c.from.result * 16 + c.from-2.result)
    (c.args.row.now.num * 16 + c.args.writer) end words
    (omega (arith, l, end, c.requires.room, c.put_values-at.auto.out))
    (omega (arith, c.from.ensures, c.num.ensures, c.from-2.ensures))
