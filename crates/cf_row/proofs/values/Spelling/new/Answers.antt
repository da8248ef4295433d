use Rattle.std.proofs.Common.{◌≡◌, rules}
use Rattle.cf_row.specs.Kept.{words_in}
use Rattle.cf_row.proofs.Kept.{kept_new, read_new}
use Rattle.std.proofs.Common.{take, length}
use Rattle.cf_row.proofs.values.Spelling.new.Goals as goal

pub invariant_of-result : goal.invariant_of-result
invariant_of-result c =
    let items : words_in c.in_ok-new.field-0 ≡ c.args.words.now = search (rules, c.in_ok-new.ensures) in (
      kept_new c.args.attrs.now (take (length c.args.attrs.now) c.lens_of.result) c.args.words.now
          (words_in c.in_ok-new.field-0) c.lens_of.ensures.lens items c.requires.sized c.requires.few c.requires.long c.requires.fits,
      c.lens_of.ensures.room,
    )

pub returns-clause-read : goal.returns-clause-read
returns-clause-read c =
    let items : words_in c.in_ok-new.field-0 ≡ c.args.words.now = search (rules, c.in_ok-new.ensures) in
    read_new c.args.attrs.now (take (length c.args.attrs.now) c.lens_of.result) c.args.words.now
    (words_in c.in_ok-new.field-0) c.lens_of.ensures.lens items c.requires.sized
