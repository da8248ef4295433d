use Rattle.std.proofs.Common.{◌≡◌, ◌+◌, true, length, arith, sym, ◌∙◌}
use Rattle.std.proofs.lemmas.Bool.{eqb-true}
use Rattle.cf_row.specs.Words.{word_count, words_fit, entry_read}
use Rattle.cf_row.proofs.Readable.{spelled_fits, read_spells}
use Rattle.cf_row.proofs.words.spells.Goals as goal

pub returns-then-words-word_count : goal.returns-then-words-word_count
returns-then-words-word_count c =
    let fits : c.are_in_range.result ≡ words_fit c.args.schema.now c.args.words.now = rw c.attrs.ensures.attrs at c.are_in_range.ensures in
    let long : length c.args.words.now ≡ word_count c.args.schema.now + 1 = omega (arith, c.if-words-word_count.true, c.word_count.ensures.count) in (
      λ yes. (let is : c.are_in_range.result ≡ true = yes in
          let r = read_spells c.args.schema.now c.args.words.now (c.attrs.ensures.lawful).sized long (sym fits ∙ is) in
          record { entry = entry_read c.args.schema.now c.args.words.now; lawful = r.0; spells = r.1 }),
      λ s. fits ∙ (spelled_fits c.args.schema.now c.args.words.now s).1,
    )

pub returns-else-words-word_count : goal.returns-else-words-word_count
returns-else-words-word_count c = (
  λ yes. absurd (c.if-words-word_count.false (eqb-true (length c.args.words.now) (c.word_count.result + 1) yes)),
  λ s. absurd (c.if-words-word_count.false (let f = (spelled_fits c.args.schema.now c.args.words.now s).0 in omega (arith, f, c.word_count.ensures.count))),
)
