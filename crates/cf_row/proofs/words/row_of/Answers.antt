use Rattle.std.proofs.Common.{◌≡◌, ℕ, ◌/◌, ◌%◌, ◌<◌, ◌^◌, List, length, take, true, get_or, arith, rules, ap, ap₂, sym, ◌∙◌, subst}
use Rattle.cf_row.specs.declared.row.Entry.{Entry}
use Rattle.cf_row.specs.declared.row.Value.{Value}
use Rattle.cf_row.specs.declared.schema.Attr.{Attr}
use Rattle.cf_row.specs.Row.{RowValue}
use Rattle.cf_row.specs.Words.{word_count, words_fit, values_read, entry_read, spelled, IsEntry, AreSpelled}
use Rattle.cf_row.proofs.Readable.{spelled_fits, spelled_read}
use Rattle.cf_row.proofs.Kept.{alone_of}
use Rattle.cf_row.proofs.words.row_of.Goals as goal

-- the words before the tag
alone : (attrs : List Attr) (ws : List ℕ) (n : ℕ) → n ≡ word_count attrs → AreSpelled attrs ws → (length (take n ws) ≡ word_count attrs)
    × (words_fit attrs (take n ws) ≡ true) × (values_read attrs (take n ws) ≡ values_read attrs ws)
alone attrs ws n count s = let f = spelled_fits attrs ws s in let l = f.0 in alone_of attrs ws n count (omega (arith, l)) f.1

pub new-requires-clause-long : goal.new-requires-clause-long
new-requires-clause-long c =
    rw c.attrs.ensures.attrs (alone c.args.schema.now c.args.words.now c.word_count-count.result c.word_count-count.ensures.count c.requires).0

pub new-requires-clause-fits : goal.new-requires-clause-fits
new-requires-clause-fits c =
    rw c.attrs.ensures.attrs (alone c.args.schema.now c.args.words.now c.word_count-count.result c.word_count-count.ensures.count c.requires).1

pub bounds-words-count : goal.bounds-words-count
bounds-words-count c = let f = spelled_fits c.args.schema.now c.args.words.now c.requires in let l = f.0 in omega (arith, l, c.word_count-count.ensures.count)

pub slice_bounds-new-end : goal.slice_bounds-new-end
slice_bounds-new-end c = c.word_count-count.ensures.count
    ∙ sym (alone c.args.schema.now c.args.words.now c.word_count-count.result c.word_count-count.ensures.count c.requires).0

-- what is read is the entry
made : (attrs : List Attr) (ws : List ℕ) (n : ℕ) (vs : List Value) (row : RowValue) → n ≡ word_count attrs → vs ≡ values_read attrs ws
    → row ≡ record { num = get_or ws n 0 / 16; values = vs } → ◌≡◌ {A = Entry} (record { writer = get_or ws n 0 % 16; row = row }) (entry_read attrs ws)
made attrs ws n vs row count values is =
    ap (λ (r : RowValue). record { writer = get_or ws n 0 % 16; row = r }) is
    ∙ ap₂ (λ (k : ℕ) (xs : List Value). record { writer = get_or ws k 0 % 16; row = record { num = get_or ws k 0 / 16; values = xs } }) count values

tag_low : (attrs : List Attr) (ws : List ℕ) → AreSpelled attrs ws → get_or ws (word_count attrs) 0 / 16 < 2 ^ 32
tag_low attrs ws s = let e = spelled_read attrs ws s.entry s.lawful s.spells in let n = s.lawful.num in omega (arith, n, ap (λ (x : Entry). x.row.num) e)

pub overflow_cast-tag : goal.overflow_cast-tag
overflow_cast-tag c = rw c.word_count-count.ensures.count (omega (arith, tag_low c.args.schema.now c.args.words.now c.requires))

pub returns-clause-read : goal.returns-clause-read
returns-clause-read c =
    let cut : c.in_ok-values.values ≡ values_read c.args.schema.now (take c.word_count-count.result c.args.words.now) =
    search (rules, c.in_ok-values.ensures, c.attrs.ensures.attrs) in
    let vs = cut ∙ (alone c.args.schema.now c.args.words.now c.word_count-count.result c.word_count-count.ensures.count c.requires).2 in
    made c.args.schema.now c.args.words.now c.word_count-count.result c.in_ok-values.values c.spelled.result c.word_count-count.ensures.count vs
    c.spelled.ensures

pub returns-clause-entry : goal.returns-clause-entry
returns-clause-entry c =
    let cut : c.in_ok-values.values ≡ values_read c.args.schema.now (take c.word_count-count.result c.args.words.now) =
    search (rules, c.in_ok-values.ensures, c.attrs.ensures.attrs) in
    let vs = cut ∙ (alone c.args.schema.now c.args.words.now c.word_count-count.result c.word_count-count.ensures.count c.requires).2 in
    let is = made c.args.schema.now c.args.words.now c.word_count-count.result c.in_ok-values.values c.spelled.result c.word_count-count.ensures.count vs
    c.spelled.ensures in
    let s = c.requires in
    subst (λ (e : Entry). IsEntry c.args.schema.now e × (c.args.words.now ≡ spelled e))
    (sym (is ∙ spelled_read c.args.schema.now c.args.words.now s.entry s.lawful s.spells)) (s.lawful, s.spells)

pub returns-clause-inverse : goal.returns-clause-inverse
returns-clause-inverse c =
    let cut : c.in_ok-values.values ≡ values_read c.args.schema.now (take c.word_count-count.result c.args.words.now) =
    search (rules, c.in_ok-values.ensures, c.attrs.ensures.attrs) in
    let vs = cut ∙ (alone c.args.schema.now c.args.words.now c.word_count-count.result c.word_count-count.ensures.count c.requires).2 in
    let is = made c.args.schema.now c.args.words.now c.word_count-count.result c.in_ok-values.values c.spelled.result c.word_count-count.ensures.count vs
    c.spelled.ensures in
    λ entry lawful words. is ∙ spelled_read c.args.schema.now c.args.words.now entry lawful words
