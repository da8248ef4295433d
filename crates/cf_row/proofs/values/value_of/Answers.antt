use Rattle.std.proofs.Common.{◌≡◌, ◌<◌, ℕ, length, get_or, drop, rules, arith, ap, ap₂, sym, ◌∙◌}
use Rattle.cf_row.specs.declared.schema.Kind.{Kind}
use Rattle.cf_row.specs.Schema.{has_good_size}
use Rattle.cf_row.specs.Words.{words_of_kind, word_fits, value_read}
use Rattle.cf_row.specs.Kept.{kind_of}
use Rattle.cf_row.proofs.Kept.{kept_at, none_kept}
use Rattle.cf_row.proofs.values.value_of.Goals as goal

pub returns-then-place-lens : goal.returns-then-place-lens
returns-then-place-lens c = sym (none_kept c.args.lens.now c.args.words.now c.args.place c.if-place-lens.true)

pub read_value-requires-clause-few : goal.read_value-requires-clause-few
read_value-requires-clause-few c =
    let lt : c.args.place < length c.args.lens.now = omega (arith, c.if-place-lens.false) in
    let kind : c.kind_of.result ≡ kind_of (get_or c.args.lens.now c.args.place 0) = search (rules, c.kind_of.ensures) in
    ap has_good_size kind ∙ (kept_at c.args.lens.now c.args.words.now c.args.place lt c.requires).good

pub read_value-requires-clause-room : goal.read_value-requires-clause-room
read_value-requires-clause-room c =
    let lt : c.args.place < length c.args.lens.now = omega (arith, c.if-place-lens.false) in
    let kind : c.kind_of.result ≡ kind_of (get_or c.args.lens.now c.args.place 0) = search (rules, c.kind_of.ensures) in
    let room = (kept_at c.args.lens.now c.args.words.now c.args.place lt c.requires).room in
    omega (arith, room, ap words_of_kind kind, c.start_of-at.ensures, c.requires.long)

pub read_value-requires-clause-fits : goal.read_value-requires-clause-fits
read_value-requires-clause-fits c =
    let lt : c.args.place < length c.args.lens.now = omega (arith, c.if-place-lens.false) in
    let kind : c.kind_of.result ≡ kind_of (get_or c.args.lens.now c.args.place 0) = search (rules, c.kind_of.ensures) in
    ap₂ (λ (k : Kind) (n : ℕ). word_fits k (drop n c.args.words.now)) kind c.start_of-at.ensures
    ∙ (kept_at c.args.lens.now c.args.words.now c.args.place lt c.requires).fits

pub returns : goal.returns
returns c =
    let lt : c.args.place < length c.args.lens.now = omega (arith, c.if-place-lens.false) in
    let kind : c.kind_of.result ≡ kind_of (get_or c.args.lens.now c.args.place 0) = search (rules, c.kind_of.ensures) in
    c.read_value.ensures
    ∙ (ap₂ (λ (k : Kind) (n : ℕ). value_read k (drop n c.args.words.now)) kind c.start_of-at.ensures
    ∙ sym (kept_at c.args.lens.now c.args.words.now c.args.place lt c.requires).value)
