use Rattle.std.proofs.Common.{◌≡◌, ℕ, ◌+◌, Bool, true, false, ◌&&◌, drop, arith, ap, sym, ◌∙◌}
use Rattle.std.proofs.lemmas.List.{drop-drop, get_or-drop}
use Rattle.cf_row.specs.Words.{word_fits, words_fit, words_of_kind}
use Rattle.cf_row.proofs.Counts.{count_step}
use Rattle.cf_row.proofs.Readable.{read_step, read_end}
use Rattle.cf_row.proofs.words.are_in_range.Goals as goal

pub is_in_range-requires : goal.is_in_range-requires
is_in_range-requires c =
    record {
      room = (let e = count_step c.args.attrs.now c.loop-attr.attr-index c.attr-item.result c.loop-attr-test.true c.attr-item.is in
          omega (arith, e, c.loop-attr.invariant.at, c.requires.room));
    }

pub returns-then-not-is_in_range : goal.returns-then-not-is_in_range
returns-then-not-is_in_range c =
    let s = read_step c.args.attrs.now c.loop-attr.attr-index c.attr-item.result (drop c.loop-attr.at c.args.words.now) c.loop-attr-test.true c.attr-item.is in
    let off : false ≡ word_fits c.attr-item.result.kind (drop c.loop-attr.at c.args.words.now) =
    search (Rattle.std.proofs.Common.rules, c.is_in_range.ensures) in
    ap (λ (b : Bool). b && words_fit (drop (c.loop-attr.attr-index + 1) c.args.attrs.now)
    (drop (words_of_kind c.attr-item.result.kind) (drop c.loop-attr.at c.args.words.now))) off ∙ (sym s.0 ∙ c.loop-attr.invariant.fits)

pub loop-attr-preserved : goal.loop-attr-preserved
loop-attr-preserved c =
    let e = count_step c.args.attrs.now c.loop-attr.attr-index c.attr-item.result c.loop-attr-test.true c.attr-item.is in
    let s = read_step c.args.attrs.now c.loop-attr.attr-index c.attr-item.result (drop c.loop-attr.at c.args.words.now) c.loop-attr-test.true c.attr-item.is in
    let on : word_fits c.attr-item.result.kind (drop c.loop-attr.at c.args.words.now) ≡ true = search (Rattle.std.proofs.Common.rules, c.is_in_range.ensures) in
    let tail = ap
    (λ (b : Bool). b && words_fit (drop (c.loop-attr.attr-index + 1) c.args.attrs.now)
    (drop (words_of_kind c.attr-item.result.kind) (drop c.loop-attr.at c.args.words.now))) on in record {
      at = omega (arith, e, c.loop-attr.invariant.at, c.kind_words-at.ensures);
      fits = ap (λ (n : ℕ). words_fit (drop (c.loop-attr.attr-index + 1) c.args.attrs.now) (drop (c.loop-attr.at + n) c.args.words.now)) c.kind_words-at.ensures
          ∙ (ap (words_fit (drop (c.loop-attr.attr-index + 1) c.args.attrs.now))
          (sym (drop-drop (words_of_kind c.attr-item.result.kind) c.loop-attr.at c.args.words.now))
          ∙ (sym tail ∙ (sym s.0 ∙ c.loop-attr.invariant.fits)));
    }

pub returns : goal.returns
returns c =
    let s = read_end c.args.attrs.now c.loop-attr.attr-index (drop c.loop-attr.at c.args.words.now) c.loop-attr-test.false in
    let g = get_or-drop c.loop-attr.at c.args.words.now 0 0 in
    let h : c.loop-attr.at + 0 ≡ c.loop-attr.at = omega arith in
    ap (λ (n : ℕ). Rattle.std.specs.Bool.nat_lt n (Rattle.std.proofs.Common.◌^◌ 2 36))
    (sym (g ∙ ap (λ (k : ℕ). Rattle.std.proofs.Common.get_or c.args.words.now k 0) h)) ∙ (sym s.0 ∙ c.loop-attr.invariant.fits)
