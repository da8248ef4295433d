use Rattle.std.proofs.Common.{◌+◌, ◌++◌, ℕ, List, length, take, get_or, arith, ap, sym, ◌∙◌, length-append}
use Rattle.cf_row.specs.declared.row.Value.{Value}
use Rattle.cf_row.specs.declared.row.Value.TheVariants.{Num}
use Rattle.cf_row.specs.Words.{values_words, value_words}
use Rattle.cf_row.proofs.Spelling.{words_more, words_front, words_none}
use Rattle.cf_row.proofs.words.put_list.Goals as goal

pub loop-value-init : goal.loop-value-init
loop-value-init c = record { end = ap (length {A = ℕ}) (sym words_none); words = sym words_none }

pub put_value-at-requires : goal.put_value-at-requires
put_value-at-requires c =
    let vs : List Value = c.args.values.now in
    let i = c.loop-value.value-index in
    let m = words_more vs i (Num 0) c.loop-value-test.true in record {
      room = omega (
        arith,
        ap (length {A = ℕ}) m,
        length-append (values_words (take i vs)) (value_words (get_or vs i (Num 0))),
        words_front vs (i + 1),
        c.loop-value.invariant.end,
        c.requires.room,
        c.loop-value.auto.out,
      );
    }

pub loop-value-preserved : goal.loop-value-preserved
loop-value-preserved c =
    let vs : List Value = c.args.values.now in
    let i = c.loop-value.value-index in
    let v : Value = get_or vs i (Num 0) in
    let m = words_more vs i (Num 0) c.loop-value-test.true in record {
      end = omega (
        arith,
        ap (length {A = ℕ}) m,
        length-append (values_words (take i vs)) (value_words v),
        c.loop-value.invariant.end,
        c.put_value-at.ensures.end,
      );
      words = c.put_value-at.ensures.words ∙ (ap (λ (ws : List ℕ). ws ++ value_words v) c.loop-value.invariant.words ∙ sym m);
    }
