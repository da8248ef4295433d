use Rattle.std.proofs.Common.{◌≡◌, ◌∙◌, ◌+◌, ◌*◌, ◌<◌, ◌≤◌, List, ℕ, [], get_or, drop, take, ap, ap₂, arith, length, subst, sym}
use Rattle.cf_row.specs.Row.{RowValue}
use Rattle.cf_row.specs.Words.{AreSpelled}
use Rattle.cf_row.specs.declared.row.Entry.{Entry}
use Rattle.cf_long.specs.SpelledRows.{KeptValue, rows_kept, width_of}
use Rattle.cf_long.proofs.SpelledRows.{entry_of, may_at, part_within, row_entry, row_spelled, words_at}
use Rattle.cf_long.proofs.spelled_rows.SpelledRows.at.Goals as goal

abbrev no_row : RowValue
no_row = record { num = 0; values = [] }

pub overflow_mul-place : goal.overflow_mul-place
overflow_mul-place c =
    let i = c.self.inside in
    let low : c.args.place < length (rows_kept i.schema i.words.items) =
    subst (λ (k : KeptValue). c.args.place < length k.rows) (sym c.self.view_is) c.requires.within in
    let width : c.word_count-width.result + 1 ≡ width_of i.schema = ap (λ n. n + 1) c.word_count-width.ensures.count in
    let there = subst (λ w. c.args.place * w + w ≤ length i.words.items) (sym width)
    (part_within i.schema i.words.items c.args.place c.self.invariant low) in
    let long = ap (λ (ws : List ℕ). length ws) c.deref.ensures.value in
    omega (arith, there, long)

pub part-words-requires : goal.part-words-requires
part-words-requires c =
    let i = c.self.inside in
    let low : c.args.place < length (rows_kept i.schema i.words.items) =
    subst (λ (k : KeptValue). c.args.place < length k.rows) (sym c.self.view_is) c.requires.within in
    let width : c.word_count-width.result + 1 ≡ width_of i.schema = ap (λ n. n + 1) c.word_count-width.ensures.count in
    let there = subst (λ w. c.args.place * w + w ≤ length i.words.items) (sym width)
    (part_within i.schema i.words.items c.args.place c.self.invariant low) in
    let long = ap (λ (ws : List ℕ). length ws) c.deref.ensures.value in
    omega (arith, there, long)

pub row_of-requires : goal.row_of-requires
row_of-requires c =
    let i = c.self.inside in
    let low : c.args.place < length (rows_kept i.schema i.words.items) =
    subst (λ (k : KeptValue). c.args.place < length k.rows) (sym c.self.view_is) c.requires.within in
    let width : c.word_count-width.result + 1 ≡ width_of i.schema = ap (λ n. n + 1) c.word_count-width.ensures.count in
    let cut = c.part-words.ensures ∙ (ap₂ (λ w (ws : List ℕ). take w (drop (c.args.place * w) ws)) width c.deref.ensures.value
    ∙ words_at i.schema i.words.items c.args.place no_row c.self.invariant low) in
    subst (AreSpelled i.schema) (sym cut)
    (row_spelled i.schema (get_or (rows_kept i.schema i.words.items) c.args.place no_row) (may_at i.schema i.words.items c.args.place no_row c.self.invariant low))

pub returns : goal.returns
returns c =
    let i = c.self.inside in
    let low : c.args.place < length (rows_kept i.schema i.words.items) =
    subst (λ (k : KeptValue). c.args.place < length k.rows) (sym c.self.view_is) c.requires.within in
    let width : c.word_count-width.result + 1 ≡ width_of i.schema = ap (λ n. n + 1) c.word_count-width.ensures.count in
    let cut = c.part-words.ensures ∙ (ap₂ (λ w (ws : List ℕ). take w (drop (c.args.place * w) ws)) width c.deref.ensures.value
    ∙ words_at i.schema i.words.items c.args.place no_row c.self.invariant low) in
    let row = get_or (rows_kept i.schema i.words.items) c.args.place no_row in
    let entry = row_entry i.schema row (may_at i.schema i.words.items c.args.place no_row c.self.invariant low) in
    ap (λ (e : Entry). e.row) (c.in_ok-row_of.ensures.inverse (entry_of row) entry cut)
    ∙ ap (λ (k : KeptValue). get_or k.rows c.args.place no_row) c.self.view_is
