use Rattle.std.proofs.Common.{◌≡◌, ◌∙◌, ◌++◌, [], ◌∷◌, cond, is_ok, List, ℕ, arith, ap, sym, subst}
use Rattle.cf_row.specs.Row.{Fits, RowValue}
use Rattle.cf_long.specs.SpelledRows.{KeptValue, MayBeKept, row_words}
use Rattle.cf_long.proofs.SpelledRows.{pushed, rows_pushed}
use Rattle.cf_long.proofs.spelled_rows.SpelledRows.push.Goals as goal

pub invariant_of-self : goal.invariant_of-self
invariant_of-self c =
    let i = c.self.inside in
    let may : MayBeKept i.schema c.args.row.now = record {
      fits = subst (λ (k : KeptValue). Fits k.schema c.args.row.now) (sym c.self.view_is) c.requires.fits;
      num = omega (arith, c.num-num.ensures);
    } in
    let then : c.extend_from_slice.new.self.items ≡ cond (is_ok c.extend_from_slice.result) (i.words.items ++ row_words c.args.row.now) i.words.items =
    c.extend_from_slice.ensures.items ∙ ap (λ (ws : List ℕ). cond (is_ok c.extend_from_slice.result) (i.words.items ++ ws) i.words.items) c.words_of.ensures in
    pushed i.schema i.words.items c.extend_from_slice.new.self.items c.args.row.now (is_ok c.extend_from_slice.result) c.self.invariant may then

pub returns : goal.returns
returns c =
    let i = c.self.inside in
    let went = is_ok c.extend_from_slice.result in
    let row = c.args.row.now in
    let may : MayBeKept i.schema row = record {
      fits = subst (λ (k : KeptValue). Fits k.schema row) (sym c.self.view_is) c.requires.fits;
      num = omega (arith, c.num-num.ensures);
    } in
    let then : c.extend_from_slice.new.self.items ≡ cond went (i.words.items ++ row_words row) i.words.items =
    c.extend_from_slice.ensures.items ∙ ap (λ (ws : List ℕ). cond went (i.words.items ++ ws) i.words.items) c.words_of.ensures in
    ap (λ (rs : List RowValue). record { schema = i.schema; rows = rs })
    (rows_pushed i.schema i.words.items c.extend_from_slice.new.self.items row went c.self.invariant may then)
    ∙ ap (λ (k : KeptValue). record k { rows = cond went (k.rows ++ row ∷ []) k.rows }) c.self.view_is
