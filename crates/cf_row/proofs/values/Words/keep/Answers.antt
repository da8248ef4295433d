use Rattle.std.proofs.Common.{◌≡◌, ◌∙◌, ℕ, Bool, List, [], take, length, ap, ap₂, subst, sym}
use Rattle.cf_row.specs.declared.values.Words.{Words}
use Rattle.cf_row.specs.declared.values.Words.TheVariants.{Few, Many}
use Rattle.cf_row.specs.Kept.{AreWithin, words_in}
use Rattle.cf_row.specs.Keeping.{keep}
use Rattle.cf_row.proofs.Keeping.{keep_front}
use Rattle.cf_row.proofs.values.Words.keep.Goals as goal
use Rattle.cf_row.proofs.values.Words.keep.Goals.{in-Few, in_default}

-- the words within a row
few_words : Words → List ℕ
few_words (Few words count) = words
few_words (Many words) = []

-- the first words are as many as the marks
front_words : (kept : List Bool) (words : List ℕ) (count : ℕ) → count ≡ length kept → keep kept (take count words) ≡ keep kept words
front_words kept words count is = ap (λ (n : ℕ). keep kept (take n words)) is ∙ keep_front kept words

pub returns-in-Few-self : goal.returns-in-Few-self
unfolding few_words
returns-in-Few-self c =
    let kept = c.args.kept.now in
    elim c.match-self.branch [
      | in-Few w ↦
          let old : words_in c.args.self.now ≡ take w.in-Few.field-1 w.in-Few.words = ap words_in w.in-Few.is in
          let few : w.in-Few.field-1 ≡ length kept = subst (λ (v : Words). AreWithin (length kept) v) w.in-Few.is c.requires.within in
          let front : keep kept (words_in c.args.self.now) ≡ keep kept w.in-Few.words =
          ap (λ (ws : List ℕ). keep kept ws) old ∙ front_words kept w.in-Few.words w.in-Few.field-1 few in
          let left : c.args.left ≡ w.keep_front.result = c.requires.left ∙ (ap (λ (ws : List ℕ). length ws) front ∙ sym w.keep_front.ensures.count) in
          let now : c.in-Few-self.field-0 ≡ w.keep_front.new.items = ap few_words (sym c.in-Few-self.is ∙ w.self-is) in
          ap₂ (λ (n : ℕ) (ws : List ℕ). take n ws) left now ∙ (w.keep_front.ensures.kept ∙ sym front)
      | in_default w ↦ absurd (subst (λ (v : Words). AreWithin (length kept) v) w.in_default.is c.requires.within)
    ]
