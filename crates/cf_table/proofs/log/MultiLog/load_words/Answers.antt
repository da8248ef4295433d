use Rattle.std.proofs.Common.{◌≡◌, ◌∙◌, ◌-◌, ℕ, length, min, get_or, ap, sym, subst, arith, length-set}
use Rattle.std.proofs.lemmas.Grind.{same_number_lists}
use Rattle.std.proofs.lemmas.Option.{slice_get-get_or}
use Rattle.cf_row.specs.Words.{IsEntry, spelled}
use Rattle.cf_row.specs.declared.row.Entry.{Entry}
use Rattle.cf_row.proofs.Spelling.{spelled_long}
use Rattle.cf_shape.specs.Lanes.{ShapeValue}
use Rattle.cf_table.specs.Values.{PassValue}
use Rattle.cf_table.proofs.Looks.{word_loads}
use Rattle.cf_table.proofs.Reading.{no_entry, entry_at, loaded, looked_then, read_more}
use Rattle.cf_table.proofs.log.MultiLog.load_words.Goals as goal

pub loop-i-preserved : goal.loop-i-preserved
loop-i-preserved g c =
    let s = c.args.self.now.shape in
    let o = c.args.offset in
    let i = c.loop-i.i in
    let v = c.loop-i.invariant in
    let f = g.P.Pass.held c.args.pass.now in
    let m = g.P.Pass.held c.loop-i.pass in
    let n = g.P.Pass.held c.load_word.new.pass in
    let cap = c.capacity.ensures.capacity ∙ ap (λ (x : ShapeValue). x.capacity) c.shape.ensures.shape in
    let place : c.min-place.result ≡ min o (s.capacity - 1) = c.min-place.ensures ∙ ap (λ (k : ℕ). min o (k - 1)) cap in
    let same : entry_at m.view o ≡ entry_at f.view o = ap (λ (h : PassValue). entry_at h.view o) v.looked in
    let far = ap (λ (h : PassValue). length (h.view).seen) v.looked in
    let covered = c.requires.covered in
    let low = c.loop-i-test.true in
    let wide = c.requires.long in
    let long = v.long in
    let count = v.steps in
    let more = c.load_word.ensures.steps in
    let all = loaded s m n o c.min-place.result i c.load_word.result c.shape.ensures.lawful place (omega (arith, far, covered))
    (omega (arith, low, wide)) c.load_word.ensures.made in
    record {
      long = length-set c.loop-i.words i c.load_word.result ∙ long;
      read = read_more c.loop-i.words (entry_at f.view o) i c.load_word.result (omega (arith, low, long)) v.read
          (all.word ∙ ap (λ (e : Entry). get_or (spelled e) i 0) same);
      lawful = λ some. subst (λ (e : Entry). IsEntry s.schema e) same all.lawful;
      looked = looked_then f m n v.looked all.looked;
      steps = omega (arith, count, more);
      loads = let least = v.loads in let loads = word_loads s m n _ _ c.load_word.result _ _ c.load_word.ensures.made more in omega (arith, least, loads);
    }

pub returns-clause-words : goal.returns-clause-words
returns-clause-words g c =
    let o = c.args.offset in
    let v = c.loop-i.invariant in
    let p = (g.P.Pass.held c.args.pass.now).view in
    let e = entry_at p o in
    let long = v.long in
    let wide = c.requires.long in
    let past = c.loop-i-test.false in
    let lawful = v.lawful (omega (arith, past, wide)) in
    record {
      entry = e;
      at = slice_get-get_or p.seen o no_entry c.requires.covered;
      lawful = lawful;
      spells = same_number_lists c.loop-i.words (spelled e) (long ∙ (wide ∙ sym (spelled_long c.args.self.now.shape.schema e lawful.fits)))
          (λ k lt. v.read k (omega (arith, long, past)));
    }
