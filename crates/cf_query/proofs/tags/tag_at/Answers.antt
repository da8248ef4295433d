use Rattle.std.proofs.Common.{◌≡◌, ◌-◌, ◌∙◌, ℕ, List, min, ap, rules}
use Rattle.cf_row.specs.declared.row.Entry.{Entry}
use Rattle.cf_row.specs.declared.schema.Attr.{Attr}
use Rattle.cf_row.specs.Words.{word_count}
use Rattle.cf_shape.specs.Lanes.{ShapeValue}
use Rattle.cf_table.proofs.Looks.{word_loads}
use Rattle.cf_query.proofs.Tagged.{IsTag, entry_is, tag_read}
use Rattle.cf_query.proofs.tags.tag_at.Given.{Over}
use Rattle.cf_query.proofs.tags.tag_at.Goals as goal
use Rattle.cf_query.proofs.tags.tag_at.Goals.{After-load_word-tag}

tag : (g : Over) (c : After-load_word-tag g)
    → IsTag (g.P.Pass.held c.args.pass.now) (g.P.Pass.held c.load_word-tag.new.pass) c.args.offset c.load_word-tag.result
tag g c =
    let s = c.args.log.now.shape in
    let o = c.args.offset in
    let m = g.P.Pass.held c.args.pass.now in
    let n = g.P.Pass.held c.load_word-tag.new.pass in
    let cap = c.capacity.ensures.capacity ∙ ap (λ (x : ShapeValue). x.capacity) c.shape-2.ensures.shape in
    let place : c.min-place.result ≡ min o (s.capacity - 1) = c.min-place.ensures ∙ ap (λ (k : ℕ). min o (k - 1)) cap in
    let schema = c.schema.ensures ∙ ap (λ (x : ShapeValue). x.schema) c.shape.ensures.shape in
    let last = c.word_count-last.ensures.count ∙ ap (λ (attrs : List Attr). word_count attrs) schema in
    tag_read s m n o c.min-place.result c.word_count-last.result c.load_word-tag.result c.shape.ensures.lawful place c.requires.covered.within last
    c.load_word-tag.ensures.made

pub overflow_cast-result : goal.overflow_cast-result
overflow_cast-result g c = let low = (tag g c).low in search (rules, low)

pub returns-clause-num : goal.returns-clause-num
returns-clause-num g c = λ entry at.
    (tag g c).num ∙ ap (λ (e : Entry). e.row.num) (entry_is (g.P.Pass.held c.args.pass.now) c.args.offset entry c.requires.covered.within at)

pub returns-clause-writer : goal.returns-clause-writer
returns-clause-writer g c = λ entry at.
    (tag g c).writer ∙ ap (λ (e : Entry). e.writer) (entry_is (g.P.Pass.held c.args.pass.now) c.args.offset entry c.requires.covered.within at)

pub returns-clause-looked : goal.returns-clause-looked
returns-clause-looked g c = record {
  only = search rules;
  loads = word_loads c.args.log.now.shape (g.P.Pass.held c.args.pass.now) (g.P.Pass.held c.load_word-tag.new.pass) _ _ c.load_word-tag.result _ _
      c.load_word-tag.ensures.made c.load_word-tag.ensures.steps;
}
